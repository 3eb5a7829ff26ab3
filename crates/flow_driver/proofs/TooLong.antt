-- A source that is too long has no program.
use Rattle.std.proofs.Common.{◌≡◌, ℕ, ◌<◌, List, length, true, Option, Some, None, Ok, refl, subst, nat_lt}
use Rattle.std.proofs.lemmas.Bool.{lt-ltb}
use Rattle.ada_lexer.specs.Cut.{lexed}
use Rattle.ada_lexer.specs.declared.lexing.TheConstants.{LIMIT}
use Rattle.ada_tree.specs.declared.token.Token.{Token}
use Rattle.spark_base.specs.declared.numbers.FileNo.{FileNo}
use Rattle.core_form.specs.declared.program.Program.{Program}
use Rattle.flow_driver.specs.Report.{IsReading, IsReportOf, HasReport}
use Rattle.flow_driver.specs.declared.report.Report.{Report}

not_lexed : (file : FileNo) (bytes : List ℕ) (tokens : List Token) → LIMIT < length bytes → lexed file bytes ≡ Ok tokens → ⊥
unfolding lexed
not_lexed file bytes tokens long h = let e : nat_lt LIMIT (length bytes) ≡ true = lt-ltb _ _ long in let k = rw e at h in cc

no_program : (bytes : List ℕ) (o : Option Program) → LIMIT < length bytes → IsReading bytes o → o ≡ None
no_program bytes None long h = refl
no_program bytes (Some p) long h = absurd (not_lexed _ bytes _ long h.is_first.spells.cut)

-- what is too long has the report of whatever else is too long
pub long_report : (bytes other : List ℕ) (r : Report) → LIMIT < length bytes → LIMIT < length other → HasReport bytes r → HasReport other r
long_report bytes other r long longer h = record {
  reading = None;
  is_reading = λ s k. not_lexed _ other _ longer k.spells.cut;
  is_report = subst (λ (o : Option Program). IsReportOf o r) (no_program bytes h.reading long h.is_reading) h.is_report;
}
