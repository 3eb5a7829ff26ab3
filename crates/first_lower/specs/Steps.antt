-- What a step of the lowering leaves behind.
use Rattle.std.specs.Prelude.{◌≡◌, ℕ, ◌<◌, true, List, [], ◌∷◌, length}
use Rattle.spark_base.specs.declared.numbers.StmtNo.{StmtNo}
use Rattle.core_form.specs.Code.{Code, Then, code_of}
use Rattle.first_lower.specs.Known.{Each}
use Rattle.core_form.specs.Added.{KeepsTrees}
use Rattle.core_form.specs.Fine.{AreFineNodes}
use Rattle.core_form.specs.declared.build.Nodes.{Nodes}
use Rattle.core_form.specs.declared.code.Place.{Place}

-- nodes are added, for as many leaves
pub record Adds (old new : Nodes) : Type 0 where
  pub fine : AreFineNodes new
  pub leaves : new.leaves ≡ old.leaves
  pub older : KeepsTrees old new

-- the whole of a scalar leaf
pub record IsWhole (leaf : ℕ) (place : Place) : Type 0 where
  pub leaf_is : place.leaf.0 ≡ leaf
  pub part : place.part ≡ []
  pub whole : place.whole ≡ true
  pub cells : place.cells ≡ 1

-- the code of these statements, one after another, and then the rest
abbrev pub codes_before : (StmtNo → Code) → List StmtNo → Code → Code
codes_before code [] rest = rest
codes_before code (s ∷ ss) rest = Then (code s) (codes_before code ss rest)

-- to a list of statements some are added, whose code is put before what follows
pub record Lists (old new : Nodes) (before after : List StmtNo) (put : Code → Code) : Type 0 where
  pub adds : Adds old new
  pub within : Each (λ s. s.0 < length new.stmts) after
  pub codes : (rest : Code) →
      codes_before (code_of new.exprs new.stmts) after rest ≡ codes_before (code_of old.exprs old.stmts) before (put rest)
