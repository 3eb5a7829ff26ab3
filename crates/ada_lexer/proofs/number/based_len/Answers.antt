use Rattle.std.proofs.Common.{◌≡◌, true, false, nat_eq, get_or, refl, sym, ◌∙◌, ap}
use Rattle.ada_lexer.specs.Runs.{based_len}
use Rattle.ada_lexer.specs.Classes.{is_digit}
use Rattle.ada_lexer.proofs.Fitting.{based_more}
use Rattle.ada_lexer.proofs.number.based_len.Goals.{then-is_digit, else-is_digit+else-due+then-b-eq95}
use Rattle.ada_lexer.proofs.number.based_len.Goals as goal

pub loop-i-preserved : goal.loop-i-preserved
loop-i-preserved c = based_more c.args.base c.loop-i.i c.args.bytes.now c.loop-i.due c.if-is_digit.due (based_len c.args.base true c.args.bytes.now) c.loop-i-test.true c.loop-i.invariant
    (elim c.if-is_digit.branch [
      | then-is_digit w ↦ let t : is_digit c.args.base (get_or c.args.bytes.now c.loop-i.i 0) ≡ true = sym c.is_digit.ensures ∙ w.if-is_digit.true in rw (t, w.due-is) refl
      | else-is_digit+else-due+then-b-eq95 w ↦ let t : is_digit c.args.base (get_or c.args.bytes.now c.loop-i.i 0) ≡ false = sym c.is_digit.ensures ∙ w.if-is_digit.false in
          let u : nat_eq (get_or c.args.bytes.now c.loop-i.i 0) 95 ≡ true = ap (λ x. nat_eq x 95) w.if-b-eq95.true in rw (t, w.if-due.false, u, w.due-is) refl
    ])
