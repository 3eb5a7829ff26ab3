use Rattle.std.proofs.Common.{◌≡◌, ◌+◌, ◌<◌, inl, inr, length, ◌∷◌, drop, get_or, add-one}
use Rattle.std.proofs.Math.Seq.{drop-cons}
use Rattle.std.proofs.lemmas.Bool.{both_ways}
use Rattle.spark_base.specs.declared.numbers.VarNo.{VarNo}
use Rattle.used_modes.proofs.used.some_of_vars.Goals as goal

pub loop-var-preserved : goal.loop-var-preserved
loop-var-preserved c =
    let none : VarNo = record { 0 = 0 } in
    let within : c.loop-var.var-index < length c.args.vars.now = c.loop-var-test.true in
    let split : drop c.loop-var.var-index c.args.vars.now ≡ get_or c.args.vars.now c.loop-var.var-index none ∷ drop (c.loop-var.var-index + 1) c.args.vars.now =
    rw add-one (drop-cons c.args.vars.now c.loop-var.var-index none within) in
    let old = rw split at c.loop-var.invariant in (
      λ h. old.0 (h.0, (inr h.1.0, h.1.1)),
      λ h.
          let k = old.1 h in
          elim k.1.0 [
            | inl v ↦ absurd (both_ways c.some_of_var.result c.if-some_of_var.false (c.some_of_var.ensures.1 (k.0, (v, k.1.1))))
            | inr r ↦ (k.0, (r, k.1.1))
          ],
    )
