use Rattle.std.proofs.Common.{◌≡◌, ◌+◌, ◌<◌, length, ◌∷◌, drop, get_or, arith, add-one}
use Rattle.std.proofs.Math.Seq.{drop-cons}
use Rattle.spark_base.specs.declared.numbers.VarNo.{VarNo}
use Rattle.state_map.proofs.leaves.add_vars.Goals as goal

pub loop-var-preserved : goal.loop-var-preserved
loop-var-preserved c =
    let none : VarNo = record { 0 = 0 } in
    let within : c.loop-var.var-index < length c.args.vars.now = c.loop-var-test.true in
    let split : drop c.loop-var.var-index c.args.vars.now ≡ get_or c.args.vars.now c.loop-var.var-index none ∷ drop (c.loop-var.var-index + 1) c.args.vars.now =
    rw add-one (drop-cons c.args.vars.now c.loop-var.var-index none within) in
    record {
      size = omega arith;
      set = λ v. grind (arith, c.add_var.ensures.set v, rw split at c.loop-var.invariant.set v);
    }
