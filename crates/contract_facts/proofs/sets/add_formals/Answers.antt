use Rattle.std.proofs.Common.{◌≡◌, ◌+◌, ◌<◌, length, ◌∷◌, drop, get_or, arith, add-one}
use Rattle.std.proofs.Math.Seq.{drop-cons}
use Rattle.core_form.specs.declared.program.Formal.{Formal}
use Rattle.core_form.specs.declared.program.ParamMode.TheVariants as modes
use Rattle.contract_facts.proofs.sets.add_formals.Goals as goal

pub loop-formal-preserved : goal.loop-formal-preserved
loop-formal-preserved c =
    let none : Formal = record { var = record { 0 = 0 }; mode = modes.In } in
    let n = c.loop-formal.formal-index in
    let within : n < length c.args.formals.now = c.loop-formal-test.true in
    let split : drop n c.args.formals.now ≡ get_or c.args.formals.now n none ∷ drop (n + 1) c.args.formals.now = rw add-one (drop-cons c.args.formals.now n none within) in
    record {
      size = omega arith;
      set = λ v. grind (arith, c.add_formal.ensures.set v, rw split at c.loop-formal.invariant.set v);
    }
