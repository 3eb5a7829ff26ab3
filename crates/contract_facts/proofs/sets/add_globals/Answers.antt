use Rattle.std.proofs.Common.{◌≡◌, ◌+◌, ◌<◌, length, ◌∷◌, drop, get_or, arith, add-one}
use Rattle.std.proofs.Math.Seq.{drop-cons}
use Rattle.core_form.specs.declared.contract.GlobalItem.{GlobalItem}
use Rattle.core_form.specs.declared.contract.Mode.TheVariants as modes
use Rattle.contract_facts.proofs.sets.add_globals.Goals as goal

pub loop-global-preserved : goal.loop-global-preserved
loop-global-preserved c =
    let none : GlobalItem = record {
      item = record { 0 = 0 };
      mode = modes.Input;
      place = record { file = record { 0 = 0 }; «from» = record { line = 0; col = 0 }; to = record { line = 0; col = 0 } };
    } in
    let n = c.loop-global.global-index in
    let within : n < length c.args.globals.now = c.loop-global-test.true in
    let split : drop n c.args.globals.now ≡ get_or c.args.globals.now n none ∷ drop (n + 1) c.args.globals.now = rw add-one (drop-cons c.args.globals.now n none within) in
    record {
      size = omega arith;
      set = λ v. grind (arith, c.add_global.ensures.set v, rw split at c.loop-global.invariant.set v);
    }
