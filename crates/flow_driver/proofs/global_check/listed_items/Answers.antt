use Rattle.std.proofs.Common.{◌≡◌, ◌+◌, ◌<◌, ◌∷◌, length, drop, get_or, add-one, arith}
use Rattle.std.proofs.Math.Seq.{drop-cons}
use Rattle.core_form.specs.declared.contract.GlobalItem.{GlobalItem}
use Rattle.core_form.specs.declared.contract.Mode.TheVariants as modes
use Rattle.flow_bits.specs.Sets.{Has}
use Rattle.flow_driver.proofs.Leaves.{listed_more}
use Rattle.flow_driver.proofs.global_check.listed_items.Goals as goal

pub loop-global-preserved : goal.loop-global-preserved
loop-global-preserved c =
    let nowhere : GlobalItem = record { item = record { 0 = 0 }; mode = modes.Input; place = record { file = record { 0 = 0 }; «from» = record { line = 0; col = 0 }; to = record { line = 0; col = 0 } } } in
    let within : c.loop-global.global-index < length c.args.globals.now = c.loop-global-test.true in
    let next : GlobalItem = get_or c.args.globals.now c.loop-global.global-index nowhere in
    let split : drop c.loop-global.global-index c.args.globals.now ≡ next ∷ drop (c.loop-global.global-index + 1) c.args.globals.now = rw add-one (drop-cons c.args.globals.now c.loop-global.global-index nowhere within) in
    record {
      size = omega arith;
      set = λ i.
          let old = rw split at c.loop-global.invariant.set i in
          let more = listed_more next (drop (c.loop-global.global-index + 1) c.args.globals.now) i (Has c.loop-global.row i) (Has c.add_listed.new.row i) (c.add_listed.ensures.set i) in
          (λ h. old.0 (more.0 h), λ h. more.1 (old.1 h));
    }
