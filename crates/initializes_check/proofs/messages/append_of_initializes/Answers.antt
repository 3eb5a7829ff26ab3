use Rattle.std.proofs.lemmas.Result.{on_ok_weaker}
use Rattle.core_form.specs.declared.program.Item.{Item}
use Rattle.flow_bits.specs.Sets.{Has}
use Rattle.used_modes.specs.Added.{SomeOf}
use Rattle.used_modes.proofs.Adding.{adds_both}
use Rattle.initializes_check.specs.InitializesCheck.{IsNotInitialized, IsNotListed}
use Rattle.initializes_check.proofs.messages.append_of_initializes.Goals as goal

pub returns : goal.returns
returns c = on_ok_weaker c.append_unlisted.result
    (λ a. adds_both c.args.list.now c.append_unassigned.new.list c.append_unlisted.new.list
    (λ m. SomeOf (λ i. IsNotInitialized c.args.program.now (Has c.args.unset.now) i m) c.args.items.now)
    (λ m. (item : Item) × IsNotListed c.args.program.now (Has c.args.unset.now) c.args.number.0 c.args.written c.args.items.now item m)
    c.in_ok-append_unassigned.ensures a)
    c.append_unlisted.ensures
