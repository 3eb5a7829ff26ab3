use Rattle.std.proofs.Common.{Some, sym, subst}
use Rattle.std.proofs.lemmas.Result.{on_ok_weaker}
use Rattle.core_form.specs.declared.program.Item.{Item}
use Rattle.flow_bits.specs.Sets.{Has}
use Rattle.used_modes.specs.Added.{Adds}
use Rattle.initializes_check.specs.InitializesCheck.{IsNotListed}
use Rattle.initializes_check.proofs.Joined.{each_item}
use Rattle.initializes_check.proofs.unlisted.append_unlisted.Goals as goal

pub returns-in_ok-append_unlisted_states-in-Some : goal.returns-in_ok-append_unlisted_states-in-Some
returns-in_ok-append_unlisted_states-in-Some c = on_ok_weaker c.append_unlisted_vars.result
    (λ a. subst (λ w. Adds c.args.list.now c.append_unlisted_vars.new.list (λ m. (item : Item) × IsNotListed c.args.program.now (Has
    c.args.unset.now) c.args.number.0 w c.args.items.now item m)) (sym c.in-Some.is)
    (each_item c.args.program.now (Has c.args.unset.now) c.args.number.0 (Some c.in-Some.place) c.args.items.now c.args.list.now
    c.append_unlisted_states.new.list c.append_unlisted_vars.new.list c.in_ok-append_unlisted_states-in-Some.ensures a))
    c.append_unlisted_vars.ensures
