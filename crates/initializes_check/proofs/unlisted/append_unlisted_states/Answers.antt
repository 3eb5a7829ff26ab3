use Rattle.std.proofs.Common.{ℕ, ◌≤◌, Some, length, arith}
use Rattle.core_form.specs.declared.program.Item.{Item}
use Rattle.flow_bits.specs.Sets.{Has}
use Rattle.spark_messages.specs.declared.messages.Message.{Message}
use Rattle.initializes_check.specs.InitializesCheck.{IsNotListed}
use Rattle.initializes_check.proofs.Counted.{all_below, one_below}
use Rattle.initializes_check.proofs.Joined.{state_within}
use Rattle.initializes_check.proofs.unlisted.append_unlisted_states.Goals as goal

pub loop-state-preserved : goal.loop-state-preserved
loop-state-preserved c = one_below (λ (n : ℕ) (m : Message). IsNotListed c.args.program.now (Has c.args.unset.now) c.args.number.0 (Some c.args.place)
    c.args.items.now (Item.State n) m)
    c.args.list.now c.loop-state.list c.append_unlisted_item.new.list c.loop-state.state c.loop-state.invariant
    c.in_ok-append_unlisted_item.ensures

pub returns : goal.returns
returns c =
    let l : length c.args.program.now.states.list ≤ c.loop-state.state = omega (arith, c.in_ok-count.ensures, c.loop-state-test.false) in
    all_below (λ (n : ℕ) (m : Message). IsNotListed c.args.program.now (Has c.args.unset.now) c.args.number.0 (Some c.args.place)
    c.args.items.now (Item.State n) m)
    c.args.list.now c.loop-state.list c.loop-state.state (length c.args.program.now.states.list) l
    (λ n m t. state_within c.args.program.now (Has c.args.unset.now) c.args.number.0 (Some c.args.place) c.args.items.now n m t)
    c.loop-state.invariant
