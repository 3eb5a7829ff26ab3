use Rattle.std.proofs.Common.{ℕ, ◌≤◌, Some, length, arith}
use Rattle.core_form.specs.declared.program.Item.{Item}
use Rattle.flow_bits.specs.Sets.{Has}
use Rattle.spark_messages.specs.declared.messages.Message.{Message}
use Rattle.initializes_check.specs.InitializesCheck.{IsNotListed}
use Rattle.initializes_check.proofs.Counted.{all_below, one_below}
use Rattle.initializes_check.proofs.Joined.{var_within}
use Rattle.initializes_check.proofs.unlisted.append_unlisted_vars.Goals as goal

pub loop-var-preserved : goal.loop-var-preserved
loop-var-preserved c = one_below (λ (n : ℕ) (m : Message). IsNotListed c.args.program.now (Has c.args.unset.now) c.args.number.0 (Some c.args.place)
    c.args.items.now (Item.Whole (record { 0 = n })) m)
    c.args.list.now c.loop-var.list c.append_unlisted_item.new.list c.loop-var.var c.loop-var.invariant
    c.in_ok-append_unlisted_item.ensures

pub returns : goal.returns
returns c =
    let l : length c.args.program.now.vars ≤ c.loop-var.var = omega (arith, c.in_ok-count.ensures, c.loop-var-test.false) in
    all_below (λ (n : ℕ) (m : Message). IsNotListed c.args.program.now (Has c.args.unset.now) c.args.number.0 (Some c.args.place)
    c.args.items.now (Item.Whole (record { 0 = n })) m)
    c.args.list.now c.loop-var.list c.loop-var.var (length c.args.program.now.vars) l
    (λ n m t. var_within c.args.program.now (Has c.args.unset.now) c.args.number.0 (Some c.args.place) c.args.items.now n m t)
    c.loop-var.invariant
