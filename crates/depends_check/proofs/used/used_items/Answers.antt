use Rattle.std.proofs.Common.{◌≡◌, ◌<◌, ℕ, [], length, subst}
use Rattle.flow_bits.specs.Sets.{Has}
use Rattle.used_modes.specs.Added.{Adds}
use Rattle.core_form.specs.declared.program.Item.{Item}
use Rattle.used_modes.specs.UsedModes.{IsLeft, SomeLeaf, row_of}
use Rattle.used_modes.proofs.Adding.{adds_both}
use Rattle.global_check.proofs.Gathered.{only}
use Rattle.depends_check.specs.DependsCheck.{IsSource, IsUsed}
use Rattle.depends_check.proofs.Deciding.{leaves_added}
use Rattle.depends_check.proofs.Grown.{noted}
use Rattle.depends_check.proofs.used.used_items.Goals as goal

pub returns : goal.returns
returns c =
    let p = c.args.program.now in
    let rows = c.args.rows.now in
    let b = c.args.number.0 in
    let body = c.args.body.now in
    let o = c.args.output in
    let sources = λ (i : Item). SomeLeaf p o (λ leaf. IsSource p rows b body leaf i) in
    let left = λ (i : Item). IsLeft p (row_of rows b) o × (i ≡ o) in
    only c.note_some.new.self (IsUsed p rows b body o)
    (adds_both [] c.note_all_sources.new.items c.note_some.new.self sources left
    (leaves_added p o c.in_ok-leaves.leaves c.expand.new.into c.in_ok-leaves.ensures.empty c.expand.ensures.set (IsSource p rows b body)
    [] c.note_all_sources.new.items
    (subst (λ xs. Adds xs c.note_all_sources.new.items (λ i. (leaf : ℕ) × ((leaf < length c.expand.new.into) × (Has c.expand.new.into
    leaf × IsSource p rows b body leaf i)))) c.new-items.ensures
    c.in_ok-note_all_sources.ensures))
    (noted c.left_item.result left c.left_item.ensures c.note_all_sources.new.items c.note_some.new.self c.in_ok-note_some.ensures))
