use Rattle.std.proofs.Common.{ℕ}
use Rattle.std.proofs.lemmas.Result.{on_ok_weaker}
use Rattle.core_form.specs.declared.program.Item.{Item}
use Rattle.used_modes.proofs.Adding.{adds_both}
use Rattle.depends_check.specs.DependsCheck.{IsDecidedBy, IsUntold}
use Rattle.depends_check.proofs.Grown.{noted}
use Rattle.depends_check.proofs.used.note_sources.Goals as goal

pub returns : goal.returns
returns c =
    let p = c.args.program.now in
    let rows = c.args.rows.now in
    let b = c.args.number.0 in
    let body = c.args.body.now in
    let leaf = c.args.leaf.0 in
    on_ok_weaker c.note_some.result
    (λ a. adds_both c.args.items.now c.note_deciding.new.items c.note_some.new.self (λ (i : Item). (from : ℕ) × IsDecidedBy p rows b body
    leaf from i) (IsUntold p rows b body leaf)
    c.in_ok-note_deciding.ensures (noted c.untold_item.result (IsUntold p rows b body leaf) c.untold_item.ensures
    c.note_deciding.new.items c.note_some.new.self a))
    c.note_some.ensures
