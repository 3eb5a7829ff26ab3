use Rattle.std.proofs.Common.{[], sym, ◌∙◌}
use Rattle.std.proofs.lemmas.Option.{get_or_from_slice_get}
use Rattle.used_modes.proofs.used.row_leaves.Goals as goal

pub returns : goal.returns
returns c = c.as_slice.ensures ∙ sym (get_or_from_slice_get c.args.rows.now.layout.outer c.args.body.0 c.at.result.now [] c.at.ensures)
