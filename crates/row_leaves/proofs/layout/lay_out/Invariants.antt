use Rattle.std.proofs.Common.{◌≡◌, ◌++◌, length}
use Rattle.std.specs.Vec.Iter.{into_iter_items, into_iter_len}
use Rattle.summary_rows.specs.Layout.{IsLayout}
use Rattle.row_leaves.proofs.layout.lay_out.Given as goal

abbrev pub invariant-loop-leaves : goal.invariant-loop-leaves
invariant-loop-leaves l = record {
  layout : IsLayout l.layout;
  rest : l.layout.outer ++ into_iter_items l.leaves-iterator ≡ l.fn.outer.items;
  left : into_iter_len l.leaves-iterator ≡ length (into_iter_items l.leaves-iterator);
}
