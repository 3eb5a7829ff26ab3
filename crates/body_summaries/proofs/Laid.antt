-- The layout of a program is one for its rows: the leaves of rows are leaves of the program.
use Rattle.std.proofs.Common.{ℕ, ◌<◌, ◌≤◌, inl, inr, List, [], length, subst, arith}
use Rattle.std.proofs.lemmas.Bool.{cases_lt}
use Rattle.std.proofs.lemmas.List.{get_or_past}
use Rattle.std.proofs.lemmas.Option.{none-some}
use Rattle.spark_base.specs.declared.numbers.LeafNo.{LeafNo}
use Rattle.core_form.specs.declared.program.Program.{Program}
use Rattle.summary_rows.specs.declared.layout.Layout.{Layout}
use Rattle.summary_rows.specs.Layout.{IsAt}
use Rattle.flow_relations.specs.Equation.{IsLibrary, IsPassed}
use Rattle.flow_relations.specs.Summaries.{IsSummaryLeaf}
use Rattle.flow_relations.proofs.Frames.{home_within}
use Rattle.program_layout.specs.Rows.{IsLayoutOf}
use Rattle.body_summaries.specs.Bodies.{IsLayoutFor}

leaf_within : (p : Program) (l : Layout) (b v : ℕ) → IsSummaryLeaf p l b v → v < length p.leaves
leaf_within p l b v (inl x) = home_within p v IsLibrary x.0
leaf_within p l b v (inr x) = home_within p v (IsPassed b) x

pub laid : (p : Program) (l : Layout) → IsLayoutOf p l → IsLayoutFor p l
laid p l is = record {
  layout = is.layout;
  bodies = is.bodies;
  leaves = λ b v at. elim (cases_lt b (length p.bodies)) [
    | inl below ↦ leaf_within p l b v ((is.leaves b v below).0 at)
    | inr above ↦ (
        let beyond : length l.outer ≤ b = omega (arith, above, is.bodies) in
        absurd (none-some _ (subst (λ (leaves : List LeafNo). IsAt leaves v at.0) (get_or_past l.outer b [] beyond) at.1)))
  ];
}
