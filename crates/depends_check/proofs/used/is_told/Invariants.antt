use Rattle.std.proofs.Common.{ℕ, ◌<◌}
use Rattle.summary_rows.specs.Layout.{IsAt}
use Rattle.depends_check.proofs.used.is_told.Given as goal

-- it is none of the leaves before
abbrev pub invariant-loop-other : goal.invariant-loop-other
invariant-loop-other l = (i : ℕ) → i < l.other-index → IsAt l.leaves l.leaf.0 i → ⊥
