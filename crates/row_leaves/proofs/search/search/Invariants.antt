use Rattle.std.proofs.Common.{◌-◌, length}
use Rattle.row_leaves.specs.Search.{IsSearching}
use Rattle.row_leaves.proofs.search.search.Given as goal

abbrev pub invariant-loop-at : goal.invariant-loop-at
invariant-loop-at l = IsSearching l.callers l.starts l.marks l.found.items l.at

abbrev pub decreases-loop-at : goal.decreases-loop-at
decreases-loop-at l = length l.callers - l.at
