use Rattle.std.proofs.Common.{ℕ, ◌<◌}
use Rattle.call_lists.specs.Lists.{Has}
use Rattle.call_lists.proofs.marks.are_all_marked.Given as goal

abbrev pub invariant-loop-mark : goal.invariant-loop-mark
invariant-loop-mark l = (b : ℕ) → b < l.mark-index → Has l.marks b
