use Rattle.std.proofs.Common.{ℕ, ◌≤◌, ◌<◌, get_or}
use Rattle.graph_cycles.proofs.ranks.none_rises.Given as goal

abbrev pub invariant-loop-next : goal.invariant-loop-next
invariant-loop-next l = (i : ℕ) → i < l.next-index → get_or l.ranks (get_or l.next-items i 0) 0 ≤ l.rank
