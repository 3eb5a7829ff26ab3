use Rattle.std.proofs.Common.{ℕ, ◌≡◌, ◌+◌, ◌-◌, length, None, get_or}
use Rattle.scope_table.proofs.table.make_room.Given as goal

abbrev pub invariant-loop-heads : goal.invariant-loop-heads
invariant-loop-heads g l = (k : ℕ) → get_or l.heads.items k None ≡ get_or l.fn.heads.items k None

abbrev pub decreases-loop-heads : goal.decreases-loop-heads
decreases-loop-heads g l = l.key + 1 - length l.heads.items
