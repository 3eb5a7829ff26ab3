use Rattle.std.proofs.Common.{ℕ, ◌≡◌, [], ◌+◌, ◌-◌, length, get_or}
use Rattle.use_table.proofs.members.make_rows.Given as goal

abbrev pub invariant-loop-alloc : goal.invariant-loop-alloc
invariant-loop-alloc g l = (k : ℕ) → get_or l.rows.items k [] ≡ get_or l.fn.rows.items k []

abbrev pub decreases-loop-alloc : goal.decreases-loop-alloc
decreases-loop-alloc g l = l.number + 1 - length l.rows.items
