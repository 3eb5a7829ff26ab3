use Rattle.std.proofs.Common.{ℕ, ◌≡◌, ◌+◌, ◌-◌, length, None, get_or}
use Rattle.static_meanings.proofs.pairs.make_room.Given as goal

abbrev pub invariant-loop-slots : goal.invariant-loop-slots
invariant-loop-slots g l = (k : ℕ) → get_or l.slots.items k None ≡ get_or l.fn.slots.items k None

abbrev pub decreases-loop-slots : goal.decreases-loop-slots
decreases-loop-slots g l = l.number + 1 - length l.slots.items
