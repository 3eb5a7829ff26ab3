use Rattle.std.proofs.Common.{◌≡◌, true, ℤ, ◌-ℤ◌, ◌≤ℤ◌, ◌<ℤ◌, unsigned_abs}
use Rattle.choice_covers.specs.Parts.{is_covered}
use Rattle.choice_covers.proofs.runs.has_gap.Given as goal

abbrev pub invariant-loop-last : goal.invariant-loop-last
invariant-loop-last l = (l.low ≤ℤ l.next) × (l.next ≤ℤ l.high) × ((n : ℤ) → l.low ≤ℤ n → n <ℤ l.next → is_covered l.runs.entries n ≡ true)

abbrev pub decreases-loop-last : goal.decreases-loop-last
decreases-loop-last l = unsigned_abs (l.high -ℤ l.next)
