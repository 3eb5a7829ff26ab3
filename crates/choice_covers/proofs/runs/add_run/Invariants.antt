use Rattle.std.proofs.Common.{◌≡◌, ℤ, ◌≤ℤ◌, ◌∷◌, length}
use Rattle.choice_covers.specs.Parts.{is_covered}
use Rattle.choice_covers.specs.Runs.{AreApart}
use Rattle.choice_covers.proofs.runs.add_run.Given as goal

abbrev pub invariant-loop-first : goal.invariant-loop-first
invariant-loop-first l = AreApart l.runs × (l.least ≤ℤ l.greatest)
    × ((n : ℤ) → is_covered ((l.least, l.greatest) ∷ l.runs.entries) n ≡ is_covered ((l.fn.low, l.fn.high) ∷ l.fn.runs.entries) n)

abbrev pub decreases-loop-first : goal.decreases-loop-first
decreases-loop-first l = length l.runs.entries
