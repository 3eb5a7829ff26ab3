use Rattle.std.proofs.Common.{ℕ, ◌<◌, ◌≤◌}
use Rattle.used_modes.specs.UsedModes.{asked, row_of}
use Rattle.used_modes.proofs.used.some_of_run.Given as goal

-- none before it passes
abbrev pub invariant-loop-leaf : goal.invariant-loop-leaf
invariant-loop-leaf l = (leaf : ℕ) → l.from ≤ leaf → leaf < l.leaf → asked (row_of l.rows l.body.0) l.question leaf → ⊥
