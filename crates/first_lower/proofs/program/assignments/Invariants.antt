use Rattle.std.proofs.Common.{◌≡◌, ◌++◌, drop}
use Rattle.first_lower.specs.Lowered.{assignments_of}
use Rattle.first_lower.proofs.program.assignments.Given as goal

-- the places so far, and those of what is left, are those of all
abbrev pub invariant-loop-line : goal.invariant-loop-line
invariant-loop-line l = l.list ++ assignments_of (drop l.line-index l.lines) ≡ assignments_of l.lines
