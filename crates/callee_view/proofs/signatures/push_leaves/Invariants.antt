use Rattle.std.proofs.Common.{◌≡◌, ◌+◌, ◌-◌, ◌++◌}
use Rattle.callee_view.specs.Signatures.{leaves_from}
use Rattle.callee_view.proofs.signatures.push_leaves.Given as goal

-- the leaves so far, and those that are left, are all
abbrev pub invariant-loop-i : goal.invariant-loop-i
invariant-loop-i l = l.leaves ++ leaves_from (l.first.0 + l.i) (l.count - l.i) ≡ l.initial.leaves ++ leaves_from l.first.0 l.count
