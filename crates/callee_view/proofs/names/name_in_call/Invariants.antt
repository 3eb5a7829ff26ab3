use Rattle.std.proofs.Common.{◌≡◌, ◌+◌, drop, slice_index_or}
use Rattle.call_flow.specs.Calls.{stands}
use Rattle.callee_view.proofs.names.name_in_call.Given as goal

abbrev pub invariant-loop-i : goal.invariant-loop-i
invariant-loop-i l = stands (λ v. slice_index_or l.numbers v v) (l.void + l.i) (drop l.i l.passed) l.leaf.0
    ≡ stands (λ v. slice_index_or l.numbers v v) l.void l.passed l.leaf.0
