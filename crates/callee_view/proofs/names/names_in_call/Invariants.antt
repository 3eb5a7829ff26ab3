use Rattle.std.proofs.Common.{◌≡◌, ◌++◌, drop, map, slice_index_or}
use Rattle.spark_base.specs.declared.numbers.LeafNo.{LeafNo}
use Rattle.call_flow.specs.Calls.{stands}
use Rattle.callee_view.proofs.names.names_in_call.Given as goal

-- the names so far, and those of what is left, are all
abbrev pub invariant-loop-leaf : goal.invariant-loop-leaf
invariant-loop-leaf l = l.names.items ++ map (λ (leaf : LeafNo). stands (λ v. slice_index_or l.numbers v v) l.void l.passed leaf.0) (drop l.leaf-index l.leaves)
    ≡ map (λ (leaf : LeafNo). stands (λ v. slice_index_or l.numbers v v) l.void l.passed leaf.0) l.leaves
