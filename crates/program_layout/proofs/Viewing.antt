-- The leaves of the contract that a caller sees.
use Rattle.std.proofs.Common.{◌≡◌, ℕ, ◌↔◌, Bool, true, false, List, Option, None, Some, sym, subst}
use Rattle.std.specs.Prelude.{IsSomeAnd, slice_get}
use Rattle.spark_base.specs.declared.numbers.LeafNo.{LeafNo}
use Rattle.core_form.specs.declared.contract.Contract.{Contract}
use Rattle.core_form.specs.declared.program.Body.{Body}
use Rattle.core_form.specs.declared.program.Program.{Program}
use Rattle.callee_view.specs.Seen.{ContractLeaves, contract_by, contract_seen, sees_inside}
use Rattle.row_leaves.specs.Leaves.{HasLeaf}
use Rattle.program_layout.specs.Made.{IsSeenInContract, leaves_by_view}

by_view : (P : Contract → Type 0) (inside : Bool) (i o : Option Contract) (outer inner : List LeafNo) (v : ℕ)
    → (HasLeaf outer v ↔ IsSomeAnd o P) → (HasLeaf inner v ↔ IsSomeAnd i P) → HasLeaf (leaves_by_view inside i outer inner) v ↔ IsSomeAnd
    (contract_by inside i o) P
by_view P false i o outer inner v h k = h
by_view P true None o outer inner v h k = h
by_view P true (Some x) o outer inner v h k = k

pub viewed : (p : Program) (caller : Option Body) (c : ℕ) (node : Body) (outer inner chosen : List LeafNo) → slice_get p.bodies c ≡ Some
    node
    → ((v : ℕ) → HasLeaf outer v ↔ IsSomeAnd node.outer (λ k. ContractLeaves p c node k v))
    → ((v : ℕ) → HasLeaf inner v ↔ IsSomeAnd node.inner (λ k. ContractLeaves p c node k v))
    → chosen ≡ leaves_by_view (sees_inside caller node.«package») node.inner outer inner → (v : ℕ) → HasLeaf chosen v ↔ IsSeenInContract p
    caller c v
viewed p caller c node outer inner chosen at o i is v =
    let all = by_view (λ k. ContractLeaves p c node k v) (sees_inside caller node.«package») node.inner node.outer outer inner v (o v)
    (i v) in
    let P : Body → Type 0 = λ body. IsSomeAnd (contract_seen caller body) (λ k. ContractLeaves p c body k v) in (
      λ h. subst (λ (b : Option Body). IsSomeAnd b P) (sym at) (all.0 (subst (λ (leaves : List LeafNo). HasLeaf leaves v) is h)),
      λ s. subst (λ (leaves : List LeafNo). HasLeaf leaves v) (sym is) (all.1 (subst (λ (b : Option Body). IsSomeAnd b P) at s)),
    )
