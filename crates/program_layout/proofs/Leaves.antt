-- Lists of leaves.
use Rattle.std.proofs.Common.{◌≡◌, ℕ, ◌⊎◌, ◌↔◌, List, [], ◌∷◌, Some, zero, suc, inl, inr, arith, ap, sym, refl}
use Rattle.std.proofs.lemmas.Option.{slice_get_within}
use Rattle.spark_base.specs.declared.numbers.LeafNo.{LeafNo}
use Rattle.summary_rows.specs.Layout.{IsAt}
use Rattle.row_leaves.specs.Leaves.{HasLeaf}

pub no_leaf : (v : ℕ) → HasLeaf [] v → ⊥
no_leaf v h = let l = slice_get_within [] h.0 _ h.1 in omega (arith, l)

-- the leaves of a list are its first and the others
first_or_other : (leaf : LeafNo) (leaves : List LeafNo) (v i : ℕ) → IsAt (leaf ∷ leaves) v i → (v ≡ leaf.0) ⊎ HasLeaf leaves v
first_or_other leaf leaves v zero e = let d : leaf ≡ record { 0 = v } = cc in inl (sym (ap (λ (x : LeafNo). x.0) d))
first_or_other leaf leaves v (suc i) e = inr (i, e)

pub cons_leaf : (leaf : LeafNo) (leaves : List LeafNo) (v : ℕ) → HasLeaf (leaf ∷ leaves) v ↔ ((v ≡ leaf.0) ⊎ HasLeaf leaves v)
cons_leaf leaf leaves v = (
  λ h. first_or_other leaf leaves v h.0 h.1,
  λ s. elim s [
    | inl e ↦ (0, let d : leaf ≡ record { 0 = v } = rw e refl in ap (λ (x : LeafNo). Some x) d)
    | inr h ↦ (suc h.0, h.1)
  ],
)

-- one of the leaves that are left is added
pub one_leaf : (leaf : LeafNo) (leaves : List LeafNo) (v : ℕ) {A B all mid new : Type 0} →
    ((mid ⊎ (A × (B × HasLeaf (leaf ∷ leaves) v))) ↔ all)
    → (new ↔ (mid ⊎ (A × (B × (v ≡ leaf.0))))) → ((new ⊎ (A × (B × HasLeaf leaves v))) ↔ all)
one_leaf leaf leaves v h k =
    let c = cons_leaf leaf leaves v in (
      λ s. elim s [
        | inl n ↦ (elim (k.0 n) [ inl m ↦ h.0 (inl m) | inr t ↦ h.0 (inr (t.0, (t.1.0, c.1 (inl t.1.1)))) ])
        | inr t ↦ h.0 (inr (t.0, (t.1.0, c.1 (inr t.1.1))))
      ],
      λ a. elim (h.1 a) [
        | inl m ↦ inl (k.1 (inl m))
        | inr t ↦ (elim (c.0 t.1.1) [ inl e ↦ inl (k.1 (inr (t.0, (t.1.0, e)))) | inr o ↦ inr (t.0, (t.1.0, o)) ])
      ],
    )
