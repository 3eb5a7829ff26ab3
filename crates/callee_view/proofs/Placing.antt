-- What is told of the leaves at places, as what is told of leaves.
use Rattle.std.proofs.Common.{◌≡◌, ℕ, zero, suc, ◌<◌, ◌↔◌, Bool, List, [], ◌∷◌, Option, Some, None, length, refl, sym, ap, subst, ◌∙◌, arith}
use Rattle.spark_base.specs.declared.numbers.LeafNo.{LeafNo}
use Rattle.flow_bits.specs.Sets.{Has, Relates, Tells, TellsPairs}
use Rattle.summary_rows.specs.Layout.{IsAt}
use Rattle.callee_view.specs.Shown.{Placed, PlacedPairs, leaf_at}
use Rattle.callee_view.proofs.Knowing.{at_within}

at_leaf : (outer : List LeafNo) (i : ℕ) → i < length outer → IsAt outer (leaf_at outer i) i
at_leaf [] i l = absurd (omega arith)
at_leaf (x ∷ xs) zero l = refl
at_leaf (x ∷ xs) (suc i) l = at_leaf xs i (omega arith)

leaf_is : (outer : List LeafNo) (v i : ℕ) → IsAt outer v i → leaf_at outer i ≡ v
leaf_is [] v i e = let n : Option LeafNo = None in let z : n ≡ Some (record { 0 = v }) = e in absurd (cc)
leaf_is (x ∷ xs) v zero e = let z : Some x ≡ Some (record { 0 = v }) = e in let y : x ≡ record { 0 = v } = cc in ap (λ (l : LeafNo). l.0) y
leaf_is (x ∷ xs) v (suc i) e = leaf_is xs v i e

pub placed_told : (outer : List LeafNo) (S : ℕ → Type 0) (row : List Bool) → Tells row (λ x. (x < length outer) × S (leaf_at outer x)) → (i : ℕ) → Has row i ↔ Placed outer S i
placed_told outer S row h i = (
  λ x. let t = (h i).0 x in (leaf_at outer i, (at_leaf outer i t.0, t.1)),
  λ p. (h i).1 (at_within outer p.0 i p.1.0, subst S (sym (leaf_is outer p.0 i p.1.0)) p.1.1),
)

pub pairs_told : (outer : List LeafNo) (R : ℕ → ℕ → Type 0) (square : List (List Bool))
    → TellsPairs square (λ x y. (x < length outer) × ((y < length outer) × R (leaf_at outer x) (leaf_at outer y))) → (i j : ℕ) → Relates square i j ↔ PlacedPairs outer R i j
pairs_told outer R square h i j = (
  λ x. let t = (h i j).0 x in (leaf_at outer i, (leaf_at outer j, (at_leaf outer i t.0, (at_leaf outer j t.1.0, t.1.1)))),
  λ p.
      let first = subst (λ v. R v p.1.0) (sym (leaf_is outer p.0 i p.1.1.0)) p.1.1.1.1 in
      let both = subst (λ w. R (leaf_at outer i) w) (sym (leaf_is outer p.1.0 j p.1.1.1.0)) first in
      (h i j).1 (at_within outer p.0 i p.1.1.0, (at_within outer p.1.0 j p.1.1.1.0, both)),
)
