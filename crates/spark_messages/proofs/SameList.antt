-- Two lists that rise strictly and have the same elements are one list.
use Rattle.std.proofs.Common.{◌≡◌, ℕ, zero, suc, ◌<◌, List, [], ◌∷◌, length, get_or, refl, ap, sym, ◌∙◌, inl, inr, ◌⊎◌, ◌↔◌, arith}
use Rattle.std.specs.Cmp.{IsTotalOrder}
use Rattle.std.specs.declared.cmp.Ordering.{Ordering}
use Rattle.std.specs.declared.cmp.Ordering.TheVariants.{Less}
use Rattle.std.specs.List.{Contains}
use Rattle.std.specs.List.Sorted.{IsStrictlySortedBy}
use Rattle.std.proofs.lemmas.Cmp.{tied_itself}
use Rattle.std.proofs.lemmas.List.Elements.{All-contains, Contains-append_right}
use Rattle.std.proofs.lemmas.Map.Keys.{sorted_tail}
use Rattle.std.proofs.lemmas.Map.Views.{All-after_first}

at_first : {K : Type 0} (x : K) (xs : List K) → Contains (x ∷ xs) x
at_first x xs = (0, omega arith, refl)

first_or_rest : {K : Type 0} (x : K) (xs : List K) (m : K) (k : ℕ) → k < length (x ∷ xs) → get_or (x ∷ xs) k m ≡ m → (x ≡ m) ⊎ Contains xs m
first_or_rest x xs m zero within is = inl is
first_or_rest x xs m (suc k) within is = let rest : k < length xs = omega arith in inr (k, rest, is)

module _ {K : Type 0} {R : K → K → Ordering} (o : IsTotalOrder R) where
  not_below_itself : (x : K) → R x x ≡ Less → ⊥
  not_below_itself x h = let tied = tied_itself o x in cc

  below : (x : K) (xs : List K) (m : K) → IsStrictlySortedBy R (x ∷ xs) → Contains xs m → R x m ≡ Less
  below x xs m rises h = All-contains (λ y. R x y ≡ Less) xs m (All-after_first R x xs rises) h

  first : (x : K) (xs : List K) (y : K) (ys : List K) → IsStrictlySortedBy R (x ∷ xs) → IsStrictlySortedBy R (y ∷ ys) → Contains (y ∷ ys) x → Contains (x ∷ xs) y → x ≡ y
  first x xs y ys left right in_right in_left =
      elim (first_or_rest y ys x in_right.0 in_right.1 in_right.2) [
        | inl is ↦ sym is
        | inr later ↦ elim (first_or_rest x xs y in_left.0 in_left.1 in_left.2) [
          | inl is ↦ is
          | inr behind ↦ absurd (not_below_itself x (o.trans x y x (below x xs y left behind) (below y ys x right later)))
        ]
      ]

  rest : (x : K) (xs : List K) (y : K) (ys : List K) (m : K) → x ≡ y → IsStrictlySortedBy R (x ∷ xs) → (Contains (x ∷ xs) m → Contains (y ∷ ys) m) → Contains xs m → Contains ys m
  rest x xs y ys m same left to h =
      let inside = to (Contains-append_right (x ∷ []) xs m h) in
      elim (first_or_rest y ys m inside.0 inside.1 inside.2) [
        | inl is ↦ absurd (not_below_itself x (ap (R x) (same ∙ is) ∙ below x xs m left h))
        | inr later ↦ later
      ]

  pub same_list : (xs ys : List K) → IsStrictlySortedBy R xs → IsStrictlySortedBy R ys → ((m : K) → Contains xs m ↔ Contains ys m) → xs ≡ ys
  same_list [] [] left right same = refl
  same_list [] (y ∷ ys) left right same = let h = (same y).1 (at_first y ys) in absurd (omega (arith, h.1))
  same_list (x ∷ xs) [] left right same = let h = (same x).0 (at_first x xs) in absurd (omega (arith, h.1))
  same_list (x ∷ xs) (y ∷ ys) left right same =
      let head : x ≡ y = first x xs y ys left right ((same x).0 (at_first x xs)) ((same y).1 (at_first y ys)) in
      let tail : xs ≡ ys
      = same_list xs ys (sorted_tail R x xs left) (sorted_tail R y ys right)
      (λ m. (rest x xs y ys m head left (same m).0, rest y ys x xs m (sym head) right (same m).1)) in
      cc
