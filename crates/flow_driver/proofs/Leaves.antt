-- The leaves of a variable, one after another.
use Rattle.std.proofs.Common.{◌≡◌, ℕ, zero, suc, ◌+◌, ◌-◌, ◌<◌, ◌≤◌, ◌⊎◌, ◌↔◌, inl, inr, Bool, true, false, not, ◌||◌, ◌&&◌, nat_eq, List, [], ◌∷◌, length, drop, Some, refl, ap, sym, ◌∙◌, add-one, arith}
use Rattle.std.specs.Prelude.{slice_get}
use Rattle.core_form.specs.declared.contract.GlobalItem.{GlobalItem}
use Rattle.flow_driver.specs.GlobalCheck.{some_leaf, is_listed, is_proof_in}

first_left : (test : ℕ → Bool) (n leaf i : ℕ) → i < n → some_leaf test (n - i) (leaf + i) ≡ (test (leaf + i) || some_leaf test (n - (i + 1)) (leaf + (i + 1)))
first_left test n leaf i l =
    let e : n - i ≡ suc (n - (i + 1)) = omega arith in
    let f : suc (leaf + i) ≡ leaf + (i + 1) = omega arith in
    ap (λ m. some_leaf test m (leaf + i)) e ∙ ap (λ k. test (leaf + i) || some_leaf test (n - (i + 1)) k) f

-- a leaf that fails the test decides nothing
pub one_passed : (test : ℕ → Bool) (n leaf i : ℕ) → i < n → test (leaf + i) ≡ false → some_leaf test (n - (i + 1)) (leaf + (i + 1)) ≡ some_leaf test (n - i) (leaf + i)
one_passed test n leaf i l h = sym (first_left test n leaf i l ∙ ap (λ b. b || some_leaf test (n - (i + 1)) (leaf + (i + 1))) h)

-- a leaf that passes it decides
pub one_found : (test : ℕ → Bool) (n leaf i : ℕ) → i < n → test (leaf + i) ≡ true → some_leaf test (n - i) (leaf + i) ≡ true
one_found test n leaf i l h = first_left test n leaf i l ∙ ap (λ b. b || some_leaf test (n - (i + 1)) (leaf + (i + 1))) h

or_step : (a b : Bool) (H K : Type 0) → (K ↔ (H ⊎ ((a || false) ≡ true))) → (K ⊎ (b ≡ true)) ↔ (H ⊎ ((a || b) ≡ true))
or_step true true H K h = (λ x. inr refl, λ x. inr refl)
or_step true false H K h = (λ x. inr refl, λ x. inl (h.1 (inr refl)))
or_step false true H K h = (λ x. inr refl, λ x. inr refl)
or_step false false H K h = (
  λ x. elim x [ inl k ↦ (elim (h.0 k) [ inl y ↦ inl y | inr e ↦ absurd cc ]) | inr e ↦ absurd cc ],
  λ x. elim x [ inl y ↦ inl (h.1 (inl y)) | inr e ↦ absurd cc ],
)

-- one item more is listed
pub listed_more : (g : GlobalItem) (gs : List GlobalItem) (i : ℕ) (H K : Type 0) → (K ↔ (H ⊎ (is_listed (g ∷ []) i ≡ true))) → (K ⊎ (is_listed gs i ≡ true)) ↔ (H ⊎ (is_listed (g ∷ gs) i ≡ true))
listed_more g gs i H K h = or_step (nat_eq g.item.0 i && not (is_proof_in g.mode)) (is_listed gs i) H K h

drop_get_suc : {A : Type 0} (xs : List A) (i : ℕ) (x : A) → slice_get xs i ≡ Some x → drop i xs ≡ x ∷ drop (suc i) xs
drop_get_suc [] zero x h = absurd cc
drop_get_suc [] (suc i) x h = absurd cc
drop_get_suc (y ∷ ys) zero x h = let e : y ≡ x = cc in ap (λ z. z ∷ ys) e
drop_get_suc (y ∷ ys) (suc i) x h = drop_get_suc ys i x h

-- the item at a place stands at the front of what is left there
pub drop_get : {A : Type 0} (xs : List A) (i : ℕ) (x : A) → slice_get xs i ≡ Some x → drop i xs ≡ x ∷ drop (i + 1) xs
drop_get xs i x h = rw add-one (drop_get_suc xs i x h)

-- nothing is left behind the last
pub drop_all : {A : Type 0} (xs : List A) (i : ℕ) → length xs ≤ i → drop i xs ≡ []
drop_all [] zero l = refl
drop_all [] (suc i) l = refl
drop_all (x ∷ xs) zero l = absurd (omega arith)
drop_all (x ∷ xs) (suc i) l = let k : length xs ≤ i = omega arith in drop_all xs i k
