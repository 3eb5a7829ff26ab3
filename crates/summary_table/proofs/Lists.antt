-- Views and words by number, and sums of weights.
use Rattle.std.proofs.Common.{◌≡◌, ◌⊎◌, inl, inr, ⊎_elim, ℕ, zero, suc, ◌+◌, ◌<◌, ◌≤◌, Bool, true, false, ◌||◌, cond, List, [], ◌∷◌, ◌++◌, length, get_or, set, refl, sym, ap, ◌∙◌, subst, arith}
use Rattle.std.specs.Prelude.{bit_or, ◌==◌}
use Rattle.std.proofs.lemmas.List.{get_or-set_same, get_or-set_other}
use mathlib.Core.Option.{some, some-injective, some-ne-none}
use lib.ListN.{get_elem?}
use Rattle.claim_core.specs.Bits.{put, Within}
use Rattle.claim_core.proofs.Words.{at_put, within_left, within_right, within_trans, both_within}
use Rattle.summary_table.specs.declared.view.View.{View}
use Rattle.summary_table.specs.Views.{is_in, union_in}
use Rattle.summary_table.specs.Kept.{weights, view_at}

module _ {A : Type 0} (d : A) where
  pub at_elem : (l : List A) (i : ℕ) (a : A) → get_elem? l i ≡ some a → (get_or l i d ≡ a) × (i < length l)
  at_elem [] i a e = absurd (some-ne-none a (sym e))
  at_elem (x ∷ xs) zero a e = (some-injective x a e, omega arith)
  at_elem (x ∷ xs) (suc i) a e = let t = at_elem xs i a e in (t.0, omega arith)

  pub set_is_put : (l : List A) (i : ℕ) (x : A) → i < length l → (j : ℕ) → get_or (set l i x) j d ≡ put (λ k. get_or l k d) i x j
  set_is_put l i x lt j = at_put (λ k. get_or l k d) i x j (λ y. get_or (set l i x) j d ≡ y)
      (λ e. subst (λ m. get_or (set l i x) m d ≡ x) (sym e) (get_or-set_same l i x d lt))
      (λ n. get_or-set_other l i j x d n)

  -- one more at the end
  pub at_longer : (l : List A) (x : A) (j : ℕ) → (get_or (l ++ x ∷ []) j d ≡ get_or l j d) ⊎ ((j ≡ length l) × (get_or (l ++ x ∷ []) j d ≡ x))
  at_longer [] x zero = inr (refl, refl)
  at_longer [] x (suc j) = inl refl
  at_longer (y ∷ ys) x zero = inl refl
  at_longer (y ∷ ys) x (suc j) = ⊎_elim (λ e. inl e) (λ t. inr (ap suc t.0, t.1)) (at_longer ys x j)

pub weights_set : (views : List View) (i : ℕ) (v w : View) → get_elem? views i ≡ some v → weights (set views i w) + v.weight ≡ weights views + w.weight
weights_set [] i v w e = absurd (some-ne-none v (sym e))
weights_set (x ∷ xs) zero v w e = let t = ap (λ (u : View). u.weight) (some-injective x v e) in omega arith
weights_set (x ∷ xs) (suc i) v w e = let t = weights_set xs i v w e in omega arith

pub weights_longer : (views : List View) (w : View) → weights (views ++ w ∷ []) ≡ weights views + w.weight
weights_longer [] w = omega arith
weights_longer (x ∷ xs) w = let t = weights_longer xs w in omega arith

pub weights_one : (views : List View) (k : ℕ) → (view_at views k).weight ≤ weights views
weights_one [] k = omega arith
weights_one (y ∷ ys) zero = omega arith
weights_one (y ∷ ys) (suc k) = let t = weights_one ys k in omega arith

-- no two views weigh more than all together
pub weights_two : (views : List View) (i j : ℕ) → (i ≡ j → ⊥) → (view_at views i).weight + (view_at views j).weight ≤ weights views
weights_two [] i j n = omega arith
weights_two (x ∷ xs) zero zero n = absurd (n refl)
weights_two (x ∷ xs) zero (suc j) n = let t = weights_one xs j in omega arith
weights_two (x ∷ xs) (suc i) zero n = let t = weights_one xs i in omega arith
weights_two (x ∷ xs) (suc i) (suc j) n = let t = weights_two xs i j (λ e. n (ap suc e)) in omega arith

pub is_in-append : (b : ℕ) (xs ys : List ℕ) → is_in b (xs ++ ys) ≡ (is_in b xs || is_in b ys)
is_in-append b [] ys = refl
is_in-append b (x ∷ xs) ys = ap (λ t. (b == x) || t) (is_in-append b xs ys) ∙ grouped (b == x) (is_in b xs) (is_in b ys)
  where
    grouped : (p q r : Bool) → (p || (q || r)) ≡ ((p || q) || r)
    grouped true q r = refl
    grouped false q r = refl

union_step : (t : Bool) (a b x m : ℕ) → (Within a m → Within b m) → Within (cond t (bit_or a x) a) m → Within (cond t (bit_or b x) b) m
union_step true a b x m f g = both_within _ _ _ (f (within_trans _ _ _ (within_left a x) g)) (within_trans _ _ _ (within_right a x) g)
union_step false a b x m f g = f g

pub union_in-append : (w : ℕ) (xs ys : List (ℕ × ℕ)) (m : ℕ) → Within (union_in w xs) m → Within (union_in w ys) m → Within (union_in w (xs ++ ys)) m
union_in-append w [] ys m h k = k
union_in-append w (x ∷ xs) ys m h k = union_step (w == x.0) (union_in w xs) (union_in w (xs ++ ys)) x.1 m (λ g. union_in-append w xs ys m g k) h
