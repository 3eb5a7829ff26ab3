-- Leaves of lists, and under which names they stand.
use Rattle.std.proofs.Common.{◌≡◌, ℕ, zero, suc, ◌+◌, ◌<◌, ◌⊎◌, ◌↔◌, inl, inr, Bool, true, false, cond, nat_eq, List, [], ◌∷◌, Option, Some, None, map, length, refl, ap, arith}
use Rattle.std.specs.Prelude.{All, slice_index_or}
use Rattle.spark_base.specs.declared.numbers.BodyNo.{BodyNo}
use Rattle.spark_base.specs.declared.numbers.LeafNo.{LeafNo}
use Rattle.core_form.specs.declared.program.Program.{Program}
use Rattle.summary_rows.specs.declared.layout.Layout.{Layout}
use Rattle.summary_rows.specs.Layout.{IsAt}
use Rattle.call_flow.specs.Calls.{stands}
use Rattle.row_flows.specs.Frames.{IsIn, IsSeenOfSome}

pub in_none : (v : ℕ) → IsIn [] v → ⊥
in_none v h = let n : Option LeafNo = None in let z : n ≡ Some (record { 0 = v }) = h.1 in absurd (cc)

-- a leaf of a list is the first, or one of the others
pub in_step : (x : LeafNo) (xs : List LeafNo) (v : ℕ) → IsIn (x ∷ xs) v ↔ ((x.0 ≡ v) ⊎ IsIn xs v)
in_step x xs v = (there, back)
  where
    there : IsIn (x ∷ xs) v → (x.0 ≡ v) ⊎ IsIn xs v
    there (zero, e) = let z : Some x ≡ Some (record { 0 = v }) = e in let y : x ≡ record { 0 = v } = cc in inl (ap (λ (l : LeafNo). l.0) y)
    there (suc i, e) = inr (i, e)

    back : (x.0 ≡ v) ⊎ IsIn xs v → IsIn (x ∷ xs) v
    back (inl e) = (zero, ap (λ n. Some (record { 0 = n })) e)
    back (inr h) = (suc h.0, h.1)

-- without numbers each leaf that is not passed stands under its own
pub stands_own : (n : ℕ) (xs : List LeafNo) (f : ℕ) → stands (λ v. slice_index_or [] v v) n xs f ≡ stands (λ v. v) n xs f
stands_own n [] f = refl
stands_own n (x ∷ xs) f = ap (λ r. cond (nat_eq x.0 f) n r) (stands_own (suc n) xs f)

stands_below : (place : ℕ → ℕ) (n : ℕ) (xs : List LeafNo) (f : ℕ) → place f < n → stands place n xs f < n + length xs
stands_below place n [] f l = omega (arith, l)
stands_below place n (x ∷ xs) f l = cases (nat_eq x.0 f) (stands_below place (suc n) xs f (omega (arith, l)))
  where
    cases : (c : Bool) → stands place (suc n) xs f < suc n + length xs → cond c n (stands place (suc n) xs f) < n + suc (length xs)
    cases true h = omega arith
    cases false h = omega (arith, h)

-- the names of a call are below its last
pub names_below : (place : ℕ → ℕ) (void : ℕ) (passed leaves : List LeafNo) → ((v i : ℕ) → IsAt leaves v i → place v < void)
    → All (λ x. x < void + length passed) (map (λ (leaf : LeafNo). stands place void passed leaf.0) leaves)
names_below place void passed [] h i d l = absurd (omega (arith, l))
names_below place void passed (x ∷ xs) h zero d l = stands_below place void passed x.0 (h x.0 zero refl)
names_below place void passed (x ∷ xs) h (suc i) d l = names_below place void passed xs (λ v k e. h v (suc k) e) i d (omega (arith, l))

pub names_count : (place : ℕ → ℕ) (void : ℕ) (passed leaves : List LeafNo) → length (map (λ (leaf : LeafNo). stands place void passed leaf.0) leaves) ≡ length leaves
names_count place void passed [] = refl
names_count place void passed (x ∷ xs) = let h = names_count place void passed xs in omega (arith, h)

-- a leaf of which some callee is seen to speak is one of the program
pub some_within : (p : Program) (l : Layout) (b : ℕ) (list : List BodyNo) (v : ℕ) → IsSeenOfSome p l b list v → v < length p.leaves
some_within p l b [] v h = absurd h
some_within p l b (c ∷ cs) v (inl h) = h.1.0
some_within p l b (c ∷ cs) v (inr h) = some_within p l b cs v h
