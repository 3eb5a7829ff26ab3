-- The entries of a table with one for each variable.
use Rattle.std.proofs.Common.{◌≡◌, ℕ, zero, suc, ◌+◌, ◌<◌, ◌≤◌, List, [], ◌∷◌, Some, All, length, ap, subst, arith}
use Rattle.std.specs.Prelude.{slice_get}
use Rattle.std.proofs.lemmas.List.Elements.{All-nil, All-cons, All-get_or}
use Rattle.std.proofs.lemmas.Option.{slice_get_within, get_or_from_slice_get}
use Rattle.first_path.specs.declared.source.Variable.{Variable}
use Rattle.first_lower.specs.Lowered.{each_from}

-- what holds of each element holds of the one at a place
pub All-slice_get : {X : Type 0} (P : X → Type 0) (xs : List X) (k : ℕ) (x : X) → All P xs → slice_get xs k ≡ Some x → P x
All-slice_get P xs k x h is = subst P (get_or_from_slice_get xs k x x is) (All-get_or P xs k x (slice_get_within xs k x is) h)

module _ {A : Type 0} (entry : ℕ → Variable → A) where
  pub length_entries : (n : ℕ) (vs : List Variable) → length (each_from entry n vs) ≡ length vs
  length_entries n [] = omega arith
  length_entries n (v ∷ vs) = omega (arith, length_entries (n + 1) vs)

  pub all_entries : (P : A → Type 0) (m : ℕ) → ((i : ℕ) (v : Variable) → i < m → P (entry i v)) → (n : ℕ) (vs : List Variable) → n + length vs ≤ m → All P (each_from entry n vs)
  all_entries P m holds n [] l = All-nil P
  all_entries P m holds n (v ∷ vs) l = All-cons P (entry n v) (each_from entry (n + 1) vs) (holds n v (omega arith)) (all_entries P m holds (n + 1) vs (omega arith))

  -- there is an entry for each variable
  entry_at : (n : ℕ) (vs : List Variable) (k : ℕ) → k < length vs → (v : Variable) × (slice_get (each_from entry n vs) k ≡ Some (entry (n + k) v))
  entry_at n [] k l = absurd (omega arith)
  entry_at n (v ∷ vs) zero l = (v, ap (λ i. Some (entry i v)) (omega arith))
  entry_at n (v ∷ vs) (suc k) l =
      let h = entry_at (n + 1) vs k (omega arith) in
      let e : (n + 1) + k ≡ n + suc k = omega arith in
      (h.0, subst (λ i. slice_get (each_from entry (n + 1) vs) k ≡ Some (entry i h.0)) e h.1)

  pub entry_here : (vs : List Variable) (k : ℕ) → k < length vs → (v : Variable) × (slice_get (each_from entry 0 vs) k ≡ Some (entry k v))
  entry_here vs k l =
      let h = entry_at 0 vs k l in
      let e : 0 + k ≡ k = omega arith in
      (h.0, subst (λ i. slice_get (each_from entry 0 vs) k ≡ Some (entry i h.0)) e h.1)

  -- and no other
  pub entry_of : (vs : List Variable) (k : ℕ) (x : A) → slice_get (each_from entry 0 vs) k ≡ Some x → (v : Variable) × (x ≡ entry k v)
  entry_of vs k x is =
      let l : k < length vs = omega (arith, slice_get_within (each_from entry 0 vs) k x is, length_entries 0 vs) in
      let h = entry_here vs k l in
      (h.0, cc)
