-- The only one that is shown, as a loop finds it.
use Rattle.std.proofs.Common.{◌≡◌, ℕ, zero, suc, ◌+◌, ◌≤◌, Bool, true, false, List, [], ◌∷◌, ◌++◌, length, slice_get, drop, filter, map, Option, Some, None, option_to_list, is_some, if◌then◌else◌, cond, refl, ap, ◌∙◌, arith}
use Rattle.std.proofs.lemmas.Bool.{false≢true, true≢false}
use Rattle.std.proofs.Math.ListN.{drop_of_length-le}
use Rattle.use_table.specs.declared.members.Member.{Member}
use Rattle.use_table.specs.Uses.{shows, shown_if, shown_of, only}

module _ {T : Type 0} where
  -- what is shown of these from a place on
  abbrev pub left : List ℕ → ℕ → List (ℕ × Member T) → List T
  left uses i ms = map shown_of (filter (shows uses) (drop i ms))

  one_shown : (b : Bool) (m : ℕ × Member T) (rest : List (ℕ × Member T))
      → map shown_of (cond b (m ∷ rest) rest) ≡ option_to_list (if b then Some m.1.shown else None) ++ map shown_of rest
  one_shown true m rest = refl
  one_shown false m rest = refl

  left_suc : (uses : List ℕ) (ms : List (ℕ × Member T)) (i : ℕ) → left uses i ms ≡ option_to_list (shown_if uses (slice_get ms i)) ++ left uses (suc i) ms
  left_suc uses [] zero = refl
  left_suc uses [] (suc i) = refl
  left_suc uses (m ∷ ms) zero = one_shown (shows uses m) m (filter (shows uses) ms)
  left_suc uses (m ∷ ms) (suc i) = left_suc uses ms i

  pub left_more : (uses : List ℕ) (ms : List (ℕ × Member T)) (i : ℕ) → left uses i ms ≡ option_to_list (shown_if uses (slice_get ms i)) ++ left uses (i + 1) ms
  left_more uses ms i =
      let e : suc i ≡ i + 1 = omega arith in left_suc uses ms i ∙ ap (λ n. option_to_list (shown_if uses (slice_get ms i)) ++ left uses n ms) e

  pub left_none : (uses : List ℕ) (ms : List (ℕ × Member T)) (i : ℕ) → length ms ≤ i → left uses i ms ≡ []
  left_none uses ms i l = ap (λ xs. map shown_of (filter (shows uses) xs)) (drop_of_length-le ms l)

  pub two : (f : Option T) (x : T) (rest : List T) → is_some f ≡ true → only (option_to_list f ++ x ∷ rest) ≡ None
  two None x rest e = absurd (false≢true e)
  two (Some y) x rest e = refl

  pub first_one : (f : Option T) (x : T) (rest : List T) → is_some f ≡ false → option_to_list f ++ x ∷ rest ≡ x ∷ rest
  first_one None x rest e = refl
  first_one (Some y) x rest e = absurd (true≢false e)
