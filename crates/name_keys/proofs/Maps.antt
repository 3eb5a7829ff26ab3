-- Tests of a mapped list; a number that is added.
use Rattle.std.proofs.Common.{◌≡◌, ℕ, Bool, true, false, cond, not, ◌||◌, List, [], ◌∷◌, ◌++◌, ◌+◌, nat_eq, nat_lt, map, position, is_some, Some, None, refl, sym, ap, ap₂, ◌∙◌, true≢false}
use Rattle.std.specs.Map.{lookup}
use Rattle.indexmap.specs.IndexMap.{insert_entry}
use Rattle.std.proofs.lemmas.List.{length-map}
use Rattle.std.specs.List.{list_any, prefix_len}

module _ {X Y : Type 0} (h : X → Y) where
  pub list_any_map : (p : Y → Bool) (xs : List X) → list_any p (map h xs) ≡ list_any (λ x. p (h x)) xs
  list_any_map p [] = refl
  list_any_map p (x ∷ xs) = ap (λ b. p (h x) || b) (list_any_map p xs)

  prefix_len_map : (p : Y → Bool) (xs : List X) → prefix_len p (map h xs) ≡ prefix_len (λ x. p (h x)) xs
  prefix_len_map p [] = refl
  prefix_len_map p (x ∷ xs) = ap (λ n. cond (p (h x)) (1 + n) 0) (prefix_len_map p xs)

  pub position_map : (p : Y → Bool) (xs : List X) → position p (map h xs) ≡ position (λ x. p (h x)) xs
  position_map p xs =
      ap₂ (λ a b. cond (nat_lt a b) (Some a) None) (prefix_len_map (λ y. not (p y)) xs) (length-map xs h)

-- a number that is not there goes last
pub insert_absent : {X : Type 0} (es : List (ℕ × X)) (k : ℕ) (v : X) → is_some (lookup (nat_eq k) es) ≡ false → insert_entry nat_eq es k v ≡ es ++ (k, v) ∷ []
insert_absent [] k v h = refl
insert_absent (e ∷ es) k v h = by (nat_eq k e.0) refl (insert_absent es k v)
  where
    by : (b : Bool) → nat_eq k e.0 ≡ b → (is_some (lookup (nat_eq k) es) ≡ false → insert_entry nat_eq es k v ≡ es ++ (k, v) ∷ [])
        → insert_entry nat_eq (e ∷ es) k v ≡ (e ∷ es) ++ (k, v) ∷ []
    by true t rest = absurd (true≢false (sym (ap (λ c. is_some (cond c (Some e.1) (lookup (nat_eq k) es))) t) ∙ h))
    by false t rest =
        ap (λ c. cond c ((e.0, v) ∷ es) (e ∷ insert_entry nat_eq es k v)) t
        ∙ ap (λ r. e ∷ r) (rest (sym (ap (λ c. is_some (cond c (Some e.1) (lookup (nat_eq k) es))) t) ∙ h))
