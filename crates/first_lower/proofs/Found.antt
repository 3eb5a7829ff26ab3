-- A known key has a place.
use Rattle.std.proofs.Common.{◌≡◌, ℕ, suc, ◌+◌, ◌<◌, Bool, true, false, cond, not, ◌||◌, List, [], ◌∷◌, length, Some, None, arith}
use Rattle.std.specs.Prelude.{position}
use Rattle.std.specs.List.{list_any, position_or_len}
use Rattle.std.proofs.lemmas.Grind.{common_steps}

within_step : (b rest : Bool) (n m : ℕ) → (rest ≡ true → n < m) → (b || rest) ≡ true → cond (not b) (1 + n) 0 < suc m
within_step true rest n m k h = omega arith
within_step false rest n m k h = let l : n < m = k h in omega arith

pub within : {A : Type 0} (p : A → Bool) (xs : List A) → list_any p xs ≡ true → position_or_len p xs < length xs
within p [] h = absurd cc
within p (x ∷ xs) h = within_step (p x) (list_any p xs) (position_or_len p xs) (length xs) (within p xs) h

pub found : {A : Type 0} (p : A → Bool) (xs : List A) → list_any p xs ≡ true → position p xs ≡ Some (position_or_len p xs)
found p xs h = let l = within p xs h in grind (arith, common_steps, l)

pub is_found : {A : Type 0} (p : A → Bool) (xs : List A) → list_any p xs ≡ true → None ≡ position p xs → ⊥
is_found p xs h e = let f = found p xs h in cc
