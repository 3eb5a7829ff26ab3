-- One argument of a call after the other.
use Rattle.std.proofs.Common.{◌≡◌, ℕ, ◌+◌, ◌<◌, Bool, ◌||◌, true, false, List, [], ◌∷◌, ◌++◌, length, map, drop, get_or, is_none, Option, Some, None, refl, sym, ap, ◌∙◌, append_assoc, slice_get, suc, zero, arith}
use Rattle.std.proofs.lemmas.List.{drop_more}
use Rattle.std.proofs.lemmas.Option.{none-some, get_or_from_slice_get, slice_get_within}
use Rattle.spark_base.specs.declared.numbers.TypeNo.{TypeNo}
use Rattle.ada_forms.specs.Forms.{Expr}
use Rattle.part_slots.specs.declared.slots.Slot.{Slot}
use Rattle.part_slots.specs.Calls.{actual_slots, formal_for, has_stray, slot_for, with_taken}
use Rattle.part_slots.specs.Records.{own_slot, own_slots, type_of_field}
use Rattle.seen_names.specs.declared.context.Tables.{Tables}
use Rattle.seen_names.specs.declared.shown.FormalSeen.{FormalSeen}
use Rattle.seen_types.specs.declared.seen.FieldSeen.{FieldSeen}

-- what is left behind the first of these
pub mapped_more : {A B : Type 0} (f : A → B) (xs : List A) (k : ℕ) (x : A) → k < length xs → x ≡ get_or xs k x → map f (drop k xs) ≡ f x ∷ map f (drop (k + 1) xs)
mapped_more f xs k x l is = ap (map f) (drop_more xs k x l ∙ ap (λ y. y ∷ drop (k + 1) xs) (sym is))

module _ (tables : Tables) (formals : List (ℕ × FormalSeen)) (k : ℕ) (taken : List ℕ) (t : Expr) (rest : List Expr) where
  pub slots_step : (slots : List Slot) (p : Option ℕ) → p ≡ formal_for tables formals k taken t
      → (slots ++ slot_for formals p ∷ []) ++ actual_slots tables formals (k + 1) (with_taken taken p) rest ≡ slots ++ actual_slots tables formals k taken (t ∷ rest)
  slots_step slots p is = append_assoc slots (slot_for formals p ∷ []) (actual_slots tables formals (k + 1) (with_taken taken p) rest)
      ∙ ap (λ q. slots ++ slot_for formals q ∷ actual_slots tables formals (k + 1) (with_taken taken q) rest) is

  pub stray_step : (b : Bool) (p : Option ℕ) → p ≡ formal_for tables formals k taken t
      → (b || is_none p) || has_stray tables formals (k + 1) (with_taken taken p) rest ≡ b || has_stray tables formals k taken (t ∷ rest)
  stray_step true p is = refl
  stray_step false p is = ap (λ q. is_none q || has_stray tables formals (k + 1) (with_taken taken q) rest) is

-- one slot more for a value
pub own_more : (fields : List (ℕ × FieldSeen)) (n : ℕ) → own_slots fields (n + 1) ≡ own_slots fields n ++ own_slot fields n ∷ []
own_more fields n = let e : n + 1 ≡ suc n = omega arith in ap (own_slots fields) e

-- one type more
pub types_more : (fields : List (ℕ × FieldSeen)) (n : ℕ) (f : ℕ × FieldSeen) (types : List TypeNo) → slice_get fields n ≡ Some f
    → (types ++ type_of_field f ∷ []) ++ map type_of_field (drop (n + 1) fields) ≡ types ++ map type_of_field (drop n fields)
types_more fields n f types is =
    append_assoc types (type_of_field f ∷ []) (map type_of_field (drop (n + 1) fields))
    ∙ ap (λ xs. types ++ map type_of_field xs) (sym (drop_more fields n f (slice_get_within fields n f is)
    ∙ ap (λ x. x ∷ drop (n + 1) fields) (get_or_from_slice_get fields n f f is)))

-- there is one within
pub none_within : {X : Type 0} (xs : List X) (k : ℕ) → k < length xs → slice_get xs k ≡ None → ⊥
none_within [] k l e = omega arith
none_within (x ∷ xs) zero l e = none-some x (sym e)
none_within (x ∷ xs) (suc k) l e = none_within xs k (omega arith) e
