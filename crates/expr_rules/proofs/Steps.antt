-- One choice, one component after the other.
use Rattle.std.proofs.Common.{◌≡◌, ℕ, zero, suc, ◌+◌, ◌<◌, List, [], ◌∷◌, ◌++◌, length, map, drop, take, get_or, Some, None, refl, sym, ap, ◌∙◌, append_assoc, slice_get, arith}
use Rattle.std.proofs.lemmas.List.{drop_more}
use Rattle.std.proofs.lemmas.Option.{none-some, get_or_from_slice_get, slice_get_within}
use Rattle.spark_base.specs.declared.numbers.ExprNo.{ExprNo}
use Rattle.spark_base.specs.declared.numbers.Pos.{Pos}
use Rattle.spark_base.specs.declared.numbers.TypeNo.{TypeNo}
use Rattle.ada_forms.specs.Forms.{Expr, listed}
use Rattle.expr_outlines.specs.Outlines.{choices_in, choices_of}
use Rattle.expr_rules.specs.Aggregates.{all_but_last, associations_found, components_found}
use Rattle.name_findings.proofs.Joined.{add_append}
use Rattle.name_findings.specs.Findings.{Told, add_all}
use Rattle.part_slots.specs.Calls.{or_taken}
use Rattle.part_slots.specs.Records.{Taken, taken_by, type_at, type_of_field, types_at, with_places}
use Rattle.seen_names.specs.declared.context.Tables.{Tables}
use Rattle.seen_types.specs.declared.seen.FieldSeen.{FieldSeen}

-- the choices of an association are all but the last of its parts
pub front_trees : {A : Type 0} (f : A → Expr) (first : A) (rest : List A) → map f (all_but_last first rest) ≡ choices_in (f first) (listed (map f rest))
front_trees f first [] = refl
front_trees f first (next ∷ rest) = ap (λ ts. f first ∷ ts) (front_trees f next rest)

-- one component more of those that are left
pub places_more : (fields : List (ℕ × FieldSeen)) (k n : ℕ) (places : List ℕ) → k < length fields
    → with_places (or_taken places n) (n + 1) (drop (k + 1) fields) ≡ with_places places n (drop k fields)
places_more [] k n places l = let e : ⊥ = omega (l, arith) in elim e [ ]
places_more (f ∷ fs) zero n places l = refl
places_more (f ∷ fs) (suc k) n places l =
    let e : suc k + 1 ≡ suc (k + 1) = omega arith in
    ap (λ m. with_places (or_taken places n) (n + 1) (drop m (f ∷ fs))) e ∙ places_more fs k n places (omega (l, arith))

-- the type of the component at a place, if there is one
pub type_none : (fields : List (ℕ × FieldSeen)) (n : ℕ) → slice_get fields n ≡ None → type_at fields n ≡ []
type_none [] zero e = refl
type_none [] (suc n) e = refl
type_none (f ∷ fs) zero e = elim (none-some f (sym e)) [ ]
type_none (f ∷ fs) (suc n) e = type_none fs n e

pub type_some : (fields : List (ℕ × FieldSeen)) (n : ℕ) (f : ℕ × FieldSeen) → slice_get fields n ≡ Some f → type_at fields n ≡ f.1.of ∷ []
type_some fields n f is =
    ap (λ xs. map type_of_field (take 1 xs)) (drop_more fields n f (slice_get_within fields n f is)
    ∙ ap (λ x. x ∷ drop (n + 1) fields) (get_or_from_slice_get fields n f f is))

-- one type more
pub types_more : (fields : List (ℕ × FieldSeen)) (places : List ℕ) (k n : ℕ) (types : List TypeNo) → slice_get places k ≡ Some n
    → (types ++ type_at fields n) ++ types_at fields (drop (k + 1) places) ≡ types ++ types_at fields (drop k places)
types_more fields places k n types is =
    append_assoc types (type_at fields n) (types_at fields (drop (k + 1) places))
    ∙ ap (λ xs. types ++ types_at fields xs) (sym (drop_more places k n (slice_get_within places k n is)
    ∙ ap (λ x. x ∷ drop (k + 1) places) (get_or_from_slice_get places k n n is)))

-- one association more
module _ (tables : Tables) (fields : List (ℕ × FieldSeen)) (at : Pos) (tree : ExprNo → Expr) (pairs : List ExprNo) (k : ℕ) (d : ExprNo) where
  pub associations_more : (s next : Taken) (start now : Told) → k < length pairs → next ≡ taken_by tables fields s (choices_of (tree (get_or pairs k d)))
      → now ≡ add_all start (components_found tables fields s (choices_of (tree (get_or pairs k d))))
      → add_all now (associations_found tables fields at next (map tree (drop (k + 1) pairs))) ≡ add_all start (associations_found tables fields at s (map tree (drop k pairs)))
  associations_more s next start now l is found =
      let choices = choices_of (tree (get_or pairs k d)) in
      let rest = map tree (drop (k + 1) pairs) in
      ap (λ u. add_all u (associations_found tables fields at next rest)) found
      ∙ ap (λ (x : Taken). add_all (add_all start (components_found tables fields s choices)) (associations_found tables fields at x rest)) is
      ∙ sym (add_append start (components_found tables fields s choices) (associations_found tables fields at (taken_by tables fields s choices) rest))
      ∙ sym (ap (λ xs. add_all start (associations_found tables fields at s (map tree xs))) (drop_more pairs k d l))
