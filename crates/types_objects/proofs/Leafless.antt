-- A type that tells no leaves has no paths.
use Rattle.std.proofs.Common.{◌≡◌, ℕ, List, [], ◌∷◌, Some, length, refl, sym, ◌∙◌, arith}
use Rattle.std.specs.Prelude.{slice_get}
use Rattle.spark_base.specs.declared.numbers.TypeNo.{TypeNo}
use Rattle.types_objects.specs.declared.types.TypeDef.{TypeDef}
use Rattle.types_objects.specs.Counts.{AreCounted, capped, count}
use Rattle.types_objects.specs.Types.{paths}
use Rattle.types_objects.proofs.CountedLeaves.{paths_length}

none_left : {A : Type 0} (xs : List A) → length xs ≡ 0 → xs ≡ []
none_left [] h = refl
none_left (x ∷ xs) h = absurd (omega (arith, h))

no_count : (n : ℕ) → capped n ≡ 0 → n ≡ 0
no_count n h = omega (arith, h)

pub leafless : (list : List TypeDef) → AreCounted list → (prefix : List ℕ) (t : TypeNo) (x : TypeDef) → slice_get list t.0 ≡ Some x → x.leaves ≡ 0
    → paths list prefix t ≡ []
leafless list counted prefix t x is none =
    none_left (paths list prefix t) (paths_length list prefix t ∙ no_count (count list t) (sym (counted.counts t x is) ∙ none))
