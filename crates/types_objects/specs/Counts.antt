-- How many leaves a type has.
use Rattle.std.specs.Prelude.{◌≡◌, ℕ, zero, suc, ◌+◌, ◌-◌, ◌^◌, min, List, [], ◌∷◌, Option, Some, None, slice_get}
use Rattle.spark_base.specs.declared.numbers.TypeNo.{TypeNo}
use Rattle.types_objects.specs.declared.types.FieldDef.{FieldDef}
use Rattle.types_objects.specs.declared.types.TypeDef.{TypeDef}
use Rattle.types_objects.specs.declared.types.TypeForm.{TypeForm}
use Rattle.types_objects.specs.declared.types.TypeForm.TheVariants as forms

abbrev pub count_of_fields : (TypeNo → ℕ) → List FieldDef → ℕ
count_of_fields go [] = 0
count_of_fields go (f ∷ fs) = go f.of + count_of_fields go fs

abbrev pub count_of_form : (TypeNo → ℕ) → TypeForm → ℕ
count_of_form go (forms.Fields fields) = count_of_fields go fields
count_of_form go (forms.Protected d) = 0
count_of_form go (forms.Task d) = 0
count_of_form go _ = 1

abbrev pub count_at : (TypeNo → ℕ) → Option TypeDef → ℕ
count_at go None = 0
count_at go (Some x) = count_of_form go x.form

abbrev pub count_within : List TypeDef → ℕ → TypeNo → ℕ
count_within list zero t = 0
count_within list (suc n) t = count_at (count_within list n) (slice_get list t.0)

-- the number of leaves of a type
unfoldable pub count : List TypeDef → TypeNo → ℕ
count list t = count_within list (suc t.0) t

-- a count, as far as a field can hold it
abbrev pub capped : ℕ → ℕ
capped n = min n (2 ^ 32 - 1)

-- each type tells the number of its leaves
pub record AreCounted (list : List TypeDef) : Type 0 where
  pub counts : (t : TypeNo) (x : TypeDef) → slice_get list t.0 ≡ Some x → x.leaves ≡ capped (count list t)
