-- Counts of leaves that are capped, and the number of paths.
use Rattle.std.proofs.Common.{◌≡◌, ℕ, zero, suc, ◌+◌, ◌-◌, ◌^◌, min, List, [], ◌∷◌, Option, Some, None, length, refl, arith, length-append}
use Rattle.std.specs.Prelude.{slice_get}
use Rattle.spark_base.specs.declared.numbers.TypeNo.{TypeNo}
use Rattle.types_objects.specs.declared.types.FieldDef.{FieldDef}
use Rattle.types_objects.specs.declared.types.TypeDef.{TypeDef}
use Rattle.types_objects.specs.declared.types.TypeForm.{TypeForm}
use Rattle.types_objects.specs.declared.types.TypeForm.TheVariants as forms
use Rattle.types_objects.specs.Types.{path_to, paths, paths_at, paths_of_fields, paths_of_form, paths_within}
use Rattle.types_objects.specs.Counts.{capped, count, count_at, count_of_fields, count_of_form, count_within}

pub capped_sum : (a b r x : ℕ) → r ≡ capped a → x ≡ capped b → min (r + x) (2 ^ 32 - 1) ≡ capped (a + b)
capped_sum a b r x is also = omega (arith, is, also)

-- there are as many paths as leaves

fields_length : (go : List ℕ → TypeNo → List (List ℕ)) (of : TypeNo → ℕ) → ((prefix : List ℕ) (t : TypeNo) → length (go prefix t) ≡ of t) → (prefix : List ℕ) (fs : List FieldDef) → length (paths_of_fields go prefix fs) ≡ count_of_fields of fs
fields_length go of same prefix [] = refl
fields_length go of same prefix (f ∷ fs) =
    let h = same (path_to prefix f) f.of in let t = fields_length go of same prefix fs in
    omega (arith, length-append (go (path_to prefix f) f.of) (paths_of_fields go prefix fs), h, t)

form_length : (go : List ℕ → TypeNo → List (List ℕ)) (of : TypeNo → ℕ) → ((prefix : List ℕ) (t : TypeNo) → length (go prefix t) ≡ of t) → (prefix : List ℕ) (form : TypeForm) → length (paths_of_form go prefix form) ≡ count_of_form of form
form_length go of same prefix (forms.Fields fields) = fields_length go of same prefix fields
form_length go of same prefix (forms.Protected d) = refl
form_length go of same prefix (forms.Task d) = refl
form_length go of same prefix (forms.Enumeration names) = refl
form_length go of same prefix (forms.Signed low high) = refl
form_length go of same prefix (forms.Modular m) = refl
form_length go of same prefix (forms.Array index item) = refl
form_length go of same prefix forms.Moment = refl
form_length go of same prefix forms.Duration = refl

at_length : (go : List ℕ → TypeNo → List (List ℕ)) (of : TypeNo → ℕ) → ((prefix : List ℕ) (t : TypeNo) → length (go prefix t) ≡ of t) → (prefix : List ℕ) (o : Option TypeDef) → length (paths_at go prefix o) ≡ count_at of o
at_length go of same prefix None = refl
at_length go of same prefix (Some x) = form_length go of same prefix x.form

within_length : (list : List TypeDef) (n : ℕ) (prefix : List ℕ) (t : TypeNo) → length (paths_within list n prefix t) ≡ count_within list n t
within_length list zero prefix t = refl
within_length list (suc n) prefix t = at_length (paths_within list n) (count_within list n) (within_length list n) prefix (slice_get list t.0)

pub paths_length : (list : List TypeDef) (prefix : List ℕ) (t : TypeNo) → length (paths list prefix t) ≡ count list t
unfolding paths count
paths_length list prefix t = within_length list (suc t.0) prefix t
