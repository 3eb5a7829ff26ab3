-- The table of types.
use Rattle.std.specs.Prelude.{◌≡◌, ◌<◌, ◌≤◌, ◌^◌, ℕ, zero, suc, ◌+◌, List, [], ◌∷◌, ◌++◌, Option, Some, None, All, length, slice_get}
use Rattle.spark_base.specs.declared.numbers.TypeNo.{TypeNo}
use Rattle.types_objects.specs.declared.paths.Pending.{Pending}
use Rattle.types_objects.specs.declared.paths.Search.{Search}
use Rattle.types_objects.specs.declared.types.FieldDef.{FieldDef}
use Rattle.types_objects.specs.declared.types.TypeDef.{TypeDef}
use Rattle.types_objects.specs.declared.types.TypeForm.{TypeForm}
use Rattle.types_objects.specs.declared.types.TypeForm.TheVariants as forms

-- what a type of this number is made of stands before it, and its modulus is one that a type may have
abbrev pub IsFormed : ℕ → TypeForm → Type 0
IsFormed n (forms.Modular m) = (2 ≤ m) × (m ≤ 2 ^ 64)
IsFormed n (forms.Array index of) = (index.0 < n) × (of.0 < n)
IsFormed n (forms.Fields fields) = All (λ (f : FieldDef). f.of.0 < n) fields
IsFormed n _ = Unit {0}

pub record IsRanked (list : List TypeDef) : Type 0 where
  pub below : (n : ℕ) (x : TypeDef) → slice_get list n ≡ Some x → IsFormed n x.form

-- the path of a component: the path of its record, a point and its name as it is written
abbrev pub path_to : List ℕ → FieldDef → List ℕ
path_to prefix f = prefix ++ 46 ∷ f.name.written

abbrev pub paths_of_fields : (List ℕ → TypeNo → List (List ℕ)) → List ℕ → List FieldDef → List (List ℕ)
paths_of_fields go prefix [] = []
paths_of_fields go prefix (f ∷ fs) = go (path_to prefix f) f.of ++ paths_of_fields go prefix fs

abbrev pub paths_of_form : (List ℕ → TypeNo → List (List ℕ)) → List ℕ → TypeForm → List (List ℕ)
paths_of_form go prefix (forms.Fields fields) = paths_of_fields go prefix fields
paths_of_form go prefix (forms.Protected d) = []
paths_of_form go prefix (forms.Task d) = []
paths_of_form go prefix _ = prefix ∷ []

abbrev pub paths_at : (List ℕ → TypeNo → List (List ℕ)) → List ℕ → Option TypeDef → List (List ℕ)
paths_at go prefix None = []
paths_at go prefix (Some x) = paths_of_form go prefix x.form

abbrev pub paths_within : List TypeDef → ℕ → List ℕ → TypeNo → List (List ℕ)
paths_within list zero prefix t = []
paths_within list (suc n) prefix t = paths_at (paths_within list n) prefix (slice_get list t.0)

-- the paths of the leaves of a type, behind this path, in the order of the declarations
unfoldable pub paths : List TypeDef → List ℕ → TypeNo → List (List ℕ)
paths list prefix t = paths_within list (suc t.0) prefix t

-- How the code goes over nested records

abbrev pub reversed : {A : Type 0} → List A → List A
reversed [] = []
reversed (x ∷ xs) = reversed xs ++ x ∷ []

-- what has yet to be looked at
abbrev pub pending_of : List ℕ → List FieldDef → List Pending
pending_of prefix [] = []
pending_of prefix (f ∷ fs) = record { of = f.of; prefix = path_to prefix f } ∷ pending_of prefix fs

abbrev pub work : List TypeDef → List Pending → List (List ℕ)
work list [] = []
work list (p ∷ ps) = paths list p.prefix p.of ++ work list ps

-- how many steps a type takes
abbrev pub steps_of_fields : (TypeNo → ℕ) → List FieldDef → ℕ
steps_of_fields go [] = 0
steps_of_fields go (f ∷ fs) = go f.of + steps_of_fields go fs

abbrev pub steps_of_form : (TypeNo → ℕ) → TypeForm → ℕ
steps_of_form go (forms.Fields fields) = steps_of_fields go fields
steps_of_form go _ = 0

abbrev pub steps_at : (TypeNo → ℕ) → Option TypeDef → ℕ
steps_at go None = 0
steps_at go (Some x) = steps_of_form go x.form

abbrev pub steps_within : List TypeDef → ℕ → TypeNo → ℕ
steps_within list zero t = 1
steps_within list (suc n) t = 1 + steps_at (steps_within list n) (slice_get list t.0)

unfoldable pub steps : List TypeDef → TypeNo → ℕ
steps list t = steps_within list (suc t.0) t

abbrev pub steps_left : List TypeDef → List Pending → ℕ
steps_left list [] = 0
steps_left list (p ∷ ps) = steps list p.of + steps_left list ps

-- each type that has yet to be looked at is there
abbrev pub AreThere : List TypeDef → List Pending → Type 0
AreThere list ps = All (λ (p : Pending). p.of.0 < length list) ps

-- behind one type that was looked at: what is found and to come is the same, and fewer steps are left
pub record IsLooked (list : List TypeDef) (next : Pending) (old new : Search) : Type 0 where
  pub told :
      new.found.items ++ work list (reversed new.stack.items)
      ≡ old.found.items ++ (paths list next.prefix next.of ++ work list (reversed old.stack.items))
  pub less : steps_left list (reversed new.stack.items) < steps list next.of + steps_left list (reversed old.stack.items)
  pub there : AreThere list (reversed new.stack.items)
