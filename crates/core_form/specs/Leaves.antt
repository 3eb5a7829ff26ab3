-- The leaves of an item.
use Rattle.std.specs.Prelude.{ℕ, ◌+◌, ◌<◌, ◌≤◌, ◌⊎◌, List, [], ◌∷◌, IsSomeAnd, slice_get}
use Rattle.spark_base.specs.declared.numbers.VarNo.{VarNo}
use Rattle.core_form.specs.declared.program.Item.{Item}
use Rattle.core_form.specs.declared.program.Program.{Program}

-- the leaf is one of the variable; those of an object's own variable are the leaves of all its components
abbrev pub IsLeafOfVar : Program → ℕ → ℕ → Type 0
IsLeafOfVar p v leaf = IsSomeAnd (slice_get p.vars v) (λ var. (var.«from».0 ≤ leaf) × (leaf < var.«from».0 + var.count))

-- the leaf is one of some variable of the list
abbrev pub IsLeafOfSome : Program → List VarNo → ℕ → Type 0
IsLeafOfSome p [] leaf = ⊥
IsLeafOfSome p (v ∷ vs) leaf = IsLeafOfVar p v.0 leaf ⊎ IsLeafOfSome p vs leaf

-- the leaf is one of the item: of the variable, of some constituent of the state, of the object
abbrev pub IsLeafOf : Program → Item → ℕ → Type 0
IsLeafOf p (Item.Whole v) leaf = IsLeafOfVar p v.0 leaf
IsLeafOf p (Item.State s) leaf = IsSomeAnd (slice_get p.states.list s) (λ state. IsLeafOfSome p state.variables leaf)
IsLeafOf p (Item.Guard o) leaf = IsSomeAnd (slice_get p.objects o.0) (λ object. IsLeafOfVar p object.var.0 leaf)
