-- What is asked of the equations of bodies, and of the lists of callers.
use Rattle.std.specs.Prelude.{ℕ, ◌<◌, List, [], slice_index_or, length}
use Rattle.spark_base.specs.declared.numbers.BodyNo.{BodyNo}
use Rattle.least_solution.specs.Least.{SeesCallees}
use Rattle.call_lists.specs.Lists.{Names}
use Rattle.summary_rows.specs.declared.layout.Layout.{Layout}
use Rattle.summary_rows.specs.Facts.{Fact}
use Rattle.summary_rows.specs.Layout.{Stands, outer_of}

abbrev pub owner_of : Fact → ℕ
owner_of f = f.owner

-- what follows for a body stands at some bit of its row, and follows from facts of its callees; more of these make no less of it
pub record IsEquation (l : Layout) (calls : ℕ → ℕ → Type 0) (F : (Fact → Type 0) → Fact → Type 0) : Type 1 where
  pub stands : (R : Fact → Type 0) (f : Fact) → F R f → (f.owner < length l.outer) × ((n : ℕ) × Stands (outer_of l f.owner) f.part n)
  pub sees : SeesCallees owner_of calls F

-- the list of each body names at least those that call it
abbrev pub AreCallers : (ℕ → ℕ → Type 0) → List (List BodyNo) → Type 0
AreCallers calls callers = (b c : ℕ) → calls b c → Names (slice_index_or callers c []) b
