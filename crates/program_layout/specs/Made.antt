-- The lists from which the layout of a program is made. No public answer speaks of them.
use Rattle.std.specs.Prelude.{◌≡◌, ℕ, ◌<◌, ◌⊎◌, ◌↔◌, Bool, true, false, List, Option, None, Some, IsSomeAnd, slice_get, slice_index_or, length}
use Rattle.spark_base.specs.declared.numbers.LeafNo.{LeafNo}
use Rattle.core_form.specs.declared.contract.Contract.{Contract}
use Rattle.core_form.specs.declared.program.Body.{Body}
use Rattle.core_form.specs.declared.program.Program.{Program}
use Rattle.core_form.specs.Fine.{home_of}
use Rattle.body_calls.specs.Callees.{Calls}
use Rattle.callee_view.specs.Seen.{ContractLeaves, contract_seen}
use Rattle.flow_relations.specs.Equation.{IsPassed, clock_among, code_of_body, names_of}
use Rattle.flow_relations.specs.Equation as equation
use Rattle.row_leaves.specs.declared.leaves.Bodies.{Bodies}
use Rattle.row_leaves.specs.Leaves.{AreBodies, IsLibrary, IsOwn, Sees}
use Rattle.program_layout.specs.Rows.{beside_below}

-- a library leaf
abbrev pub IsLibraryLeaf : Program → ℕ → Type 0
IsLibraryLeaf p v = IsSomeAnd (home_of p v) equation.IsLibrary

-- a leaf of a contract of the body that a caller sees
abbrev pub IsSeenInContract : Program → Option Body → ℕ → ℕ → Type 0
IsSeenInContract p caller c v = IsSomeAnd (slice_get p.bodies c) (λ body. IsSomeAnd (contract_seen caller body)
    (λ contract. ContractLeaves p c body contract v))

-- of the leaves of the outer and the inner contract, those of the one that is seen
abbrev pub leaves_by_view : Bool → Option Contract → List LeafNo → List LeafNo → List LeafNo
leaves_by_view false contract outer inner = outer
leaves_by_view true None outer inner = outer
leaves_by_view true (Some contract) outer inner = inner

-- the body calls another of which it sees a contract that speaks of the leaf
abbrev pub KnowsByContract : Program → ℕ → ℕ → Type 0
KnowsByContract p b v = (c : ℕ) × (Calls p b c × IsSeenInContract p (slice_get p.bodies b) c v)

-- the row of a body has the leaf, whatever the others have
abbrev pub IsOwnLeafOf : Program → ℕ → ℕ → Type 0
IsOwnLeafOf p b v = IsSomeAnd (home_of p v) (IsPassed b)
    ⊎ (IsLibraryLeaf p v × (names_of (clock_among p.vars) (code_of_body p b) v ⊎ KnowsByContract p b v))

-- a caller sees no contract of the body
abbrev pub SeesNoContract : Program → Option Body → ℕ → Type 0
SeesNoContract p caller c = IsSomeAnd (slice_get p.bodies c) (λ body. contract_seen caller body ≡ None)

-- the body calls another of which it sees no contract
abbrev pub SeesRow : Program → ℕ → ℕ → Type 0
SeesRow p b c = Calls p b c × SeesNoContract p (slice_get p.bodies b) c

pub record AreBodiesOf (p : Program) (d : Bodies) : Type 0 where
  pub lists : AreBodies d
  pub bodies : length d.sees ≡ length p.bodies
  pub leaves : length d.holders ≡ length p.leaves
  pub own : (b v : ℕ) → IsOwn d b v ↔ IsOwnLeafOf p b v
  pub sees : (b c : ℕ) → Sees d b c ↔ SeesRow p b c
  pub library : (v : ℕ) → IsLibrary d v ↔ IsLibraryLeaf p v
  pub beside : (b : ℕ) → b < length p.bodies → slice_index_or d.beside b 0 ≡ beside_below p b (length p.leaves)
