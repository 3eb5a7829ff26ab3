-- What the rows and sides of a statement's facts say.
use Rattle.std.specs.Prelude.{◌≡◌, ℕ, ◌⊎◌, ◌↔◌, Bool, true, false, List, [], All, IsTrue, length, slice_index_or}
use Rattle.core_form.specs.Code.{Outcome, Next, Leaves, Returns}
use Rattle.flow_bits.specs.Sets.{Has, Relates}
use Rattle.flow_facts.specs.declared.facts.Facts.{Facts}
use Rattle.flow_facts.specs.declared.sides.Change.{Change}
use Rattle.flow_facts.specs.declared.sides.Side.{Side}
use Rattle.flow_facts.specs.Flow.{Flow, moving, changing, clearing}

-- The sides of a statement's facts

-- an outcome that is not reached
abbrev pub no_side : Side
no_side = record { reached = false; kept = []; dep = [] }

-- the rows of an outcome that is reached have this size, and others have none
pub record IsSideSized (n : ℕ) (s : Side) : Type 0 where
  pub kept : IsTrue s.reached → length s.kept ≡ n
  pub dep : IsTrue s.reached → length s.dep ≡ n
  pub no_kept : s.reached ≡ false → s.kept ≡ []
  pub no_dep : s.reached ≡ false → s.dep ≡ []

-- the side of an outcome, out of those of Next, of Returns, and of each number of loops
abbrev pub side_of : Side → Side → List Side → Outcome → Side
side_of next back leaves Next = next
side_of next back leaves (Leaves n) = slice_index_or leaves n no_side
side_of next back leaves Returns = back

-- the outcome is reached
abbrev pub can_of : Side → Side → List Side → Outcome → Type 0
can_of next back leaves o = IsTrue (side_of next back leaves o).reached

abbrev pub side_at : Facts → Outcome → Side
side_at f o = side_of f.next f.back f.leaves.items o

-- the rows have this size
pub record AreSized (n : ℕ) (f : Facts) : Type 0 where
  pub reads : length f.reads ≡ n
  pub writes : length f.writes ≡ n
  pub decides : length f.decides ≡ n
  pub next : IsSideSized n f.next
  pub back : IsSideSized n f.back
  pub leaves : All (IsSideSized n) f.leaves.items

-- a side behind a statement that goes on alone
pub record IsBehind (first : Flow) (old new : Side) : Type 0 where
  pub reached : new.reached ≡ old.reached
  pub kept : (v w : ℕ) → Relates new.kept v w ↔ ((u : ℕ) × (first.kept Next v u × Relates old.kept u w))
  pub dep : (v w : ℕ) → Relates new.dep v w ↔ ((u : ℕ) × (first.dep Next v u × Relates old.dep u w))

-- a side behind a first statement: what the first has there itself, and what is behind its Next
pub record IsThen (own next : Side) (decides writes : List Bool) (old new : Side) : Type 0 where
  pub reached : IsTrue new.reached ↔ (IsTrue own.reached ⊎ (IsTrue next.reached × IsTrue old.reached))
  pub kept : (v w : ℕ) → Relates new.kept v w ↔ (Relates own.kept v w ⊎ ((u : ℕ) × (Relates next.kept v u × Relates old.kept u w)))
  pub dep : (v w : ℕ) → Relates new.dep v w ↔ (Relates own.dep v w
      ⊎ (((u : ℕ) × (Relates next.dep v u × Relates old.dep u w))
      ⊎ ((IsTrue own.reached × IsTrue next.reached × IsTrue old.reached) × (Has decides v × Has writes w))))

-- a side of one branch or of the other
pub record IsEither (other : Side) (test writes : List Bool) (old new : Side) : Type 0 where
  pub reached : IsTrue new.reached ↔ (IsTrue old.reached ⊎ IsTrue other.reached)
  pub kept : (v w : ℕ) → Relates new.kept v w ↔ (Relates old.kept v w ⊎ Relates other.kept v w)
  pub dep : (v w : ℕ) → Relates new.dep v w ↔ ((Relates old.dep v w ⊎ Relates other.dep v w)
      ⊎ ((IsTrue old.reached ⊎ IsTrue other.reached) × (Has test v × Has writes w)))

-- a side behind any number of rounds
pub record IsRound (next : Side) (star : List (List Bool)) (decides writes : List Bool) (old new : Side) : Type 0 where
  pub reached : new.reached ≡ old.reached
  pub kept : (v w : ℕ) → Relates new.kept v w ↔ (Relates old.kept v w ⊎ ((u : ℕ) × (Relates next.kept v u × Relates old.kept u w)))
  pub dep : (v w : ℕ) → Relates new.dep v w ↔ ((u : ℕ) × (Relates star v u
      × (Relates old.dep u w ⊎ ((IsTrue next.reached × IsTrue old.reached) × (Has decides u × Has writes w)))))

-- how a leaf is changed
abbrev pub step_flow : Change → ℕ → ℕ → (ℕ → Type 0) → Flow
step_flow Change.Whole void leaf from = moving void leaf from
step_flow Change.Part void leaf from = changing void leaf from
step_flow Change.Fresh void leaf from = clearing void leaf

-- each side of a list is related so to that at its place in another
abbrev pub AtEach : (Side → Side → Type 0) → List Side → List Side → Type 0
AtEach R old new = (i : ℕ) → R (slice_index_or old i no_side) (slice_index_or new i no_side)

-- the flow that rows and sides tell
abbrev pub told_by : List Bool → List Bool → List Bool → Side → Side → List Side → Flow
told_by reads writes decides next back leaves = record {
  reads = Has reads;
  writes = Has writes;
  decides = Has decides;
  can = λ o. IsTrue (side_of next back leaves o).reached;
  kept = λ o v w. Relates (side_of next back leaves o).kept v w;
  dep = λ o v w. Relates (side_of next back leaves o).dep v w;
}

abbrev pub told : Facts → Flow
told f = told_by f.reads f.writes f.decides f.next f.back f.leaves.items
