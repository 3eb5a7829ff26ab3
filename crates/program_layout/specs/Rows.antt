-- Which leaves the row of each body of a program has, and for which body there is no room.
use Rattle.std.specs.Prelude.{◌≡◌, ℕ, zero, suc, ◌+◌, ◌<◌, ◌⊎◌, ◌↔◌, Bool, true, false, cond, nat_eq, List, [], Option, None, Some, IsSomeAnd, slice_get, slice_index_or, length}
use Rattle.spark_base.specs.declared.numbers.BodyNo.{BodyNo}
use Rattle.spark_base.specs.declared.numbers.LeafNo.{LeafNo}
use Rattle.core_form.specs.declared.contract.Contract.{Contract}
use Rattle.core_form.specs.declared.program.Body.{Body}
use Rattle.core_form.specs.declared.program.Home.{Home}
use Rattle.core_form.specs.declared.program.Program.{Program}
use Rattle.core_form.specs.Fine.{home_of}
use Rattle.spark_messages.specs.declared.messages.Code.TheVariants as code
use Rattle.spark_messages.specs.declared.messages.Kind.TheVariants as kinds
use Rattle.spark_messages.specs.declared.messages.Message.{Message}
use Rattle.spark_messages.specs.declared.messages.PhaseFault.{PhaseFault}
use Rattle.spark_messages.specs.declared.messages.PhaseFault.TheVariants as faults
use Rattle.spark_messages.specs.MessageTexts.{refusal_text}
use Rattle.summary_rows.specs.declared.layout.Layout.{Layout}
use Rattle.summary_rows.specs.Layout.{IsIncreasing, IsLayout, words_before}
use Rattle.callee_view.specs.Seen.{ContractLeaves, contract_seen}
use Rattle.flow_relations.specs.Equation.{IsLibrary, IsPassed, clock_among, code_of_body, names_of}
use Rattle.flow_relations.specs.Summaries.{IsSummaryLeaf, knows_of, row_leaf_of}
use Rattle.row_leaves.specs.Leaves.{HasLeaf, most_leaves, most_words}

-- Row leaves

-- of which leaves a body is seen to speak: those of the contract that is seen, else those of its row
abbrev pub leaves_by : Program → ℕ → Body → (ℕ → Type 0) → Option Contract → ℕ → Type 0
leaves_by p c body row None v = row v
leaves_by p c body row (Some contract) v = ContractLeaves p c body contract v

abbrev pub leaves_at : Program → Option Body → ℕ → (ℕ → Type 0) → Option Body → ℕ → Type 0
leaves_at p caller c row None v = row v
leaves_at p caller c row (Some body) v = leaves_by p c body row (contract_seen caller body) v

-- of which leaves a caller sees a body speak, where the rows of bodies have these
abbrev pub leaves_seen : Program → (ℕ → ℕ → Type 0) → Option Body → BodyNo → ℕ → Type 0
leaves_seen p rows caller b v = leaves_at p caller b.0 (rows b.0) (slice_get p.bodies b.0) v

-- a leaf of the row of a body, where the rows of others have these: a library leaf that its code names or of which it sees a callee
-- speak, or a leaf of its formals or its result
abbrev pub IsLeafOver : Program → (ℕ → ℕ → Type 0) → ℕ → ℕ → Type 0
IsLeafOver p rows b v = (IsSomeAnd (home_of p v) IsLibrary × (names_of (clock_among p.vars) (code_of_body p b) v
    ⊎ knows_of (leaves_seen p rows (slice_get p.bodies b)) (code_of_body p b) v))
    ⊎ IsSomeAnd (home_of p v) (IsPassed b)

-- by so many rounds at most
abbrev pub LeafWithin : Program → ℕ → ℕ → ℕ → Type 0
LeafWithin p zero b v = ⊥
LeafWithin p (suc n) b v = IsLeafOver p (LeafWithin p n) b v

-- a leaf of the row of a body: the least sets of which this holds
abbrev pub IsLeastLeaf : Program → ℕ → ℕ → Type 0
IsLeastLeaf p b v = (n : ℕ) × LeafWithin p n b v

-- in increasing order
pub record AreLeast (p : Program) (outer : List (List LeafNo)) : Type 0 where
  pub bodies : length outer ≡ length p.bodies
  pub increasing : (b : ℕ) → IsIncreasing (slice_index_or outer b [])
  pub leaves : (b v : ℕ) → b < length p.bodies → HasLeaf (slice_index_or outer b []) v ↔ IsLeastLeaf p b v

-- the layout of a program: its rows have the least sets of leaves, so they have those which the definition of a row asks for
pub record IsLayoutOf (p : Program) (l : Layout) : Type 0 where
  pub layout : IsLayout l
  pub bodies : length l.outer ≡ length p.bodies
  pub least : (b v : ℕ) → b < length p.bodies → row_leaf_of l b v ↔ IsLeastLeaf p b v
  pub leaves : (b v : ℕ) → b < length p.bodies → row_leaf_of l b v ↔ IsSummaryLeaf p l b v

-- Room

-- a local or a spare of the body
abbrev pub is_beside : ℕ → Option Home → Bool
is_beside b None = false
is_beside b (Some (Home.Package k)) = false
is_beside b (Some (Home.Local c)) = nat_eq c.0 b
is_beside b (Some (Home.Formal c)) = false
is_beside b (Some (Home.Outcome c)) = false
is_beside b (Some (Home.Spare c)) = nat_eq c.0 b
is_beside b (Some Home.Clock) = false

-- how many of so many leaves are those
abbrev pub beside_below : Program → ℕ → ℕ → ℕ
beside_below p b zero = 0
beside_below p b (suc n) = cond (is_beside b (home_of p n)) 1 0 + beside_below p b n

-- the row words up to the body, or the leaves of its frame, are too many
abbrev pub HasNoRoom : Program → List (List LeafNo) → ℕ → Type 0
HasNoRoom p outer b =
    (most_words < words_before outer (suc b)) ⊎ (most_leaves < length (slice_index_or outer b []) + beside_below p b (length p.leaves))

-- of the bodies, by number, the first for which there is no room
pub record IsFirstWithoutRoom (p : Program) (outer : List (List LeafNo)) (b : ℕ) : Type 0 where
  pub within : b < length p.bodies
  pub itself : HasNoRoom p outer b
  pub others : (c : ℕ) → c < b → HasNoRoom p outer c → ⊥

-- the message on it, at its name
abbrev pub refusal_at : Body → Message
refusal_at body = record {
  file = body.place.file;
  place = body.place.«from»;
  code = code.X05;
  text = refusal_text code.X05;
  kind = kinds.Refused;
}

abbrev pub IsRefusalOf : Program → Message → Type 0
IsRefusalOf p m = (b : ℕ) × ((outer : List (List LeafNo)) × (AreLeast p outer ×
    (IsFirstWithoutRoom p outer b × IsSomeAnd (slice_get p.bodies b) (λ body. m ≡ refusal_at body))))

-- why a program has no layout: it is refused; or for want of memory
abbrev pub IsLayoutFault : Program → PhaseFault → Type 0
IsLayoutFault p (faults.Refused m) = IsRefusalOf p m
IsLayoutFault p faults.NoMemory = Unit {0}
