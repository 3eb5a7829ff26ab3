-- The messages on the Depends of a body, over given rows. They are a set: each message that has one of these forms.
use Rattle.std.specs.Prelude.{◌≡◌, ◌⊎◌, ℕ, Bool, true, false, List, [], ◌∷◌, take, Option, Some, None, IsSomeAnd, IsTrue, slice_get}
use Rattle.spark_base.specs.declared.numbers.ItemNo.{ItemNo}
use Rattle.spark_base.specs.declared.numbers.PackageNo.{PackageNo}
use Rattle.spark_base.specs.declared.numbers.Span.{Span}
use Rattle.core_form.specs.declared.contract.Contract.{Contract}
use Rattle.core_form.specs.declared.contract.DependsPair.{DependsPair}
use Rattle.core_form.specs.declared.contract.GlobalItem.{GlobalItem}
use Rattle.core_form.specs.declared.contract.Mode.{Mode}
use Rattle.core_form.specs.declared.program.Body.{Body}
use Rattle.core_form.specs.declared.program.BodyKind.{BodyKind}
use Rattle.core_form.specs.declared.program.Formal.{Formal}
use Rattle.core_form.specs.declared.program.Item.{Item}
use Rattle.core_form.specs.declared.program.ParamMode.{ParamMode}
use Rattle.core_form.specs.declared.program.Program.{Program}
use Rattle.spark_messages.specs.declared.messages.Code.TheVariants as code
use Rattle.spark_messages.specs.declared.messages.Message.{Message}
use Rattle.spark_messages.specs.MessageTexts.{missing_dependency_text, unused_dependency_text, doubled_output_text}
use Rattle.spark_messages.specs.MessageTexts.{no_input_text, no_output_text, missing_input_text, missing_output_text}
use Rattle.state_map.specs.Views.{IsBodyView, IsItemName}
use Rattle.summary_rows.specs.declared.rows.Rows.{Rows}
use Rattle.summary_rows.specs.Facts.{Depending}
use Rattle.summary_rows.specs.Layout.{told}
use Rattle.used_modes.specs.Added.{SomeOf, error_at, warning_at}
use Rattle.used_modes.specs.UsedModes.{IsLeft, SomeLeaf, of_body, row_of}
use Rattle.global_check.specs.GlobalCheck.{IsResultHome, checked_of, view_of}
use Rattle.depends_check.specs.declared.sides.Side.{Side}
use Rattle.depends_check.specs.declared.faults.Fault.{Fault}

-- The Depends that is checked

-- the contract, where it has a Depends
abbrev pub with_depends : Option Contract → Option Contract
with_depends None = None
with_depends (Some c) = elim c.depends [ None ↦ None | Some pairs ↦ Some c ]

-- the refined one where there is one, else the outer one
abbrev pub checked_depends : Body → Option Contract
checked_depends body = checked_of (with_depends body.inner) (with_depends body.outer)

-- from inside which package it sees, if any
abbrev pub depends_view : Body → Option PackageNo
depends_view body = view_of body.«package» (with_depends body.inner) (with_depends body.outer)

abbrev pub pairs_of : Contract → List DependsPair
pairs_of c = elim c.depends [ None ↦ [] | Some pairs ↦ pairs ]

-- the place of the aspect's name
abbrev pub aspect_of : Contract → Span
aspect_of c = elim c.depends_place [ None ↦ c.place | Some place ↦ place ]

-- Inputs and outputs

abbrev pub passes_mode : Side → Mode → Bool
passes_mode Side.Input Mode.Input = true
passes_mode Side.Input Mode.Output = false
passes_mode Side.Input Mode.InOut = true
passes_mode Side.Input Mode.ProofIn = false
passes_mode Side.Output Mode.Input = false
passes_mode Side.Output Mode.Output = true
passes_mode Side.Output Mode.InOut = true
passes_mode Side.Output Mode.ProofIn = false

abbrev pub passes_formal : Side → ParamMode → Bool
passes_formal Side.Input ParamMode.In = true
passes_formal Side.Input ParamMode.Out = false
passes_formal Side.Input ParamMode.InOut = true
passes_formal Side.Output ParamMode.In = false
passes_formal Side.Output ParamMode.Out = true
passes_formal Side.Output ParamMode.InOut = true

-- the item of a Global that has it so
abbrev pub IsGlobalOn : Program → Side → GlobalItem → Item → Type 0
IsGlobalOn p side g i = IsTrue (passes_mode side g.mode) × (slice_get p.items g.item.0 ≡ Some i)

-- a formal
abbrev pub IsFormalOn : Side → Formal → Item → Type 0
IsFormalOn side f i = IsTrue (passes_formal side f.mode) × (i ≡ Item.Whole f.var)

-- the result of a body, which is an output
abbrev pub IsResult : Program → ℕ → Side → Item → Type 0
IsResult p b Side.Input i = ⊥
IsResult p b Side.Output (Item.Whole v) = IsSomeAnd (slice_get p.vars v.0) (λ var. IsResultHome b var.home)
IsResult p b Side.Output (Item.State s) = ⊥
IsResult p b Side.Output (Item.Guard o) = ⊥

-- the object of an operation is its implied formal, in for functions and in out for others
abbrev pub has_own : Side → BodyKind → Bool
has_own Side.Input kind = true
has_own Side.Output BodyKind.Procedure = true
has_own Side.Output BodyKind.Function = false
has_own Side.Output BodyKind.Entry = true
has_own Side.Output BodyKind.Task = true
has_own Side.Output BodyKind.Elaboration = true
has_own Side.Output BodyKind.Main = true

abbrev pub IsOwn : Body → Side → Item → Type 0
IsOwn body side i = IsTrue (has_own side body.kind) × IsSomeAnd body.object (λ o. i ≡ Item.Guard o)

-- the item is an input or an output of a body, by the Global of its Depends
abbrev pub IsOn : Program → ℕ → Body → Contract → Side → Item → Type 0
IsOn p b body c side i = SomeOf (λ g. IsGlobalOn p side g i) c.globals
    ⊎ (SomeOf (λ f. IsFormalOn side f i) body.formals
    ⊎ (SomeOf (λ j. IsResult p b side j × (i ≡ j)) p.items
    ⊎ IsOwn body side i))

-- Mentions

abbrev pub item_at : Program → Option ItemNo → Option Item
item_at p None = None
item_at p (Some n) = slice_get p.items n.0

-- the item of a pair with no input
abbrev pub left_of : Program → Option ItemNo → Option ItemNo → Option Item
left_of p None output = item_at p output
left_of p (Some i) output = None

-- for which mention on the right, or on the left, the pair stands
abbrev pub mention : Program → Side → DependsPair → Option Item
mention p Side.Input pair = item_at p pair.input
mention p Side.Output pair = left_of p pair.input pair.output

abbrev pub IsMentioned : Program → Side → List DependsPair → Item → Type 0
IsMentioned p side pairs i = SomeOf (λ pair. mention p side pair ≡ Some i) pairs

-- the pair says that the output depends on the input
abbrev pub IsSaid : Program → Item → DependsPair → Item → Type 0
IsSaid p o pair i = (item_at p pair.output ≡ Some o) × (item_at p pair.input ≡ Some i)

-- the place of the first mention on the left, or that of the aspect's name
abbrev pub IsFirstPlace : Program → Span → List DependsPair → Item → Span → Type 0
IsFirstPlace p aspect [] o place = place ≡ aspect
IsFirstPlace p aspect (pair ∷ rest) o place =
    ((mention p Side.Output pair ≡ Some o) × (place ≡ pair.place))
    ⊎ (((mention p Side.Output pair ≡ Some o) → ⊥) × IsFirstPlace p aspect rest o place)

-- Used pairs

-- a leaf whose value at entry may decide that of this leaf at the return is seen as the item
abbrev pub IsDecidedBy : Program → Rows → ℕ → Body → ℕ → ℕ → Item → Type 0
IsDecidedBy p rows b body leaf from i = told rows (of_body b (Depending from leaf)) × IsBodyView p body.object (depends_view body) from i

-- the leaf is seen as the item, and stays as it was, since the row does not speak of it
abbrev pub IsUntold : Program → Rows → ℕ → Body → ℕ → Item → Type 0
IsUntold p rows b body leaf i =
    ((row_of rows b).returns × ((row_of rows b).leaves leaf → ⊥)) × IsBodyView p body.object (depends_view body) leaf i

abbrev pub IsSource : Program → Rows → ℕ → Body → ℕ → Item → Type 0
IsSource p rows b body leaf i = ((from : ℕ) × IsDecidedBy p rows b body leaf from i) ⊎ IsUntold p rows b body leaf i

-- some leaf of the output depends on the item; an output that may stay as it was depends on itself
abbrev pub IsUsed : Program → Rows → ℕ → Body → Item → Item → Type 0
IsUsed p rows b body o i = SomeLeaf p o (λ leaf. IsSource p rows b body leaf i) ⊎ (IsLeft p (row_of rows b) o × (i ≡ o))

abbrev pub IsUsedPair : Program → Rows → ℕ → Body → Contract → Item → Item → Type 0
IsUsedPair p rows b body c o i = IsOn p b body c Side.Output o × IsUsed p rows b body o i

-- D01, of an output that depends on some items: on one of which no pair says so

pub record TellsMissing (p : Program) (body : Body) (place : Span) (o i : Item) (m : Message) : Type 0 where
  pub output : List ℕ
  pub is_output : IsItemName p body.object o output
  pub input : List ℕ
  pub is_input : IsItemName p body.object i input
  pub message : m ≡ error_at place code.D01 (missing_dependency_text output input body.name)

abbrev pub IsUnsaid : Program → Body → Span → List DependsPair → Item → (Item → Type 0) → Message → Type 0
IsUnsaid p body aspect pairs o Used m = (i : Item) × ((Used i × (SomeOf (λ pair. IsSaid p o pair i) pairs → ⊥))
    × ((place : Span) × (IsFirstPlace p aspect pairs o place × TellsMissing p body place o i m)))

-- D02, of such an output: a pair says so of another item

pub record TellsUnused (p : Program) (body : Body) (pair : DependsPair) (o i : Item) (m : Message) : Type 0 where
  pub output : List ℕ
  pub is_output : IsItemName p body.object o output
  pub input : List ℕ
  pub is_input : IsItemName p body.object i input
  pub message : m ≡ warning_at pair.place code.D02 (unused_dependency_text output input body.name)

abbrev pub IsUnused : Program → Body → Item → (Item → Type 0) → DependsPair → Message → Type 0
IsUnused p body o Used pair m = (i : Item) × ((IsSaid p o pair i × (Used i → ⊥)) × TellsUnused p body pair o i m)

-- D01 and D02 of one item
abbrev pub IsWrongPair : Program → Body → Span → List DependsPair → Item → (Item → Type 0) → Message → Type 0
IsWrongPair p body aspect pairs o Used m = IsUnsaid p body aspect pairs o Used m ⊎ SomeOf (λ pair. IsUnused p body o Used pair m) pairs

-- D03, of one item

abbrev pub fault_text : Fault → List ℕ → List ℕ
fault_text Fault.Doubled = doubled_output_text
fault_text (Fault.Stranger Side.Input) = no_input_text
fault_text (Fault.Stranger Side.Output) = no_output_text
fault_text (Fault.Absent Side.Input) = missing_input_text
fault_text (Fault.Absent Side.Output) = missing_output_text

pub record TellsFault (p : Program) (body : Body) (fault : Fault) (place : Span) (i : Item) (m : Message) : Type 0 where
  pub name : List ℕ
  pub is_name : IsItemName p body.object i name
  pub message : m ≡ error_at place code.D03 (fault_text fault name)

-- the pair at a place stands for a mention on the left, and one before it does so of the same item
abbrev pub IsDoubled : Program → Body → List DependsPair → ℕ → Message → Type 0
IsDoubled p body pairs k m = IsSomeAnd (slice_get pairs k) (λ pair. IsSomeAnd (mention p Side.Output pair) (λ o.
    IsMentioned p Side.Output (take k pairs) o × TellsFault p body Fault.Doubled pair.place o m))

-- a mention on a side to which the item does not belong
abbrev pub IsStranger : Program → Body → Side → (Item → Type 0) → DependsPair → Message → Type 0
IsStranger p body side On pair m =
    IsSomeAnd (mention p side pair) (λ i. (On i → ⊥) × TellsFault p body (Fault.Stranger side) pair.place i m)

-- an item that is not mentioned on the side to which it belongs
abbrev pub IsAbsent : Program → Body → Side → (Item → Type 0) → Span → List DependsPair → Message → Type 0
IsAbsent p body side On aspect pairs m =
    (i : Item) × ((On i × (IsMentioned p side pairs i → ⊥)) × TellsFault p body (Fault.Absent side) aspect i m)

abbrev pub IsWrongSide : Program → Body → Side → (Item → Type 0) → Span → List DependsPair → Message → Type 0
IsWrongSide p body side On aspect pairs m =
    SomeOf (λ pair. IsStranger p body side On pair m) pairs ⊎ IsAbsent p body side On aspect pairs m

-- All of them

-- D03
abbrev pub IsWrongItem : Program → ℕ → Body → Contract → Message → Type 0
IsWrongItem p b body c m = ((k : ℕ) × IsDoubled p body (pairs_of c) k m)
    ⊎ (IsWrongSide p body Side.Input (IsOn p b body c Side.Input) (aspect_of c) (pairs_of c) m
    ⊎ IsWrongSide p body Side.Output (IsOn p b body c Side.Output) (aspect_of c) (pairs_of c) m)

abbrev pub IsWrongDepends : Program → Rows → ℕ → Body → Contract → Message → Type 0
IsWrongDepends p rows b body c m = IsWrongItem p b body c m
    ⊎ ((o : Item) × IsWrongPair p body (aspect_of c) (pairs_of c) o (IsUsedPair p rows b body c o) m)

abbrev pub IsDependsMessage : Program → Rows → ℕ → Body → Message → Type 0
IsDependsMessage p rows b body m = IsSomeAnd (checked_depends body) (λ c. IsWrongDepends p rows b body c m)
