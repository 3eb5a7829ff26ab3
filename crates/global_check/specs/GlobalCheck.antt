-- The messages on the Global of a body, over its row. They are a set: each message that has one of these forms.
use Rattle.std.specs.Prelude.{◌≡◌, ◌≢◌, ◌⊎◌, ℕ, Bool, true, false, not, List, Option, Some, None, IsSomeAnd, IsTrue, slice_get}
use Rattle.spark_base.specs.declared.numbers.ObjectNo.{ObjectNo}
use Rattle.spark_base.specs.declared.numbers.PackageNo.{PackageNo}
use Rattle.core_form.specs.declared.contract.Contract.{Contract}
use Rattle.core_form.specs.declared.contract.GlobalItem.{GlobalItem}
use Rattle.core_form.specs.declared.contract.Mode.{Mode}
use Rattle.core_form.specs.declared.contract.Mode.TheVariants as modes
use Rattle.core_form.specs.declared.program.Body.{Body}
use Rattle.core_form.specs.declared.program.BodyKind.{BodyKind}
use Rattle.core_form.specs.declared.program.Home.{Home}
use Rattle.core_form.specs.declared.program.Item.{Item}
use Rattle.core_form.specs.declared.program.Program.{Program}
use Rattle.core_form.specs.declared.program.Sharing.{Sharing}
use Rattle.core_form.specs.Fine.{home_of}
use Rattle.spark_messages.specs.declared.message_texts.UsedMode.{UsedMode}
use Rattle.spark_messages.specs.declared.message_texts.UsedMode.TheVariants as used
use Rattle.spark_messages.specs.declared.messages.Code.TheVariants as code
use Rattle.spark_messages.specs.declared.messages.Message.{Message}
use Rattle.spark_messages.specs.MessageTexts.{unlisted_text, written_input_text, read_output_text, unused_mode_text, writing_function_text}
use Rattle.state_map.specs.Views.{IsBodyView, IsItemName, IsView, is_own}
use Rattle.used_modes.specs.Added.{SomeOf, error_at, warning_at}
use Rattle.used_modes.specs.UsedModes.{BodyFacts, HasMode, IsLeft, IsLibrary, SomeLeaf}
use Rattle.global_check.specs.declared.listing.Listing.{Listing}

-- The Global that is checked

-- the refined one where there is one, else the outer one
abbrev pub checked_of : Option Contract → Option Contract → Option Contract
checked_of (Some inner) outer = Some inner
checked_of None outer = outer

abbrev pub checked_contract : Body → Option Contract
checked_contract body = checked_of body.inner body.outer

-- a contract on a declaration of a package spec is taken as it is seen from outside of all packages
abbrev pub taken_from : Option PackageNo → Option Contract → Option PackageNo
taken_from k None = k
taken_from k (Some c) = elim c.on_spec [ true ↦ None | false ↦ k ]

abbrev pub view_of : Option PackageNo → Option Contract → Option Contract → Option PackageNo
view_of k (Some inner) outer = k
view_of k None outer = taken_from k outer

-- from inside which package the checked Global sees, if any
abbrev pub checked_view : Body → Option PackageNo
checked_view body = view_of body.«package» body.inner body.outer

-- Listed items

-- for more than proofs, for proofs alone, as an output
abbrev pub passes : Listing → Mode → Bool
passes Listing.Used modes.Input = true
passes Listing.Used modes.Output = true
passes Listing.Used modes.InOut = true
passes Listing.Used modes.ProofIn = false
passes Listing.ForProofs modes.Input = false
passes Listing.ForProofs modes.Output = false
passes Listing.ForProofs modes.InOut = false
passes Listing.ForProofs modes.ProofIn = true
passes Listing.AsOutput modes.Input = false
passes Listing.AsOutput modes.Output = true
passes Listing.AsOutput modes.InOut = true
passes Listing.AsOutput modes.ProofIn = false

-- the item is listed so
abbrev pub IsListed : Program → Listing → List GlobalItem → Item → Type 0
IsListed p as_what globals i = SomeOf (λ g. IsTrue (passes as_what g.mode) × (slice_get p.items g.item.0 ≡ Some i)) globals

-- G01

-- the object to which an operation belongs, which is an implied formal of its contracts
abbrev pub is_own_item : Option ObjectNo → Item → Bool
is_own_item own (Item.Whole v) = false
is_own_item own (Item.State s) = false
is_own_item own (Item.Guard o) = is_own own o

-- the body reads or writes a library leaf, and its checked Global sees it as this item, which is not the body's own object
pub record IsUsedAs (p : Program) (row : BodyFacts) (body : Body) (leaf : ℕ) (i : Item) : Type 0 where
  pub library : IsLibrary p leaf
  pub used : row.reads leaf ⊎ row.writes leaf
  pub view : IsBodyView p body.object (checked_view body) leaf i
  pub other : IsTrue (not (is_own_item body.object i))

-- the Global does not list the item, or lists it for proofs alone
abbrev pub IsMissing : Program → List GlobalItem → Item → Type 0
IsMissing p globals i = (IsListed p Listing.Used globals i → ⊥) ⊎ IsListed p Listing.ForProofs globals i

-- some leaf is used as the item, and that is missing
abbrev pub IsUsedUnlisted : Program → BodyFacts → Body → Contract → Item → Type 0
IsUsedUnlisted p row body c i = (leaf : ℕ) × (IsUsedAs p row body leaf i × IsMissing p c.globals i)

pub record TellsUnlisted (p : Program) (row : BodyFacts) (body : Body) (i : Item) (m : Message) : Type 0 where
  pub mode : UsedMode
  pub has_mode : HasMode p row i mode
  pub name : List ℕ
  pub is_name : IsItemName p body.object i name
  pub message : m ≡ error_at body.place code.G01 (unlisted_text name mode body.name)

abbrev pub IsUnlisted : Program → BodyFacts → Body → Contract → Message → Type 0
IsUnlisted p row body c m = (i : Item) × (IsUsedUnlisted p row body c i × TellsUnlisted p row body i m)

-- G02 to G04, on an item of this name

abbrev pub is_clock_sharing : Sharing → Bool
is_clock_sharing Sharing.Plain = false
is_clock_sharing Sharing.Atomic = false
is_clock_sharing (Sharing.Component o) = false
is_clock_sharing Sharing.ClockTime = true

abbrev pub IsClock : Program → Item → Type 0
IsClock p (Item.Whole v) = IsSomeAnd (slice_get p.vars v.0) (λ var. IsTrue (is_clock_sharing var.sharing))
IsClock p (Item.State s) = ⊥
IsClock p (Item.Guard o) = ⊥

-- the item is used less than it is listed; nothing is said so of the clock
pub record IsUsedLess (p : Program) (row : BodyFacts) (body : Body) (g : GlobalItem) (i : Item) (name : List ℕ) (listed : UsedMode) (mode
    : UsedMode) (m : Message) : Type 0 where
  pub has_mode : HasMode p row i mode
  pub other : IsClock p i → ⊥
  pub message : m ≡ warning_at g.place code.G04 (unused_mode_text name listed body.name mode)

-- an Input that is written is G02, an Output that is read or left G03, an Input that is not used and an In_Out that is used otherwise G04
abbrev pub IsWrongMode : Program → BodyFacts → Body → GlobalItem → Item → List ℕ → Mode → Message → Type 0
IsWrongMode p row body g i name modes.Input m =
    (SomeLeaf p i row.writes × (m ≡ error_at g.place code.G02 (written_input_text name body.name)))
    ⊎ IsUsedLess p row body g i name used.Input used.Nothing m
IsWrongMode p row body g i name modes.Output m =
    (SomeLeaf p i row.reads ⊎ IsLeft p row i) × (m ≡ error_at g.place code.G03 (read_output_text name body.name))
IsWrongMode p row body g i name modes.InOut m =
    (mode : UsedMode) × ((mode ≢ used.InOut) × IsUsedLess p row body g i name used.InOut mode m)
IsWrongMode p row body g i name modes.ProofIn m = ⊥

pub record IsListedWrong (p : Program) (row : BodyFacts) (body : Body) (g : GlobalItem) (m : Message) : Type 0 where
  pub item : Item
  pub is_item : slice_get p.items g.item.0 ≡ Some item
  pub name : List ℕ
  pub is_name : IsItemName p body.object item name
  pub wrong : IsWrongMode p row body g item name g.mode m

-- G05

abbrev pub IsResultHome : ℕ → Home → Type 0
IsResultHome b (Home.Package k) = ⊥
IsResultHome b (Home.Local c) = ⊥
IsResultHome b (Home.Formal c) = ⊥
IsResultHome b (Home.Outcome c) = c.0 ≡ b
IsResultHome b (Home.Spare c) = ⊥
IsResultHome b Home.Clock = ⊥

-- the body writes a leaf that is none of its result, and its package sees it as this item
pub record IsWrittenAs (p : Program) (row : BodyFacts) (b : ℕ) (body : Body) (leaf : ℕ) (i : Item) : Type 0 where
  pub written : row.writes leaf
  pub other : IsSomeAnd (home_of p leaf) (IsResultHome b) → ⊥
  pub view : IsView p body.«package» leaf i

-- a Global that is written lists the item as an output
abbrev pub IsDeclaredOutput : Program → Body → Item → Type 0
IsDeclaredOutput p body i = IsSomeAnd body.outer (λ c. IsTrue (not c.derived) × IsListed p Listing.AsOutput c.globals i)

abbrev pub IsWritten : Program → BodyFacts → ℕ → Body → Item → Type 0
IsWritten p row b body i = ((leaf : ℕ) × IsWrittenAs p row b body leaf i) ⊎ IsDeclaredOutput p body i

pub record TellsWritten (p : Program) (body : Body) (i : Item) (m : Message) : Type 0 where
  pub name : List ℕ
  pub is_name : IsItemName p body.object i name
  pub message : m ≡ error_at body.place code.G05 (writing_function_text body.name name)

abbrev pub IsFunctionWriting : Program → BodyFacts → ℕ → Body → Message → Type 0
IsFunctionWriting p row b body m = (body.kind ≡ BodyKind.Function) × ((i : Item) × (IsWritten p row b body i × TellsWritten p body i m))

-- All of them

abbrev pub IsWrongGlobal : Program → BodyFacts → Body → Contract → Message → Type 0
IsWrongGlobal p row body c m = IsUnlisted p row body c m ⊎ SomeOf (λ g. IsListedWrong p row body g m) c.globals

abbrev pub IsGlobalMessage : Program → BodyFacts → ℕ → Body → Message → Type 0
IsGlobalMessage p row b body m = IsSomeAnd (checked_contract body) (λ c. IsWrongGlobal p row body c m) ⊎ IsFunctionWriting p row b body m
