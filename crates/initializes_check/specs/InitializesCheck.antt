-- The messages on what elaborations write and leave unassigned, over given rows. They are a set: each message that has one of these forms.
-- `loose n` are the leaves that may be unassigned before the n-th item of the order, counted from 0, or behind all at their count.
use Rattle.std.specs.Prelude.{◌≡◌, ◌⊎◌, ◌+◌, ◌<◌, ℕ, Bool, List, [], Option, Some, None, IsSomeAnd, length, slice_get, slice_index_or}
use Rattle.spark_base.specs.declared.numbers.BodyNo.{BodyNo}
use Rattle.spark_base.specs.declared.numbers.Span.{Span}
use Rattle.core_form.specs.declared.program.Body.{Body}
use Rattle.core_form.specs.declared.program.Home.{Home}
use Rattle.core_form.specs.declared.program.InitialItem.{InitialItem}
use Rattle.core_form.specs.declared.program.Item.{Item}
use Rattle.core_form.specs.declared.program.Leaf.{Leaf}
use Rattle.core_form.specs.declared.program.Package.{Package}
use Rattle.core_form.specs.declared.program.Part.{Part}
use Rattle.core_form.specs.declared.program.Program.{Program}
use Rattle.core_form.specs.declared.program.Sharing.{Sharing}
use Rattle.core_form.specs.declared.program.TaskUnit.{TaskUnit}
use Rattle.core_form.specs.Fine.{home_of}
use Rattle.core_form.specs.Leaves.{IsLeafOf}
use Rattle.flow_bits.specs.Sets.{Has}
use Rattle.spark_messages.specs.declared.messages.Code.TheVariants as code
use Rattle.spark_messages.specs.declared.messages.Message.{Message}
use Rattle.spark_messages.specs.MessageTexts.{unassigned_initial_text, unlisted_initial_text, foreign_write_text, unassigned_at_start_text}
use Rattle.state_map.specs.Views.{IsItemName}
use Rattle.summary_rows.specs.declared.rows.Rows.{Rows}
use Rattle.summary_rows.specs.Layout.{told}
use Rattle.callee_view.specs.Seen.{seen}
use Rattle.used_modes.specs.Added.{SomeOf, error_at, warning_at}
use Rattle.used_modes.specs.UsedModes.{BodyFacts, IsLibrary, SomeLeaf, row_of}

-- What may be unassigned after a package

-- the n-th item of the order is of the package
abbrev pub IsItemOf : Program → ℕ → ℕ → Type 0
IsItemOf p k n = IsSomeAnd (slice_get p.order n) (λ b. IsSomeAnd (slice_get p.bodies b.0) (λ body. body.«package» ≡ Some (record { 0 = k })))

-- and it is the last of them
pub record IsLastOf (p : Program) (k n : ℕ) : Type 0 where
  pub item : IsItemOf p k n
  pub last : (m : ℕ) → n < m → IsItemOf p k m → ⊥

-- a leaf may be unassigned after the items of a package: never, where it has none
abbrev pub IsLooseAfter : Program → (ℕ → ℕ → Type 0) → ℕ → ℕ → Type 0
IsLooseAfter p loose k leaf = (n : ℕ) × (IsLastOf p k n × loose (n + 1) leaf)

-- I01: an item of Initializes has a leaf that may be unassigned then
pub record IsNotInitialized (p : Program) (unset : ℕ → Type 0) (listed : InitialItem) (m : Message) : Type 0 where
  pub item : Item
  pub is_item : slice_get p.items listed.item.0 ≡ Some item
  pub some_unset : SomeLeaf p item unset
  pub name : List ℕ
  pub is_name : IsItemName p None item name
  pub message : m ≡ error_at listed.place code.I01 (unassigned_initial_text name)

-- I02

abbrev pub IsHomeIn : ℕ → Home → Type 0
IsHomeIn k (Home.Package h) = h.0 ≡ k
IsHomeIn k (Home.Local b) = ⊥
IsHomeIn k (Home.Formal b) = ⊥
IsHomeIn k (Home.Outcome b) = ⊥
IsHomeIn k (Home.Spare b) = ⊥
IsHomeIn k Home.Clock = ⊥

abbrev pub IsOfNoObject : Sharing → Type 0
IsOfNoObject Sharing.Plain = Unit {0}
IsOfNoObject Sharing.Atomic = Unit {0}
IsOfNoObject (Sharing.Component o) = ⊥
IsOfNoObject Sharing.ClockTime = ⊥

-- the variable that spans the components of an object
abbrev pub IsObjectVar : Program → ℕ → Type 0
IsObjectVar p v = SomeOf (λ object. object.var.0 ≡ v) p.objects

-- a variable of the visible part that is no object and no component of one
pub record IsVisibleVar (p : Program) (k v : ℕ) (home : Home) (part : Part) (sharing : Sharing) : Type 0 where
  pub is_in : IsHomeIn k home
  pub is_visible : part ≡ Part.Visible
  pub no_component : IsOfNoObject sharing
  pub no_object : IsObjectVar p v → ⊥

-- what an Initializes is to list: a state that has leaves, or such a variable
abbrev pub IsCandidate : Program → ℕ → Item → Type 0
IsCandidate p k (Item.State s) =
    IsSomeAnd (slice_get p.states.list s) (λ state. state.«package».0 ≡ k) × ((leaf : ℕ) × IsLeafOf p (Item.State s) leaf)
IsCandidate p k (Item.Whole v) = IsSomeAnd (slice_get p.vars v.0) (λ var. IsVisibleVar p k v.0 var.home var.part var.sharing)
IsCandidate p k (Item.Guard o) = ⊥

abbrev pub IsListed : Program → List InitialItem → Item → Type 0
IsListed p initial item = SomeOf (λ i. slice_get p.items i.item.0 ≡ Some item) initial

-- a warning: an Initializes that is written lacks a candidate all of whose leaves are surely assigned then
pub record IsNotListed (p : Program) (unset : ℕ → Type 0) (k : ℕ) (written : Option Span) (initial : List InitialItem) (item : Item) (m
    : Message) : Type 0 where
  pub place : Span
  pub is_place : written ≡ Some place
  pub candidate : IsCandidate p k item
  pub unlisted : IsListed p initial item → ⊥
  pub assigned : SomeLeaf p item unset → ⊥
  pub name : List ℕ
  pub is_name : IsItemName p None item name
  pub message : m ≡ warning_at place code.I02 (unlisted_initial_text name)

-- I03: an elaboration writes a library leaf of another package, or the clock
pub record IsForeignWrite (p : Program) (row : BodyFacts) (body : Body) (leaf : ℕ) (m : Message) : Type 0 where
  pub written : row.writes leaf
  pub library : IsLibrary p leaf
  pub other : IsSomeAnd body.«package» (λ k. IsSomeAnd (home_of p leaf) (IsHomeIn k.0)) → ⊥
  pub is_leaf : Leaf
  pub has_leaf : slice_get p.leaves leaf ≡ Some is_leaf
  pub «package» : Package
  pub is_package : IsSomeAnd body.«package» (λ k. slice_get p.packages k.0 ≡ Some «package»)
  pub message : m ≡ error_at body.place code.I03 (foreign_write_text «package».name is_leaf.name)

-- I04: of this name, it reads a leaf that may be unassigned when it begins
pub record IsUnsetThen (p : Program) (reads unset : ℕ → Type 0) (body : Body) (name : List ℕ) (leaf : ℕ) (m : Message) : Type 0 where
  pub read : reads leaf
  pub may_lack : unset leaf
  pub is_leaf : Leaf
  pub has_leaf : slice_get p.leaves leaf ≡ Some is_leaf
  pub message : m ≡ error_at body.place code.I04 (unassigned_at_start_text is_leaf.name name)

-- Of a package

abbrev pub IsOfInitializes : Program → (ℕ → Type 0) → ℕ → Option Span → List InitialItem → Message → Type 0
IsOfInitializes p unset k written initial m =
    SomeOf (λ i. IsNotInitialized p unset i m) initial ⊎ ((item : Item) × IsNotListed p unset k written initial item m)

abbrev pub IsOfPackage : Program → (ℕ → ℕ → Type 0) → ℕ → Package → Message → Type 0
IsOfPackage p loose k «package» m =
    IsSomeAnd «package».initial (λ initial. IsOfInitializes p (IsLooseAfter p loose k) k «package».initial_place initial m)

-- Of what begins: `rows` tell of bodies, and `outside b` is what body b reads as the environment sees it

abbrev pub IsOfStart : Program → (ℕ → ℕ → Type 0) → (ℕ → Type 0) → BodyNo → Body → List ℕ → Message → Type 0
IsOfStart p outside unset b body name m = (leaf : ℕ) × IsUnsetThen p (outside b.0) unset body name leaf m

abbrev pub IsOfElaboration : Program → (ℕ → BodyFacts) → (ℕ → ℕ → Type 0) → (ℕ → Type 0) → BodyNo → Message → Type 0
IsOfElaboration p rows outside unset b m = IsSomeAnd (slice_get p.bodies b.0) (λ body.
    ((leaf : ℕ) × IsForeignWrite p (rows b.0) body leaf m) ⊎ IsOfStart p outside unset b body body.name m)

abbrev pub IsOfMain : Program → (ℕ → ℕ → Type 0) → (ℕ → Type 0) → BodyNo → Message → Type 0
IsOfMain p outside unset b m = IsSomeAnd (slice_get p.bodies b.0) (λ body. IsOfStart p outside unset b body body.name m)

abbrev pub IsOfTask : Program → (ℕ → ℕ → Type 0) → (ℕ → Type 0) → TaskUnit → Message → Type 0
IsOfTask p outside unset t m = IsSomeAnd (slice_get p.bodies t.body.0) (λ body. IsOfStart p outside unset t.body body t.name m)

-- All of them: the main and the tasks begin behind all elaborations
abbrev pub IsInitialMessage : Program → (ℕ → BodyFacts) → (ℕ → ℕ → Type 0) → (ℕ → ℕ → Type 0) → Message → Type 0
IsInitialMessage p rows outside loose m = ((k : ℕ) × IsSomeAnd (slice_get p.packages k) (λ «package». IsOfPackage p loose k «package» m))
    ⊎ (((n : ℕ) × IsSomeAnd (slice_get p.order n) (λ b. IsOfElaboration p rows outside (loose n) b m))
    ⊎ (IsSomeAnd p.main (λ b. IsOfMain p outside (loose (length p.order)) b m)
    ⊎ SomeOf (λ t. IsOfTask p outside (loose (length p.order)) t m) p.tasks))

-- By rows and sets

-- what a body reads as the environment sees it: by its contract, where it has one, else by its row
abbrev pub reads_outside : Program → Rows → ℕ → ℕ → Type 0
reads_outside p rows b = (seen p rows.layout (told rows) None (record { 0 = b })).reads

-- the leaves of the n-th of these sets
abbrev pub loose_by : List (List Bool) → ℕ → ℕ → Type 0
loose_by moments n leaf = Has (slice_index_or moments n []) leaf

-- over these rows and sets
abbrev pub IsInitialMessageBy : Program → Rows → List (List Bool) → Message → Type 0
IsInitialMessageBy p rows moments m = IsInitialMessage p (row_of rows) (reads_outside p rows) (loose_by moments) m
