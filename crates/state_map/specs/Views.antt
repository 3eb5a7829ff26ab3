-- As which item a leaf is seen, and how an item is printed.
use Rattle.std.specs.Prelude.{◌≡◌, ℕ, Bool, true, false, if◌then◌else◌, nat_eq, List, Option, Some, None, IsSomeAnd, slice_get}
use Rattle.spark_base.specs.declared.numbers.ObjectNo.{ObjectNo}
use Rattle.spark_base.specs.declared.numbers.PackageNo.{PackageNo}
use Rattle.spark_base.specs.declared.numbers.VarNo.{VarNo}
use Rattle.core_form.specs.declared.program.Home.{Home}
use Rattle.core_form.specs.declared.program.Item.{Item}
use Rattle.core_form.specs.declared.program.Object.{Object}
use Rattle.core_form.specs.declared.program.Program.{Program}
use Rattle.core_form.specs.declared.program.Sharing.{Sharing}
use Rattle.core_form.specs.declared.program.Var.{Var}

-- Views

-- of what a variable is a part: of itself, or of the object whose component it is
abbrev pub owner : VarNo → Sharing → Item
owner v Sharing.Plain = Item.Whole v
owner v Sharing.Atomic = Item.Whole v
owner v (Sharing.Component o) = Item.Guard o
owner v Sharing.ClockTime = Item.Whole v

abbrev pub object_var : Program → Option Object → Option Var
object_var p None = None
object_var p (Some object) = slice_get p.vars object.var.0

-- the variable of an item that is no state
abbrev pub item_var : Program → Item → Option Var
item_var p (Item.Whole v) = slice_get p.vars v.0
item_var p (Item.State s) = None
item_var p (Item.Guard o) = object_var p (slice_get p.objects o.0)

-- whether what has this home is declared in the package from inside which one looks
abbrev pub is_inside : Option PackageNo → Home → Bool
is_inside None home = false
is_inside (Some k) (Home.Package h) = nat_eq k.0 h.0
is_inside (Some k) (Home.Local b) = false
is_inside (Some k) (Home.Formal b) = false
is_inside (Some k) (Home.Outcome b) = false
is_inside (Some k) (Home.Spare b) = false
is_inside (Some k) Home.Clock = false

-- where an item has a state, its own package sees the item, and others see the state
abbrev pub shown : Item → Option ℕ → Bool → Item
shown item None inside = item
shown item (Some s) true = item
shown item (Some s) false = Item.State s

abbrev pub shown_by : Option PackageNo → Item → Option Var → Item
shown_by inside item None = item
shown_by inside item (Some var) = shown item var.state (is_inside inside var.home)

-- an item, as it is seen from inside a package, or from outside of all
abbrev pub seen : Program → Option PackageNo → Item → Item
seen p inside item = shown_by inside item (item_var p item)

-- the variable of a leaf, or the object whose component that is
abbrev pub IsOwner : Program → ℕ → Item → Type 0
IsOwner p leaf item = IsSomeAnd (slice_get p.leaves leaf) (λ l. IsSomeAnd (slice_get p.vars l.var.0) (λ v. item ≡ owner l.var v.sharing))

-- the item as which a leaf is seen
abbrev pub IsView : Program → Option PackageNo → ℕ → Item → Type 0
IsView p inside leaf item = (whole : Item) × (IsOwner p leaf whole × (item ≡ seen p inside whole))

-- the object is that to which the operation belongs
abbrev pub is_own : Option ObjectNo → ObjectNo → Bool
is_own None o = false
is_own (Some k) o = nat_eq k.0 o.0

-- an item, as the contract of a body sees it: an operation's own object is an implied formal there, which has no state
abbrev pub seen_by_body : Program → Option ObjectNo → Option PackageNo → Item → Item
seen_by_body p own inside (Item.Whole v) = seen p inside (Item.Whole v)
seen_by_body p own inside (Item.State s) = Item.State s
seen_by_body p own inside (Item.Guard o) = if is_own own o then Item.Guard o else seen p inside (Item.Guard o)

-- the item as which the contract of a body, an operation of its own object or of none, sees a leaf
abbrev pub IsBodyView : Program → Option ObjectNo → Option PackageNo → ℕ → Item → Type 0
IsBodyView p own inside leaf item = (whole : Item) × (IsOwner p leaf whole × (item ≡ seen_by_body p own inside whole))

-- Names

-- an operation's own object goes by the name of its unit
abbrev pub object_name : Bool → Object → List ℕ
object_name true object = object.unit
object_name false object = object.name

-- the printed name of an item, in a body that is an operation of its own object or of none
abbrev pub IsItemName : Program → Option ObjectNo → Item → List ℕ → Type 0
IsItemName p own (Item.Whole v) name = IsSomeAnd (slice_get p.vars v.0) (λ var. name ≡ var.name)
IsItemName p own (Item.State s) name = IsSomeAnd (slice_get p.states.list s) (λ state. name ≡ state.name)
IsItemName p own (Item.Guard o) name = IsSomeAnd (slice_get p.objects o.0) (λ object. name ≡ object_name (is_own own o) object)
