-- The order of the units of trees, or why there is none.
use Rattle.std.specs.Prelude.{◌≡◌, ℕ, List, [], slice_get, Option, Some, None, Result, Ok, Err}
use Rattle.spark_base.specs.declared.numbers.DeclNo.{DeclNo}
use Rattle.spark_base.specs.declared.numbers.FileNo.{FileNo}
use Rattle.spark_base.specs.declared.numbers.Pos.{Pos}
use Rattle.spark_base.specs.declared.name.Name.{Name}
use Rattle.spark_messages.specs.MessageTexts.{declared_twice_text, differing_text, not_visible_text, refusal_text, second_main_text}
use Rattle.spark_messages.specs.declared.messages.Code.{Code}
use Rattle.spark_messages.specs.declared.messages.Code.TheVariants as codes
use Rattle.spark_messages.specs.declared.messages.Kind.TheVariants as kinds
use Rattle.spark_messages.specs.declared.messages.Message.{Message}
use Rattle.spark_messages.specs.declared.messages.PhaseFault.{PhaseFault}
use Rattle.spark_messages.specs.declared.messages.PhaseFault.TheVariants as refusals
use Rattle.ada_tree.specs.declared.units.Unit.{Unit as TheUnit}
use Rattle.ada_tree.specs.declared.units.Units.{Units}
use Rattle.ada_forms.specs.Forms.{Expr}
use Rattle.unit_names.specs.Names.{name_fault_of}
use Rattle.unit_names.specs.declared.heads.Head.{Head}
use Rattle.unit_names.specs.declared.heads.Part.TheVariants as parts
use Rattle.unit_names.specs.declared.passes.UnitFault.{UnitFault}
use Rattle.unit_names.specs.declared.passes.UnitFault.TheVariants as faults
use Rattle.package_order.specs.Packages.{IsElaboration}
use Rattle.package_order.specs.declared.elaboration.Elaboration.TheVariants as answers
use Rattle.package_order.specs.declared.packages.Item.{Item}
use Rattle.unit_order.specs.Withs.{begins, nowhere, withs_of, written}
use Rattle.unit_order.specs.Heads.{heads_of}
use Rattle.unit_order.specs.Packages.{main_of, packages_of, unit_of, units_of}
use Rattle.unit_order.specs.declared.orders.Order.{Order}

-- A unit's file, place and name. What is not there stands at the first place of the first file; no refusal is about such a unit.

abbrev pub file_of : Option TheUnit → FileNo
file_of None = record { 0 = 0 }
file_of (Some x) = x.span.file

abbrev pub place_of : Option TheUnit → Pos
place_of None = nowhere
place_of (Some x) = x.span.«from»

abbrev pub spelled : Option Name → List ℕ
spelled None = []
spelled (Some name) = name.written

abbrev pub name_of : Option TheUnit → List ℕ
name_of None = []
name_of (Some x) = spelled x.name

abbrev pub decls_of : Option TheUnit → List DeclNo
decls_of None = []
decls_of (Some x) = x.decls

-- the refusal of a unit, at its name
abbrev pub refused_at : Option TheUnit → Code → List ℕ → Message
refused_at x code text = record { file = file_of x; place = place_of x; code = code; text = text; kind = kinds.Refused }

abbrev pub place_of_name : Option Expr → Pos
place_of_name None = nowhere
place_of_name (Some e) = begins e

abbrev pub text_of_name : Option Expr → List ℕ
text_of_name None = []
text_of_name (Some e) = written e

-- the refusal of a name in a with clause, at its first identifier, with the whole name
abbrev pub refused_with : FileNo → Option Expr → Message
refused_with file e = record {
  file = file;
  place = place_of_name e;
  code = codes.N01;
  text = not_visible_text (text_of_name e);
  kind = kinds.Refused;
}

abbrev pub unit_at : Units → ℕ → Option TheUnit
unit_at u n = slice_get u.units n

-- what tells a fault of the names of units
abbrev pub name_message : Units → UnitFault → Message
name_message u (faults.Doubled n) = refused_at (unit_at u n) codes.N02 (declared_twice_text (name_of (unit_at u n)))
name_message u (faults.SecondMain n) = refused_at (unit_at u n) codes.N11 (second_main_text (name_of (unit_at u n)))
name_message u (faults.Unseen n w) = refused_with (file_of (unit_at u n)) (slice_get (withs_of u (decls_of (unit_at u n))) w)
name_message u (faults.WithoutSpec n) = refused_at (unit_at u n) codes.N05 (differing_text (name_of (unit_at u n)))

abbrev pub unit_by : Units → Option ℕ → Option TheUnit
unit_by u None = None
unit_by u (Some n) = unit_at u n

-- what tells that specs with each other in a circle, from the spec of this name on
abbrev pub circle_message : Units → ℕ → Message
circle_message u name = refused_at (unit_by u (unit_of (heads_of u) parts.Spec name)) codes.N03 (refusal_text codes.N03)

abbrev pub order_of : List Head → List Item → Order
order_of heads items = record { units = units_of heads items; main = main_of heads }

-- nothing is refused, and this is the order
pub record IsOrder (u : Units) (o : Order) : Type 0 where
  pub names : name_fault_of (heads_of u) ≡ None
  pub items : List Item
  pub elaboration : IsElaboration (packages_of (heads_of u)) (answers.Order items)
  pub order : o ≡ order_of (heads_of u) items

-- this is the first refusal
pub data IsRefused (u : Units) (m : Message) : Type 0 where
  ByNames : (f : UnitFault) → name_fault_of (heads_of u) ≡ Some f → m ≡ name_message u f → IsRefused u m
  ByCircle : (name : ℕ) → name_fault_of (heads_of u) ≡ None → IsElaboration (packages_of (heads_of u)) (answers.Circle name)
      → m ≡ circle_message u name → IsRefused u m

abbrev pub IsAnswer : Units → Result Order PhaseFault → Type 0
IsAnswer u (Ok o) = IsOrder u o
IsAnswer u (Err (refusals.Refused m)) = IsRefused u m
IsAnswer u (Err refusals.NoMemory) = Unit {0}
