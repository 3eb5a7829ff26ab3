-- What names stand for, and what they break where they stand.
use Rattle.std.specs.Prelude.{◌&&◌, if◌then◌else◌, ◌++◌, Bool, true, false, not, nat_eq, List, length, slice_get, Option, Some, None, []}
use Rattle.ada_forms.specs.Forms.{Expr, Identifier, Selected}
use Rattle.ada_forms.specs.declared.attributes.Property.{Property}
use Rattle.ada_forms.specs.declared.attributes.Property.TheVariants as properties
use Rattle.value_rules.specs.Tellings.{denotes, has_type}
use Rattle.name_findings.specs.Findings.{Finding, denotes_decl, refuse_if, refuse_silent, refuse_word}
use Rattle.name_findings.specs.declared.findings.Mention.{Mention}
use Rattle.name_findings.specs.declared.findings.Spelling.TheVariants as spelled
use Rattle.seen_names.specs.Contexts.{Context, visible}
use Rattle.seen_names.specs.Entities.{as_value, is_function, of_shown, selected, selection, type_in}
use Rattle.seen_names.specs.declared.entities.Entity.{Entity}
use Rattle.seen_names.specs.declared.entities.Entity.TheVariants.{Called, Clock, Mark, Nothing, Other, Package, Product, Valuable}
use Rattle.seen_names.specs.declared.selections.Selection.{Selection}
use Rattle.seen_names.specs.declared.selections.Selection.TheVariants.{Component, InPackage, NoComponent, OfNothing, Operation}
use Rattle.seen_names.specs.declared.shown.Callable.{Callable}
use Rattle.seen_names.specs.declared.shown.Shown.{Shown}
use Rattle.seen_names.specs.declared.shown.Subprogram.{Subprogram}
use Rattle.seen_names.specs.declared.shown.Subprogram.TheVariants as forms
use Rattle.seen_types.specs.Types.{maybe_of}
use Rattle.seen_types.specs.declared.seen.ExprType.{ExprType}
use Rattle.spark_base.specs.declared.name.Name.{Name}
use Rattle.spark_base.specs.declared.numbers.ExprNo.{ExprNo}
use Rattle.spark_base.specs.declared.numbers.Pos.{Pos}
use Rattle.spark_messages.specs.declared.messages.Code.TheVariants as codes

abbrev pub mention : ExprNo → Pos → Mention
mention e at = record { at = at; expr = e }

-- N01: the name is not visible; what is predefined has no declaration
abbrev pub name_found : ExprNo → Pos → Option Shown → List Finding
name_found e at None = refuse_word codes.N01 at e
name_found e at (Some s) = denotes_decl e s.decl

-- the type that a mark denotes
abbrev pub mark_type : Entity → Option ExprType
mark_type (Mark t) = maybe_of t
mark_type _ = None

-- what a name at a place stands for that begins there, and what behind a prefix and a point

abbrev pub named_entity : Context → ExprNo → Pos → Name → Entity
named_entity c e at name = of_shown (mention e at) (visible c.tables name)

abbrev pub selected_entity : Context → ExprNo → Pos → Name → Entity → Entity
selected_entity c e at name prefix = selected (mention e at) (selection c name prefix)

-- Calls

abbrev pub is_entry : Subprogram → Bool
is_entry forms.Entry = true
is_entry _ = false

-- N10: an entry that is called without its object; N08: the arguments are not those of the formals
abbrev pub call_found : Mention → Bool → Subprogram → Bool → List Finding
call_found m is_behind form are_wrong =
    refuse_if (is_entry form && not is_behind) codes.N10 m.at (spelled.Word m.expr)
    ++ refuse_if are_wrong codes.N08 m.at (spelled.Word m.expr)

-- A function that stands alone is called without arguments

abbrev pub bare_call_found : Mention → Callable → List Finding
bare_call_found m f = refuse_if (not (nat_eq (length f.formals) 0)) codes.N08 m.at (spelled.Word m.expr)

abbrev pub taken_call_found : Mention → Option Callable → List Finding
taken_call_found m None = []
taken_call_found m (Some f) = if is_function f.form then bare_call_found m f else refuse_word codes.N07 m.at m.expr

-- a name that is taken as a value: a function is called, and all else but a value is refused
abbrev pub taken_found : Context → Mention → Entity → List Finding
taken_found c m Nothing = []
taken_found c m (Valuable v) = []
taken_found c m (Called f is_behind n) = taken_call_found f (slice_get c.tables.callables n)
taken_found c m (Clock f) = []
taken_found c m (Product f factor) = refuse_word codes.N08 f.at f.expr
taken_found c m (Package p) = refuse_word codes.N06 m.at m.expr
taken_found c m (Mark t) = refuse_word codes.N06 m.at m.expr
taken_found c m Other = refuse_word codes.N06 m.at m.expr

-- the type of what a function gives that stands alone
abbrev pub call_type : Context → ExprNo → Entity → List Finding
call_type c e (Valuable v) = []
call_type c e a = has_type e (type_in (as_value c a))

-- Names

abbrev pub selection_found : ExprNo → Pos → Selection → List Finding
selection_found e at OfNothing = []
selection_found e at (InPackage s) = name_found e at s
selection_found e at (Component v f) = denotes_decl e (Some f.decl)
selection_found e at (Operation s) = denotes e (Some s)
selection_found e at NoComponent = refuse_silent true codes.Y06 at

-- what a name breaks that is taken as a value
abbrev pub taken_at : Context → ExprNo → Pos → Entity → List Finding
taken_at c e at a = taken_found c (mention e at) a ++ call_type c e a

-- what a prefix breaks that is taken as a value, if it is a name

abbrev pub taken_in : Context → Expr → Entity → List Finding
taken_in c (Identifier e at name) a = taken_at c e at a
taken_in c (Selected e at name prefix) a = taken_at c e at a
taken_in c t a = []

-- a package before a point is no value, nor what has an attribute that is a type

abbrev pub prefix_taken : Context → Expr → Entity → List Finding
prefix_taken c prefix (Package p) = []
prefix_taken c prefix a = taken_in c prefix a

abbrev pub bearer_taken : Context → Property → Expr → Entity → List Finding
bearer_taken c properties.Other prefix a = []
bearer_taken c what prefix (Mark t) = []
bearer_taken c what prefix a = taken_in c prefix a
