-- The range that an array has before its entry is there, while its elements wait for their type.
use Rattle.std.specs.Prelude.{Option, Some, None, slice_get}
use Rattle.spark_base.specs.declared.name.Name.{Name}
use Rattle.spark_base.specs.declared.numbers.DeclNo.{DeclNo}
use Rattle.ada_forms.specs.Declarations.{Decl}
use Rattle.ada_forms.specs.Declarations as decls
use Rattle.ada_forms.specs.Forms.{Expr, SubtypeRange, BoundsRange, AttributeRange}
use Rattle.ada_tree.specs.declared.units.Units.{Units}
use Rattle.static_eval.specs.declared.known.Known.{Known}
use Rattle.static_meanings.specs.declared.meanings.Range.{Range}
use Rattle.static_eval.specs.Known.{range_of_indication}
use Rattle.types_objects.specs.declared.made.Made.{Made}
use Rattle.types_objects.specs.declared.made.Made.TheVariants as made
use Rattle.types_objects.specs.declared.made.NewType.{NewType}
use Rattle.types_objects.specs.declared.ranges.Limits.{Limits}
use Rattle.types_objects.specs.declared.types.TypeForm.{TypeForm}
use Rattle.types_objects.specs.declared.types.TypeForm.TheVariants as forms
use Rattle.types_objects.specs.declared.types.Types.{Types}
use Rattle.types_objects.specs.Made.{indicated, index_between, range_in}
use Rattle.types_objects.specs.Ranges.{discrete_range, greatest_in, limits_in, range_with}

abbrev pub own_limits : TypeForm → Option Limits
own_limits (forms.Signed low high) = Some (record { low = low; high = high })
own_limits _ = None

-- an index of its own has no number yet: that of its first type stands for it
abbrev pub range_to_come : Types → NewType → Option Range
range_to_come types new =
    range_with new.first new.first (own_limits new.def.form) (limits_in (slice_get types.list new.first.0))
    (greatest_in (slice_get types.list new.first.0))

abbrev pub range_made : Types → Made → Option Range
range_made types (made.Same t) = discrete_range types t
range_made types (made.One new) = range_to_come types new
range_made types _ = None

abbrev pub early_index : Types → Units → Known → Name → DeclNo → Expr → Option Range
early_index types u k name d (SubtypeRange e at subtype) = range_made types (indicated types u k name d subtype)
early_index types u k name d (BoundsRange e at low high) = range_made types (index_between u k name d low high)
early_index types u k name d (AttributeRange e at attribute) = range_in u k attribute
early_index types u k name d _ = None

-- the range of a declaration that waits: of an array that of its index, of a subtype that of its mark
abbrev pub early_range : Types → Units → Known → Decl → Option Range
early_range types u k (decls.ArrayType d at name index element) = early_index types u k name d index
early_range types u k (decls.Subtype d at name subtype) = range_of_indication k subtype
early_range types u k _ = None
