-- The bounds of discrete types and subtypes.
use Rattle.std.specs.Prelude.{ℕ, ◌-◌, Bool, true, false, Option, Some, None, pos, ◌-ℤ◌, length, slice_get}
use Rattle.spark_base.specs.declared.numbers.TypeNo.{TypeNo}
use Rattle.static_meanings.specs.declared.meanings.Range.{Range}
use Rattle.types_objects.specs.declared.ranges.Limits.{Limits}
use Rattle.types_objects.specs.declared.types.TypeDef.{TypeDef}
use Rattle.types_objects.specs.declared.types.TypeForm.{TypeForm}
use Rattle.types_objects.specs.declared.types.TypeForm.TheVariants as forms
use Rattle.types_objects.specs.declared.types.Types.{Types}
use Rattle.types_objects.specs.Firsts.{first_of}

-- the least and the greatest value of a discrete form: of an enumeration the positions of its literals, from zero
abbrev pub limits_of : TypeForm → Option Limits
limits_of (forms.Enumeration names) = Some (record { low = pos 0; high = pos (length names) -ℤ pos 1 })
limits_of (forms.Signed low high) = Some (record { low = low; high = high })
limits_of (forms.Modular m) = Some (record { low = pos 0; high = pos m -ℤ pos 1 })
limits_of _ = None

-- the greatest value of a modular form
abbrev pub greatest_of : TypeForm → Option ℕ
greatest_of (forms.Modular m) = Some (m - 1)
greatest_of _ = None

abbrev pub limits_in : Option TypeDef → Option Limits
limits_in None = None
limits_in (Some x) = limits_of x.form

abbrev pub greatest_in : Option TypeDef → Option ℕ
greatest_in None = None
greatest_in (Some x) = greatest_of x.form

-- its own limits, and those of its first type
abbrev pub range_with : TypeNo → TypeNo → Option Limits → Option Limits → Option ℕ → Option Range
range_with t first None whole modular = None
range_with t first (Some own) None modular = None
range_with t first (Some own) (Some whole) modular =
    Some (record {
      subtype = t;
      first = first;
      low = own.low;
      high = own.high;
      least = whole.low;
      greatest = whole.high;
      modular = modular;
    })

abbrev pub range_from : Types → TypeNo → TypeNo → Option Range
range_from types t first =
    range_with t first (limits_in (slice_get types.list t.0)) (limits_in (slice_get types.list first.0))
    (greatest_in (slice_get types.list first.0))

-- the bounds of a discrete type
abbrev pub discrete_range : Types → TypeNo → Option Range
discrete_range types t = range_from types t (first_of types t)

abbrev pub range_by_form : Types → TypeNo → TypeForm → Option Range
range_by_form types t (forms.Array index of) = discrete_range types index
range_by_form types t _ = discrete_range types t

abbrev pub range_in : Types → TypeNo → Option TypeDef → Option Range
range_in types t None = None
range_in types t (Some x) = range_by_form types t x.form

-- the bounds of a discrete type, or of the index of an array
abbrev pub range_of : Types → TypeNo → Option Range
range_of types t = range_in types t (slice_get types.list t.0)

-- whole numbers

abbrev pub is_whole_form : TypeForm → Bool
is_whole_form (forms.Signed low high) = true
is_whole_form (forms.Modular m) = true
is_whole_form _ = false

abbrev pub is_whole_in : Option TypeDef → Bool
is_whole_in None = false
is_whole_in (Some x) = is_whole_form x.form

-- whether the first type of a type is one of whole numbers
abbrev pub is_integer : Types → TypeNo → Bool
is_integer types t = is_whole_in (slice_get types.list (first_of types t).0)
