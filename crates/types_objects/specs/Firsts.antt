-- The first types of types.
use Rattle.std.specs.Prelude.{Option, Some, None, slice_get}
use Rattle.spark_base.specs.declared.numbers.TypeNo.{TypeNo}
use Rattle.types_objects.specs.declared.types.Types.{Types}

abbrev pub first_in : Option TypeNo → TypeNo → TypeNo
first_in None t = t
first_in (Some first) t = first

-- the type from whose declaration a type comes; of a number that is not in the table itself
abbrev pub first_of : Types → TypeNo → TypeNo
first_of types t = first_in (slice_get types.first t.0) t
