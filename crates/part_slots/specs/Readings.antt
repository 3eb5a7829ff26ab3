-- How expressions are read.
use Rattle.std.specs.Prelude.{Bool, if◌then◌else◌, Option, Some, None}
use Rattle.expr_outlines.specs.Outlines.{is_aggregate}
use Rattle.part_slots.specs.declared.readings.Reading.{Reading}
use Rattle.part_slots.specs.declared.readings.Reading.TheVariants as readings
use Rattle.seen_types.specs.declared.seen.ExprType.{ExprType}

-- as a value of this type: of one that is not known where there is none
abbrev pub expecting : Option ExprType → Reading
expecting None = readings.Hidden
expecting (Some t) = readings.Wanted t

-- where no aggregate can stand: one that does is refused once
abbrev pub tested_reading : Bool → Reading
tested_reading is_aggregate = if is_aggregate then readings.Hidden else readings.Free

-- what stands in parentheses is a value
abbrev pub as_reading : Reading → Reading
as_reading readings.AsName = readings.Free
as_reading r = r
