-- What names stand for as they are read, and what they break.
use Rattle.std.specs.Prelude.{◌++◌, List}
use Rattle.name_findings.specs.Findings.{Finding}
use Rattle.part_slots.specs.declared.readings.Reading.{Reading}
use Rattle.part_slots.specs.declared.readings.Reading.TheVariants.{AsName}
use Rattle.seen_names.specs.Contexts.{Context}
use Rattle.seen_names.specs.Entities.{as_value, type_in}
use Rattle.seen_names.specs.declared.entities.Entity.{Entity}
use Rattle.spark_base.specs.declared.numbers.ExprNo.{ExprNo}
use Rattle.spark_base.specs.declared.numbers.Pos.{Pos}
use Rattle.value_rules.specs.Names.{taken_at}
use Rattle.value_rules.specs.Tellings.{has_type}

-- where a name is read as a value, a function in it is called
abbrev pub read : Context → Reading → Entity → Entity
read c AsName a = a
read c r a = as_value c a

-- what a name breaks that stands for this, read so
abbrev pub read_found : Context → Reading → ExprNo → Pos → Entity → List Finding
read_found c AsName e at a = has_type e (type_in a)
read_found c r e at a = has_type e (type_in a) ++ taken_at c e at a
