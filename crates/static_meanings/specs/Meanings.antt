-- What names mean, as far as static values go.
use Rattle.std.specs.Prelude.{ℕ, false, List, Option, Some, None, ℤ, pos, negsuc, if◌then◌else◌, codes, is_some}
use Rattle.spark_base.specs.declared.numbers.TypeNo.{TypeNo}
use Rattle.ada_tree.specs.Words.{is_written}
use Rattle.static_meanings.specs.declared.meanings.Meaning.{Meaning}
use Rattle.static_meanings.specs.declared.meanings.Range.{Range}
use Rattle.static_meanings.specs.declared.meanings.Sense.TheVariants as senses

-- the predefined discrete types, by their numbers

abbrev pub type_at : ℕ → TypeNo
type_at n = record { 0 = n }

abbrev pub booleans : Range
booleans = record {
  subtype = type_at 0;
  first = type_at 0;
  low = pos 0;
  high = pos 1;
  least = pos 0;
  greatest = pos 1;
  modular = None;
}

-- a subtype of Integer
abbrev pub integers_from : ℕ → ℤ → Range
integers_from n low = record {
  subtype = type_at n;
  first = type_at 1;
  low = low;
  high = pos 2147483647;
  least = negsuc 2147483647;
  greatest = pos 2147483647;
  modular = None;
}

abbrev pub integers : Range
integers = integers_from 1 (negsuc 2147483647)

-- meanings

abbrev pub mark : Option Range → Meaning
mark range = record { sense = senses.Mark; range = range; is_static = false; value = None }

abbrev pub object : Option Range → Option ℤ → Meaning
object range value = record { sense = senses.Value; range = range; is_static = is_some value; value = value }

abbrev pub scale : ℤ → Meaning
scale n = record { sense = senses.Scale n; range = None; is_static = false; value = None }

-- of a name of which nothing is known
abbrev pub unknown : Meaning
unknown = object None None

unfoldable pub of_real_time : List ℕ → Meaning
of_real_time text =
    if is_written text (codes "time") then mark None else
    if is_written text (codes "time_span") then mark None else
    if is_written text (codes "time_span_zero") then object None (Some (pos 0)) else
    if is_written text (codes "nanoseconds") then scale (pos 1) else
    if is_written text (codes "microseconds") then scale (pos 1000) else
    if is_written text (codes "milliseconds") then scale (pos 1000000) else
    if is_written text (codes "seconds") then scale (pos 1000000000) else
    if is_written text (codes "minutes") then scale (pos 60000000000) else unknown

-- what a predefined name means, in whatever case
unfoldable pub predefined : List ℕ → Meaning
predefined text =
    if is_written text (codes "integer") then mark (Some integers) else
    if is_written text (codes "natural") then mark (Some (integers_from 2 (pos 0))) else
    if is_written text (codes "positive") then mark (Some (integers_from 3 (pos 1))) else
    if is_written text (codes "boolean") then mark (Some booleans) else
    if is_written text (codes "false") then object (Some booleans) (Some (pos 0)) else
    if is_written text (codes "true") then object (Some booleans) (Some (pos 1)) else of_real_time text
