-- What the kinds and codes of messages mean.
use Rattle.std.specs.Prelude.{List, ℕ, Bool, true, false, codes, ◌↔◌}
use Rattle.std.specs.List.{Contains}
use Rattle.std.specs.Ordering.{nat_cmp, on, then_cmp}
use Rattle.std.specs.Cmp.Lexicographic.{slice_cmp}
use Rattle.std.specs.declared.cmp.Ordering.{Ordering}
use Rattle.spark_messages.specs.declared.messages.Kind.{Kind}
use Rattle.spark_messages.specs.declared.messages.Kind.TheVariants as kinds
use Rattle.spark_messages.specs.declared.messages.Code.{Code}
use Rattle.spark_messages.specs.declared.messages.Code.TheVariants as code
use Rattle.spark_messages.specs.declared.messages.Message.{Message}

-- errors and refusals count as errors
abbrev pub is_grave : Kind → Bool
is_grave kinds.Error = true
is_grave kinds.Refused = true
is_grave kinds.Warning = false

-- the kind as it is printed
abbrev pub kind_text : Kind → List ℕ
kind_text kinds.Error = codes "error"
kind_text kinds.Warning = codes "warning"
kind_text kinds.Refused = codes "refused"

-- the code as it is printed
abbrev pub code_text : Code → List ℕ
code_text code.A01 = codes "A01"
code_text code.D01 = codes "D01"
code_text code.D02 = codes "D02"
code_text code.D03 = codes "D03"
code_text code.F01 = codes "F01"
code_text code.F02 = codes "F02"
code_text code.G01 = codes "G01"
code_text code.G02 = codes "G02"
code_text code.G03 = codes "G03"
code_text code.G04 = codes "G04"
code_text code.G05 = codes "G05"
code_text code.I01 = codes "I01"
code_text code.I02 = codes "I02"
code_text code.I03 = codes "I03"
code_text code.I04 = codes "I04"
code_text code.L01 = codes "L01"
code_text code.L02 = codes "L02"
code_text code.L03 = codes "L03"
code_text code.L04 = codes "L04"
code_text code.N01 = codes "N01"
code_text code.N02 = codes "N02"
code_text code.N03 = codes "N03"
code_text code.N04 = codes "N04"
code_text code.N05 = codes "N05"
code_text code.N06 = codes "N06"
code_text code.N07 = codes "N07"
code_text code.N08 = codes "N08"
code_text code.N09 = codes "N09"
code_text code.N10 = codes "N10"
code_text code.N11 = codes "N11"
code_text code.N12 = codes "N12"
code_text code.R01 = codes "R01"
code_text code.R02 = codes "R02"
code_text code.R03 = codes "R03"
code_text code.R04 = codes "R04"
code_text code.R05 = codes "R05"
code_text code.R06 = codes "R06"
code_text code.S01 = codes "S01"
code_text code.T01 = codes "T01"
code_text code.T02 = codes "T02"
code_text code.T03 = codes "T03"
code_text code.T04 = codes "T04"
code_text code.U01 = codes "U01"
code_text code.X01 = codes "X01"
code_text code.X02 = codes "X02"
code_text code.X03 = codes "X03"
code_text code.X04 = codes "X04"
code_text code.X05 = codes "X05"
code_text code.X06 = codes "X06"
code_text code.Y01 = codes "Y01"
code_text code.Y02 = codes "Y02"
code_text code.Y03 = codes "Y03"
code_text code.Y04 = codes "Y04"
code_text code.Y05 = codes "Y05"
code_text code.Y06 = codes "Y06"
code_text code.Y07 = codes "Y07"
code_text code.Y08 = codes "Y08"
code_text code.Y09 = codes "Y09"

-- the kinds in the order of their messages
abbrev pub kind_number : Kind → ℕ
kind_number kinds.Error = 0
kind_number kinds.Warning = 1
kind_number kinds.Refused = 2

-- messages are ordered by file, line, column, code, text and kind
abbrev pub order : Message → Message → Ordering
order =
    then_cmp (on (λ m. m.file.0) nat_cmp)
    (then_cmp (then_cmp (on (λ m. m.place.line) nat_cmp) (on (λ m. m.place.col) nat_cmp))
    (then_cmp (on (λ m. code_text m.code) (slice_cmp nat_cmp))
    (then_cmp (on (λ m. m.text) (slice_cmp nat_cmp))
    (on (λ m. kind_number m.kind) nat_cmp))))

-- the two lists have the same messages
pub record HaveSame (xs ys : List Message) : Type 0 where
  pub same : (m : Message) → Contains xs m ↔ Contains ys m
