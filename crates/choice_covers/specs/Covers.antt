-- The values that choices of cases and of array aggregates cover.
use Rattle.std.specs.Prelude.{Bool, true, false, not, ◌&&◌, ◌||◌, if◌then◌else◌, List, [], ◌∷◌, ◌++◌, ℤ, int_le, int_lt, Option, Some}
use Rattle.spark_base.specs.declared.numbers.Pos.{Pos}
use Rattle.spark_messages.specs.declared.messages.Code.{Code}
use Rattle.spark_messages.specs.declared.messages.Code.TheVariants as codes
use Rattle.name_findings.specs.Findings.{Finding, refuse_silent}
use Rattle.choice_covers.specs.declared.choices.Bounds.{Bounds}
use Rattle.choice_covers.specs.declared.choices.Covering.{Covering}
use Rattle.choice_covers.specs.declared.choices.Covering.TheVariants.{Unclear, Others, From}
use Rattle.choice_covers.specs.declared.choices.Placed.{Placed}
use Rattle.choice_covers.specs.Parts.{do_meet, has_gap}

abbrev pub between : Option ℤ → Option ℤ → Covering
between (Some low) (Some high) = From low high
between low high = Unclear

-- What choices cover together

pub record Cover : Type 0 where
  pub parts : List (ℤ × ℤ)
  -- behind `others`
  pub is_closed : Bool
  -- each choice has values
  pub is_clear : Bool

abbrev pub nothing_covered : Cover
nothing_covered = record { parts = []; is_closed = false; is_clear = true }

-- a choice that covers what was covered, or stands behind others; an empty one covers nothing
abbrev pub is_doubled : Cover → Covering → Bool
is_doubled s Unclear = false
is_doubled s Others = s.is_closed
is_doubled s (From low high) = s.is_closed || (int_le low high && do_meet s.parts low high)

abbrev pub with_part : Cover → ℤ → ℤ → Cover
with_part s low high = if int_le low high then record s { parts = (low, high) ∷ s.parts } else s

abbrev pub with_choice : Cover → Covering → Cover
with_choice s Unclear = record s { is_clear = false }
with_choice s Others = record s { is_closed = true }
with_choice s (From low high) = if s.is_closed then s else with_part s low high

-- values are missing where each choice has values and there is no others
abbrev pub is_incomplete : Cover → Bounds → Bool
is_incomplete s bounds = s.is_clear && not s.is_closed && has_gap s.parts bounds.low bounds.high

-- Choices in the order of the source

abbrev pub cover_of : Cover → List Placed → Cover
cover_of s [] = s
cover_of s (p ∷ ps) = cover_of (with_choice s p.covering) ps

-- each choice that is doubled, at it
abbrev pub doubled_found : Code → Cover → List Placed → List Finding
doubled_found code s [] = []
doubled_found code s (p ∷ ps) = refuse_silent (is_doubled s p.covering) code p.at ++ doubled_found code (with_choice s p.covering) ps

-- values missing, at the place of what has the choices
abbrev pub gap_found : Code → Pos → Bounds → List Placed → List Finding
gap_found code at bounds ps = refuse_silent (is_incomplete (cover_of nothing_covered ps) bounds) code at

-- the rule of choices
abbrev pub coverage_found : Code → Pos → Bounds → List Placed → List Finding
coverage_found code at bounds ps = doubled_found code nothing_covered ps ++ gap_found code at bounds ps

-- of an array also one outside its index

abbrev pub is_outside : Bounds → Covering → Bool
is_outside bounds (From low high) = int_le low high && (int_lt low bounds.low || int_lt bounds.high high)
is_outside bounds a = false

abbrev pub outside_found : Bounds → List Placed → List Finding
outside_found bounds [] = []
outside_found bounds (p ∷ ps) = refuse_silent (is_outside bounds p.covering) codes.Y09 p.at ++ outside_found bounds ps
