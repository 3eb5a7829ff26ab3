-- Choices of cases and of array aggregates.
use Rattle.std.specs.Prelude.{◌∷◌, ◌++◌, List, ℤ, Option, []}
use Rattle.ada_forms.specs.Forms.{Expr, OthersChoice, RangeChoice, ValueChoice}
use Rattle.choice_covers.specs.Covers.{between}
use Rattle.choice_covers.specs.declared.choices.Covering.{Covering}
use Rattle.choice_covers.specs.declared.choices.Covering.TheVariants.{Others, Unclear}
use Rattle.choice_covers.specs.declared.choices.Placed.{Placed}
use Rattle.expr_scenes.specs.Statics.{said}
use Rattle.expr_scenes.specs.Typing.{meant}
use Rattle.expr_outlines.specs.Outlines.{begins, choices_of}
use Rattle.expr_rules.specs.Choices.{choice_reading, chosen_found, fitting_value, value_choice_found, value_covering}
use Rattle.name_findings.specs.Findings.{Finding}
use Rattle.part_slots.specs.Records.{pairing_at, pairings_behind}
use Rattle.part_slots.specs.declared.readings.Reading.TheVariants.{Free}
use Rattle.part_slots.specs.declared.slots.Pairing.{Pairing}
use Rattle.part_slots.specs.declared.slots.Pairing.TheVariants.{ForElements}
use Rattle.seen_names.specs.Contexts.{Context}
use Rattle.spark_base.specs.declared.numbers.TypeNo.{TypeNo}

-- what a choice breaks among the values of a type

abbrev pub name_or_value_found : Context → Option TypeNo → Expr → List Finding
name_or_value_found c of value = value_choice_found c of value (begins value) (meant c (choice_reading value) value) (said c value)

abbrev pub bound_found : Context → Option TypeNo → Expr → List Finding
bound_found c of t = chosen_found c of (begins t) (meant c Free t) (said c t)

-- what a choice covers

abbrev pub bound_value : Context → TypeNo → Expr → Option ℤ
bound_value c of t = fitting_value c of (meant c Free t) (said c t)

abbrev pub covering : Context → TypeNo → Expr → Covering
covering c of (ValueChoice e at value) = value_covering c of value (meant c (choice_reading value) value) (said c value)
covering c of (RangeChoice e at low high) = between (bound_value c of low) (bound_value c of high)
covering c of (OthersChoice e at) = Others
covering c of t = Unclear

abbrev pub placed : Context → TypeNo → List Expr → List Placed
placed c of [] = []
placed c of (t ∷ ts) = record { at = begins t; covering = covering c of t } ∷ placed c of ts

-- the choices of associations among the values of an index

abbrev pub placed_by : Context → Pairing → Expr → List Placed
placed_by c (ForElements index of) t = placed c index (choices_of t)
placed_by c p t = []

abbrev pub all_placed : Context → List Pairing → List Expr → List Placed
all_placed c ps [] = []
all_placed c ps (t ∷ ts) = placed_by c (pairing_at ps) t ++ all_placed c (pairings_behind ps) ts
