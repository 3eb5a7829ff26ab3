-- What arguments in parentheses make of a prefix, and what they break.
use Rattle.std.specs.Prelude.{◌&&◌, if◌then◌else◌, ◌++◌, Bool, true, false, not, List, Option, Some, None, [], ◌∷◌}
use Rattle.name_findings.specs.Findings.{Finding, refuse_if, refuse_mention, refuse_silent, refuse_word}
use Rattle.name_findings.specs.declared.findings.Mention.{Mention}
use Rattle.name_findings.specs.declared.findings.Spelling.TheVariants as spelled
use Rattle.seen_names.specs.Applications.{applied, is_convertible}
use Rattle.seen_names.specs.Contexts.{Context}
use Rattle.seen_names.specs.Entities.{type_in}
use Rattle.seen_names.specs.declared.applications.Application.{Application}
use Rattle.seen_names.specs.declared.applications.Application.TheVariants as applications
use Rattle.seen_names.specs.declared.entities.Entity.{Entity}
use Rattle.seen_names.specs.declared.entities.Entity.TheVariants.{Mark, Nothing}
use Rattle.spark_base.specs.declared.numbers.Pos.{Pos}
use Rattle.spark_base.specs.declared.numbers.TypeNo.{TypeNo}
use Rattle.spark_messages.specs.declared.messages.Code.TheVariants as codes
use Rattle.static_meanings.specs.Meanings.{unknown}
use Rattle.static_eval.specs.declared.judgements.Judgement.{Judgement}
use Rattle.value_rules.specs.Statics.{applied_faults}

abbrev pub only_entity : List Entity → Entity
only_entity (a ∷ []) = a
only_entity _ = Nothing

-- N01: what stands for no type
abbrev pub no_mark_found : Option Mention → Entity → List Finding
no_mark_found m Nothing = []
no_mark_found m (Mark t) = []
no_mark_found m _ = refuse_mention codes.N01 m

-- what the whole stands for: whether there is one argument that is a plain value, whether the arguments are not those that are
-- asked for, and what the one stands for
abbrev pub applied_by : Context → Bool → Bool → Entity → Application → Entity
applied_by c has_value unfit a application = applied c has_value (not unfit) a application

-- N08, at the last word of the prefix
abbrev pub refuse_at : Bool → Option Mention → List Finding
refuse_at holds m = if holds then refuse_mention codes.N08 m else []

abbrev pub is_no_conversion : Context → Option TypeNo → Bool → Entity → Bool
is_no_conversion c (Some t) has_value a = not (is_convertible c t has_value (type_in a))
is_no_conversion c None has_value a = false

-- Y04 of one value that cannot be converted
abbrev pub conversion_found : Context → Option Mention → Pos → Option TypeNo → Bool → Bool → Entity → List Finding
conversion_found c m at t unfit has_value a =
    refuse_at unfit m ++ refuse_silent (not unfit && is_no_conversion c t has_value a) codes.Y04 at

-- the last word of the prefix, its first place; whether the arguments are not those that are asked for, whether there is one
-- that is a plain value, and what it stands for
abbrev pub application_found : Context → Option Mention → Pos → Bool → Bool → Entity → Application → List Finding
application_found c m at unfit has_value a applications.ToNothing = []
application_found c m at unfit has_value a (applications.Conversion t) = conversion_found c m at t unfit has_value a
application_found c m at unfit has_value a (applications.Call f is_behind n) = refuse_if unfit codes.N08 f.at (spelled.Word f.expr)
application_found c m at unfit has_value a (applications.ClockCall f) = refuse_word codes.N08 f.at f.expr
application_found c m at unfit has_value a (applications.ProductCall f factor) = refuse_if unfit codes.N08 f.at (spelled.Word f.expr)
application_found c m at unfit has_value a (applications.Index v index of) = refuse_at unfit m
application_found c m at unfit has_value a applications.NoArray = refuse_silent true codes.Y07 at
application_found c m at unfit has_value a (applications.NoFunction f) = refuse_word codes.N07 f.at f.expr
application_found c m at unfit has_value a applications.NoValue = refuse_mention codes.N06 m

-- Y01 of a product of a unit of time
abbrev pub product_faults : Pos → Bool → List Judgement → Application → List Finding
product_faults at sure parts (applications.ProductCall m factor) = applied_faults at sure unknown parts
product_faults at sure parts a = []
