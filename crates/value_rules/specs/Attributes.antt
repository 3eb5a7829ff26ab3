-- What attributes stand for, and what they break.
use Rattle.std.specs.Prelude.{◌&&◌, Bool, true, List, is_some, Some, None, [], ◌∷◌}
use Rattle.name_findings.specs.Findings.{Finding, refuse_if, refuse_silent, refuse_word}
use Rattle.name_findings.specs.declared.findings.Spelling.TheVariants as spelled
use Rattle.seen_names.specs.Attributes.{given_entity, is_sure_argument}
use Rattle.seen_names.specs.Contexts.{Context}
use Rattle.seen_names.specs.Entities.{as_value, type_in}
use Rattle.seen_names.specs.declared.attributes.Gift.{Gift}
use Rattle.seen_names.specs.declared.attributes.Gift.TheVariants as gifts
use Rattle.seen_names.specs.declared.entities.Entity.{Entity}
use Rattle.seen_names.specs.declared.entities.Entity.TheVariants.{Mark}
use Rattle.spark_base.specs.declared.numbers.ExprNo.{ExprNo}
use Rattle.spark_base.specs.declared.numbers.Pos.{Pos}
use Rattle.spark_messages.specs.declared.messages.Code.TheVariants as codes

abbrev pub all_sure : Context → Gift → List Entity → Bool
all_sure c g [] = true
all_sure c g (a ∷ rest) = is_sure_argument c g a && all_sure c g rest

abbrev pub attribute_of : Context → List Entity → Gift → Entity
attribute_of c parts g = given_entity (all_sure c g parts) g

-- at the first token of the whole, or at the word
abbrev pub gift_found : Pos → Pos → ExprNo → Gift → List Finding
gift_found start at e gifts.NoAttribute = refuse_word codes.N01 at e
gift_found start at e gifts.NoRange = refuse_silent true codes.Y07 start
gift_found start at e gifts.NoOrder = refuse_silent true codes.Y04 start
gift_found start at e gifts.WrongCount = refuse_word codes.N08 at e
gift_found start at e _ = []

-- N06: a Range attribute where no range stands, of what has a type
abbrev pub range_found : Context → Pos → Entity → List Finding
range_found c at (Mark None) = []
range_found c at (Mark (Some t)) = refuse_if true codes.N06 at spelled.Range
range_found c at a = refuse_if (is_some (type_in (as_value c a))) codes.N06 at spelled.Range
