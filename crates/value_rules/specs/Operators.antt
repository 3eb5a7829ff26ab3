-- What operators make of their operands, and what they break.
use Rattle.std.specs.Prelude.{◌&&◌, ◌++◌, Bool, true, false, List, is_some, Option, Some, None}
use Rattle.ada_forms.specs.declared.forms.BinaryOperator.{BinaryOperator}
use Rattle.ada_forms.specs.declared.forms.UnaryOperator.{UnaryOperator}
use Rattle.name_findings.specs.Findings.{Finding, refuse_silent}
use Rattle.seen_names.specs.Contexts.{Context, sight_at}
use Rattle.seen_names.specs.Entities.{made, sure_in, type_in}
use Rattle.seen_names.specs.declared.entities.Entity.{Entity}
use Rattle.seen_types.specs.Operators.{binary_of, do_not_go, in_range_of, unary_of}
use Rattle.seen_types.specs.declared.seen.ExprType.{ExprType}
use Rattle.spark_base.specs.declared.numbers.Pos.{Pos}
use Rattle.spark_messages.specs.declared.messages.Code.TheVariants as codes
use Rattle.static_eval.specs.declared.judgements.Judgement.{Judgement}
use Rattle.value_rules.specs.Statics.{binary_faults, unary_faults}

-- What they stand for: of parts one of which has no type nothing is made

abbrev pub both_sure : Entity → Entity → Bool
both_sure a b = sure_in a && sure_in b

abbrev pub binary : Context → BinaryOperator → Entity → Entity → Entity
binary c operator a b = made (both_sure a b) (binary_of (sight_at c) operator (type_in a) (type_in b))

abbrev pub unary_entity : Entity → Option ExprType → Entity
unary_entity a made_of = made (sure_in a) made_of

abbrev pub in_range : Context → Entity → Entity → Entity → Entity
in_range c a low high =
    made (sure_in a && both_sure low high) (in_range_of (sight_at c) (type_in a) (type_in low) (type_in high))

-- a value in parentheses is no name
abbrev pub meant_within : Entity → Entity
meant_within a = made (sure_in a) (type_in a)

-- What they break: Y04 where the first token stands, of typed operands that do not go together; Y01 and Y03 at the operator

abbrev pub binary_found : Context → BinaryOperator → Pos → Pos → Entity → Entity → Judgement → Judgement → List Finding
binary_found c operator at start a b j k =
    refuse_silent (do_not_go (type_in a) (type_in b) (binary_of (sight_at c) operator (type_in a) (type_in b))) codes.Y04 start
    ++ binary_faults operator at (sure_in b)
    (both_sure a b && is_some (binary_of (sight_at c) operator (type_in a) (type_in b))) j k

abbrev pub does_not_go : Option ExprType → Option ExprType → Bool
does_not_go (Some t) None = true
does_not_go a made_of = false

abbrev pub unary_found : Context → UnaryOperator → Pos → Entity → Judgement → List Finding
unary_found c operator at a j =
    refuse_silent (does_not_go (type_in a) (unary_of (sight_at c) operator (type_in a))) codes.Y04 at
    ++ unary_faults operator at (sure_in a && is_some (unary_of (sight_at c) operator (type_in a))) j

abbrev pub three_do_not_go : Option ExprType → Option ExprType → Option ExprType → Option ExprType → Bool
three_do_not_go (Some a) (Some low) (Some high) None = true
three_do_not_go a low high made_of = false

abbrev pub in_range_found : Context → Pos → Option ExprType → Option ExprType → Option ExprType → List Finding
in_range_found c at a low high = refuse_silent (three_do_not_go a low high (in_range_of (sight_at c) a low high)) codes.Y04 at
