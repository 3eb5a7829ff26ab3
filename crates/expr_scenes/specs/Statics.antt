-- What is said of the values of expressions.
use Rattle.std.specs.Prelude.{◌∷◌, Bool, List, ℤ, Option, []}
use Rattle.ada_forms.specs.AttributeWords.{property_of}
use Rattle.ada_forms.specs.Forms.{Applied, Argument, Attribute, Binary, Conditional, End, Expr, Exprs, Identifier, InMark, InRange, NamedArgument, Number, Parenthesized, Qualified, Selected, Then, Unary}
use Rattle.expr_scenes.specs.Typing.{meant}
use Rattle.expr_outlines.specs.Outlines.{begins}
use Rattle.value_rules.specs.Names.{named_entity, selected_entity}
use Rattle.value_rules.specs.Statics.{mark_said, meaning_of, static_value, unstatic_found}
use Rattle.name_findings.specs.Findings.{Finding}
use Rattle.name_marks.specs.Marks.{mark_of}
use Rattle.part_slots.specs.declared.readings.Reading.{Reading}
use Rattle.part_slots.specs.declared.readings.Reading.TheVariants.{AsName, Free}
use Rattle.seen_names.specs.Contexts.{Context}
use Rattle.seen_names.specs.Entities.{sure_in}
use Rattle.static_eval.specs.Judgements.{nothing_said}
use Rattle.static_eval.specs.Judgements as says
use Rattle.static_eval.specs.declared.judgements.Judgement.{Judgement}

abbrev mutual
  -- what is said of an expression in a context; an aggregate is never static, and so is what stands in other places
  pub said : Context → Expr → Judgement
  said c (Number e at n) = says.literal at n
  said c (Identifier e at name) = says.identifier at (meaning_of c (named_entity c e at name))
  said c (Selected e at name prefix) = says.selected at (meaning_of c (selected_entity c e at name (meant c AsName prefix))) (said c prefix)
  said c (Applied e at prefix arguments) =
      says.applied at (meaning_of c (meant c AsName (Applied e at prefix arguments))) (said c prefix ∷ said_all c arguments)
  said c (Attribute e at name prefix arguments) = says.attribute at (property_of name.written) (said c prefix ∷ said_all c arguments)
  said c (Qualified e at mark value) = says.qualified at (said c mark) (said c value)
  said c (Argument e at value) = says.passed at (said c value)
  said c (NamedArgument e at formal value) = says.passed at (said c value)
  said c (Parenthesized e at inner) = says.passed at (said c inner)
  said c (Unary e at operator operand) = says.unary operator at (said c operand)
  said c (Binary e at operator place left right) = says.binary operator at place (said c left) (said c right)
  said c (InRange e at is_not value low high) = says.in_range at is_not (said c value) (said c low) (said c high)
  said c (InMark e at is_not value m) = says.in_mark at is_not (said c value) (mark_said c at (mark_of c m))
  said c (Conditional e at condition rest) = says.conditional at (said c condition ∷ said_all c rest)
  said c _ = nothing_said

  pub said_all : Context → Exprs → List Judgement
  said_all c End = []
  said_all c (Then t ts) = said c t ∷ said_all c ts

-- whether it is known of an expression that is read so if it is static
abbrev pub is_sure : Context → Reading → Expr → Bool
is_sure c r t = sure_in (meant c r t)

-- the value of a static expression
abbrev pub value_of : Context → Expr → Option ℤ
value_of c t = static_value (is_sure c Free t) (said c t)

abbrev pub static_found : Context → Reading → Expr → List Finding
static_found c r t = unstatic_found (begins t) (is_sure c r t) (said c t)
