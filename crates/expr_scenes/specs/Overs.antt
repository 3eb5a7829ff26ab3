-- How the code goes over an expression: down the parts that are read first, and up again.
use Rattle.std.specs.Prelude.{◌≡◌, if◌then◌else◌, List, [], ◌∷◌, ◌++◌, Option, Some, None}
use Rattle.spark_base.specs.declared.numbers.ExprNo.{ExprNo}
use Rattle.ada_tree.specs.declared.expressions.ExprNode.{ExprNode}
use Rattle.ada_forms.specs.AttributeWords.{property_of}
use Rattle.ada_forms.specs.declared.attributes.Property.TheVariants as properties
use Rattle.ada_forms.specs.Forms.{Expr, Selected, Applied, Attribute, RangeAttribute, Qualified, Binary, expr_of}
use Rattle.static_eval.specs.Judgements.{nothing_said}
use Rattle.name_findings.specs.Findings.{Finding}
use Rattle.expr_outlines.specs.Outlines.{begins, count_of, edges, edges_in, ending, trees}
use Rattle.part_slots.specs.declared.readings.Reading.{Reading}
use Rattle.part_slots.specs.declared.readings.Reading.TheVariants.{AsName, Free}
use Rattle.part_slots.specs.Calls.{are_unfit, argument_slots, gift_slots, has_value}
use Rattle.part_slots.specs.Readings.{expecting}
use Rattle.seen_names.specs.declared.entities.Entity.TheVariants.{Nothing}
use Rattle.seen_names.specs.Applications.{application}
use Rattle.seen_names.specs.Contexts.{Context}
use Rattle.seen_names.specs.Entities.{selection, sure_in}
use Rattle.value_rules.specs.Applications.{no_mark_found}
use Rattle.value_rules.specs.Names.{mark_type}
use Rattle.expr_rules.specs.Arguments.{given_by}
use Rattle.expr_rules.specs.Names.{read_found}
use Rattle.expr_rules.specs.Operands.{is_turned, right_reading}
use Rattle.value_rules.specs.Applications.{application_found, only_entity, product_faults}
use Rattle.value_rules.specs.Attributes.{gift_found, range_found}
use Rattle.value_rules.specs.Names.{bearer_taken, prefix_taken, selected_entity, selection_found}
use Rattle.value_rules.specs.Operators.{binary_found}
use Rattle.value_rules.specs.Standings.{unfit_found}
use Rattle.value_rules.specs.Statics.{attribute_faults}
use Rattle.value_rules.specs.Tellings.{has_type}
use Rattle.expr_scenes.specs.declared.senses.Sense.{Sense}
use Rattle.expr_scenes.specs.declared.spines.Step.{Step}
use Rattle.expr_scenes.specs.Found.{found, parts_found}
use Rattle.expr_scenes.specs.Statics.{said, said_all}
use Rattle.expr_scenes.specs.Typing.{meant, meant_parts, type_of}

-- what an expression is that is read so
abbrev pub sense_of : Context → Reading → Expr → Sense
sense_of c r t = record { entity = meant c r t; said = said c t; edges = edges t }

-- that of no expression
abbrev pub no_sense : Sense
no_sense = record { entity = Nothing; said = nothing_said; edges = edges_in None }

-- the part of a name or of an operator that is read first: of these there may be any count one in the other
abbrev pub inner : Expr → Option Expr
inner (Selected e at name prefix) = Some prefix
inner (Applied e at prefix arguments) = Some prefix
inner (Attribute e at name prefix arguments) = Some prefix
inner (RangeAttribute e at prefix arguments) = Some prefix
inner (Qualified e at mark value) = Some mark
inner (Binary e at operator place left right) = if is_turned operator left right then None else Some left
inner _ = None

abbrev pub inner_reading : Expr → Reading
inner_reading (Binary e at operator place left right) = Free
inner_reading _ = AsName

abbrev pub sense_in : Context → Reading → Option Expr → Sense
sense_in c r None = no_sense
sense_in c r (Some t) = sense_of c r t

abbrev pub found_in : Context → Reading → Option Expr → List Finding
found_in c r None = []
found_in c r (Some t) = found c r t

-- what is found behind that part
abbrev pub own_found : Context → Reading → Expr → List Finding
own_found c r (Selected e at name prefix) =
    prefix_taken c prefix (meant c AsName prefix)
    ++ (selection_found e at (selection c name (meant c AsName prefix))
    ++ read_found c r e at (selected_entity c e at name (meant c AsName prefix)))
own_found c r (Applied e at prefix arguments) =
    parts_found c (argument_slots c.tables (application c (meant c AsName prefix)) (trees arguments)) arguments
    ++ (application_found c (ending prefix) (begins prefix)
    (are_unfit c.tables (application c (meant c AsName prefix)) (trees arguments)) (has_value (trees arguments))
    (only_entity (meant_parts c (argument_slots c.tables (application c (meant c AsName prefix)) (trees arguments)) arguments))
    (application c (meant c AsName prefix))
    ++ (product_faults at (sure_in (meant c r (Applied e at prefix arguments))) (said c prefix ∷ said_all c arguments)
    (application c (meant c AsName prefix))
    ++ has_type e (type_of c r (Applied e at prefix arguments))))
own_found c r (Attribute e at name prefix arguments) =
    bearer_taken c (property_of name.written) prefix (meant c AsName prefix)
    ++ (parts_found c (gift_slots (given_by c name arguments (meant c AsName prefix)) (count_of arguments)) arguments
    ++ (gift_found (begins prefix) at e (given_by c name arguments (meant c AsName prefix))
    ++ (attribute_faults at (sure_in (meant c r (Attribute e at name prefix arguments))) (property_of name.written)
    (said c prefix ∷ said_all c arguments)
    ++ has_type e (type_of c r (Attribute e at name prefix arguments)))))
own_found c r (RangeAttribute e at prefix arguments) =
    bearer_taken c properties.First prefix (meant c AsName prefix)
    ++ (parts_found c [] arguments ++ range_found c at (meant c AsName prefix))
own_found c r (Qualified e at mark value) =
    no_mark_found (ending mark) (meant c AsName mark)
    ++ (found c (expecting (mark_type (meant c AsName mark))) value
    ++ (unfit_found c (mark_type (meant c AsName mark)) (begins value) (type_of c (expecting (mark_type (meant c AsName mark))) value)
    ++ has_type e (type_of c r (Qualified e at mark value))))
own_found c r (Binary e at operator place left right) =
    if is_turned operator left right then found c r (Binary e at operator place left right)
    else found c (right_reading operator (type_of c Free left)) right
    ++ (binary_found c operator place (begins left) (meant c Free left) (meant c (right_reading operator (type_of c Free left)) right)
    (said c left) (said c right)
    ++ has_type e (type_of c r (Binary e at operator place left right)))
own_found c r t = found c r t

-- Numbers on the way

abbrev pub read_inner : (ExprNo → Expr) → Option ExprNo → Option Expr
read_inner tree None = None
read_inner tree (Some c) = Some (tree c)

abbrev pub reversed : {A : Type 0} → List A → List A
reversed [] = []
reversed (x ∷ xs) = reversed xs ++ x ∷ []

-- an expression, those above it, the nearest first, and the whole: each is the inner part of the next, read as that asks for
abbrev pub Leads : List ExprNode → Step → List Step → Step → Type 0
Leads exprs whole [] below = below ≡ whole
Leads exprs whole (x ∷ xs) below =
    (inner (expr_of exprs x.e) ≡ Some (expr_of exprs below.e))
    × (below.reading ≡ inner_reading (expr_of exprs x.e)) × Leads exprs whole xs x
