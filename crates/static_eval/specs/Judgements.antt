-- What is said of an expression by its form, over what is said of its parts.
use Rattle.std.specs.Prelude.{ℕ, ◌^◌, Bool, true, false, not, ◌&&◌, List, [], ◌∷◌, Option, Some, None, ℤ, pos, if◌then◌else◌, int_le, int_lt, nat_lt, is_some}
use Rattle.std.specs.Ordering.{int_eq}
use Rattle.spark_base.specs.declared.numbers.Pos.{Pos}
use Rattle.ada_tree.specs.declared.expressions.RelationalOperator.{RelationalOperator}
use Rattle.ada_forms.specs.declared.attributes.Property.{Property}
use Rattle.ada_forms.specs.declared.attributes.Property.TheVariants as properties
use Rattle.ada_forms.specs.declared.forms.BinaryOperator.{BinaryOperator}
use Rattle.ada_forms.specs.declared.forms.BinaryOperator.TheVariants as between_two
use Rattle.ada_forms.specs.declared.forms.UnaryOperator.{UnaryOperator}
use Rattle.ada_forms.specs.declared.forms.UnaryOperator.TheVariants as before_one
use Rattle.static_eval.specs.declared.judgements.Failure.TheVariants as failures
use Rattle.static_eval.specs.declared.judgements.Fault.{Fault}
use Rattle.static_eval.specs.declared.judgements.Judgement.{Judgement}
use Rattle.static_meanings.specs.declared.meanings.Meaning.{Meaning}
use Rattle.static_meanings.specs.declared.meanings.Range.{Range}
use Rattle.static_meanings.specs.declared.meanings.Sense.{Sense}
use Rattle.static_meanings.specs.declared.meanings.Sense.TheVariants as senses
use Rattle.static_numbers.specs.declared.numbers.Computed.{Computed}
use Rattle.static_numbers.specs.declared.numbers.Computed.TheVariants as made
use Rattle.static_numbers.specs.declared.numbers.Computing.{Computing}
use Rattle.static_numbers.specs.declared.numbers.Computing.TheVariants as how
use Rattle.static_numbers.specs.declared.numbers.Preceding.{Preceding}
use Rattle.static_numbers.specs.declared.numbers.Preceding.TheVariants as leads
use Rattle.static_meanings.specs.Meanings.{booleans, integers}
use Rattle.static_numbers.specs.Numbers.{adding, compute, compute_alone, divides, fitted, is_other, length, logical, multiplied, multiplying, relate, sign, truth, within}

-- Parts

abbrev pub earlier : Option Fault → Option Fault → Option Fault
earlier (Some a) b = Some a
earlier None b = b

-- the first fault in the parts, in the order of the source
abbrev pub first_fault : List Judgement → Option Fault
first_fault [] = None
first_fault (j ∷ js) = earlier j.fault (first_fault js)

abbrev pub either : Option Range → Option Range → Option Range
either (Some a) b = Some a
either None b = b

abbrev pub all_static : List Judgement → Bool
all_static [] = true
all_static (j ∷ js) = if j.is_static then all_static js else false

abbrev pub modular_of : Option Range → Option ℕ
modular_of None = None
modular_of (Some range) = range.modular

-- of what is not static: where it begins, and what is broken in its parts
abbrev pub plain : Pos → Pos → Option Fault → Judgement
plain begins at fault = record {
  begins = begins;
  at = at;
  sense = senses.Value;
  range = None;
  of = None;
  is_static = false;
  value = None;
  fault = fault;
}

-- of what is no node
abbrev pub nowhere : Pos
nowhere = record { line = 1; col = 1 }

abbrev pub nothing_said : Judgement
nothing_said = plain nowhere nowhere None

unfoldable pub unstatic : Pos → List Judgement → Judgement
unstatic at parts = plain at at (first_fault parts)

-- Values

abbrev pub number_of : Computed → Option ℤ
number_of (made.Number n) = Some n
number_of made.Outside = None
number_of made.Nothing = None

abbrev pub outside_at : Computed → Pos → Option Fault
outside_at (made.Number n) place = None
outside_at made.Outside place = Some (record { failure = failures.Outside; place = place })
outside_at made.Nothing place = None

abbrev pub is_zero : Option ℤ → Bool
is_zero (Some n) = int_eq n (pos 0)
is_zero None = false

abbrev pub literal_of : Judgement → ℕ → Judgement
literal_of base n =
    if nat_lt n (2 ^ 127) then record base { is_static = true; value = Some (pos n) }
    else record base { is_static = true; fault = outside_at made.Outside base.at }

unfoldable pub literal : Pos → ℕ → Judgement
literal at n = literal_of (plain at at None) n

-- what the inner part says
abbrev pub pass : Judgement → Judgement → Judgement
pass base a = record base { of = a.of; is_static = a.is_static; value = a.value }

unfoldable pub passed : Pos → Judgement → Judgement
passed at a = pass (plain at at a.fault) a

unfoldable pub named_argument : Pos → Judgement → Judgement → Judgement
named_argument at formal a = pass (plain at at (earlier formal.fault a.fault)) a

-- Operators

abbrev pub both : Computing → Option ℤ → Option ℤ → Option ℕ → Computed
both word None b modular = made.Nothing
both word (Some a) None modular = made.Nothing
both word (Some a) (Some b) modular = compute word a b modular

-- what is broken at an operator: a static zero on the right of a division is refused whatever stands on the left
abbrev pub fault_between : Computing → Pos → Judgement → Computed → Option Fault
fault_between word place right computed =
    if divides word && right.is_static && is_zero right.value then Some (record { failure = failures.Divided; place = place })
    else outside_at computed place

abbrev pub computed_between : Computing → Pos → Pos → Judgement → Judgement → Option Range → Computed → Judgement
computed_between word at place a b of computed = record (plain at at None) {
  of = of;
  is_static = a.is_static && b.is_static;
  value = number_of computed;
  fault = earlier a.fault (earlier (fault_between word place b computed) b.fault);
}

abbrev pub between : Computing → Pos → Pos → Judgement → Judgement → Judgement
between word at place a b =
    computed_between word at place a b (either a.of b.of) (both word a.value b.value (modular_of (either a.of b.of)))

abbrev pub related : RelationalOperator → Option ℤ → Option ℤ → Computed
related operator None b = made.Nothing
related operator (Some a) None = made.Nothing
related operator (Some a) (Some b) = truth (relate operator a b)

-- a truth value
abbrev pub tested : Pos → Option Fault → Bool → Computed → Judgement
tested at fault is_static computed = record (plain at at fault) { of = Some booleans; is_static = is_static; value = number_of computed }

abbrev pub relation : RelationalOperator → Pos → Judgement → Judgement → Judgement
relation operator at a b = tested at (earlier a.fault b.fault) (a.is_static && b.is_static) (related operator a.value b.value)

-- an operator between two parts
unfoldable pub binary : BinaryOperator → Pos → Pos → Judgement → Judgement → Judgement
binary (between_two.Logical operator) at place a b = between (logical operator) at place a b
binary (between_two.Relation operator) at place a b = relation operator at a b
binary (between_two.Sum operator) at place a b = between (adding operator) at place a b
binary (between_two.Product operator) at place a b = between (multiplying operator) at place a b
binary between_two.Power at place a b = between how.Power at place a b

abbrev pub alone : Preceding → Option ℤ → Option ℕ → Computed
alone word None modular = made.Nothing
alone word (Some a) modular = compute_alone word a modular

abbrev pub preceding : UnaryOperator → Preceding
preceding (before_one.Sign operator) = sign operator
preceding before_one.Absolute = leads.Absolute
preceding before_one.Not = leads.Not

abbrev pub computed_alone : Pos → Judgement → Computed → Judgement
computed_alone at a computed = record (plain at at None) {
  of = a.of;
  is_static = a.is_static;
  value = number_of computed;
  fault = earlier (outside_at computed at) a.fault;
}

-- an operator before its part
unfoldable pub unary : UnaryOperator → Pos → Judgement → Judgement
unary operator at a = computed_alone at a (alone (preceding operator) a.value (modular_of a.of))

-- Memberships

abbrev pub in_bounds : Option ℤ → Option ℤ → Option ℤ → Computed
in_bounds low high None = made.Nothing
in_bounds None high (Some n) = made.Nothing
in_bounds (Some low) None (Some n) = made.Nothing
in_bounds (Some low) (Some high) (Some n) = truth (int_le low n && int_le n high)

abbrev pub turned : Computed → Bool → Computed
turned (made.Number n) is_not = truth (is_other (not (int_eq n (pos 0))) is_not)
turned made.Outside is_not = made.Nothing
turned made.Nothing is_not = made.Nothing

unfoldable pub in_range : Pos → Bool → Judgement → Judgement → Judgement → Judgement
in_range at is_not a low high =
    tested at (earlier a.fault (earlier low.fault high.fault)) (a.is_static && low.is_static && high.is_static)
    (turned (in_bounds low.value high.value a.value) is_not)

abbrev pub within_range : Option Range → Option ℤ → Computed
within_range None n = made.Nothing
within_range (Some range) n = in_bounds (Some range.low) (Some range.high) n

unfoldable pub in_mark : Pos → Bool → Judgement → Judgement → Judgement
in_mark at is_not a mark =
    tested at (earlier a.fault mark.fault) (a.is_static && is_some mark.range) (turned (within_range mark.range a.value) is_not)

-- Conditional expressions: conditions and values in turn, and the last value

abbrev pub chosen_by : Option ℤ → Option ℤ → Option ℤ → Option ℤ
chosen_by None value other = None
chosen_by (Some n) value other = if int_eq n (pos 0) then other else value

-- the value of the first branch whose condition is true
abbrev pub chosen : List Judgement → Option ℤ
chosen [] = None
chosen (last ∷ []) = last.value
chosen (condition ∷ value ∷ others) = chosen_by condition.value value.value (chosen others)

-- the type of the first branch that has one
abbrev pub branch_type : List Judgement → Option Range
branch_type [] = None
branch_type (last ∷ []) = last.of
branch_type (condition ∷ value ∷ others) = either value.of (branch_type others)

unfoldable pub conditional : Pos → List Judgement → Judgement
conditional at parts = record (unstatic at parts) { of = branch_type parts; is_static = all_static parts; value = chosen parts }

-- Names

abbrev pub meant : Judgement → Meaning → Judgement
meant base m = record base { sense = m.sense; range = m.range; of = m.range; is_static = m.is_static; value = m.value }

unfoldable pub identifier : Pos → Meaning → Judgement
identifier at m = meant (plain at at None) m

unfoldable pub selected : Pos → Meaning → Judgement → Judgement
selected at m prefix = meant (plain prefix.begins at prefix.fault) m

abbrev pub converted : Option Range → Option ℤ → Option ℤ
converted range None = None
converted None (Some n) = Some n
converted (Some range) (Some n) = number_of (within range.low range.high n)

-- a value that is converted to the type of a mark, or qualified by it
abbrev pub conversion : Judgement → Judgement → Judgement → Judgement
conversion base mark a = record base { range = mark.range; of = mark.range; is_static = a.is_static; value = converted mark.range a.value }

abbrev pub times : ℤ → Option ℤ → Computed
times factor None = made.Nothing
times factor (Some n) = fitted (multiplied factor n)

abbrev pub computed_duration : Judgement → Pos → Judgement → Computed → Judgement
computed_duration base place a computed = record base {
  is_static = a.is_static;
  value = number_of computed;
  fault = earlier (outside_at computed place) base.fault;
}

abbrev pub result_of : Judgement → Meaning → Judgement
result_of base m = record base { range = m.range; of = m.range }

abbrev pub applied_to : Judgement → Meaning → Sense → Judgement → Judgement → Judgement
applied_to base m senses.Mark prefix a = conversion base prefix a
applied_to base m (senses.Scale factor) prefix a = computed_duration base prefix.at a (times factor a.value)
applied_to base m senses.Value prefix a = result_of base m

-- a conversion, a product of time, an index or a call: of the last two the range of the result
unfoldable pub applied : Pos → Meaning → List Judgement → Judgement
applied at m (prefix ∷ a ∷ []) = applied_to (unstatic at (prefix ∷ a ∷ [])) m prefix.sense prefix a
applied at m parts = result_of (unstatic at parts) m

unfoldable pub qualified : Pos → Judgement → Judgement → Judgement
qualified at mark a = conversion (plain at at (earlier mark.fault a.fault)) mark a

-- Attributes

abbrev pub bound : Judgement → Range → ℤ → Judgement
bound base range n = record base { of = Some range; is_static = true; value = Some n }

abbrev pub count : Judgement → Computed → Judgement
count base computed = record base {
  of = Some integers;
  is_static = true;
  value = number_of computed;
  fault = earlier base.fault (outside_at computed base.at);
}

abbrev pub of_this_range : Judgement → Property → Range → Judgement
of_this_range base properties.First range = bound base range range.low
of_this_range base properties.Last range = bound base range range.high
of_this_range base properties.Length range = count base (length range.low range.high)
of_this_range base _ range = base

abbrev pub of_range : Judgement → Property → Option Range → Judgement
of_range base what None = base
of_range base what (Some range) = of_this_range base what range

abbrev pub first_bound : Range → Computed → Computed
first_bound range (made.Number n) = within range.least range.greatest n
first_bound range made.Outside = made.Nothing
first_bound range made.Nothing = made.Nothing

-- the value before or behind one of the first type
abbrev pub stepped : Computing → Option Range → Option ℤ → Computed
stepped word None n = made.Nothing
stepped word (Some range) n = first_bound range (both word n (Some (pos 1)) range.modular)

abbrev pub at_position : Option Range → Option ℤ → Computed
at_position None n = made.Nothing
at_position (Some range) None = made.Nothing
at_position (Some range) (Some n) = within range.least range.greatest n

abbrev pub with_value : Judgement → Option Range → Bool → Option ℤ → Judgement
with_value base of is_static value = record base { of = of; is_static = is_static; value = value }

abbrev pub of_one : Judgement → Property → Judgement → Judgement → Judgement
of_one base properties.Succ prefix a = with_value base prefix.range a.is_static (number_of (stepped how.Add prefix.range a.value))
of_one base properties.Pred prefix a = with_value base prefix.range a.is_static (number_of (stepped how.Subtract prefix.range a.value))
of_one base properties.Pos prefix a = with_value base (Some integers) a.is_static a.value
of_one base properties.Val prefix a = with_value base prefix.range a.is_static (number_of (at_position prefix.range a.value))
of_one base _ prefix a = base

abbrev pub least : Option ℤ → Option ℤ → Option ℤ
least None b = None
least (Some a) None = None
least (Some a) (Some b) = if int_lt b a then Some b else Some a

abbrev pub greatest : Option ℤ → Option ℤ → Option ℤ
greatest None b = None
greatest (Some a) None = None
greatest (Some a) (Some b) = if int_lt b a then Some a else Some b

abbrev pub of_two : Judgement → Property → Judgement → Judgement → Judgement → Judgement
of_two base properties.Min prefix a b = with_value base prefix.range (a.is_static && b.is_static) (least a.value b.value)
of_two base properties.Max prefix a b = with_value base prefix.range (a.is_static && b.is_static) (greatest a.value b.value)
of_two base _ prefix a b = base

abbrev pub begins_with : Pos → List Judgement → Pos
begins_with at [] = at
begins_with at (j ∷ js) = j.begins

abbrev pub attribute_of : Judgement → Property → List Judgement → Judgement
attribute_of base what (prefix ∷ []) = of_range base what prefix.range
attribute_of base what (prefix ∷ a ∷ []) = of_one base what prefix a
attribute_of base what (prefix ∷ a ∷ b ∷ []) = of_two base what prefix a b
attribute_of base what _ = base

unfoldable pub attribute : Pos → Property → List Judgement → Judgement
attribute at what parts = attribute_of (plain (begins_with at parts) at (first_fault parts)) what parts
