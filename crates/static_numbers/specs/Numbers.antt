-- Exact arithmetic on 128 bits, and on modular numbers.
use Rattle.std.specs.Prelude.{ℕ, ◌+◌, ◌-◌, ◌%◌, ◌^◌, Bool, true, false, cond, not, if◌then◌else◌, ◌&&◌, ◌||◌, Option, Some, None, ℤ, pos, ◌+ℤ◌, ◌-ℤ◌, ◌*ℤ◌, neg_ℤ, int_le, int_lt, int_div, int_rem, bit_and, bit_or, bit_xor, unsigned_abs}
use Rattle.std.specs.Ordering.{int_eq}
use Rattle.std.specs.Int.{int_pow}
pub use Rattle.whole_numbers.specs.Numbers.{fits, is_other, is_negative}
use Rattle.whole_numbers.specs.Classes.{reduced, class_of_sum, class_of_difference, class_of_product}
use Rattle.static_numbers.specs.declared.numbers.Computed.{Computed}
use Rattle.static_numbers.specs.declared.numbers.Computed.TheVariants as made
use Rattle.static_numbers.specs.declared.numbers.Computing.{Computing}
use Rattle.static_numbers.specs.declared.numbers.Computing.TheVariants as how
use Rattle.static_numbers.specs.declared.numbers.Preceding.{Preceding}
use Rattle.static_numbers.specs.declared.numbers.Preceding.TheVariants as before
use Rattle.ada_tree.specs.declared.expressions.AddingOperator.{AddingOperator}
use Rattle.ada_tree.specs.declared.expressions.AddingOperator.TheVariants as signs
use Rattle.ada_tree.specs.declared.expressions.LogicalOperator.{LogicalOperator}
use Rattle.ada_tree.specs.declared.expressions.LogicalOperator.TheVariants as logicals
use Rattle.ada_tree.specs.declared.expressions.MultiplyingOperator.{MultiplyingOperator}
use Rattle.ada_tree.specs.declared.expressions.MultiplyingOperator.TheVariants as products
use Rattle.ada_tree.specs.declared.expressions.RelationalOperator.{RelationalOperator}
use Rattle.ada_tree.specs.declared.expressions.RelationalOperator.TheVariants as relations

abbrev pub of_option : Option ℤ → Computed
of_option None = made.Outside
of_option (Some n) = made.Number n

abbrev pub fitted : ℤ → Computed
fitted n = cond (fits n) (made.Number n) made.Outside

abbrev pub added : ℤ → ℤ → ℤ
added a b = a +ℤ b

abbrev pub subtracted : ℤ → ℤ → ℤ
subtracted a b = a -ℤ b

abbrev pub multiplied : ℤ → ℤ → ℤ
multiplied a b = a *ℤ b

-- rounded towards zero
abbrev pub quotient : ℤ → ℤ → Computed
quotient a b = cond (int_eq b (pos 0)) made.Nothing (fitted (int_div a b))

-- with the sign of the left operand
abbrev pub remainder : ℤ → ℤ → Computed
remainder a b = cond (int_eq b (pos 0)) made.Nothing (made.Number (int_rem a b))

-- between 0 and the right operand
abbrev pub modulo : ℤ → ℤ → Computed
modulo a b =
    if int_eq b (pos 0) then made.Nothing else
    if not (int_eq (int_rem a b) (pos 0)) && is_other (is_negative (int_rem a b)) (is_negative b) then fitted (added (int_rem a b) b)
    else made.Number (int_rem a b)

abbrev pub power : ℤ → ℤ → Computed
power a b = if int_lt b (pos 0) then made.Nothing else fitted (int_pow a (unsigned_abs b))

abbrev pub truth : Bool → Computed
truth true = made.Number (pos 1)
truth false = made.Number (pos 0)

abbrev pub is_nonzero : ℤ → Bool
is_nonzero n = not (int_eq n (pos 0))

-- an operator of a signed type, of numbers that fit each type, or of truth values
abbrev pub compute_signed : Computing → ℤ → ℤ → Computed
compute_signed how.Add a b = fitted (added a b)
compute_signed how.Subtract a b = fitted (subtracted a b)
compute_signed how.Multiply a b = fitted (multiplied a b)
compute_signed how.Divide a b = quotient a b
compute_signed how.Modulo a b = modulo a b
compute_signed how.Remainder a b = remainder a b
compute_signed how.Power a b = power a b
compute_signed how.And a b = truth (is_nonzero a && is_nonzero b)
compute_signed how.Or a b = truth (is_nonzero a || is_nonzero b)
compute_signed how.Xor a b = truth (is_other (is_nonzero a) (is_nonzero b))

-- Modular numbers: each operand stands for the number of its class that is below the modulus

-- one more than the greatest value
abbrev pub modulus : ℕ → ℕ
modulus last = last + 1

abbrev pub class : ℕ → Computed
class n = made.Number (pos n)

-- the class of a number, where there is one
abbrev pub wrapped : Computed → ℕ → Computed
wrapped (made.Number n) m = class (reduced n m)
wrapped made.Outside m = made.Outside
wrapped made.Nothing m = made.Nothing

-- the bits of a number; of a negative one those of its class
abbrev pub bits : ℤ → ℕ → ℕ
bits n m = if int_lt n (pos 0) then reduced n m else unsigned_abs n

-- sums, products and powers are those of classes; division is that of the numbers, as it is when the program runs
abbrev pub compute_within : Computing → ℤ → ℤ → ℕ → Computed
compute_within how.Add a b m = made.Number (class_of_sum a b m)
compute_within how.Subtract a b m = made.Number (class_of_difference a b m)
compute_within how.Multiply a b m = made.Number (class_of_product a b m)
compute_within how.Divide a b m = wrapped (quotient a b) m
compute_within how.Modulo a b m = wrapped (modulo a b) m
compute_within how.Remainder a b m = wrapped (remainder a b) m
compute_within how.Power a b m = if int_lt b (pos 0) then made.Nothing else class ((reduced a m ^ unsigned_abs b) % m)
compute_within how.And a b m = class (bit_and (bits a m) (bits b m) % m)
compute_within how.Or a b m = class (bit_or (bits a m) (bits b m) % m)
compute_within how.Xor a b m = class (bit_xor (bits a m) (bits b m) % m)

abbrev pub compute_modular : Computing → ℤ → ℤ → ℕ → Computed
compute_modular word a b last = compute_within word a b (modulus last)

-- what an operator makes of its operands, of a modular type where there is one
abbrev pub compute : Computing → ℤ → ℤ → Option ℕ → Computed
compute word a b None = compute_signed word a b
compute word a b (Some last) = compute_modular word a b last

-- Operators before one operand

abbrev pub negative : ℤ → ℤ
negative n = neg_ℤ n

abbrev pub alone_signed : Preceding → ℤ → Computed
alone_signed before.Plus n = made.Number n
alone_signed before.Minus n = fitted (negative n)
alone_signed before.Absolute n = if is_negative n then fitted (negative n) else made.Number n
alone_signed before.Not n = truth (int_eq n (pos 0))

abbrev pub alone_within : Preceding → ℤ → ℕ → Computed
alone_within before.Plus n m = made.Number n
alone_within before.Minus n m = class ((m - reduced n m) % m)
alone_within before.Absolute n m = alone_signed before.Absolute n
alone_within before.Not n m = class (m - 1 - reduced n m)

abbrev pub alone_modular : Preceding → ℤ → ℕ → Computed
alone_modular word n last = alone_within word n (modulus last)

abbrev pub compute_alone : Preceding → ℤ → Option ℕ → Computed
compute_alone word n None = alone_signed word n
compute_alone word n (Some last) = alone_modular word n last

-- Relations and words of operators

abbrev pub relate : RelationalOperator → ℤ → ℤ → Bool
relate relations.Equal a b = int_eq a b
relate relations.NotEqual a b = not (int_eq a b)
relate relations.Less a b = int_lt a b
relate relations.AtMost a b = int_le a b
relate relations.Greater a b = int_lt b a
relate relations.AtLeast a b = int_le b a

abbrev pub logical : LogicalOperator → Computing
logical logicals.And = how.And
logical logicals.Or = how.Or
logical logicals.Xor = how.Xor
logical logicals.AndThen = how.And
logical logicals.OrElse = how.Or

abbrev pub adding : AddingOperator → Computing
adding signs.Plus = how.Add
adding signs.Minus = how.Subtract

abbrev pub multiplying : MultiplyingOperator → Computing
multiplying products.Times = how.Multiply
multiplying products.Divide = how.Divide
multiplying products.Mod = how.Modulo
multiplying products.Rem = how.Remainder

abbrev pub sign : AddingOperator → Preceding
sign signs.Plus = before.Plus
sign signs.Minus = before.Minus

-- whether a zero on the right of an operator is refused
abbrev pub divides : Computing → Bool
divides how.Divide = true
divides how.Modulo = true
divides how.Remainder = true
divides _ = false

-- the value from low to high, or nothing
abbrev pub within : ℤ → ℤ → ℤ → Computed
within low high n = if int_le low n && int_le n high then made.Number n else made.Nothing

-- how many values there are from low to high
abbrev pub length : ℤ → ℤ → Computed
length low high = if int_lt high low then made.Number (pos 0) else fitted (added (subtracted high low) (pos 1))
