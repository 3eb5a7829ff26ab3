-- What the operators of core expressions make of values. None: as a false check does, the operator fails.
use Rattle.std.specs.Prelude.{ℕ, ◌+◌, ◌-◌, ◌*◌, ◌%◌, ◌^◌, Bool, true, false, cond, not, if◌then◌else◌, ◌&&◌, ◌||◌, List, [], ◌∷◌, Option, Some, None, ℤ, pos, negsuc, ◌+ℤ◌, ◌-ℤ◌, ◌*ℤ◌, neg_ℤ, int_le, int_lt, int_div, int_rem, nat_lt, unsigned_abs, ◌<◌, ◌≤◌}
use Rattle.std.specs.Ordering.{int_eq}
use Rattle.std.specs.Int.{int_rem_euclid, int_pow, int_bit_and, int_bit_or, int_bit_xor, w128}
use Rattle.core_form.specs.declared.code.CoreOp.{CoreOp}
use Rattle.core_form.specs.declared.code.CoreOp.TheVariants as op
pub use Rattle.whole_numbers.specs.Numbers.{fitting, quotient, remainder, modulo, power, absolute, is_other}
pub use Rattle.whole_numbers.specs.Classes.{class_of_sum, class_of_difference, class_of_product, class_of_power, class_of_and, class_of_or, class_of_xor}
use Rattle.core_operators.specs.declared.operators.Operands.{Operands}
use Rattle.core_operators.specs.declared.operators.Operands.TheVariants as of

-- on with a value, where there is one
abbrev pub then_some : {A B : Type 0} → Option A → (A → Option B) → Option B
then_some None f = None
then_some (Some a) f = f a

-- Truth values are 0 and 1

abbrev pub truth : ℤ → Option Bool
truth n = cond (int_eq n (pos 0)) (Some false) (cond (int_eq n (pos 1)) (Some true) None)

abbrev pub number_of : Bool → ℤ
number_of false = pos 0
number_of true = pos 1

abbrev pub negated : ℤ → Option ℤ
negated n = then_some (truth n) (λ a. Some (number_of (not a)))

abbrev pub both : ℤ → ℤ → Option ℤ
both n m = then_some (truth n) (λ a. then_some (truth m) (λ b. Some (number_of (a && b))))

abbrev pub some_of : ℤ → ℤ → Option ℤ
some_of n m = then_some (truth n) (λ a. then_some (truth m) (λ b. Some (number_of (a || b))))

abbrev pub one_of : ℤ → ℤ → Option ℤ
one_of n m = then_some (truth n) (λ a. then_some (truth m) (λ b. Some (number_of (is_other a b))))

-- Classes within a modulus

-- no number below 1 is one
abbrev pub modulus : ℤ → Option ℕ
modulus k = if int_lt k (pos 1) then None else Some (unsigned_abs k)

-- the modulus less 1 less the operand, which is not reduced
abbrev pub complement : ℤ → ℤ → Option ℤ
complement n k = then_some (modulus k) (λ m. fitting (pos (m - 1) -ℤ n))

-- Operands

-- a value that is one number
abbrev pub single : List ℤ → Option ℤ
single [] = None
single (n ∷ []) = Some n
single (n ∷ m ∷ ns) = None

-- up to three operands that are one number each
abbrev pub operands_of : Option ℤ → Operands
operands_of None = of.Others
operands_of (Some n) = of.One n

abbrev pub two_of : Option ℤ → Option ℤ → Operands
two_of None b = of.Others
two_of (Some n) None = of.Others
two_of (Some n) (Some m) = of.Two n m

abbrev pub three_of : Option ℤ → Option ℤ → Option ℤ → Operands
three_of None b c = of.Others
three_of (Some n) None c = of.Others
three_of (Some n) (Some m) None = of.Others
three_of (Some n) (Some m) (Some k) = of.Three n m k

abbrev pub operands_in : List (List ℤ) → Operands
operands_in [] = of.Others
operands_in (a ∷ []) = operands_of (single a)
operands_in (a ∷ b ∷ []) = two_of (single a) (single b)
operands_in (a ∷ b ∷ c ∷ []) = three_of (single a) (single b) (single c)
operands_in (a ∷ b ∷ c ∷ d ∷ more) = of.Others

-- of one operand: others fail
abbrev pub of_one : Operands → (ℤ → Option ℤ) → Option ℤ
of_one (of.One n) f = f n
of_one (of.Two n m) f = None
of_one (of.Three n m k) f = None
of_one of.Others f = None

-- of two operands
abbrev pub of_two : Operands → (ℤ → ℤ → Option ℤ) → Option ℤ
of_two (of.One n) f = None
of_two (of.Two n m) f = f n m
of_two (of.Three n m k) f = None
of_two of.Others f = None

-- of two operands and a modulus
abbrev pub of_classes : Operands → (ℤ → ℤ → ℕ → Option ℤ) → Option ℤ
of_classes (of.One n) f = None
of_classes (of.Two n m) f = None
of_classes (of.Three n m k) f = then_some (modulus k) (f n m)
of_classes of.Others f = None

-- cell by cell
abbrev pub are_equal : List ℤ → List ℤ → Bool
are_equal [] [] = true
are_equal [] (m ∷ ms) = false
are_equal (n ∷ ns) [] = false
are_equal (n ∷ ns) (m ∷ ms) = int_eq n m && are_equal ns ms

-- two operands have the same cells
abbrev pub equal : List (List ℤ) → Option ℤ
equal [] = None
equal (a ∷ []) = None
equal (a ∷ b ∷ []) = Some (number_of (are_equal a b))
equal (a ∷ b ∷ c ∷ more) = None

-- Operators

-- what an operator makes of arguments, which are these operands; equality alone takes lists of cells
abbrev pub made : CoreOp → List (List ℤ) → Operands → Option ℤ
made op.Add args operands = of_two operands (λ n m. fitting (n +ℤ m))
made op.Sub args operands = of_two operands (λ n m. fitting (n -ℤ m))
made op.Mul args operands = of_two operands (λ n m. fitting (n *ℤ m))
made op.Div args operands = of_two operands quotient
made op.Mod args operands = of_two operands modulo
made op.Rem args operands = of_two operands remainder
made op.Pow args operands = of_two operands power
made op.Neg args operands = of_one operands (λ n. fitting (neg_ℤ n))
made op.Abs args operands = of_one operands absolute
made op.Not args operands = of_one operands negated
made op.And args operands = of_two operands both
made op.Or args operands = of_two operands some_of
made op.Xor args operands = of_two operands one_of
made op.Eq args operands = equal args
made op.Lt args operands = of_two operands (λ n m. Some (number_of (int_lt n m)))
made op.Le args operands = of_two operands (λ n m. Some (number_of (int_le n m)))
made op.AddMod args operands = of_classes operands (λ n m k. Some (class_of_sum n m k))
made op.SubMod args operands = of_classes operands (λ n m k. Some (class_of_difference n m k))
made op.MulMod args operands = of_classes operands (λ n m k. Some (class_of_product n m k))
made op.PowMod args operands = of_classes operands class_of_power
made op.NotMod args operands = of_two operands complement
made op.AndMod args operands = of_classes operands (λ n m k. Some (class_of_and n m k))
made op.OrMod args operands = of_classes operands (λ n m k. Some (class_of_or n m k))
made op.XorMod args operands = of_classes operands (λ n m k. Some (class_of_xor n m k))

-- what an operator makes of its arguments
abbrev pub operate : CoreOp → List (List ℤ) → Option ℤ
operate op args = made op args (operands_in args)
