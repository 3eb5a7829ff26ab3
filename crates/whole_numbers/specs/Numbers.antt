-- Whole numbers of 128 bits. None: there is no such number, or it lies outside.
use Rattle.std.specs.Prelude.{ℕ, ◌+◌, ◌-◌, ◌%◌, ◌^◌, Bool, true, false, cond, not, if◌then◌else◌, ◌&&◌, Option, Some, None, ℤ, pos, negsuc, ◌+ℤ◌, neg_ℤ, int_le, int_lt, int_div, int_rem, nat_lt, unsigned_abs}
use Rattle.std.specs.Ordering.{int_eq}
use Rattle.std.specs.Int.{int_pow}

-- whether it lies in 128 bits
abbrev pub fits : ℤ → Bool
fits n = int_le (negsuc (2 ^ 127 - 1)) n && int_le n (pos (2 ^ 127 - 1))

abbrev pub fitting : ℤ → Option ℤ
fitting n = cond (fits n) (Some n) None

-- rounded towards zero
abbrev pub quotient : ℤ → ℤ → Option ℤ
quotient n m = cond (int_eq m (pos 0)) None (fitting (int_div n m))

-- with the sign of the left operand
abbrev pub remainder : ℤ → ℤ → Option ℤ
remainder n m = cond (int_eq m (pos 0)) None (Some (int_rem n m))

abbrev pub is_negative : ℤ → Bool
is_negative n = int_lt n (pos 0)

abbrev pub is_other : Bool → Bool → Bool
is_other true b = not b
is_other false b = b

-- with the sign of the right operand
abbrev pub modulo : ℤ → ℤ → Option ℤ
modulo n m =
    if int_eq m (pos 0) then None else
    if not (int_eq (int_rem n m) (pos 0)) && is_other (is_negative (int_rem n m)) (is_negative m) then fitting (int_rem n m +ℤ m)
    else Some (int_rem n m)

-- an exponent up to 257: the power is the same, or fits neither way
abbrev pub short_exponent : ℕ → ℕ
short_exponent n = if nat_lt n 256 then n else 256 + n % 2

abbrev pub power : ℤ → ℤ → Option ℤ
power n m = if int_lt m (pos 0) then None else fitting (int_pow n (unsigned_abs m))

abbrev pub absolute : ℤ → Option ℤ
absolute n = if is_negative n then fitting (neg_ℤ n) else Some n
