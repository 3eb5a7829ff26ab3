-- Classes within a modulus: each operand stands for the number of its class that is below the modulus.
use Rattle.std.specs.Prelude.{ℕ, ◌+◌, ◌-◌, ◌*◌, ◌%◌, ◌^◌, ◌<◌, ◌≤◌, Option, Some, None, ℤ, pos, if◌then◌else◌, int_lt, unsigned_abs}
use Rattle.std.specs.Int.{int_rem_euclid, int_bit_and, int_bit_or, int_bit_xor, w128}

-- what a modulus can be, within 128 bits
pub record IsModulus (m : ℕ) : Type 0 where
  pub low : 1 ≤ m
  pub high : m < 2 ^ 127

-- the number below the modulus of the class of a number
abbrev pub reduced : ℤ → ℕ → ℕ
reduced n m = unsigned_abs (int_rem_euclid n (pos m))

abbrev pub class_of_sum : ℤ → ℤ → ℕ → ℤ
class_of_sum a b m = pos ((reduced a m + reduced b m) % m)

abbrev pub class_of_difference : ℤ → ℤ → ℕ → ℤ
class_of_difference a b m = pos ((reduced a m + (m - reduced b m)) % m)

abbrev pub class_of_product : ℤ → ℤ → ℕ → ℤ
class_of_product a b m = pos ((reduced a m * reduced b m) % m)

abbrev pub class_of_power : ℤ → ℤ → ℕ → Option ℤ
class_of_power a b m = if int_lt b (pos 0) then None else Some (pos ((reduced a m ^ unsigned_abs b) % m))

-- bit by bit, with as many leading bits as the sign has
abbrev pub class_of_and : ℤ → ℤ → ℕ → ℤ
class_of_and a b m = pos (reduced (int_bit_and w128 a b) m)

abbrev pub class_of_or : ℤ → ℤ → ℕ → ℤ
class_of_or a b m = pos (reduced (int_bit_or w128 a b) m)

abbrev pub class_of_xor : ℤ → ℤ → ℕ → ℤ
class_of_xor a b m = pos (reduced (int_bit_xor w128 a b) m)
