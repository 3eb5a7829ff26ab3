-- The place of a pair in a square.
use Rattle.std.proofs.Common.{ℕ, ◌+◌, ◌*◌, ◌<◌, ◌≤◌, arith}
use Rattle.std.proofs.Math.Nat.{mul-le-mul_left}

pub pair_below : (i j r : ℕ) → i < r → j < r → i * r + j < r * r
pair_below i j r h k = let s : i + 1 ≤ r = omega arith in let m = mul-le-mul_left r s in omega (arith, m, k)
