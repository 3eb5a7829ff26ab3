-- Of so many leaves at most so many stand beside those of a row.
use Rattle.std.proofs.Common.{◌≡◌, ℕ, zero, suc, ◌+◌, ◌≤◌, Bool, true, false, cond, arith}
use Rattle.core_form.specs.declared.program.Program.{Program}
use Rattle.core_form.specs.Fine.{home_of}
use Rattle.program_layout.specs.Rows.{beside_below, is_beside}

one_most : (h : Bool) → cond h 1 0 ≤ 1
one_most true = omega arith
one_most false = omega arith

pub beside_most : (p : Program) (b n : ℕ) → beside_below p b n ≤ n
beside_most p b zero = omega arith
beside_most p b (suc n) = let m = beside_most p b n in let k = one_most (is_beside b (home_of p n)) in omega (arith, m, k)
