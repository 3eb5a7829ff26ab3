use Rattle.std.proofs.Common.{ℕ, ◌↔◌, drop}
use Rattle.core_form.specs.Leaves.{IsLeafOfSome}
use Rattle.used_modes.specs.UsedModes.{asked, row_of}
use Rattle.used_modes.proofs.used.some_of_vars.Given as goal

-- the variables that are left decide
abbrev pub invariant-loop-var : goal.invariant-loop-var
invariant-loop-var l =
    ((leaf : ℕ) × (IsLeafOfSome l.program (drop l.var-index l.vars) leaf × asked (row_of l.rows l.body.0) l.question leaf))
    ↔ ((leaf : ℕ) × (IsLeafOfSome l.program l.vars leaf × asked (row_of l.rows l.body.0) l.question leaf))
