use Rattle.std.proofs.Common.{◌≡◌, ◌<◌, length, drop}
use Rattle.core_form.specs.Code.{code_of}
use Rattle.first_lower.specs.Known.{Each}
use Rattle.first_lower.specs.Lowered.{low_variables}
use Rattle.first_lower.specs.Steps.{Adds, codes_before}
use Rattle.first_lower.proofs.code.add_variables.Given as goal

-- the code so far, with that of the variables that are left, is that of all
abbrev pub invariant-loop-i : goal.invariant-loop-i
invariant-loop-i l = record {
  adds : Adds l.fn.nodes l.nodes;
  within : Each (λ s. s.0 < length l.nodes.stmts) l.list;
  code : codes_before (code_of l.nodes.exprs l.nodes.stmts) l.list (low_variables l.i (drop l.i l.variables)) ≡ low_variables 0 l.variables;
}
