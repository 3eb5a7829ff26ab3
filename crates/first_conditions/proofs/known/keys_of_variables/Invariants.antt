use Rattle.std.proofs.Common.{◌≡◌, [], ◌++◌, drop}
use Rattle.first_conditions.specs.Checks.{are_new}
use Rattle.first_conditions.specs.Conditions.{variable_keys}
use Rattle.first_conditions.proofs.known.keys_of_variables.Given as goal

-- what is left decides, and comes behind what we have
abbrev pub invariant-loop-variable : goal.invariant-loop-variable
invariant-loop-variable l = record {
  new : are_new l.table (variable_keys (drop l.variable-index l.variables)) ≡ are_new [] (variable_keys l.variables);
  keys : l.table ++ variable_keys (drop l.variable-index l.variables) ≡ variable_keys l.variables;
}
