use Rattle.std.proofs.Common.{◌≡◌, take, drop}
use Rattle.std.specs.List.{list_any}
use Rattle.unit_names.specs.Names.{first, first_from, is_main, is_second}
use Rattle.unit_names.proofs.passes.second_main.Given as goal

abbrev pub invariant-loop-number : goal.invariant-loop-number
invariant-loop-number l = record {
  seen : l.has_main ≡ list_any is_main (take l.number l.units);
  rest : first is_second l.units ≡ first_from is_second (take l.number l.units) (drop l.number l.units);
}
