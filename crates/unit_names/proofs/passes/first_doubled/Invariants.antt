use Rattle.std.proofs.Common.{◌≡◌, take, drop}
use Rattle.unit_names.specs.Names.{first, first_from, is_doubled}
use Rattle.unit_names.specs.Seen.{IsSeen}
use Rattle.unit_names.proofs.passes.first_doubled.Given as goal

abbrev pub invariant-loop-number : goal.invariant-loop-number
invariant-loop-number l = record {
  seen : IsSeen l.seen (take l.number l.units);
  rest : first is_doubled l.units ≡ first_from is_doubled (take l.number l.units) (drop l.number l.units);
}
