use Rattle.std.proofs.Common.{◌≡◌, take, drop}
use Rattle.unit_names.specs.Names.{first, first_from, is_bodiless}
use Rattle.unit_names.proofs.passes.without_spec.Given as goal

abbrev pub invariant-loop-number : goal.invariant-loop-number
invariant-loop-number l =
    first (is_bodiless l.units) l.units ≡ first_from (is_bodiless l.units) (take l.number l.units) (drop l.number l.units)
