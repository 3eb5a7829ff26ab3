use Rattle.std.proofs.Common.{◌≡◌, ◌++◌, drop}
use Rattle.part_slots.specs.Records.{types_at}
use Rattle.expr_rules.proofs.components.Components.types_behind.Given as goal

abbrev pub invariant-loop-k : goal.invariant-loop-k
invariant-loop-k l =
    l.types ++ types_at l.fields (drop l.k l.self.places.keys) ≡ types_at l.fields (drop l.count l.self.places.keys)
