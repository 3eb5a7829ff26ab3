use Rattle.std.proofs.Common.{◌≡◌, replicate}
use Rattle.part_slots.specs.declared.slots.Pairing.TheVariants.{ForElements}
use Rattle.expr_rules.proofs.components.element_pairings.Given as goal

abbrev pub invariant-loop : goal.invariant-loop
invariant-loop l =
    l.pairings ≡ replicate l.counter (ForElements l.index l.of)
