use Rattle.std.proofs.Common.{◌≡◌, ◌<◌, ◌⊎◌, length}
use Rattle.flow_bits.specs.Sets.{Has, Relates, TellsPairs}
use Rattle.contract_facts.proofs.pairs.add_unwritten.Given as goal

abbrev pub invariant-loop-i : goal.invariant-loop-i
invariant-loop-i l = record {
  size : length l.into ≡ length l.initial.into;
  set : TellsPairs l.into (λ x y. Relates l.initial.into x y ⊎ ((x < l.i) × ((x ≡ y) × (Has l.written x → ⊥))));
}
