use Rattle.std.proofs.Common.{◌≡◌, ◌+◌, ◌<◌, ◌⊎◌, length}
use Rattle.std.specs.Prelude.{IsSomeAnd}
use Rattle.core_form.specs.Fine.{home_of}
use Rattle.flow_bits.specs.Sets.{Has, Tells}
use Rattle.flow_relations.specs.Framing.{IsOwn}
use Rattle.flow_relations.proofs.named.add_own.Given as goal

abbrev pub invariant-loop-leaf : goal.invariant-loop-leaf
invariant-loop-leaf l = record {
  size : length l.into ≡ length l.program.leaves + 1;
  set : Tells l.into (λ v. Has l.initial.into v ⊎ ((v < l.leaf) × IsSomeAnd (home_of l.program v) (IsOwn l.body.0)));
}
