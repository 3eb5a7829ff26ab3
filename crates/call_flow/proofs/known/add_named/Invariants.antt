use Rattle.std.proofs.Common.{◌≡◌, ℕ, ◌<◌, ◌⊎◌, length}
use Rattle.flow_bits.specs.Sets.{Has, Tells}
use Rattle.call_flow.specs.Told.{name_in}
use Rattle.call_flow.proofs.known.add_named.Given as goal

abbrev pub invariant-loop-i : goal.invariant-loop-i
invariant-loop-i l = record {
  size : length l.into ≡ length l.initial.into;
  set : Tells l.into (λ x. Has l.initial.into x ⊎ ((f : ℕ) × ((f < l.i) × ((name_in l.names f ≡ x) × Has l.«from» f))));
}
