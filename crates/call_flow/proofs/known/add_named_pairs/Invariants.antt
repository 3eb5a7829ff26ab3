use Rattle.std.proofs.Common.{◌≡◌, ℕ, ◌<◌, ◌⊎◌, length}
use Rattle.flow_bits.specs.Sets.{Relates, TellsPairs}
use Rattle.call_flow.specs.Calls.{Standing}
use Rattle.call_flow.specs.Told.{name_in}
use Rattle.call_flow.proofs.known.add_named_pairs.Given as goal

abbrev pub invariant-loop-i : goal.invariant-loop-i
invariant-loop-i l = record {
  size : length l.into ≡ length l.initial.into;
  row : length l.row ≡ length l.initial.row;
  room : length l.names_row ≡ length l.initial.names_row;
  set : TellsPairs l.into (λ x y. Relates l.initial.into x y ⊎ ((f : ℕ) × ((f < l.i) × ((name_in l.names f ≡ x) × Standing (name_in l.names) (Relates l.«from» f) y))));
}
