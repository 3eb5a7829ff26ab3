use Rattle.std.proofs.Common.{◌≡◌, ℕ, ◌+◌, ◌<◌, length}
use Rattle.flow_bits.specs.Sets.{Has, Tells}
use Rattle.flow_relations.specs.Framing.{name_at}
use Rattle.flow_relations.proofs.frame.spread_row.Given as goal

abbrev pub invariant-loop-number : goal.invariant-loop-number
invariant-loop-number l = record {
  size : length l.row ≡ l.frame.void + 1;
  set : Tells l.row (λ v. (i : ℕ) × ((i < l.number) × (name_at l.frame i ≡ v) × Has l.«from» i));
}
