use Rattle.std.proofs.Common.{◌≡◌, ◌<◌, length}
use Rattle.flow_bits.specs.Sets.{Has, Tells}
use Rattle.flow_relations.specs.Framing.{name_at}
use Rattle.flow_relations.proofs.frame.number_row.Given as goal

abbrev pub invariant-loop-number : goal.invariant-loop-number
invariant-loop-number l = record {
  size : length l.row ≡ l.size;
  set : Tells l.row (λ i. (i < l.number) × Has l.«from» (name_at l.frame i));
}
