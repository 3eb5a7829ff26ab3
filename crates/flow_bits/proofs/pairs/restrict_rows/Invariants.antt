use Rattle.std.proofs.Common.{◌<◌}
use Rattle.flow_bits.specs.Sets.{Has, Relates, TellsPairs}
use Rattle.flow_bits.specs.Words.{IsTidy, pairs}
use Rattle.flow_bits.proofs.pairs.restrict_rows.Given as goal

abbrev pub invariant-loop-a : goal.invariant-loop-a
invariant-loop-a l = record {
  tidy : IsTidy l.size l.into;
  set : TellsPairs (pairs l.size l.into) (λ x y. Relates (pairs l.size l.initial.into) x y × (x < l.a → Has l.row x × Has l.row y));
}
