use Rattle.flow_bits.specs.Sets.{Relates, TellsPairs}
use Rattle.flow_bits.specs.Words.{IsTidy, pairs}
use Rattle.flow_bits.proofs.Chains.{Through}
use Rattle.flow_bits.proofs.close.close_rows.Given as goal

abbrev pub invariant-loop-k : goal.invariant-loop-k
invariant-loop-k l = record {
  tidy : IsTidy l.size l.words;
  set : TellsPairs (pairs l.size l.words) (Through (Relates (pairs l.size l.initial.words)) l.k);
}
