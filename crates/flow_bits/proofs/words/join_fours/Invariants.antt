use Rattle.std.proofs.Common.{◌*◌}
use Rattle.flow_bits.specs.Words.{IsJoined}
use Rattle.flow_bits.proofs.words.join_fours.Given as goal

abbrev pub invariant-loop-k : goal.invariant-loop-k
invariant-loop-k l = IsJoined l.at l.start (4 * l.k) l.initial.into l.from l.into l.more
