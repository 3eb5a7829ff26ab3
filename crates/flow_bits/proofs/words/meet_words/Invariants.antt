use Rattle.std.proofs.Common.{◌*◌, bit_and}
use Rattle.flow_bits.specs.Words.{IsEach}
use Rattle.flow_bits.proofs.words.meet_words.Given as goal

abbrev pub invariant-loop-k : goal.invariant-loop-k
invariant-loop-k l = IsEach bit_and (l.a * l.width) (l.b * l.width) l.k l.initial.into l.from l.into
