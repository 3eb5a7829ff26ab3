use Rattle.std.proofs.Common.{◌*◌, bit_or}
use Rattle.flow_bits.specs.Words.{IsEach}
use Rattle.flow_bits.proofs.words.join_within.Given as goal

abbrev pub invariant-loop-k : goal.invariant-loop-k
invariant-loop-k l = IsEach bit_or (l.a * l.width) (l.b * l.width) l.k l.initial.words l.initial.words l.words
