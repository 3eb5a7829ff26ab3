use Rattle.std.proofs.Common.{◌*◌, bit_and}
use Rattle.std.specs.Int.{bit_not, w64}
use Rattle.flow_bits.specs.Words.{IsEach}
use Rattle.flow_bits.proofs.words.minus_words.Given as goal

abbrev pub invariant-loop-k : goal.invariant-loop-k
invariant-loop-k l = IsEach (λ x y. bit_and x (bit_not w64 y)) (l.a * l.width) (l.b * l.width) l.k l.initial.into l.from l.into
