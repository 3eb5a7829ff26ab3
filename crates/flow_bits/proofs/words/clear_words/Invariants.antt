use Rattle.std.proofs.Common.{◌*◌}
use Rattle.flow_bits.specs.Words.{IsEach}
use Rattle.flow_bits.proofs.words.clear_words.Given as goal

abbrev pub invariant-loop-k : goal.invariant-loop-k
invariant-loop-k l = IsEach (λ x y. 0) (l.a * l.width) (l.a * l.width) l.k l.initial.into l.initial.into l.into
