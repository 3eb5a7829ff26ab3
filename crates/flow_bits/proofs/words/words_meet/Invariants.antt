use Rattle.std.proofs.Common.{◌*◌, ◌≡◌, ℕ, ◌+◌, ◌<◌, bit_and}
use Rattle.flow_bits.specs.Words.{word}
use Rattle.flow_bits.proofs.words.words_meet.Given as goal

abbrev pub invariant-loop-k : goal.invariant-loop-k
invariant-loop-k l = (k : ℕ) → k < l.k → bit_and (word l.one (l.a * l.width + k)) (word l.other (l.b * l.width + k)) ≡ 0
