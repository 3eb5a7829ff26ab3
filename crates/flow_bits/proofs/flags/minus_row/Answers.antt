use Rattle.std.proofs.Common.{ℕ, ◌<◌, ◌^◌, inl, bit_and, rules}
use Rattle.std.specs.Int.{bit_not, w64}
use Rattle.flow_bits.specs.Words.{word}
use Rattle.flow_bits.proofs.Bits.{and_bits}
use Rattle.flow_bits.proofs.Changed.{lessened}
use Rattle.flow_bits.proofs.Clean.{clean_each, each_for}
use Rattle.flow_bits.proofs.flags.minus_row.Goals as goal

pub returns-clause-clean : goal.returns-clause-clean
returns-clause-clean c =
    clean_each (λ x y. bit_and x (bit_not w64 y)) _ _ _ _ _ _ (λ x y i s. inl ((and_bits x (bit_not w64 y) i).0 s).0) c.requires.clean c.requires.clean_from (each_for _ _ _ _ _ _ _ _ c.words_for.ensures c.minus_words.ensures)

pub returns-clause-set : goal.returns-clause-set
returns-clause-set c =
    let fits : (w : ℕ) → word c.args.into.now w < 2 ^ 64 = search rules in
    let fits_from : (w : ℕ) → word c.args.from.now w < 2 ^ 64 = search rules in
    lessened _ _ _ _ _ _ fits fits_from (each_for _ _ _ _ _ _ _ _ c.words_for.ensures c.minus_words.ensures)
