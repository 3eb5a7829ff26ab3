use Rattle.std.proofs.Common.{◌≢◌, ℕ, ◌<◌, ◌^◌, arith, rules}
use Rattle.std.proofs.lemmas.Bool.Decides.{nat_tests}
use Rattle.flow_bits.specs.Words.{word}
use Rattle.flow_bits.proofs.Bits.{or_bits}
use Rattle.flow_bits.proofs.Changed.{joined}
use Rattle.flow_bits.proofs.Clean.{clean_each, each_for, came_in}
use Rattle.flow_bits.proofs.flags.join_row.Goals as goal

pub returns-clause-clean : goal.returns-clause-clean
returns-clause-clean c =
    clean_each _ _ _ _ _ _ _ (λ x y i. (or_bits x y i).0) c.requires.clean c.requires.clean_from (each_for _ _ _ _ _ _ _ _ c.words_for.ensures c.join_words.ensures.each)

pub returns-clause-set : goal.returns-clause-set
returns-clause-set c = joined _ _ _ _ _ _ (each_for _ _ _ _ _ _ _ _ c.words_for.ensures c.join_words.ensures.each)

pub returns-clause-grew : goal.returns-clause-grew
returns-clause-grew c t =
    let n : c.join_words.result ≢ 0 = grind (arith, nat_tests) in
    let fits : (w : ℕ) → word c.args.into.now w < 2 ^ 64 = search rules in
    let fits_from : (w : ℕ) → word c.args.from.now w < 2 ^ 64 = search rules in
    came_in _ _ _ _ _ _ _ c.words_for.ensures fits fits_from c.requires.clean_from c.join_words.ensures.each (c.join_words.ensures.grew n)
