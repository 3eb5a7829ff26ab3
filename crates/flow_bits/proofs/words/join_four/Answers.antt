use Rattle.std.proofs.Common.{ℕ, ◌<◌, ◌^◌, rules}
use Rattle.flow_bits.specs.Words.{word}
use Rattle.flow_bits.proofs.Joins.{joins_four}
use Rattle.flow_bits.proofs.words.join_four.Goals as goal

pub returns : goal.returns
returns c =
    let fits : (w : ℕ) → word c.args.into.now w < 2 ^ 64 = search rules in
    let fits_from : (w : ℕ) → word c.args.from.now w < 2 ^ 64 = search rules in
    joins_four c.args.at c.args.start c.args.into.now c.args.from.now c.requires.into c.requires.from fits fits_from
