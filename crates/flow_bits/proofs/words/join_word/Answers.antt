use Rattle.std.proofs.Common.{◌<◌, ◌^◌, rules}
use Rattle.flow_bits.specs.Words.{word}
use Rattle.flow_bits.proofs.Joins.{joins_one}
use Rattle.flow_bits.proofs.words.join_word.Goals as goal

pub returns : goal.returns
returns c =
    let fits : word c.args.into.now c.args.at < 2 ^ 64 = search rules in
    let fits_from : word c.args.from.now c.args.start < 2 ^ 64 = search rules in
    joins_one c.args.at c.args.start c.args.into.now c.args.from.now c.requires.into fits fits_from
