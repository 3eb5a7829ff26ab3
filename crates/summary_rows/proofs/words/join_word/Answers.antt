use Rattle.flow_bits.proofs.Bits.{or_bits}
use Rattle.summary_rows.proofs.Bits.{joined_none, joined_some}
use Rattle.summary_rows.proofs.words.join_word.Goals as goal

pub returns-then-more-eq0-clause-set : goal.returns-then-more-eq0-clause-set
returns-then-more-eq0-clause-set c = joined_none c.args.word c.args.from c.ranges.word.fits c.ranges.from.fits c.if-more-eq0.true

pub returns-else-more-eq0-clause-set : goal.returns-else-more-eq0-clause-set
returns-else-more-eq0-clause-set c = or_bits c.args.word c.args.from

pub returns-else-more-eq0-clause-grew : goal.returns-else-more-eq0-clause-grew
returns-else-more-eq0-clause-grew c _ = joined_some c.args.word c.args.from c.ranges.word.fits c.ranges.from.fits c.if-more-eq0.false
