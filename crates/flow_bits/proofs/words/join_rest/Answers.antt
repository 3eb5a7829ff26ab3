use Rattle.flow_bits.proofs.Joins.{joins_more, joins_none}
use Rattle.flow_bits.proofs.words.join_rest.Goals as goal

pub loop-k-init : goal.loop-k-init
loop-k-init c = joins_none c.args.at c.args.start c.args.into.now c.args.from.now

pub loop-k-preserved : goal.loop-k-preserved
loop-k-preserved c = joins_more c.args.at c.args.start c.loop-k.k 1 _ _ _ _ _ _ c.loop-k.invariant c.join_word-more.ensures
