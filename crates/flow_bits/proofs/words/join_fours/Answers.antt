use Rattle.std.proofs.Common.{◌≡◌, ℕ, ◌+◌, ◌*◌, subst, arith, bit_or}
use Rattle.flow_bits.specs.Words.{IsJoined}
use Rattle.flow_bits.proofs.Joins.{joins_more, joins_none}
use Rattle.flow_bits.proofs.words.join_fours.Goals as goal

pub loop-k-init : goal.loop-k-init
loop-k-init c = joins_none c.args.at c.args.start c.args.into.now c.args.from.now

pub loop-k-preserved : goal.loop-k-preserved
loop-k-preserved c =
    let e : 4 * c.loop-k.k + 4 ≡ 4 * (c.loop-k.k + 1) = omega arith in
    subst (λ (n : ℕ). IsJoined c.args.at c.args.start n c.args.into.now c.args.from.now c.join_four-more.new.into (bit_or c.loop-k.more c.join_four-more.result)) e
    (joins_more c.args.at c.args.start (4 * c.loop-k.k) 4 _ _ _ _ _ _ c.loop-k.invariant c.join_four-more.ensures)
