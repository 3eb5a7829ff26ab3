use Rattle.std.proofs.Common.{◌≡◌, ℕ, ◌+◌, ◌*◌, ◌/◌, ◌%◌, subst, arith, bit_or}
use Rattle.flow_bits.specs.Words.{IsJoined}
use Rattle.flow_bits.proofs.Joins.{joins_more}
use Rattle.flow_bits.proofs.words.join_words.Goals as goal

pub returns : goal.returns
returns c =
    let e : 4 * (c.args.width / 4) + c.args.width % 4 ≡ c.args.width = omega arith in
    subst (λ (n : ℕ). IsJoined (c.args.a * c.args.width) (c.args.b * c.args.width) n c.args.into.now c.args.from.now c.join_rest.new.into
    (bit_or c.join_fours-more.result c.join_rest.result)) e
    (joins_more _ _ _ _ _ _ _ _ _ _ c.join_fours-more.ensures c.join_rest.ensures)
