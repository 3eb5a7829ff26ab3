use Rattle.std.proofs.Common.{◌≡◌, ◌+◌, ◌*◌, ◌<◌, ◌≤◌, inl, inr, sym, ◌∙◌, arith}
use Rattle.flow_bits.specs.Sets.{Relates}
use Rattle.flow_bits.specs.Words.{pairs}
use Rattle.flow_bits.proofs.Squares.{pairs_within}
use Rattle.flow_bits.proofs.Steps.{union_more, pairs_first, pairs_second}
use Rattle.flow_bits.proofs.compose.compose_block.Goals as goal
use Rattle.flow_bits.proofs.compose.compose_block.Goals.{then-follow, else-follow}

pub loop-b-preserved : goal.loop-b-preserved
loop-b-preserved c = record {
  from = omega arith;
  tidy = c.follow.ensures.tidy;
  set = λ x y.
      let s = c.follow.ensures.set x y in
      union_more (λ b. (64 * c.args.k ≤ b) × ((x ≡ c.args.a) × (Relates (pairs c.args.size c.args.first.now) c.args.a b × Relates (pairs c.args.size c.args.second.now) b y)))
      c.loop-b.b (c.loop-b.invariant.set x y) (
        λ r. elim (s.0 r) [ inl o ↦ inl o | inr t ↦ inr (c.loop-b.invariant.from, t) ],
        λ t. elim t [ inl o ↦ s.1 (inl o) | inr u ↦ s.1 (inr u.1) ],
      );
  grew = elim c.if-follow.branch [
    | then-follow w ↦ λ t. pairs_second _ (pairs c.args.size c.loop-b.into) _ (λ v u h. (c.loop-b.invariant.set v u).1 (inl h)) (c.follow.ensures.grew w.if-follow.true)
    | else-follow w ↦ λ t. pairs_first _ (pairs c.args.size c.loop-b.into) _ (c.loop-b.invariant.grew (sym w.grew-is ∙ t)) (λ v u h. (c.follow.ensures.set v u).1 (inl h))
  ];
  same = elim c.if-follow.branch [
    | then-follow w ↦ λ e. cc
    | else-follow w ↦ λ e. c.follow.ensures.same w.if-follow.false ∙ c.loop-b.invariant.same (sym w.grew-is ∙ e)
  ];
}

pub returns-clause-set : goal.returns-clause-set
returns-clause-set c =
    let e : c.block_end-b-end.result ≤ c.loop-b.b = omega arith in
    let f : c.loop-b.b ≤ c.block_end-b-end.result = omega arith in
    λ x y.
    let set = c.loop-b.invariant.set x y in (
      λ r. elim (set.0 r) [
        | inl o ↦ inl o
        | inr t ↦ (let l : t.0 < 64 * c.args.k + 64 = omega (arith, t.1, f, c.block_end-b-end.ensures.word) in inr (t.0, l, t.2))
      ],
      λ s. elim s [
        | inl o ↦ set.1 (inl o)
        | inr t ↦ (
            let w = pairs_within c.args.size c.args.first.now c.args.a t.0 t.2.1.1.0 in
            let b = c.block_end-b-end.ensures.all t.0 t.1 w.1 in
            let l : t.0 < c.loop-b.b = omega (arith, b, e) in
            set.1 (inr (t.0, l, t.2)))
      ],
    )
