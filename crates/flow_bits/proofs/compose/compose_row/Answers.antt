use Rattle.std.proofs.Common.{◌≡◌, ℕ, ◌*◌, ◌<◌, ◌≤◌, inl, inr, sym, subst, ◌∙◌, arith}
use Rattle.flow_bits.specs.Sets.{Relates}
use Rattle.flow_bits.specs.Words.{pairs}
use Rattle.flow_bits.proofs.Squares.{pairs_within}
use Rattle.flow_bits.proofs.Steps.{word_more, pairs_first, pairs_second}
use Rattle.flow_bits.proofs.compose.compose_row.Goals as goal
use Rattle.flow_bits.proofs.compose.compose_row.Goals.{then-compose_word, else-compose_word}

pub loop-k-preserved : goal.loop-k-preserved
loop-k-preserved c = record {
  tidy = c.compose_word.ensures.tidy;
  set = λ x y. word_more (λ b. (x ≡ c.args.a) × (Relates (pairs c.args.size c.args.first.now) c.args.a b × Relates (pairs c.args.size c.args.second.now) b y))
      c.loop-k.k (c.loop-k.invariant.set x y) (c.compose_word.ensures.set x y);
  grew = elim c.if-compose_word.branch [
    | then-compose_word w ↦ λ t. pairs_second _ (pairs c.args.size c.loop-k.into) _ (λ v u h. (c.loop-k.invariant.set v u).1 (inl h)) (c.compose_word.ensures.grew w.if-compose_word.true)
    | else-compose_word w ↦ λ t. pairs_first _ (pairs c.args.size c.loop-k.into) _ (c.loop-k.invariant.grew (sym w.grew-is ∙ t)) (λ v u h. (c.compose_word.ensures.set v u).1 (inl h))
  ];
  same = elim c.if-compose_word.branch [
    | then-compose_word w ↦ λ e. cc
    | else-compose_word w ↦ λ e. c.compose_word.ensures.same w.if-compose_word.false ∙ c.loop-k.invariant.same (sym w.grew-is ∙ e)
  ];
}

pub returns-clause-set : goal.returns-clause-set
returns-clause-set c =
    let e : c.words_for-k-end.result ≤ c.loop-k.k = omega arith in
    λ x y.
    let set = c.loop-k.invariant.set x y in (
      λ r. elim (set.0 r) [ inl o ↦ inl o | inr t ↦ inr (t.2.0, (t.0, (subst (λ (u : ℕ). Relates (pairs c.args.size c.args.first.now) u t.0) (sym t.2.0) t.2.1.0, t.2.1.1))) ],
      λ s. elim s [
        | inl o ↦ set.1 (inl o)
        | inr t ↦ (
            let w = pairs_within c.args.size c.args.first.now x t.1.0 t.1.1.0 in
            let l : t.1.0 < 64 * c.loop-k.k = omega (arith, e, c.words_for-k-end.ensures, w.1) in
            set.1 (inr (t.1.0, l, (t.0, (subst (λ (u : ℕ). Relates (pairs c.args.size c.args.first.now) u t.1.0) t.0 t.1.1.0, t.1.1.1)))))
      ],
    )
