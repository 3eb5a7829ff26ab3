use Rattle.std.proofs.Common.{◌≡◌, ℕ, ◌<◌, ◌↔◌, inl, inr, sym, subst, arith}
use Rattle.flow_bits.specs.Sets.{Relates}
use Rattle.flow_bits.specs.Words.{pairs}
use Rattle.flow_bits.proofs.Chains.{Through, closes_all}
use Rattle.flow_bits.proofs.Squares.{pairs_long, pairs_within}
use Rattle.flow_bits.proofs.close.close_rows.Goals as goal

pub returns-clause-set : goal.returns-clause-set
returns-clause-set c =
    let e : c.loop-k.k ≡ c.args.size = omega arith in
    let n = pairs_long c.args.size c.args.words.now in
    λ x y.
    let all = closes_all (Relates (pairs c.args.size c.args.words.now)) c.args.size (pairs_within c.args.size c.args.words.now) x y in
    let ways = subst (λ (k : ℕ). Relates (pairs c.args.size c.loop-k.words) x y ↔ Through (Relates (pairs c.args.size c.args.words.now)) k x y) e (c.loop-k.invariant.set x y) in
    let set = c.add_diagonal.ensures.set x y in (
      λ r. let q = all.0 (elim (set.0 r) [ inl o ↦ inl (ways.0 o) | inr d ↦ inr d ]) in (subst (λ (k : ℕ). x < k) (sym n) q.0, q.1),
      λ s. set.1 (elim (all.1 (subst (λ (k : ℕ). x < k) n s.0, s.1)) [ inl o ↦ inl (ways.1 o) | inr d ↦ inr d ]),
    )
