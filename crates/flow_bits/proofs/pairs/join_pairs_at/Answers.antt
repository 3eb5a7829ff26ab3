use Rattle.std.proofs.Common.{inl, inr}
use Rattle.flow_bits.proofs.Squares.{relates_is}
use Rattle.flow_bits.proofs.pairs.join_pairs_at.Goals as goal

pub returns-clause-set : goal.returns-clause-set
returns-clause-set c = λ x y.
    let told = relates_is c.args.size c.args.from.now c.requires.from.count c.args.b y in
    let set = c.join_at.ensures.set x y in (
      λ r. elim (set.0 r) [ inl o ↦ inl o | inr t ↦ inr (t.0, told.1 t.1) ],
      λ s. elim s [ inl o ↦ set.1 (inl o) | inr t ↦ set.1 (inr (t.0, told.0 t.1)) ],
    )
