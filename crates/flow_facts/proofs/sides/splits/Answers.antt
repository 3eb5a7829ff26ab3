use Rattle.std.proofs.Common.{inl, inr}
use Rattle.flow_facts.proofs.Outcomes.{splits_is}
use Rattle.flow_facts.proofs.sides.splits.Goals as goal

pub returns : goal.returns
returns c =
    let is = splits_is c.args.next.now c.args.back.now c.args.leaves.now in
    let some = c.leaves_some-some.ensures in
    let two = c.leaves_two-two.ensures in
    let all = c.are_two.ensures in (
      λ r. is.0 (elim (all.0 r) [
        | inl x ↦ inl x
        | inr x ↦ (elim x [
          | inl y ↦ inr (inl (y.0, some.0 y.1))
          | inr y ↦ (elim y [ inl z ↦ inr (inr (inl (z.0, some.0 z.1))) | inr z ↦ inr (inr (inr (two.0 z))) ])
        ])
      ]),
      λ s. all.1 (elim (is.1 s) [
        | inl x ↦ inl x
        | inr x ↦ (elim x [
          | inl y ↦ inr (inl (y.0, some.1 y.1))
          | inr y ↦ (elim y [ inl z ↦ inr (inr (inl (z.0, some.1 z.1))) | inr z ↦ inr (inr (inr (two.1 z))) ])
        ])
      ]),
    )
