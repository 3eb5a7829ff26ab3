use Rattle.std.proofs.Common.{inl, inr, arith}
use Rattle.call_lists.proofs.order.covers.Goals as goal

pub returns : goal.returns
returns c = λ h b l. elim ((c.mark.ensures b).0 (c.are_all_marked.ensures h b (let e = c.mark.auto.marks in omega arith))) [
  | inl x ↦ absurd (c.requires.none b x)
  | inr n ↦ n
]
