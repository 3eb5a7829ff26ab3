use Rattle.std.proofs.Common.{length, arith, inl, inr}
use Rattle.std.proofs.lemmas.Bool.{cases_lt}
use Rattle.std.proofs.lemmas.List.{get_or_past}
use Rattle.program_layout.proofs.Counts.{beside_most}
use Rattle.program_layout.proofs.beside.leaves_beside.Goals as goal

pub count_leaf-requires-clause-room : goal.count_leaf-requires-clause-room
count_leaf-requires-clause-room c = λ b.
    let is = c.loop-leaf.invariant in
    let size = is.size in
    rw c.as_mut_slice.ensures.value (elim (cases_lt b (length c.args.program.now.bodies)) [
      | inl l ↦ (let n = is.counts b l in let m = beside_most c.args.program.now b c.loop-leaf.leaf in omega (arith, n, m))
      | inr g ↦ (let past = get_or_past c.loop-leaf.counts.items b 0 (omega (arith, g, size)) in omega (arith, past))
    ])
