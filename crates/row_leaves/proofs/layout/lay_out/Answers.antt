use Rattle.std.proofs.Common.{◌≡◌, ◌++◌, List, arith, subst}
use Rattle.std.specs.Vec.Iter.{into_iter_items}
use Rattle.spark_base.specs.declared.numbers.LeafNo.{LeafNo}
use Rattle.row_leaves.proofs.Rooms.{next_row}
use Rattle.row_leaves.proofs.layout.lay_out.Goals as goal

pub with_row-requires-clause-increasing : goal.with_row-requires-clause-increasing
with_row-requires-clause-increasing c =
    let is = c.loop-leaves.invariant in
    let all = c.args.outer.items in
    let rest = subst (λ (lists : List (List LeafNo)). c.loop-leaves.layout.outer ++ lists ≡ all) c.in-Some.ensures.steps.0 is.rest in
    (next_row c.loop-leaves.layout c.in-Some.leaves (into_iter_items c.next.new.self) all is.layout rest c.requires.increasing c.requires.room).0

pub with_row-requires-clause-room : goal.with_row-requires-clause-room
with_row-requires-clause-room c =
    let is = c.loop-leaves.invariant in
    let all = c.args.outer.items in
    let rest = subst (λ (lists : List (List LeafNo)). c.loop-leaves.layout.outer ++ lists ≡ all) c.in-Some.ensures.steps.0 is.rest in
    let room = (next_row c.loop-leaves.layout c.in-Some.leaves (into_iter_items c.next.new.self) all is.layout rest c.requires.increasing c.requires.room).1 in
    omega (arith, room)
