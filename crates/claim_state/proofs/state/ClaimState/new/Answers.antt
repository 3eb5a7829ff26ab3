use Rattle.std.proofs.Common.{arith}
use Rattle.body_summaries.proofs.Calls.{bodies_few}
use Rattle.claim_state.proofs.state.ClaimState.new.Goals as goal

pub all_callees-requires-clause-room : goal.all_callees-requires-clause-room
all_callees-requires-clause-room c =
    let few = bodies_few c.args.layout.now c.requires.layout.layout in
    let b = c.requires.layout.bodies in
    omega (arith, few, b)

pub overflow_cast-len : goal.overflow_cast-len
overflow_cast-len c =
    let few = bodies_few c.args.layout.now c.requires.layout.layout in
    let b = c.requires.layout.bodies in
    let n = c.len.ensures in
    omega (arith, few, b, n)
