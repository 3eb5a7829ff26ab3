use Rattle.std.proofs.Common.{ℕ, Option, ◌<◌, arith, subst}
use Rattle.std.specs.Prelude.{IfSome}
use Rattle.claim_board.specs.Told.{bodies_in}
use Rattle.claim_state.proofs.state.ClaimState.holder.Goals as goal

pub returns-clause-body : goal.returns-clause-body
returns-clause-body c =
    let below : c.in-Some.b < bodies_in c.args.self.now.board = subst (λ (o : Option ℕ). IfSome o (λ b. b < bodies_in c.args.self.now.board)) c.in-Some.is c.held_by.ensures.within in
    let n = c.requires.bodies in
    omega (arith, below, n)
