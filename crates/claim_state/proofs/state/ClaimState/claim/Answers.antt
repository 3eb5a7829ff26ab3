use Rattle.std.proofs.Common.{refl}
use Rattle.claim_state.proofs.Calling.{callers_of}
use Rattle.claim_state.proofs.state.ClaimState.claim.Goals as goal

pub returns-clause-done : goal.returns-clause-done
returns-clause-done c = record {
  accepted = c.in_ok-may_claim.ensures.accepted;
  claims = c.claim.ensures.told (callers_of c.args.self.now.program.now);
  program = refl;
  layout = refl;
  workers = c.claim.ensures.as_many.workers;
}
