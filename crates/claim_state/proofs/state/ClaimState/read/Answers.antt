use Rattle.std.proofs.Common.{refl}
use Rattle.claim_state.proofs.Calling.{callers_of}
use Rattle.claim_state.proofs.state.ClaimState.read.Goals as goal

pub returns-clause-done : goal.returns-clause-done
returns-clause-done c = record {
  accepted = c.in_ok-may_read.ensures.accepted;
  claims = c.read.ensures.told (callers_of c.args.self.now.program.now);
  program = refl;
  layout = refl;
  workers = c.read.ensures.as_many.workers;
}
