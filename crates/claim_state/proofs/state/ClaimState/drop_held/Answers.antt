use Rattle.std.proofs.Common.{refl}
use Rattle.claim_state.proofs.Calling.{callers_of}
use Rattle.claim_state.proofs.state.ClaimState.drop_held.Goals as goal

pub returns-clause-done : goal.returns-clause-done
returns-clause-done c = record {
  accepted = c.in_ok-may_drop.ensures.accepted;
  claims = c.drop_held.ensures.told (callers_of c.args.self.now.program.now);
  program = refl;
  layout = refl;
  workers = c.drop_held.ensures.as_many.workers;
}
