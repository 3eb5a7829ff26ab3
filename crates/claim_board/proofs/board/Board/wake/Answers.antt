use Rattle.std.proofs.Common.{true, false, sym, ap, ◌∙◌}
use Rattle.std.specs.Prelude.{◌≡◌}
use Rattle.claim_core.specs.Machine as core
use Rattle.claim_board.specs.Told.{told, worker_told, workers_told}
use Rattle.claim_board.proofs.Tells.{set_tells, told_at, worker_set}
use Rattle.claim_board.proofs.board.Board.wake.Goals as goal

pub returns-clause-told : goal.returns-clause-told
returns-clause-told c = λ r n.
    (let ks = c.args.self.now.workers.items in
    let e : worker_told c.index_mut-2.result.now ≡ workers_told ks c.args.i = sym (told_at ks c.args.i c.index_mut-2.result.now c.index_mut-2.ensures.value c.requires.worker) in
    record {
      words = (told c.args.self.now).words;
      dirty = set_tells c.args.self.now.dirty.items c.args.a.0 true false c.requires.body n;
      held = (told c.args.self.now).held;
      workers = worker_set ks c.args.i c.pay.new.self (core.after_wake (workers_told ks c.args.i) c.args.a.0) c.requires.worker
          (c.pay.ensures.told ∙ ap (λ (k : core.Worker). core.after_wake k c.args.a.0) e) n;
    })
