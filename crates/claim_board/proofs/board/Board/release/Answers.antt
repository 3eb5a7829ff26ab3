use Rattle.std.proofs.Common.{false, None, sym, ap}
use Rattle.std.specs.Prelude.{◌≡◌}
use Rattle.claim_core.specs.Machine as core
use Rattle.claim_board.specs.Told.{told, worker_told, workers_told}
use Rattle.claim_board.proofs.Tells.{told_at, worker_set, mark_tells}
use Rattle.claim_board.proofs.board.Board.release.Goals as goal

pub returns-clause-told : goal.returns-clause-told
returns-clause-told c = λ r n.
    (let ks = c.args.self.now.workers.items in
    let h : worker_told c.index.result.now ≡ workers_told ks c.args.i = sym (told_at ks c.args.i c.index.result.now c.index.ensures c.requires.worker) in
    record {
      words = (told c.args.self.now).words;
      dirty = (told c.args.self.now).dirty;
      held = mark_tells c.args.self.now.held.items c.set_mark.new.marks.items c.index.result.now.holds (workers_told ks c.args.i).holds false
          (ap (λ (k : core.Worker). k.holds) h) c.set_mark.ensures.set n;
      workers = worker_set ks c.args.i c.begin.new.self (core.begins None) c.requires.worker c.begin.ensures.told n;
    })
