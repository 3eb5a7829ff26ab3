use Rattle.std.proofs.Common.{true, sym, ap, ◌∙◌}
use Rattle.std.specs.Prelude.{◌≡◌}
use Rattle.claim_core.specs.Machine as core
use Rattle.claim_board.specs.Told.{told, worker_told, workers_told}
use Rattle.claim_board.proofs.Tells.{told_at, worker_set, mark_tells}
use Rattle.claim_board.proofs.board.Board.drop_held.Goals as goal

pub returns-clause-told : goal.returns-clause-told
returns-clause-told c = λ r n.
    (let ks = c.args.self.now.workers.items in
    let e : worker_told c.index_mut.result.now ≡ workers_told ks c.args.i = sym (told_at ks c.args.i c.index_mut.result.now c.index_mut.ensures.value c.requires.worker) in
    let h : worker_told c.index.result.now ≡ workers_told ks c.args.i = sym (told_at ks c.args.i c.index.result.now c.index.ensures c.requires.worker) in
    record {
      words = (told c.args.self.now).words;
      dirty = mark_tells c.args.self.now.dirty.items c.set_mark.new.marks.items c.index.result.now.holds (workers_told ks c.args.i).holds true
          (ap (λ (k : core.Worker). k.holds) h) c.set_mark.ensures.set n;
      held = (told c.args.self.now).held;
      workers = worker_set ks c.args.i c.drop_held.new.self (core.after_drop (workers_told ks c.args.i)) c.requires.worker
          (c.drop_held.ensures.told ∙ ap core.after_drop e) n;
    })
