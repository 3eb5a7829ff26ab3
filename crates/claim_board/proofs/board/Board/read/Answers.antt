use Rattle.std.proofs.Common.{sym, ◌∙◌}
use Rattle.std.proofs.lemmas.List.{get_or_read}
use Rattle.std.specs.Prelude.{◌≡◌, slice_index}
use Rattle.claim_core.specs.Machine as core
use Rattle.claim_board.specs.Told.{told, worker_told, workers_told}
use Rattle.claim_board.proofs.Tells.{told_at, worker_set}
use Rattle.claim_board.proofs.board.Board.read.Goals as goal

pub returns-clause-told : goal.returns-clause-told
returns-clause-told c = λ r n.
    (let ks = c.args.self.now.workers.items in
    let e : worker_told c.index_mut.result.now ≡ workers_told ks c.args.i = sym (told_at ks c.args.i c.index_mut.result.now c.index_mut.ensures.value c.requires.worker) in
    let v : c.index-value.result.now ≡ slice_index c.args.self.now.words.items c.args.w.0 = get_or_read c.args.self.now.words.items _ _ c.requires.word c.index-value.ensures 0 in
    record {
      words = (told c.args.self.now).words;
      dirty = (told c.args.self.now).dirty;
      held = (told c.args.self.now).held;
      workers = worker_set ks c.args.i c.note.new.self (core.after_read (workers_told ks c.args.i) c.args.w.0 (slice_index c.args.self.now.words.items c.args.w.0)) c.requires.worker
          (c.note.ensures.told ∙ (λ m. core.after_read (e m) c.args.w.0 (v m))) n;
    })
