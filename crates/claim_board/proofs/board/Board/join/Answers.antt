use Rattle.std.proofs.Common.{ℕ, ◌↔◌, sym, ap, ◌∙◌, subst}
use Rattle.std.specs.Prelude.{◌≡◌, slice_index, bit_or, IsTrue}
use Rattle.std.proofs.lemmas.List.{get_or_read}
use Rattle.call_lists.specs.Lists.{Names}
use Rattle.claim_core.specs.Bits.{put}
use Rattle.claim_core.specs.System.{system_of, owned_by}
use Rattle.claim_core.specs.Machine as core
use Rattle.claim_board.specs.Told.{told, worker_told, workers_told}
use Rattle.claim_board.proofs.Tells.{set_tells, told_at, worker_set}
use Rattle.claim_board.proofs.board.Board.join.Goals as goal

pub returns-clause-told : goal.returns-clause-told
returns-clause-told c = λ r callers n.
    (let ks = c.args.self.now.workers.items in
    let e : worker_told c.index_mut-2.result.now ≡ workers_told ks c.args.i = sym (told_at ks c.args.i c.index_mut-2.result.now c.index_mut-2.ensures.value c.requires.worker) in
    let v : c.index-old.result.now ≡ slice_index c.args.self.now.words.items c.args.w.0 = get_or_read c.args.self.now.words.items _ _ c.requires.word c.index-old.ensures 0 in
    let after = λ (k : core.Worker) (old : ℕ). core.after_join (system_of r) k c.args.w.0 c.args.bits (core.grows_by old c.args.bits) in
    let j : worker_told c.join.new.self ≡ after (worker_told c.index_mut-2.result.now) c.index-old.result.now =
    c.join.ensures.told r
    (subst (λ (k : core.Worker). (a : ℕ) → Names c.args.callers.now a ↔ IsTrue (owned_by (λ b. r.calls a b) k.holds)) (sym e) callers) in
    record {
      words = (set_tells c.args.self.now.words.items c.args.w.0 (bit_or c.index-old.result.now c.args.bits) 0 c.requires.word
          ∙ ap (λ (x : ℕ). put (told c.args.self.now).words c.args.w.0 (bit_or x c.args.bits)) v) n;
      dirty = (told c.args.self.now).dirty;
      held = (told c.args.self.now).held;
      workers = worker_set ks c.args.i c.join.new.self (after (workers_told ks c.args.i) (slice_index c.args.self.now.words.items c.args.w.0)) c.requires.worker
          (j ∙ (λ m. after (e m) (v m))) n;
    })
