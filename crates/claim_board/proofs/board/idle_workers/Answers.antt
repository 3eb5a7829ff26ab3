use Rattle.std.proofs.Common.{ℕ, ◌+◌, All, List, [], ◌∷◌, None, length, sym, subst, arith, length-append}
use Rattle.std.specs.Prelude.{◌≡◌}
use Rattle.std.proofs.lemmas.List.Elements.{All-push}
use Rattle.claim_core.specs.Machine.{begins}
use Rattle.claim_board.specs.declared.worker.Worker.{Worker}
use Rattle.claim_board.specs.Told.{workers_told, IsWorker}
use Rattle.claim_board.proofs.Tells.{idle_more}
use Rattle.claim_board.proofs.board.idle_workers.Goals as goal

pub loop-i-preserved : goal.loop-i-preserved
loop-i-preserved c =
    let e = c.in_ok-push.ensures.items in
    let inv = c.loop-i.invariant in
    record {
      count = subst (λ (ks : List Worker). length ks ≡ c.loop-i._i + 1) (sym {A = List Worker} e) (let n = inv.count in let m = length-append c.loop-i.list.items (c.in_ok-new.field-0 ∷ []) in omega (arith, n, m));
      workers = subst (λ (ks : List Worker). All (λ k. IsWorker c.args.bodies c.args.words k) ks) (sym {A = List Worker} e) (All-push (λ k. IsWorker c.args.bodies c.args.words k) c.loop-i.list.items c.in_ok-new.field-0 inv.workers c.in_ok-new.ensures.worker);
      idle = subst (λ (ks : List Worker). (i : ℕ) → workers_told ks i ≡ begins None) (sym {A = List Worker} e) (idle_more c.loop-i.list.items c.in_ok-new.field-0 inv.idle c.in_ok-new.ensures.told);
    }
