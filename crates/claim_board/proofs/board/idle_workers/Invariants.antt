use Rattle.std.specs.Prelude.{◌≡◌, ℕ, All, length, None}
use Rattle.claim_core.specs.Machine.{begins}
use Rattle.claim_board.specs.Told.{workers_told, IsWorker}
use Rattle.claim_board.proofs.board.idle_workers.Given as goal

abbrev pub invariant-loop-i : goal.invariant-loop-i
invariant-loop-i l = record {
  count : length l.list.items ≡ l._i;
  workers : All (λ k. IsWorker l.bodies l.words k) l.list.items;
  idle : (i : ℕ) → workers_told l.list.items i ≡ begins None;
}
