use Rattle.std.specs.Prelude.{ℕ, ◌≤◌, ◌<◌, IsTrue, is_some}
use Rattle.claim_board.specs.Told.{worker_told}
use Rattle.claim_board.proofs.worker.Worker.has_read.Given as goal

abbrev pub invariant-loop-w : goal.invariant-loop-w
invariant-loop-w l = (w : ℕ) → l.first ≤ w → w < l.w → IsTrue (is_some ((worker_told l.self).reads w))
