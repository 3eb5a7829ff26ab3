use Rattle.std.specs.Prelude.{ℕ, ◌+◌, ◌<◌, slice_index}
use Rattle.claim_core.specs.Bits.{Within}
use Rattle.claim_board.specs.Told.{worker_told}
use Rattle.claim_board.proofs.worker.Worker.has_joined.Given as goal

abbrev pub invariant-loop-k : goal.invariant-loop-k
invariant-loop-k l = (k : ℕ) → k < l.k → Within (slice_index l.words k) ((worker_told l.self).joined (l.first + k))
