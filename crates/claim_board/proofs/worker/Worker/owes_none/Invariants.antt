use Rattle.std.specs.Prelude.{◌≡◌, not}
use Rattle.claim_core.specs.Guards.{all_below}
use Rattle.claim_board.specs.Told.{worker_told}
use Rattle.claim_board.proofs.worker.Worker.owes_none.Given as goal

abbrev pub invariant-loop-owes : goal.invariant-loop-owes
invariant-loop-owes l = l.none ≡ all_below l.owes-index (λ a. not ((worker_told l.self).owes a))
