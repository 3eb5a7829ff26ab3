use Rattle.std.specs.Prelude.{◌≡◌, take}
use Rattle.claim_board.specs.Told.{seen_words}
use Rattle.claim_board.proofs.worker.Worker.seen.Given as goal

abbrev pub invariant-loop-value : goal.invariant-loop-value
invariant-loop-value l = l.seen.items ≡ seen_words (take l.value-index l.self.reads.items)
