use Rattle.std.proofs.Common.{ℕ, List, sym, ap, ◌∙◌}
use Rattle.std.specs.Prelude.{slice_index}
use Rattle.claim_core.specs.Machine as core
use Rattle.claim_board.proofs.Tells.{told_at, seen_tells}
use Rattle.claim_board.proofs.board.Board.seen.Goals as goal

pub returns-clause-words : goal.returns-clause-words
returns-clause-words c = λ w.
    ap (λ (l : List ℕ). slice_index l w) c.in_ok-seen.ensures ∙ seen_tells c.index.result.now.reads.items w
    ∙ ap (λ (k : core.Worker). core.seen k w) (sym (told_at c.args.self.now.workers.items c.args.i c.index.result.now c.index.ensures c.requires.worker))
