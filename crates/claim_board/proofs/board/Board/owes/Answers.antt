use Rattle.std.proofs.Common.{sym, ap, ◌∙◌}
use Rattle.claim_core.specs.Machine as core
use Rattle.claim_board.proofs.Tells.{told_at}
use Rattle.claim_board.proofs.board.Board.owes.Goals as goal

pub returns-clause-value : goal.returns-clause-value
returns-clause-value c = c.owes.ensures.value
    ∙ ap (λ (k : core.Worker). k.owes c.args.a.0) (sym (told_at c.args.self.now.workers.items c.args.i c.index.result.now c.index.ensures c.requires.worker))
