use Rattle.std.proofs.Common.{sym, ap, subst}
use Rattle.claim_core.specs.Machine as core
use Rattle.claim_board.specs.declared.worker.Worker.{Worker}
use Rattle.claim_board.specs.Told.{bodies_in, words_in, IsWorker}
use Rattle.claim_board.proofs.Tells.{told_at}
use Rattle.claim_board.proofs.board.Board.held_by.Goals as goal

pub returns-clause-value : goal.returns-clause-value
returns-clause-value c = ap (λ (k : core.Worker). k.holds) (sym (told_at c.args.self.now.workers.items c.args.i c.index.result.now c.index.ensures c.requires.worker))

pub returns-clause-within : goal.returns-clause-within
returns-clause-within c =
    let s = c.args.self.now in
    (subst (λ (k : Worker). IsWorker (bodies_in s) (words_in s) k) (sym c.index.ensures) (c.requires.board.workers c.args.i c.index.result.now c.requires.worker)).holds
