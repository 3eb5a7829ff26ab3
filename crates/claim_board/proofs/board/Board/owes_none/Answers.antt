use Rattle.std.proofs.Common.{ℕ, not, sym, ap, subst, ◌∙◌}
use Rattle.claim_core.specs.Machine as core
use Rattle.claim_core.specs.Guards.{all_below}
use Rattle.claim_board.specs.declared.worker.Worker.{Worker}
use Rattle.claim_board.specs.Told.{worker_told, bodies_in, words_in, IsWorker}
use Rattle.claim_board.proofs.Tells.{told_at}
use Rattle.claim_board.proofs.board.Board.owes_none.Goals as goal

pub returns : goal.returns
returns c =
    let k = c.index.result.now in
    let is : IsWorker (bodies_in c.args.self.now) (words_in c.args.self.now) k =
    subst (λ (x : Worker). IsWorker (bodies_in c.args.self.now) (words_in c.args.self.now) x) (sym c.index.ensures)
    (c.requires.board.workers c.args.i k c.requires.worker) in
    c.owes_none.ensures
    ∙ ap (λ (n : ℕ). all_below n (λ a. not ((worker_told k).owes a))) is.owes
    ∙ ap (λ (x : core.Worker). all_below (bodies_in c.args.self.now) (λ a. not (x.owes a))) (sym (told_at c.args.self.now.workers.items c.args.i k c.index.ensures c.requires.worker))
