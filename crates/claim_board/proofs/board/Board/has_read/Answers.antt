use Rattle.std.proofs.Common.{ℕ, ◌≤◌, ◌<◌, ◌+◌, ◌↔◌, sym, subst}
use Rattle.std.specs.Prelude.{IsTrue, is_some}
use Rattle.claim_core.specs.Machine as core
use Rattle.claim_board.proofs.Tells.{told_at}
use Rattle.claim_board.proofs.board.Board.has_read.Goals as goal

pub returns : goal.returns
returns c = subst (λ (k : core.Worker). IsTrue c.has_read.result ↔ ((w : ℕ) → c.args.first ≤ w → w < c.args.first + c.args.count → IsTrue (is_some (k.reads w))))
    (sym (told_at c.args.self.now.workers.items c.args.i c.index.result.now c.index.ensures c.requires.worker)) c.has_read.ensures
