use Rattle.std.proofs.Common.{ℕ, ◌<◌, ◌+◌, ◌↔◌, length, sym, subst}
use Rattle.std.specs.Prelude.{IsTrue, slice_index}
use Rattle.claim_core.specs.Bits.{Within}
use Rattle.claim_core.specs.Machine as core
use Rattle.claim_board.proofs.Tells.{told_at}
use Rattle.claim_board.proofs.board.Board.has_joined.Goals as goal

pub returns : goal.returns
returns c = subst (λ (k : core.Worker). IsTrue c.has_joined.result ↔ ((w : ℕ) → w < length c.args.words.now → Within (slice_index c.args.words.now w) (k.joined (c.args.first + w))))
    (sym (told_at c.args.self.now.workers.items c.args.i c.index.result.now c.index.ensures c.requires.worker)) c.has_joined.ensures
