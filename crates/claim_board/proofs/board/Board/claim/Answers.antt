use Rattle.std.proofs.Common.{◌≡◌, ℕ, All, true, false, Some, length, sym, subst, ◌∙◌, arith}
use Rattle.std.proofs.Math.ListN.{set, length-set}
use Rattle.std.proofs.lemmas.List.Elements.{All-set}
use Rattle.claim_core.specs.Machine as core
use Rattle.claim_board.specs.declared.worker.Worker.{Worker}
use Rattle.claim_board.specs.Told.{told, bodies_in, words_in, IsWorker}
use Rattle.claim_board.proofs.Tells.{set_tells, worker_set}
use Rattle.claim_board.proofs.board.Board.claim.Goals as goal

pub returns-clause-board : goal.returns-clause-board
returns-clause-board c =
    let s = c.args.self.now in
    let d : length (set s.dirty.items c.args.b.0 false) ≡ length s.dirty.items = length-set s.dirty.items c.args.b.0 false in
    let is : IsWorker (bodies_in s) (words_in s) c.begin.new.self = c.begin.ensures.worker (bodies_in s) (words_in s)
    (subst (λ (x : Worker). IsWorker (bodies_in s) (words_in s) x) (sym c.index_mut-3.ensures.value) (c.requires.board.workers c.args.i c.index_mut-3.result.now c.requires.worker)) c.requires.body in
    record {
      held = length-set s.held.items c.args.b.0 true ∙ c.requires.board.held ∙ sym d;
      workers = subst (λ (n : ℕ). All (IsWorker n (words_in s)) (set s.workers.items c.args.i c.begin.new.self)) (sym d)
          (All-set (IsWorker (bodies_in s) (words_in s)) s.workers.items c.args.i c.begin.new.self is c.requires.board.workers);
    }

pub returns-clause-told : goal.returns-clause-told
returns-clause-told c = λ r n. (let size = c.requires.board.held in let below = c.requires.body in record {
  words = (told c.args.self.now).words;
  dirty = set_tells c.args.self.now.dirty.items c.args.b.0 false false below n;
  held = set_tells c.args.self.now.held.items c.args.b.0 true false (omega (arith, size, below)) n;
  workers = worker_set c.args.self.now.workers.items c.args.i c.begin.new.self (core.begins (Some c.args.b.0)) c.requires.worker c.begin.ensures.told n;
})
