-- The claim state that words, marks and workers tell.
use Rattle.std.specs.Prelude.{◌≡◌, ℕ, zero, suc, ◌<◌, All, false, List, [], ◌∷◌, map, Option, None, IfSome, length, slice_index, slice_index_or}
use Rattle.claim_core.specs.Machine as core
use Rattle.claim_board.specs.declared.worker.Worker.{Worker}
use Rattle.claim_board.specs.declared.board.Board.{Board}

-- one that has no place reads as unread, 0 or not owed
abbrev pub worker_told : Worker → core.Worker
worker_told k = record {
  holds = k.holds;
  reads = λ w. slice_index_or k.reads.items w None;
  joined = λ w. slice_index k.joined.items w;
  owes = λ a. slice_index_or k.owes.items a false;
  dropped = k.dropped;
}

-- behind the last worker stand such as hold nothing
abbrev pub workers_told : List Worker → ℕ → core.Worker
workers_told [] i = core.begins None
workers_told (k ∷ ks) zero = worker_told k
workers_told (k ∷ ks) (suc i) = workers_told ks i

abbrev pub told : Board → core.Claims
told s = record {
  words = λ w. slice_index s.words.items w;
  dirty = λ b. slice_index_or s.dirty.items b false;
  held = λ b. slice_index_or s.held.items b false;
  workers = workers_told s.workers.items;
}

-- how many bodies, words and workers there are
abbrev pub bodies_in : Board → ℕ
bodies_in s = length s.dirty.items

abbrev pub words_in : Board → ℕ
words_in s = length s.words.items

abbrev pub workers_in : Board → ℕ
workers_in s = length s.workers.items

-- a worker of so many bodies and words
pub record IsWorker (bodies words : ℕ) (k : Worker) : Type 0 where
  pub holds : IfSome k.holds (λ b. b < bodies)
  pub reads : length k.reads.items ≡ words
  pub joined : length k.joined.items ≡ words
  pub owes : length k.owes.items ≡ bodies

pub record IsBoard (s : Board) : Type 0 where
  pub held : length s.held.items ≡ bodies_in s
  pub workers : All (IsWorker (bodies_in s) (words_in s)) s.workers.items

-- of as many bodies, words and workers
pub record AreAsMany (old new : Board) : Type 0 where
  pub bodies : bodies_in new ≡ bodies_in old
  pub words : words_in new ≡ words_in old
  pub workers : workers_in new ≡ workers_in old

-- the words as a worker read them; one that it did not read counts as 0
abbrev pub seen_words : List (Option ℕ) → List ℕ
seen_words reads = map core.read_or_zero reads
