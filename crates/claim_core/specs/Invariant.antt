-- What holds of the claim state after every list of events.
use Rattle.std.specs.Prelude.{◌≡◌, ℕ, false, None, Some, IsTrue}
use Rattle.claim_core.specs.Bits.{Within, Below, IsSetIn}
use Rattle.claim_core.specs.System.{System, in_callee, Meets, IsWithinLeast}
use Rattle.claim_core.specs.Machine.{Worker, begins, seen, Claims}

-- why a body needs no further claim now: it will be claimed, it will be woken, its worker has seen the present words, or nobody holds
-- it and its equation holds
pub data Cause (sys : System) (c : Claims) (b : ℕ) : Type 0 where
  is_dirty : IsTrue (c.dirty b) → Cause sys c b
  is_owed : (i : ℕ) → IsTrue ((c.workers i).owes b) → Cause sys c b
  is_current : (i : ℕ) → (c.workers i).holds ≡ Some b → ((w x : ℕ) → (c.workers i).reads w ≡ Some x → x ≡ c.words w) → Cause sys c b
  is_met : c.held b ≡ false → Meets sys c.words b → Cause sys c b

-- What is known of a worker that holds the body: the body is marked as held; it read words of callees alone; what it joined follows
-- from what it read; it owes callers of the body alone; and where it dropped, the body is dirty.
pub record IsAtWork (sys : System) (c : Claims) (k : Worker) (b : ℕ) : Type 0 where
  pub marked : IsTrue (c.held b)
  pub of_callees : (w x : ℕ) → k.reads w ≡ Some x → IsTrue (in_callee sys b w)
  pub covered : (w : ℕ) → Below (k.joined w) (λ j. sys.equation (IsSetIn (seen k)) (record { word = w; place = j }))
  pub owes_callers : (a : ℕ) → IsTrue (k.owes a) → IsTrue (sys.calls a b)
  pub dropped_is_dirty : IsTrue k.dropped → IsTrue (c.dirty b)

-- The rows are within the least solution; a body that is held has one worker, and an idle worker has read, joined and owes nothing;
-- what a worker read or joined of a word is within the present word; and each body has its cause.
pub record Inv (sys : System) (c : Claims) : Type 0 where
  pub within : IsWithinLeast sys c.words
  pub holder : (b : ℕ) → IsTrue (c.held b) → (i : ℕ) × ((c.workers i).holds ≡ Some b)
  pub alone : (i j b : ℕ) → (c.workers i).holds ≡ Some b → (c.workers j).holds ≡ Some b → i ≡ j
  pub at_work : (i b : ℕ) → (c.workers i).holds ≡ Some b → IsAtWork sys c (c.workers i) b
  pub idle : (i : ℕ) → (c.workers i).holds ≡ None → c.workers i ≡ begins None
  pub read_is_there : (i w x : ℕ) → (c.workers i).reads w ≡ Some x → Within x (c.words w)
  pub joined_is_there : (i w : ℕ) → Within ((c.workers i).joined w) (c.words w)
  pub caused : (b : ℕ) → Cause sys c b

-- nothing is dirty, held or owed
pub record IsAtRest (c : Claims) : Type 0 where
  pub clean : (b : ℕ) → c.dirty b ≡ false
  pub free : (b : ℕ) → c.held b ≡ false
  pub paid : (i b : ℕ) → (c.workers i).owes b ≡ false
