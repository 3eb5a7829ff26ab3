-- The claim protocol as a machine over events. A body is claimed by one worker at a time; the worker reads words of the callees, joins
-- bits of the equation into the row, wakes the callers where the row grew, and releases.
use Rattle.std.specs.Prelude.{ℕ, ◌==◌, nat_lt, Bool, true, false, not, ◌&&◌, ◌||◌, Option, None, Some, bit_or}
use Rattle.claim_core.specs.Bits.{put, put_at}
use Rattle.claim_core.specs.System.{System, owned_by}

-- What a worker holds, the last value of each word that it read since its claim, the bits that it joined since then, the bodies that
-- it owes, and whether it dropped.
pub record Worker : Type 0 where
  pub holds : Option ℕ
  pub reads : ℕ → Option ℕ
  pub joined : ℕ → ℕ
  pub owes : ℕ → Bool
  pub dropped : Bool

-- a worker that begins with this body, or with none
abbrev pub begins : Option ℕ → Worker
begins holds = record { holds = holds; reads = λ w. None; joined = λ w. 0; owes = λ b. false; dropped = false }

abbrev pub read_or_zero : Option ℕ → ℕ
read_or_zero None = 0
read_or_zero (Some x) = x

-- the words as the worker read them; one that it did not read counts as 0
abbrev pub seen : Worker → ℕ → ℕ
seen k w = read_or_zero (k.reads w)

-- the words of all rows, the bodies that are dirty, those that are held, and the workers
pub record Claims : Type 0 where
  pub words : ℕ → ℕ
  pub dirty : ℕ → Bool
  pub held : ℕ → Bool
  pub workers : ℕ → Worker

-- the state with these rows and dirty bodies, of which none is held
abbrev pub resumed : (ℕ → ℕ) → (ℕ → Bool) → Claims
resumed rows dirty = record { words = rows; dirty = dirty; held = λ b. false; workers = λ i. begins None }

-- before the first event the rows are empty, every body is dirty and none is held
abbrev pub opening : System → Claims
opening sys = resumed (λ w. 0) (λ b. nat_lt b sys.bodies)

pub data Event : Type 0 where
  Claim : ℕ → ℕ → Event  -- worker, body
  Read : ℕ → ℕ → Event  -- worker, word
  Join : ℕ → ℕ → ℕ → Event  -- worker, word, bits
  Wake : ℕ → ℕ → Event  -- worker, body
  Release : ℕ → Event
  Drop : ℕ → Event

-- the worker of an event
abbrev pub worker_of : Event → ℕ
worker_of (Claim i b) = i
worker_of (Read i w) = i
worker_of (Join i w bits) = i
worker_of (Wake i a) = i
worker_of (Release i) = i
worker_of (Drop i) = i

-- the word grows by these bits
abbrev pub grows_by : ℕ → ℕ → Bool
grows_by old bits = not (bit_or old bits == old)

-- the worker noted the value of a word
abbrev pub after_read : Worker → ℕ → ℕ → Worker
after_read k w x = record { holds = k.holds; reads = put k.reads w (Some x); joined = k.joined; owes = k.owes; dropped = k.dropped }

-- the worker joined these bits, and owes each caller of the held body where the word grew
abbrev pub after_join : System → Worker → ℕ → ℕ → Bool → Worker
after_join sys k w bits grew = record {
  holds = k.holds;
  reads = k.reads;
  joined = put k.joined w (bit_or (k.joined w) bits);
  owes = λ a. (grew && owned_by (λ b. sys.calls a b) k.holds) || k.owes a;
  dropped = k.dropped;
}

-- the worker owes this body no longer; where it woke the body that it holds, that counts as having dropped
abbrev pub after_wake : Worker → ℕ → Worker
after_wake k a = record {
  holds = k.holds;
  reads = k.reads;
  joined = k.joined;
  owes = put k.owes a false;
  dropped = owned_by (λ b. b == a) k.holds || k.dropped;
}

abbrev pub after_drop : Worker → Worker
after_drop k = record { holds = k.holds; reads = k.reads; joined = k.joined; owes = k.owes; dropped = true }

-- What an event does: a claim clears the dirty mark and sets the held one, a read notes the present word, a join sets its bits beside
-- the old ones, a wake and a drop set a dirty mark, and a release clears the held one.
abbrev pub act : System → Event → Claims → Claims
act sys (Claim i b) c = record {
  words = c.words;
  dirty = put c.dirty b false;
  held = put c.held b true;
  workers = put c.workers i (begins (Some b));
}
act sys (Read i w) c = record {
  words = c.words;
  dirty = c.dirty;
  held = c.held;
  workers = put c.workers i (after_read (c.workers i) w (c.words w));
}
act sys (Join i w bits) c = record {
  words = put c.words w (bit_or (c.words w) bits);
  dirty = c.dirty;
  held = c.held;
  workers = put c.workers i (after_join sys (c.workers i) w bits (grows_by (c.words w) bits));
}
act sys (Wake i a) c = record {
  words = c.words;
  dirty = put c.dirty a true;
  held = c.held;
  workers = put c.workers i (after_wake (c.workers i) a);
}
act sys (Release i) c = record {
  words = c.words;
  dirty = c.dirty;
  held = put_at c.held (c.workers i).holds false;
  workers = put c.workers i (begins None);
}
act sys (Drop i) c = record {
  words = c.words;
  dirty = put_at c.dirty (c.workers i).holds true;
  held = c.held;
  workers = put c.workers i (after_drop (c.workers i));
}
