-- What a seat knows, and what each step changes in it.
use Rattle.std.specs.Prelude.{ℕ, ◌+◌, ◌-◌, ◌==◌, Bool, true, false, ◌||◌, cond, List, [], ◌∷◌, ◌++◌, Option, None, Some, bit_or}
use Rattle.claim_core.specs.Bits.{Below, IsSetIn}
use Rattle.claim_core.specs.System.{System, owned_by}
use Rattle.claim_core.specs.Machine.{Worker, seen, grows_by}
use Rattle.claim_core.specs.Guards.{all_below}
use Rattle.claim_core.specs.Counts.{one}
use Rattle.summary_table.specs.declared.view.View.{View}

-- the last value that was read of the word; the newest stands first
abbrev pub read_in : ℕ → List (ℕ × ℕ) → Option ℕ
read_in w [] = None
read_in w (p ∷ ps) = cond (w == p.0) (Some p.1) (read_in w ps)

-- the bits that the word has in all of the list
abbrev pub union_in : ℕ → List (ℕ × ℕ) → ℕ
union_in w [] = 0
union_in w (p ∷ ps) = cond (w == p.0) (bit_or (union_in w ps) p.1) (union_in w ps)

abbrev pub is_in : ℕ → List ℕ → Bool
is_in b [] = false
is_in b (x ∷ xs) = (b == x) || is_in b xs

-- Debts in the order in which they came, the newest first: all callers of a body came, or one body was woken.
abbrev pub owed_in : System → ℕ → List (ℕ × Bool) → Bool
owed_in sys a [] = false
owed_in sys a (d ∷ ds) = cond d.1 (sys.calls a d.0 || owed_in sys a ds) (cond (a == d.0) false (owed_in sys a ds))

-- the worker that the view stands for
abbrev pub worker_of : System → View → Worker
worker_of sys v = record {
  holds = v.holds;
  reads = λ w. read_in w v.reads;
  joined = λ w. union_in w v.joined;
  owes = λ a. owed_in sys a v.debts;
  dropped = v.dropped;
}

-- each of these bits of the word follows from what the seat read
abbrev pub AreCovered : System → View → ℕ → ℕ → Type 0
AreCovered sys v w bits = Below bits (λ k. sys.equation (IsSetIn (seen (worker_of sys v))) (record { word = w; place = k }))

-- an idle seat with empty sets and no counts
abbrev pub newcomer : ℕ → View
newcomer weight = record {
  weight = weight;
  holds = None;
  reads = [];
  joined = [];
  debts = [];
  dropped = false;
  seen = [];
  claimed = [];
  woke = [];
  tried = [];
  won = 0;
  acts = 0;
  scans = 0;
}

-- counts alone: it weighs nothing, holds nothing and has empty sets
abbrev pub tally : ℕ → ℕ → ℕ → View
tally won acts scans = record (newcomer 0) { won = won; acts = acts; scans = scans }

-- what is left of a seat that met into another
abbrev pub spent : View
spent = tally 0 0 0

-- the word was read
abbrev pub loaded : View → ℕ → ℕ → View
loaded v w x = record v { reads = (w, x) ∷ v.reads; seen = (w, x) ∷ v.seen; acts = v.acts + 1 }

-- a claim of the body won: it is held, and nothing was read, joined or tried since
abbrev pub won_claim : View → ℕ → View
won_claim v b = record v {
  holds = Some b;
  reads = [];
  joined = [];
  debts = [];
  dropped = false;
  claimed = b ∷ v.claimed;
  tried = [];
  won = v.won + 1;
  acts = v.acts + 1;
}

-- a claim of the body lost
abbrev pub lost_claim : View → ℕ → View
lost_claim v b = record v { tried = b ∷ v.tried }

-- the claim wins where the gate was 1
abbrev pub after_claim : View → ℕ → ℕ → View
after_claim v b found = cond (found == 1) (won_claim v b) (lost_claim v b)

-- a body was woken; where it is the held one, that counts as having dropped
abbrev pub woken : View → ℕ → View
woken v a = record v {
  debts = (a, false) ∷ v.debts;
  dropped = owned_by (λ b. b == a) v.holds || v.dropped;
  woke = a ∷ v.woke;
}

abbrev pub with_callers : Option ℕ → List (ℕ × Bool) → List (ℕ × Bool)
with_callers None ds = ds
with_callers (Some b) ds = (b, true) ∷ ds

-- the bits were joined into the word, which was `old` before; where it grew, the callers of the held body are owed
abbrev pub joined_in : View → ℕ → ℕ → ℕ → View
joined_in v w bits old = record v {
  joined = (w, bits) ∷ v.joined;
  seen = (w, bits) ∷ v.seen;
  debts = cond (grows_by old bits) (with_callers v.holds v.debts) v.debts;
  acts = v.acts + 1;
}

abbrev pub released : View → View
released v = record v { holds = None; reads = []; joined = []; debts = []; dropped = false }

-- each body was tried since the last claim that won: a scan
abbrev pub has_all : ℕ → View → Bool
has_all bodies v = all_below bodies (λ b. is_in b v.tried)

-- one seat is parted from another
abbrev pub parted : View → View
parted v = record v { weight = v.weight - 1 }

abbrev pub part_of : View → View
part_of v = newcomer 1

-- the second met into the first
abbrev pub met : ℕ → View → View → View
met bodies v w = record v {
  weight = v.weight + w.weight;
  seen = v.seen ++ w.seen;
  claimed = v.claimed ++ w.claimed;
  woke = v.woke ++ w.woke;
  won = v.won + w.won;
  acts = v.acts + w.acts;
  scans = v.scans + w.scans + one (has_all bodies w);
}

-- the counts of the last seat, told once more beside it
abbrev pub same_view : View → View
same_view v = v

abbrev pub counts_of : ℕ → View → View
counts_of bodies v = tally v.won v.acts (v.scans + one (has_all bodies v))
