-- When an event is accepted, and by which guard it is refused.
use Rattle.std.specs.Prelude.{◌≡◌, ◌⊎◌, ℕ, zero, suc, ◌<◌, Bool, true, false, not, ◌&&◌, List, [], ◌∷◌, None, Some, is_some, IsTrue}
use Rattle.claim_core.specs.Bits.{Below, Bit, IsSetIn}
use Rattle.claim_core.specs.System.{System, in_row, in_callee}
use Rattle.claim_core.specs.Machine.{Worker, seen, Claims, Event, Claim, Read, Join, Wake, Release, Drop, worker_of, act}

pub data Guard : Type 0 where
  NoWorker : Guard  -- the number of the worker is too large
  Busy : Guard  -- a claim by a worker that holds a body
  Idle : Guard  -- another event by one that holds none
  NotDirty : Guard  -- the body is not dirty, or is held
  NotCallee : Guard  -- the word is not in the row of a callee
  NotOwn : Guard  -- the word is not in the held row
  NotCovered : Guard  -- some bit does not follow from what was read
  NotOwed : Guard  -- the body is not owed
  StillOwed : Guard  -- a body is owed
  Unfinished : Guard  -- a read or a join is missing, and the held body is not dirty

-- the place of a guard: it is asked behind those of smaller places
abbrev pub place : Guard → ℕ
place NoWorker = 0
place Busy = 1
place Idle = 2
place NotDirty = 3
place NotCallee = 4
place NotOwn = 5
place NotCovered = 6
place NotOwed = 7
place StillOwed = 8
place Unfinished = 9

-- the test passes for all numbers below a bound
abbrev pub all_below : ℕ → (ℕ → Bool) → Bool
all_below zero test = true
all_below (suc n) test = test n && all_below n test

abbrev pub owes_none : System → Worker → Bool
owes_none sys k = all_below sys.bodies (λ a. not (k.owes a))

-- each word of a callee was read, and each bit that follows from the reads was joined
pub record IsFinished (sys : System) (b : ℕ) (k : Worker) : Type 0 where
  pub read : (w : ℕ) → IsTrue (in_callee sys b w) → IsTrue (is_some (k.reads w))
  pub joined : (x : Bit) → IsTrue (in_row sys b x.word) → sys.equation (IsSetIn (seen k)) x → IsSetIn k.joined x

-- the worker holds a body, and this is true of it
abbrev pub HoldsOne : Worker → (ℕ → Type 0) → Type 0
HoldsOne k P = (b : ℕ) × (k.holds ≡ Some b) × P b

-- the guard is true of the event; a guard that is not named here is true of every event
abbrev pub Allows : System → ℕ → Guard → Event → Claims → Type 0
Allows sys n NoWorker e c = worker_of e < n
Allows sys n Busy (Claim i b) c = (c.workers i).holds ≡ None
Allows sys n Idle (Read i w) c = IsTrue (is_some (c.workers i).holds)
Allows sys n Idle (Join i w bits) c = IsTrue (is_some (c.workers i).holds)
Allows sys n Idle (Wake i a) c = IsTrue (is_some (c.workers i).holds)
Allows sys n Idle (Release i) c = IsTrue (is_some (c.workers i).holds)
Allows sys n Idle (Drop i) c = IsTrue (is_some (c.workers i).holds)
Allows sys n NotDirty (Claim i b) c = IsTrue (c.dirty b) × (c.held b ≡ false)
Allows sys n NotCallee (Read i w) c = HoldsOne (c.workers i) (λ b. IsTrue (in_callee sys b w))
Allows sys n NotOwn (Join i w bits) c = HoldsOne (c.workers i) (λ b. IsTrue (in_row sys b w))
Allows sys n NotCovered (Join i w bits) c =
    Below bits (λ k. sys.equation (IsSetIn (seen (c.workers i))) (record { word = w; place = k }))
Allows sys n NotOwed (Wake i a) c = IsTrue ((c.workers i).owes a)
Allows sys n StillOwed (Release i) c = IsTrue (owes_none sys (c.workers i))
Allows sys n Unfinished (Release i) c = HoldsOne (c.workers i) (λ b. IsFinished sys b (c.workers i) ⊎ IsTrue (c.dirty b))
Allows sys n g e c = Unit {0}

-- the bits of the event fit a word
abbrev pub Fits : Event → Type 0
Fits (Join i w bits) = bits < 18446744073709551616
Fits e = Unit {0}

-- of a system with n workers, every guard is true of the event
pub record Accepts (sys : System) (n : ℕ) (e : Event) (c : Claims) : Type 0 where
  pub fits : Fits e
  pub allowed : (g : Guard) → Allows sys n g e c

-- the guard is the first that is false of the event
pub record Refuses (sys : System) (n : ℕ) (g : Guard) (e : Event) (c : Claims) : Type 0 where
  pub before : (h : Guard) → place h < place g → Allows sys n h e c
  pub false_of : Allows sys n g e c → ⊥

-- an event is done where it is accepted, and changes nothing where it is refused
abbrev pub Reaches : System → ℕ → List Event → Claims → Claims → Type 0
Reaches sys n [] c d = d ≡ c
Reaches sys n (e ∷ es) c d =
    (Accepts sys n e c × Reaches sys n es (act sys e c) d) ⊎ (((g : Guard) × Refuses sys n g e c) × Reaches sys n es c d)

-- no event of the list is refused
abbrev pub AllAccepted : System → ℕ → List Event → Claims → Claims → Type 0
AllAccepted sys n [] c d = d ≡ c
AllAccepted sys n (e ∷ es) c d = Accepts sys n e c × AllAccepted sys n es (act sys e c) d
