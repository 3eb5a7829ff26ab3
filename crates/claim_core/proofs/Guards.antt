-- What the guards of an accepted event say.
use Rattle.std.proofs.Common.{◌≡◌, ◌⊎◌, ℕ, Option, None, Some, false, refl, IsTrue}
use Rattle.std.specs.Prelude.{is_some}
use Rattle.std.proofs.lemmas.Bool.{false≢true}
use Rattle.claim_core.specs.Bits.{Below, IsSetIn}
use Rattle.claim_core.specs.System.{System, in_row, in_callee}
use Rattle.claim_core.specs.Machine.{seen, Claims, Event, Claim, Read, Join, Wake, Release, Drop}
use Rattle.claim_core.specs.Guards.{Busy, Idle, NotDirty, NotCallee, NotOwn, NotCovered, NotOwed, StillOwed, Unfinished, IsFinished, owes_none, Accepts}

pub some_one : (a b : ℕ) → Some a ≡ Some b → a ≡ b
some_one a b e = cc

some_of : (o : Option ℕ) → IsTrue (is_some o) → (b : ℕ) × (o ≡ Some b)
some_of None h = absurd (false≢true h)
some_of (Some b) h = (b, refl)

-- all guards of an event but the number of its worker, together
abbrev pub Passes : System → Event → Claims → Type 0
Passes sys (Claim i b) c = ((c.workers i).holds ≡ None) × IsTrue (c.dirty b) × (c.held b ≡ false)
Passes sys (Read i w) c = (b : ℕ) × ((c.workers i).holds ≡ Some b) × IsTrue (in_callee sys b w)
Passes sys (Join i w bits) c = (b : ℕ) × ((c.workers i).holds ≡ Some b) × IsTrue (in_row sys b w)
    × Below bits (λ k. sys.equation (IsSetIn (seen (c.workers i))) (record { word = w; place = k }))
Passes sys (Wake i a) c = (b : ℕ) × ((c.workers i).holds ≡ Some b) × IsTrue ((c.workers i).owes a)
Passes sys (Release i) c = (b : ℕ) × ((c.workers i).holds ≡ Some b) × IsTrue (owes_none sys (c.workers i)) × (IsFinished sys b (c.workers i) ⊎ IsTrue (c.dirty b))
Passes sys (Drop i) c = (b : ℕ) × ((c.workers i).holds ≡ Some b)

pub passes : (sys : System) (n : ℕ) (e : Event) (c : Claims) → Accepts sys n e c → Passes sys e c
passes sys n (Claim i b) c a = let p = a.allowed NotDirty in (a.allowed Busy, p.0, p.1)
passes sys n (Read i w) c a = a.allowed NotCallee
passes sys n (Join i w bits) c a = let p = a.allowed NotOwn in (p.0, p.1, p.2, a.allowed NotCovered)
passes sys n (Wake i x) c a = let o = some_of (c.workers i).holds (a.allowed Idle) in (o.0, o.1, a.allowed NotOwed)
passes sys n (Release i) c a = let p = a.allowed Unfinished in (p.0, p.1, a.allowed StillOwed, p.2)
passes sys n (Drop i) c a = some_of (c.workers i).holds (a.allowed Idle)
