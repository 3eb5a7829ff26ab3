-- The guards of a join that are true of it, one after another.
use Rattle.std.proofs.Common.{◌≡◌, ℕ, ◌<◌, Option, Some, refl, sym, subst, arith}
use Rattle.std.specs.Prelude.{IsTrue, is_some}
use Rattle.claim_core.specs.Bits.{Below, IsSetIn}
use Rattle.claim_core.specs.System.{System, in_row}
use Rattle.claim_core.specs.Machine.{Claims, Join, seen}
use Rattle.claim_core.specs.Guards.{Guard, NoWorker, Busy, Idle, NotDirty, NotCallee, NotOwn, NotCovered, NotOwed, StillOwed, Unfinished, place, Allows}

module _ (sys : System) (n i w bits : ℕ) (c : Claims) (b : ℕ) (lt : i < n) (holds : (c.workers i).holds ≡ Some b) where
  idle : IsTrue (is_some (c.workers i).holds)
  idle = subst (λ (o : Option ℕ). IsTrue (is_some o)) (sym holds) refl

  pub before_own : (h : Guard) → place h < 5 → Allows sys n h (Join i w bits) c
  before_own NoWorker p = lt
  before_own Busy p = tt
  before_own Idle p = idle
  before_own NotDirty p = tt
  before_own NotCallee p = tt
  before_own NotOwn p = absurd (omega (arith, p))
  before_own NotCovered p = absurd (omega (arith, p))
  before_own NotOwed p = tt
  before_own StillOwed p = tt
  before_own Unfinished p = tt

  pub before_covered : IsTrue (in_row sys b w) → (h : Guard) → place h < 6 → Allows sys n h (Join i w bits) c
  before_covered own NoWorker p = lt
  before_covered own Busy p = tt
  before_covered own Idle p = idle
  before_covered own NotDirty p = tt
  before_covered own NotCallee p = tt
  before_covered own NotOwn p = (b, holds, own)
  before_covered own NotCovered p = absurd (omega (arith, p))
  before_covered own NotOwed p = tt
  before_covered own StillOwed p = tt
  before_covered own Unfinished p = tt

  pub join_allowed : IsTrue (in_row sys b w) → Below bits (λ k. sys.equation (IsSetIn (seen (c.workers i))) (record { word = w; place = k }))
      → (h : Guard) → Allows sys n h (Join i w bits) c
  join_allowed own covered NoWorker = lt
  join_allowed own covered Busy = tt
  join_allowed own covered Idle = idle
  join_allowed own covered NotDirty = tt
  join_allowed own covered NotCallee = tt
  join_allowed own covered NotOwn = (b, holds, own)
  join_allowed own covered NotCovered = covered
  join_allowed own covered NotOwed = tt
  join_allowed own covered StillOwed = tt
  join_allowed own covered Unfinished = tt
