-- A worklist: facts that are told, and owners that are to be visited.
use Rattle.std.specs.Prelude.{◌≡◌, ℕ, ◌⊎◌, ◌↔◌, Bool, true, false, List, [], ◌∷◌}
use Rattle.least_solution.specs.Least.{Passes}

pub record Worklist (Fact : Type 0) : Type 0 where
  pub told : Fact → Bool
  pub dirty : ℕ → Bool

-- before the first visit nothing is told, and every owner is dirty
abbrev pub opening : {Fact : Type 0} → Worklist Fact
opening = record { told = λ f. false; dirty = λ b. true }

-- the facts t, and beside them those that follow for b from t
abbrev pub Joins : {Fact : Type 0} → (Fact → ℕ) → ((Fact → Type 0) → Fact → Type 0) → (Fact → Bool) → ℕ → (Fact → Bool) → Type 0
Joins {Fact = Fact} owner F t b s = (f : Fact) → (s f ≡ true) ↔ ((t f ≡ true) ⊎ ((owner f ≡ b) × F (Passes t) f))

-- a fact came in
abbrev pub Gains : {Fact : Type 0} → (Fact → Bool) → (Fact → Bool) → Type 0
Gains {Fact = Fact} t s = (g : Fact) × (t g ≡ false) × (s g ≡ true)

-- A visit of b: what follows for b is told, and b alone is no longer dirty; but where a fact came in, its callers are dirty.
pub record IsVisit {Fact : Type 0} (owner : Fact → ℕ) (calls : ℕ → ℕ → Type 0) (F : (Fact → Type 0) → Fact → Type 0) (b : ℕ)
    (old new : Worklist Fact) : Type 0 where
  pub joins : Joins owner F old.told b new.told
  pub cleans : (c : ℕ) → new.dirty c ≡ false → (c ≡ b) ⊎ (old.dirty c ≡ false)
  pub wakes : ((f : Fact) → new.told f ≡ old.told f) ⊎ (Gains old.told new.told × ((c : ℕ) → new.dirty c ≡ false → calls c b → ⊥))

-- visits of these owners, one after another
abbrev pub Visits : {Fact : Type 0}
    → (Fact → ℕ) → (ℕ → ℕ → Type 0) → ((Fact → Type 0) → Fact → Type 0) → List ℕ → Worklist Fact → Worklist Fact → Type 0
Visits owner calls F [] old new = new ≡ old
Visits {Fact = Fact} owner calls F (b ∷ bs) old new =
    (mid : Worklist Fact) × (IsVisit owner calls F b old mid × Visits owner calls F bs mid new)
