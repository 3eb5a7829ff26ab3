-- Facts, equations over them, and their least solution. An equation says which facts follow from some facts.
use Rattle.std.specs.Prelude.{◌≡◌, ℕ, zero, suc, ◌+◌, ◌⊎◌, Bool, true, cond, List, [], ◌∷◌, length}

-- what so many applications of an equation make of no facts
abbrev pub applied : {Fact : Type 0} → ((Fact → Type 0) → Fact → Type 0) → ℕ → Fact → Type 0
applied F zero f = ⊥
applied F (suc n) f = F (applied F n) f

-- the least solution, among these facts: as many applications as there are facts
abbrev pub least : {Fact : Type 0} → List Fact → ((Fact → Type 0) → Fact → Type 0) → Fact → Type 0
least all F f = applied F (length all) f

-- it is one of the list
abbrev pub Among : {A : Type 0} → A → List A → Type 0
Among x [] = ⊥
Among x (y ∷ ys) = (x ≡ y) ⊎ Among x ys

-- whatever follows is one of these facts
abbrev pub IsListed : {Fact : Type 0} → List Fact → ((Fact → Type 0) → Fact → Type 0) → Type 1
IsListed {Fact = Fact} all F = (R : Fact → Type 0) (f : Fact) → F R f → Among f all

-- what follows for an owner follows from the facts of those that it calls, and more of these make no less of it
abbrev pub SeesCallees : {Fact : Type 0} → (Fact → ℕ) → (ℕ → ℕ → Type 0) → ((Fact → Type 0) → Fact → Type 0) → Type 1
SeesCallees {Fact = Fact} owner calls F =
    (R S : Fact → Type 0) (f : Fact) → ((g : Fact) → calls (owner f) (owner g) → R g → S g) → F R f → F S f

-- more facts make no less
abbrev pub Grows : {Fact : Type 0} → ((Fact → Type 0) → Fact → Type 0) → Type 1
Grows {Fact = Fact} F = (R S : Fact → Type 0) (f : Fact) → ((g : Fact) → R g → S g) → F R f → F S f

-- each fact follows from finitely many
abbrev pub IsFinite : {Fact : Type 0} → ((Fact → Type 0) → Fact → Type 0) → Type 1
IsFinite {Fact = Fact} F =
    (R : Fact → Type 0) (f : Fact) → F R f → (few : List Fact) × ((g : Fact) → Among g few → R g) × F (λ g. Among g few) f

-- facts that a test tells
abbrev pub Passes : {A : Type 0} → (A → Bool) → A → Type 0
Passes t f = t f ≡ true

-- how many of the list pass a test
abbrev pub tally : {A : Type 0} → (A → Bool) → List A → ℕ
tally t [] = 0
tally t (x ∷ xs) = cond (t x) 1 0 + tally t xs

-- each fact that is told comes of no more applications than facts are told
abbrev pub IsReached : {Fact : Type 0} → List Fact → ((Fact → Type 0) → Fact → Type 0) → (Fact → Bool) → Type 0
IsReached {Fact = Fact} all F t = (f : Fact) → t f ≡ true → applied F (tally t all) f

-- what follows for an owner from the facts that are told is told: its equation holds
abbrev pub IsMet : {Fact : Type 0} → (Fact → ℕ) → ((Fact → Type 0) → Fact → Type 0) → (Fact → Bool) → ℕ → Type 0
IsMet {Fact = Fact} owner F t b = (f : Fact) → owner f ≡ b → F (Passes t) f → t f ≡ true
