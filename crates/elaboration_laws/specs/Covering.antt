-- When the sets of what may be unassigned at each moment of elaboration speak for runs.
use Rattle.std.specs.Prelude.{◌≡◌, ℕ, List, Some, IsSomeAnd, slice_get, length}
use Rattle.core_form.specs.Code.{Returns}
use Rattle.core_form.specs.declared.program.Home.{Home}
use Rattle.core_form.specs.declared.program.Program.{Program}
use Rattle.core_form.specs.Fine.{home_of}
use Rattle.flow_relations.specs.Equation.{IsPassed, code_of_body, equation, plain_flow}
use Rattle.unset_moments.specs.declared.endings.Ending.{Ending}
use Rattle.unset_moments.specs.Moments.{loose_before}
use Rattle.elaboration_laws.specs.Endings.{Declares, IsEndingOf}

-- the n-th item of the order is this body
abbrev pub IsItem : Program → ℕ → ℕ → Type 0
IsItem p n b = IsSomeAnd (slice_get p.order n) (λ c. c.0 ≡ b)

-- each item of the order is told of, by the flow of its code
abbrev pub AreEndings : Program → List Ending → Type 0
AreEndings p items = (n b : ℕ) → IsItem p n b → IsSomeAnd (slice_get items n) (IsEndingOf p (plain_flow p (code_of_body p b)) b)

-- the body reads by its row no leaf that may be unassigned before the n-th item, or behind all
abbrev pub StartsAssigned : Program → List Ending → ℕ → ℕ → Type 0
StartsAssigned p items n b = (x : ℕ) → (equation p b).reads x → loose_before p items n x → ⊥

-- no elaboration, nor the main, reads by its row a leaf that may be unassigned where it begins
pub record StartsAreAssigned (p : Program) (items : List Ending) : Type 0 where
  pub order : (n b : ℕ) → IsItem p n b → StartsAssigned p items n b
  pub main : (b : ℕ) → IsSomeAnd p.main (λ c. c.0 ≡ b) → StartsAssigned p items (length p.order) b

-- What is asked of elaborations and the main beside: lowering makes them so.
pub record HasPlainRoots (p : Program) : Type 0 where
  -- there is no clock yet
  pub clock : (x : ℕ) → home_of p x ≡ Some Home.Clock → ⊥
  -- neither has formals or a result
  pub order : (n b x : ℕ) → IsItem p n b → IsSomeAnd (home_of p x) (IsPassed b) → ⊥
  pub main : (b x : ℕ) → IsSomeAnd p.main (λ c. c.0 ≡ b) → IsSomeAnd (home_of p x) (IsPassed b) → ⊥
  -- an elaboration does not return before what it declares
  pub declared : (n b x : ℕ) → IsItem p n b → Declares p b x → (plain_flow p (code_of_body p b)).kept Returns x x → ⊥
