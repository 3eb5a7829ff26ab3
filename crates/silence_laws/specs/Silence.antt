-- When the checks find no error, and what is asked of a program for that to speak of its runs.
-- `facts` are what is told of the row of each body, `outside` what each body reads as the environment sees it, and `loose` what may be
-- unassigned before each item of the elaboration order, and behind all.
use Rattle.std.specs.Prelude.{◌≡◌, ◌↔◌, ℕ, Some, None, slice_get}
use Rattle.core_form.specs.declared.program.Body.{Body}
use Rattle.core_form.specs.declared.program.Program.{Program}
use Rattle.core_form.specs.declared.program.Var.{Var}
use Rattle.spark_messages.specs.declared.messages.Kind.TheVariants as kinds
use Rattle.spark_messages.specs.declared.messages.Message.{Message}
use Rattle.flow_relations.specs.Equation.{equation}
use Rattle.used_modes.specs.UsedModes.{BodyFacts}
use Rattle.global_check.specs.GlobalCheck.{IsGlobalMessage}
use Rattle.initializes_check.specs.InitializesCheck.{IsInitialMessage, IsOfNoObject}
use Rattle.run_laws.specs.Unassigned.{OwnAreAssigned}
use Rattle.elaboration_laws.specs.Covering.{HasPlainRoots}

abbrev pub IsError : Message → Type 0
IsError m = m.kind ≡ kinds.Error

-- what is told of each row is what the body's code makes it
pub record AreFactsOf (p : Program) (facts : ℕ → BodyFacts) : Type 0 where
  pub reads : (b v : ℕ) → (facts b).reads v ↔ (equation p b).reads v
  pub writes : (b v : ℕ) → (facts b).writes v ↔ (equation p b).writes v

-- no error is found: in Globals, at elaborations and what begins behind them, and at what bodies may themselves have left unassigned
pub record FindsNoError (p : Program) (facts : ℕ → BodyFacts) (outside loose : ℕ → ℕ → Type 0) : Type 0 where
  pub globals : (b : ℕ) (body : Body) → slice_get p.bodies b ≡ Some body
      → (m : Message) → IsError m → IsGlobalMessage p (facts b) b body m → ⊥
  pub initial : (m : Message) → IsError m → IsInitialMessage p facts outside loose m → ⊥
  pub own : OwnAreAssigned p

-- No states, objects, clock and refined contracts yet; elaborations and the main are as lowering makes them.
pub record IsPlain (p : Program) : Type 0 where
  pub vars : (v : ℕ) (var : Var) → slice_get p.vars v ≡ Some var → (var.state ≡ None) × IsOfNoObject var.sharing
  pub contracts : (b : ℕ) (body : Body) → slice_get p.bodies b ≡ Some body → body.inner ≡ None
  pub roots : HasPlainRoots p
