-- What a body does with the leaves of packages until it returns, by the flow of its code.
use Rattle.std.specs.Prelude.{◌≡◌, ◌⊎◌, ◌↔◌, ℕ, length}
use Rattle.core_form.specs.Code.{Next, Returns}
use Rattle.core_form.specs.Code.{Code, Skip, Then, Assign, Clear, Branch, Repeat, Exit, Called, Guard, Delay, ReadClock, Stop}
use Rattle.core_form.specs.declared.program.Program.{Program}
use Rattle.flow_bits.specs.Sets.{Has}
use Rattle.flow_facts.specs.Flow.{Flow}
use Rattle.flow_relations.specs.Equation.{code_of_body}
use Rattle.unset_moments.specs.declared.endings.Ending.{Ending}
use Rattle.unset_moments.specs.Moments.{loose_first}

-- the statement makes the leaf fresh somewhere
abbrev pub Clears : Code → ℕ → Type 0
Clears Skip x = ⊥
Clears (Then a b) x = Clears a x ⊎ Clears b x
Clears (Assign to e at) x = ⊥
Clears (Clear leaf) x = x ≡ leaf
Clears (Branch e a b) x = Clears a x ⊎ Clears b x
Clears (Repeat a) x = Clears a x
Clears (Exit o) x = ⊥
Clears (Called b actuals at) x = ⊥
Clears (Guard o barrier c) x = Clears c x
Clears (Delay e) x = ⊥
Clears (ReadClock to) x = ⊥
Clears Stop x = ⊥

-- the body declares the leaf of a package: its code makes it fresh
abbrev pub Declares : Program → ℕ → ℕ → Type 0
Declares p b x = loose_first p x × Clears (code_of_body p b) x

-- behind this flow, at its end or by a return, the leaf may be unassigned since it was made fresh
abbrev pub MayLeaveUnset : ℕ → Flow → ℕ → Type 0
MayLeaveUnset void f x = f.kept Next void x ⊎ f.kept Returns void x

-- and may hold what it held before
abbrev pub MayKeep : Flow → ℕ → Type 0
MayKeep f x = f.kept Next x x ⊎ f.kept Returns x x

-- what is told of the body, whose code has this flow
pub record IsEndingOf (p : Program) (f : Flow) (b : ℕ) (e : Ending) : Type 0 where
  pub declared : (x : ℕ) → loose_first p x → Has e.declared x ↔ Declares p b x
  pub unset : (x : ℕ) → loose_first p x → Has e.unset x ↔ MayLeaveUnset (length p.leaves) f x
  pub kept : (x : ℕ) → loose_first p x → Has e.kept x ↔ MayKeep f x
