-- Code without calls.
use Rattle.std.proofs.Common.{ℕ}
use Rattle.core_form.specs.declared.program.Program.{Program}
use Rattle.core_form.specs.Calls.{CallsIn, IsWithoutCalls}
use Rattle.core_form.specs.Code.{Code, Skip, Then, Assign, Clear, Branch, Repeat, Exit, Called, Guard, Delay, ReadClock, Stop}
use Rattle.core_form.specs.Fine.{CodeIn, NamesIn, SpotIn}

-- the leaves that it names
abbrev pub NamesAlone : (ℕ → Type 0) → Code → Type 0
NamesAlone P Skip = Unit {0}
NamesAlone P (Then a b) = NamesAlone P a × NamesAlone P b
NamesAlone P (Assign to e at) = SpotIn P to × NamesIn P e
NamesAlone P (Clear leaf) = P leaf
NamesAlone P (Branch e a b) = NamesIn P e × NamesAlone P a × NamesAlone P b
NamesAlone P (Repeat a) = NamesAlone P a
NamesAlone P (Exit o) = Unit {0}
NamesAlone P (Called b actuals at) = ⊥
NamesAlone P (Guard o barrier call) = ⊥
NamesAlone P (Delay e) = ⊥
NamesAlone P (ReadClock to) = ⊥
NamesAlone P Stop = Unit {0}

pub names_alone : (P : ℕ → Type 0) (a : Code) → CodeIn P a → IsWithoutCalls a → NamesAlone P a
names_alone P Skip h none = tt
names_alone P (Then a b) h none = (names_alone P a h.0 none.0, names_alone P b h.1 none.1)
names_alone P (Assign to e at) h none = h
names_alone P (Clear leaf) h none = h
names_alone P (Branch e a b) h none = (h.0, names_alone P a h.1 none.0, names_alone P b h.2 none.1)
names_alone P (Repeat a) h none = names_alone P a h none
names_alone P (Exit o) h none = tt
names_alone P (Called b actuals at) h none = absurd none
names_alone P (Guard o barrier call) h none = absurd none
names_alone P (Delay e) h none = absurd h
names_alone P (ReadClock to) h none = absurd h
names_alone P Stop h none = tt

pub calls_alone : (p : Program) (a : Code) → IsWithoutCalls a → CallsIn p a
calls_alone p Skip none = tt
calls_alone p (Then a b) none = (calls_alone p a none.0, calls_alone p b none.1)
calls_alone p (Assign to e at) none = tt
calls_alone p (Clear leaf) none = tt
calls_alone p (Branch e a b) none = (calls_alone p a none.0, calls_alone p b none.1)
calls_alone p (Repeat a) none = calls_alone p a none
calls_alone p (Exit o) none = tt
calls_alone p (Called b actuals at) none = absurd none
calls_alone p (Guard o barrier call) none = absurd none
calls_alone p (Delay e) none = tt
calls_alone p (ReadClock to) none = tt
calls_alone p Stop none = tt
