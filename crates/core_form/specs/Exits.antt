-- Exits stand within the loops that they leave.
use Rattle.std.specs.Prelude.{ℕ, suc, ◌<◌}
use Rattle.core_form.specs.Code.{Outcome, Next, Leaves, Returns}
use Rattle.core_form.specs.Code.{Code, Skip, Then, Assign, Clear, Branch, Repeat, Exit, Called, Guard, Delay, ReadClock, Stop}

-- an end of a statement that stands within so many loops: leaving 0 leaves the innermost
abbrev pub IsExitIn : ℕ → Outcome → Type 0
IsExitIn n Next = Unit {0}
IsExitIn n (Leaves k) = k < n
IsExitIn n Returns = Unit {0}

-- each exit of code within so many loops leaves one of them, or one of its own
abbrev pub ExitsIn : ℕ → Code → Type 0
ExitsIn n Skip = Unit {0}
ExitsIn n (Then a b) = ExitsIn n a × ExitsIn n b
ExitsIn n (Assign to e at) = Unit {0}
ExitsIn n (Clear leaf) = Unit {0}
ExitsIn n (Branch e a b) = ExitsIn n a × ExitsIn n b
ExitsIn n (Repeat a) = ExitsIn (suc n) a
ExitsIn n (Exit o) = IsExitIn n o
ExitsIn n (Called b actuals at) = Unit {0}
ExitsIn n (Guard o barrier call) = ExitsIn n call
ExitsIn n (Delay e) = Unit {0}
ExitsIn n (ReadClock to) = Unit {0}
ExitsIn n Stop = Unit {0}
