-- The callees of calls, and code without calls.
use Rattle.std.specs.Prelude.{◌≡◌, ℕ, ◌<◌, ◌≤◌, Some, IsSomeAnd, slice_get, length}
use Rattle.core_form.specs.declared.program.Body.{Body}
use Rattle.core_form.specs.declared.program.Program.{Program}
use Rattle.core_form.specs.Code.{Actuals, NoActual, AndActual}
use Rattle.core_form.specs.Code.{Code, Skip, Then, Assign, Clear, Branch, Repeat, Exit, Called, Guard, Delay, ReadClock, Stop, code_of}

-- each actual is for one of so many formals, or for the result behind them
abbrev pub AreFormalsWithin : ℕ → Actuals → Type 0
AreFormalsWithin n NoActual = Unit {0}
AreFormalsWithin n (AndActual formal values spots at rest) = (formal ≤ n) × AreFormalsWithin n rest

-- the callee of each call is a body, whose formals the actuals are for, and each guard is of an object
abbrev pub CallsIn : Program → Code → Type 0
CallsIn p Skip = Unit {0}
CallsIn p (Then a b) = CallsIn p a × CallsIn p b
CallsIn p (Assign to e at) = Unit {0}
CallsIn p (Clear leaf) = Unit {0}
CallsIn p (Branch e a b) = CallsIn p a × CallsIn p b
CallsIn p (Repeat a) = CallsIn p a
CallsIn p (Exit o) = Unit {0}
CallsIn p (Called b actuals at) = IsSomeAnd (slice_get p.bodies b.0) (λ body. AreFormalsWithin (length body.formals) actuals)
CallsIn p (Guard o barrier call) = (o.0 < length p.objects) × CallsIn p call
CallsIn p (Delay e) = Unit {0}
CallsIn p (ReadClock to) = Unit {0}
CallsIn p Stop = Unit {0}

-- code that calls nothing
abbrev pub IsWithoutCalls : Code → Type 0
IsWithoutCalls Skip = Unit {0}
IsWithoutCalls (Then a b) = IsWithoutCalls a × IsWithoutCalls b
IsWithoutCalls (Assign to e at) = Unit {0}
IsWithoutCalls (Clear leaf) = Unit {0}
IsWithoutCalls (Branch e a b) = IsWithoutCalls a × IsWithoutCalls b
IsWithoutCalls (Repeat a) = IsWithoutCalls a
IsWithoutCalls (Exit o) = Unit {0}
IsWithoutCalls (Called b actuals at) = ⊥
IsWithoutCalls (Guard o barrier call) = ⊥
IsWithoutCalls (Delay e) = Unit {0}
IsWithoutCalls (ReadClock to) = Unit {0}
IsWithoutCalls Stop = Unit {0}

-- no body calls another
abbrev pub HasNoCalls : Program → Type 0
HasNoCalls p = (b : ℕ) (body : Body) → slice_get p.bodies b ≡ Some body → IsWithoutCalls (code_of p.exprs p.stmts body.code)
