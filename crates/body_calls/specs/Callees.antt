-- Which bodies the code of a body calls.
use Rattle.std.specs.Prelude.{◌≡◌, ℕ, ◌<◌, ◌⊎◌, ◌↔◌, IsSomeAnd, List, slice_get}
use Rattle.spark_base.specs.declared.numbers.BodyNo.{BodyNo}
use Rattle.core_form.specs.declared.program.Program.{Program}
use Rattle.core_form.specs.Code.{Code, Skip, Then, Assign, Clear, Branch, Repeat, Exit, Called, Guard, Delay, ReadClock, Stop, code_of}
use Rattle.call_lists.specs.Lists.{IsBodyAt, Names}

-- the code has a call of the body
abbrev pub HasCall : Code → ℕ → Type 0
HasCall Skip c = ⊥
HasCall (Then a b) c = HasCall a c ⊎ HasCall b c
HasCall (Assign to e at) c = ⊥
HasCall (Clear leaf) c = ⊥
HasCall (Branch e a b) c = HasCall a c ⊎ HasCall b c
HasCall (Repeat a) c = HasCall a c
HasCall (Exit o) c = ⊥
HasCall (Called b actuals at) c = b.0 ≡ c
HasCall (Guard o barrier call) c = HasCall call c
HasCall (Delay e) c = ⊥
HasCall (ReadClock to) c = ⊥
HasCall Stop c = ⊥

-- a body calls another
abbrev pub Calls : Program → ℕ → ℕ → Type 0
Calls p b c = IsSomeAnd (slice_get p.bodies b) (λ body. HasCall (code_of p.exprs p.stmts body.code) c)

-- a list to which the callees of code were added
abbrev pub IsWithCallees : List BodyNo → Code → List BodyNo → Type 0
IsWithCallees old code new = (c : ℕ) → Names new c ↔ (Names old c ⊎ HasCall code c)

-- each body is greater than those before it
abbrev pub IsRising : List BodyNo → Type 0
IsRising bs = (b c i j : ℕ) → IsBodyAt bs b i → IsBodyAt bs c j → i < j → b < c
