-- The system that workers solve for a program: who calls whom, and which facts follow by the equations of bodies.
use Rattle.std.specs.Prelude.{ℕ, ◌==◌, Bool, false, ◌||◌, Option, None, Some, slice_get}
use Rattle.core_form.specs.declared.program.Body.{Body}
use Rattle.core_form.specs.declared.program.Program.{Program}
use Rattle.core_form.specs.Code.{Code, Skip, Then, Assign, Clear, Branch, Repeat, Exit, Called, Guard, Delay, ReadClock, Stop, code_of}
use Rattle.summary_rows.specs.declared.layout.Layout.{Layout}
use Rattle.claim_core.specs.System.{System}
use Rattle.claim_rows.specs.Placed.{placed}
use Rattle.row_equations.specs.Follow.{follows}

-- the code has a call of the body
abbrev pub has_call : Code → ℕ → Bool
has_call Skip c = false
has_call (Then a b) c = has_call a c || has_call b c
has_call (Assign to e at) c = false
has_call (Clear leaf) c = false
has_call (Branch e a b) c = has_call a c || has_call b c
has_call (Repeat a) c = has_call a c
has_call (Exit o) c = false
has_call (Called b actuals at) c = b.0 == c
has_call (Guard o barrier call) c = has_call call c
has_call (Delay e) c = false
has_call (ReadClock to) c = false
has_call Stop c = false

abbrev pub body_calls : Program → Option Body → ℕ → Bool
body_calls p None c = false
body_calls p (Some body) c = has_call (code_of p.exprs p.stmts body.code) c

-- a body calls another
abbrev pub calls : Program → ℕ → ℕ → Bool
calls p b c = body_calls p (slice_get p.bodies b) c

-- the rows of a layout, under the equations of all bodies
abbrev pub solving : Program → Layout → System
solving p l = placed l (calls p) (follows p l)
