-- What the state of the code holds.
use Rattle.std.specs.Prelude.{◌≡◌, ℕ, Bool, true, false, suc, ◌+◌, ◌-◌, ◌<◌, ◌≤◌, cond, All, List, [], ◌∷◌, map, drop, Option, Some, None, length, slice_get, ℤ}
use Rattle.spark_base.specs.declared.numbers.BodyNo.{BodyNo}
use Rattle.spark_base.specs.declared.numbers.StmtNo.{StmtNo}
use Rattle.core_form.specs.Code.{NoActual, Leaves, Returns, Code, Skip, Then, Assign, Clear, Branch, Repeat, Exit, Called, Guard, Delay, ReadClock, Stop, code_of}
use Rattle.core_form.specs.Proper.{cells_of}
use Rattle.core_form.specs.declared.code.CoreStmt.{CoreStmt}
use Rattle.core_form.specs.declared.program.Program.{Program}
use Rattle.run_model.specs.declared.state.Frame.{Frame as HeldFrame}
use Rattle.run_model.specs.declared.state.Rest.{Rest}
use Rattle.run_model.specs.declared.state.Rest.TheVariants as rest
use Rattle.run_model.specs.declared.state.State.{State as HeldState}
use Rattle.run_model.specs.declared.effects.Effect.{Effect as HeldEffect}
use Rattle.run_model.specs.declared.effects.Effect.TheVariants as effect
use Rattle.run_model.specs.declared.steps.Stepped.{Stepped as Answer}
use Rattle.run_model.specs.declared.steps.Stepped.TheVariants as answer
use Rattle.run_model.specs.Machine.{Remaining, Again, push, resume, Frame, State, Stepped, Moved, Blocked, Failed, Done, Environment, Deed, Does, CheckFails, CallsBody, CallsGuarded, deed, statement_of, goes_to, changes, cells_seen, change_library, change_own}
use Rattle.run_model.specs.Steps.{free_objects, plain_environment, plain_first, unnoted, with_left}
use Rattle.run_model.specs.Runs.{IsSized}

abbrev pub held_rest : Program → Rest → List Remaining → List Remaining
held_rest p (rest.Do s) k = push (code_of p.exprs p.stmts s) k
held_rest p (rest.Again s) k = Again (code_of p.exprs p.stmts s) ∷ k

-- The frame of the code keeps what remains with the next last; sequences are opened when they come.
abbrev pub held_left : Program → List Rest → List Remaining → List Remaining
held_left p [] k = k
held_left p (r ∷ rs) k = held_left p rs (held_rest p r k)

-- a loop of which a round was begun
abbrev pub is_begun : Rest → Bool
is_begun (rest.Do s) = false
is_begun (rest.Again s) = true

-- how many loops are left behind one that is not the last
abbrev pub left_after : Rest → ℕ → ℕ
left_after (rest.Do s) n = n
left_after (rest.Again s) n = n - 1

abbrev pub do_of : Option Rest → Option StmtNo
do_of None = None
do_of (Some (rest.Do s)) = Some s
do_of (Some (rest.Again s)) = None

-- the next statement, unless it is a loop of which a round was begun
abbrev pub next_do : List Rest → Option StmtNo
next_do rs = do_of (slice_get rs (length rs - 1))

-- nothing calls yet
abbrev pub plain_frame_of : ℕ → List Remaining → List (List (Option ℤ)) → Frame (Unit {0})
plain_frame_of b left own = record { body = b; left = left; own = own; actuals = NoActual; frees = None; note = tt }

abbrev pub held_frame : Program → HeldFrame → Frame (Unit {0})
held_frame p f = plain_frame_of f.body.0 (held_left p f.rest.items []) f.own.items

-- the frames of a task
abbrev pub held_frames : Program → HeldFrame → List (Frame (Unit {0}))
held_frames p f = plain_first p (held_frame p f)

-- the elaborations that have yet to begin
abbrev pub held_coming : Program → HeldState → Option (List ℕ)
held_coming p s = cond s.elaborating (Some (map (λ (b : BodyNo). b.0) (drop s.next p.order))) None

abbrev pub held_environment : Program → HeldState → Environment (Unit {0})
held_environment p s = plain_environment p (held_coming p s) (held_frames p s.environment)

-- the state that the code holds
unfoldable pub held : Program → HeldState → State (Unit {0})
held p s = record {
  cells = s.cells.items;
  holder = free_objects p.objects;
  coming = (held_environment p s).coming;
  environment = (held_environment p s).frames;
  tasks = map (held_frames p) s.tasks.items;
}

-- what the code says of the effect of a statement
abbrev pub effect_told : Program → Option HeldEffect → List Remaining → Deed
effect_told p None k = CheckFails
effect_told p (Some (effect.Chosen s)) k = Does (goes_to (push (code_of p.exprs p.stmts s) k))
effect_told p (Some (effect.Round s)) k = Does (goes_to (push (code_of p.exprs p.stmts s) (Again (code_of p.exprs p.stmts s) ∷ k)))
effect_told p (Some (effect.Left n)) k = Does (goes_to (resume k (Leaves n)))
effect_told p (Some effect.Returned) k = Does (goes_to (resume k Returns))
effect_told p (Some (effect.Changed leaf cells)) k = Does (changes leaf.0 cells k)

-- it names what the program has
abbrev pub IsHeldEffect : Program → Option HeldEffect → Type 0
IsHeldEffect p None = Unit {0}
IsHeldEffect p (Some (effect.Chosen s)) = s.0 < length p.stmts
IsHeldEffect p (Some (effect.Round s)) = s.0 < length p.stmts
IsHeldEffect p (Some (effect.Left n)) = Unit {0}
IsHeldEffect p (Some effect.Returned) = Unit {0}
IsHeldEffect p (Some (effect.Changed leaf cells)) = (leaf.0 < length p.leaves) × (length cells ≡ cells_of p leaf.0)

-- Calls are still to come: the code of a step does none

abbrev pub IsNoCall : CoreStmt → Type 0
IsNoCall (CoreStmt.Move to e at) = Unit {0}
IsNoCall (CoreStmt.Fresh leaf) = Unit {0}
IsNoCall (CoreStmt.If test a b) = Unit {0}
IsNoCall (CoreStmt.Loop body) = Unit {0}
IsNoCall (CoreStmt.Leave n) = Unit {0}
IsNoCall CoreStmt.Back = Unit {0}
IsNoCall (CoreStmt.Call callee actuals at) = ⊥
IsNoCall (CoreStmt.Guarded object barrier call) = ⊥
IsNoCall (CoreStmt.DelayUntil e) = Unit {0}
IsNoCall (CoreStmt.Clock to) = Unit {0}
IsNoCall CoreStmt.Fail = Unit {0}
IsNoCall (CoreStmt.Seq stmts) = Unit {0}

abbrev pub AreNoCalls : List CoreStmt → Type 0
AreNoCalls stmts = All IsNoCall stmts

-- a statement that is no sequence
abbrev pub IsPlain : Code → Type 0
IsPlain Skip = ⊥
IsPlain (Then a b) = ⊥
IsPlain (Assign to e at) = Unit {0}
IsPlain (Clear leaf) = Unit {0}
IsPlain (Branch e a b) = Unit {0}
IsPlain (Repeat a) = Unit {0}
IsPlain (Exit o) = Unit {0}
IsPlain (Called b actuals at) = Unit {0}
IsPlain (Guard o barrier c) = Unit {0}
IsPlain (Delay e) = Unit {0}
IsPlain (ReadClock to) = Unit {0}
IsPlain Stop = Unit {0}

-- the next statement is no sequence
abbrev pub IsOpened : Program → List Rest → Type 0
IsOpened p rs = (s : StmtNo) → next_do rs ≡ Some s → IsPlain (code_of p.exprs p.stmts s)

-- how much remains, sequences counted
abbrev pub size : Code → ℕ
size Skip = 1
size (Then a b) = size a + size b + 1
size (Assign to e at) = 1
size (Clear leaf) = 1
size (Branch e a b) = 1
size (Repeat a) = 1
size (Exit o) = 1
size (Called b actuals at) = 1
size (Guard o barrier c) = 1
size (Delay e) = 1
size (ReadClock to) = 1
size Stop = 1

abbrev pub weight : Program → List StmtNo → ℕ
weight p [] = 0
weight p (s ∷ ss) = size (code_of p.exprs p.stmts s) + weight p ss

abbrev pub weight_of : Program → Rest → ℕ
weight_of p (rest.Do s) = size (code_of p.exprs p.stmts s)
weight_of p (rest.Again s) = 1

abbrev pub rest_weight : Program → List Rest → ℕ
rest_weight p [] = 0
rest_weight p (r ∷ rs) = weight_of p r + rest_weight p rs

-- Numbers in range

abbrev pub IsRest : Program → Rest → Type 0
IsRest p (rest.Do s) = s.0 < length p.stmts
IsRest p (rest.Again s) = s.0 < length p.stmts

abbrev pub AreRests : Program → List Rest → Type 0
AreRests p rs = All (IsRest p) rs

abbrev pub AreStmts : Program → List StmtNo → Type 0
AreStmts p rest = All (λ s. s.0 < length p.stmts) rest

pub record IsHeldFrame (p : Program) (f : HeldFrame) : Type 0 where
  pub rest : AreRests p f.rest.items
  pub own : IsSized p f.own.items

-- a state of this program
pub record IsHeld (p : Program) (s : HeldState) : Type 0 where
  pub cells : IsSized p s.cells.items
  pub next : s.next ≤ length p.order
  pub environment : IsHeldFrame p s.environment
  pub tasks : All (IsHeldFrame p) s.tasks.items
  pub count : length s.tasks.items ≡ length p.tasks

-- how many elaborations, and the main, have yet to begin
abbrev pub unbegun : Program → HeldState → ℕ
unbegun p s = cond s.elaborating (suc (length p.order - s.next)) 0

-- the answer of a step tells what it came to
abbrev pub Tells : Program → HeldState → HeldState → Answer → Stepped (Unit {0}) → Type 0
Tells p old new answer.Moved came = came ≡ Moved (held p new)
Tells p old new answer.Blocked came = (came ≡ Blocked) × (held p new ≡ held p old)
Tells p old new answer.Failed came = (came ≡ Failed) × (held p new ≡ held p old)
Tells p old new answer.Done came = (came ≡ Done) × (held p new ≡ held p old)

-- What a step of one frame comes to: nothing remains, a check fails, it calls, or it goes on with these cells of the library
pub data FrameStep : Type 0 where
  Over : FrameStep
  Stops : FrameStep
  Calls : FrameStep
  GoesOn : List (List (Option ℤ)) → Frame (Unit {0}) → FrameStep

abbrev pub with_deed : Program → List (List (Option ℤ)) → Frame (Unit {0}) → Deed → FrameStep
with_deed p library f CheckFails = Stops
with_deed p library f (CallsBody b actuals) = Calls
with_deed p library f (CallsGuarded o barrier c) = Calls
with_deed p library f (Does e) =
    GoesOn (change_library p e.change library) (with_left (Unit {0}) p tt unnoted f e.left (change_own p e.change f.own))

abbrev pub next_step : Program → List (List (Option ℤ)) → ℕ → Frame (Unit {0}) → List Remaining → FrameStep
next_step p library word f [] = Over
next_step p library word f (i ∷ k) = with_deed p library f (deed (cells_seen p library f.own) word (statement_of i) k)

abbrev pub frame_step : Program → List (List (Option ℤ)) → ℕ → Frame (Unit {0}) → FrameStep
frame_step p library word f = next_step p library word f f.left

-- the answer of a step of one frame
abbrev pub TellsFrame : Program → List (List (Option ℤ)) → HeldFrame → HeldFrame → List (List (Option ℤ)) → Answer → FrameStep → Type 0
TellsFrame p library old new after answer.Moved came = came ≡ GoesOn after (held_frame p new)
TellsFrame p library old new after answer.Blocked came = ⊥
TellsFrame p library old new after answer.Failed came = (came ≡ Stops) × (after ≡ library) × (new ≡ old)
TellsFrame p library old new after answer.Done came = (came ≡ Over) × (after ≡ library) × (new ≡ old) × (old.rest.items ≡ [])
