-- What a claim state tells, and what an answer to an event says.
use Rattle.std.specs.Prelude.{◌≡◌, ℕ, ◌<◌, ◌≤◌, ◌↔◌, None, [], slice_index_or, length}
use Rattle.call_lists.specs.Lists.{AreLists, Names}
use Rattle.body_calls.specs.Callees.{Calls}
use Rattle.claim_core.specs.System.{System}
use Rattle.claim_core.specs.Machine as core
use Rattle.claim_core.specs.Guards as guards
use Rattle.claim_board.specs.Told.{told, bodies_in, words_in, workers_in, IsBoard}
use Rattle.body_summaries.specs.Bodies.{AreFit}
use Rattle.claim_state.specs.declared.event.Event.{Event}
use Rattle.claim_state.specs.declared.event.Guard.{Guard}
use Rattle.claim_state.specs.declared.event.ApplyFault.{ApplyFault}
use Rattle.claim_state.specs.declared.state.ClaimState.{ClaimState}
use Rattle.claim_state.specs.Solving.{solving}

abbrev pub event_told : Event → core.Event
event_told (Event.Claim worker body) = core.Claim worker body.0
event_told (Event.Read worker word) = core.Read worker word.0
event_told (Event.Join worker word bits) = core.Join worker word.0 bits
event_told (Event.Wake worker body) = core.Wake worker body.0
event_told (Event.Release worker) = core.Release worker
event_told (Event.Drop worker) = core.Drop worker

abbrev pub guard_told : Guard → guards.Guard
guard_told Guard.NoWorker = guards.NoWorker
guard_told Guard.Busy = guards.Busy
guard_told Guard.Idle = guards.Idle
guard_told Guard.NotDirty = guards.NotDirty
guard_told Guard.NotCallee = guards.NotCallee
guard_told Guard.NotOwn = guards.NotOwn
guard_told Guard.NotCovered = guards.NotCovered
guard_told Guard.NotOwed = guards.NotOwed
guard_told Guard.StillOwed = guards.StillOwed
guard_told Guard.Unfinished = guards.Unfinished

-- the system that is solved, how many workers there are, and the claim state
abbrev pub system_in : ClaimState → System
system_in s = solving s.program.now s.layout.now

abbrev pub workers_of : ClaimState → ℕ
workers_of s = workers_in s.board

abbrev pub claims_of : ClaimState → core.Claims
claims_of s = told s.board

-- of each state that is made: the layout is one of the program's bodies, the board is of as many bodies and words, and lists name the
-- callers and the callees of each body
pub record IsState (s : ClaimState) : Type 0 where
  pub fit : AreFit s.program.now s.layout.now
  pub board : IsBoard s.board
  pub bodies : bodies_in s.board ≡ length s.layout.now.outer
  pub words : words_in s.board ≡ s.layout.now.words
  pub callers : AreLists (length s.program.now.bodies) s.callers.items
  pub calling : (b c : ℕ) → Names (slice_index_or s.callers.items c []) b ↔ Calls s.program.now b c
  pub callees : AreLists (length s.program.now.bodies) s.callees.items
  pub called : (b c : ℕ) → Names (slice_index_or s.callees.items b []) c ↔ Calls s.program.now b c

-- the event is accepted
abbrev pub IsAccepted : core.Event → ClaimState → Type 0
IsAccepted e s = guards.Accepts (system_in s) (workers_of s) e (claims_of s)

-- where a guard is named, it is the first that is false of the event
abbrev pub IsRefused : ApplyFault → core.Event → ClaimState → Type 0
IsRefused (ApplyFault.Illegal g) e s = guards.Refuses (system_in s) (workers_of s) (guard_told g) e (claims_of s)
IsRefused ApplyFault.NoMemory e s = Unit {0}

-- an event by a worker that holds nothing is refused, or there is no such worker
abbrev pub IsNoHolder : ApplyFault → ℕ → ClaimState → Type 0
IsNoHolder (ApplyFault.Illegal Guard.NoWorker) i s = workers_of s ≤ i
IsNoHolder (ApplyFault.Illegal Guard.Idle) i s = (i < workers_of s) × (((claims_of s).workers i).holds ≡ None)
IsNoHolder f i s = ⊥

-- the event was accepted and done, and nothing else changed
pub record IsDone (e : core.Event) (old new : ClaimState) : Type 0 where
  pub accepted : IsAccepted e old
  pub claims : claims_of new ≡ core.act (system_in old) e (claims_of old)
  pub program : new.program.now ≡ old.program.now
  pub layout : new.layout.now ≡ old.layout.now
  pub workers : workers_of new ≡ workers_of old
