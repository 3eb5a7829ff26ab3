-- The step machine: what one step of a task does, and what it touches.
use Rattle.std.specs.Prelude.{ℕ, zero, suc, ◌++◌, Bool, true, false, cond, List, [], ◌∷◌, map, Option, Some, None, slice_set, slice_index_or, ℤ}
use Rattle.spark_base.specs.declared.numbers.BodyNo.{BodyNo}
use Rattle.spark_base.specs.declared.numbers.LeafNo.{LeafNo}
use Rattle.core_form.specs.Code.{Actuals, NoActual, Code, Skip, Then, Assign, Clear, Branch, Repeat, Exit, Called, Guard, Delay, ReadClock, Stop}
use Rattle.core_form.specs.declared.program.Object.{Object}
use Rattle.core_form.specs.declared.program.Program.{Program}
use Rattle.core_form.specs.declared.program.TaskUnit.{TaskUnit}
use Rattle.run_model.specs.Values.{CellNo, number_in, truth_in, cells_from}
use Rattle.run_model.specs.Machine.{Remaining, push, Deed, Does, CheckFails, CallsBody, CallsGuarded, deed, statement_of, reads_by, writes_by, unmarked, cells_seen, change_library, change_own, bare_leaves, opening_leaves, body_code, Frame, State, Environment, Stepped, Moved, Blocked, Failed, Done, Touch, Acted, Goes, Waits, Fails}
use Rattle.run_model.specs.Copies.{Back, Copied, Whole, Broken, copy_in, copy_back, reads_in}

-- Objects

abbrev pub free_objects : List Object → List (Option ℕ)
free_objects objects = map (λ (o : Object). None) objects

abbrev pub is_free : List (Option ℕ) → ℕ → Bool
is_free holder o = elim (slice_index_or holder o None) [ None ↦ true | Some t ↦ false ]

abbrev pub freed : List (Option ℕ) → Option ℕ → List (Option ℕ)
freed holder None = holder
freed holder (Some o) = slice_set holder o None

-- whether a barrier lets a call pass; none where it has no truth value
abbrev pub passes : (ℕ → List (Option ℤ)) → Option LeafNo → Option Bool
passes cells None = Some true
passes cells (Some leaf) = truth_in (map number_in (cells leaf.0))

abbrev pub barrier_reads : Option LeafNo → List CellNo
barrier_reads None = []
barrier_reads (Some leaf) = cells_from leaf.0 0 1

-- Frames begin with a blank note, and `noted` is what becomes of a note where these cells are written.
module _ (N : Type 0) (p : Program) (blank : N) (noted : List CellNo → N → N) where
  -- a body that begins with these cells of its own leaves
  abbrev pub frame_with : ℕ → List (List (Option ℤ)) → Actuals → Option ℕ → Frame N
  frame_with b own actuals frees =
      record { body = b; left = push (body_code p b) []; own = own; actuals = actuals; frees = frees; note = blank }

  -- a body that nobody calls
  abbrev pub frame_of : ℕ → Frame N
  frame_of b = frame_with b (bare_leaves p.leaves) NoActual None

  -- the same frame, with this left to do and these cells
  abbrev pub with_left : Frame N → List Remaining → List (List (Option ℤ)) → Frame N
  with_left f left own = record { body = f.body; left = left; own = own; actuals = f.actuals; frees = f.frees; note = f.note }

  -- Frames that end

  abbrev pub with_touch : Touch N → Acted N → Acted N
  with_touch t (Acted.Goes g) = Goes (record { cells = g.cells; holder = g.holder; frames = g.frames; touched = t ∷ g.touched })
  with_touch t (Acted.Waits ts) = Waits (t ∷ ts)
  with_touch t (Acted.Fails ts) = Fails (t ∷ ts)

  abbrev pub stands : List (List (Option ℤ)) → List (Option ℕ) → List (Frame N) → Acted N
  stands cells holder fs = Goes (record { cells = cells; holder = holder; frames = fs; touched = [] })

  abbrev pub unless_ended : List Remaining → Acted N → Acted N → Acted N
  unless_ended [] behind here = behind
  unless_ended (i ∷ left) behind here = here

  abbrev pub touch_of_back : List (Frame N) → Back → Touch N
  touch_of_back frames b = record { frames = frames; reads = b.reads; bare = b.bare; writes = b.writes }

  -- the caller goes on behind a copying back
  abbrev pub backed : Frame N → List (Frame N) → Copied → (List (List (Option ℤ)) → Frame N → Acted N) → Acted N
  backed caller fs (Whole b) on = with_touch (touch_of_back (caller ∷ fs) b) (on b.library (with_left caller caller.left b.own))
  backed caller fs (Broken b) on = Fails (touch_of_back (caller ∷ fs) b ∷ [])

  abbrev pub nothing_copied : List (List (Option ℤ)) → List (List (Option ℤ)) → Back
  nothing_copied library own = record { library = library; own = own; reads = []; bare = []; writes = [] }

  -- Takes away the frames whose code has ended: each copies back, and then frees its object. The first frame stands by
  -- itself, since copying back changes its caller's.
  abbrev pub settle : List (List (Option ℤ)) → List (Option ℕ) → Frame N → List (Frame N) → Acted N
  settle cells holder f [] = unless_ended f.left (stands cells (freed holder f.frees) []) (stands cells holder (f ∷ []))
  settle cells holder f (g ∷ gs) = unless_ended f.left
      (backed g gs (copy_back p (λ leaf. slice_index_or f.own leaf []) f.body f.actuals (nothing_copied cells g.own))
      (λ new caller. settle new (freed holder f.frees) caller gs))
      (stands cells holder (f ∷ g ∷ gs))

  -- Statements: of the first frame f of a task t, above fs, for a word that the clock shows

  module _ (library : List (List (Option ℤ))) (holder : List (Option ℕ)) (t word : ℕ) (f : Frame N) (fs : List (Frame N)) where
    abbrev pub seen : ℕ → List (Option ℤ)
    seen = cells_seen p library f.own

    abbrev pub touch : List CellNo → List CellNo → Touch N
    touch reads writes = record { frames = f ∷ fs; reads = reads; bare = unmarked seen reads; writes = writes }

    -- a call, whose frame frees this object
    abbrev pub calls : List CellNo → List (Option ℕ) → Option ℕ → ℕ → Actuals → List Remaining → Acted N
    calls reads held frees b actuals k = elim (copy_in p seen b (bare_leaves p.leaves) actuals) [
      | None ↦ Fails (touch (reads ++ reads_in p seen b (bare_leaves p.leaves) actuals) [] ∷ [])
      | Some own ↦
          with_touch (touch (reads ++ reads_in p seen b (bare_leaves p.leaves) actuals) [])
          (settle library held (frame_with b own actuals frees) (with_left f k f.own ∷ fs))
    ]

    -- the call of a guard, whose object the task then holds; nothing else stands there
    abbrev pub calls_held : ℕ → List CellNo → Code → List Remaining → Acted N
    calls_held o reads (Called b actuals at) k = calls reads (slice_set holder o (Some t)) (Some o) b.0 actuals k
    calls_held o reads Skip k = Fails (touch reads [] ∷ [])
    calls_held o reads (Then a b) k = Fails (touch reads [] ∷ [])
    calls_held o reads (Assign to e at) k = Fails (touch reads [] ∷ [])
    calls_held o reads (Clear leaf) k = Fails (touch reads [] ∷ [])
    calls_held o reads (Branch e a b) k = Fails (touch reads [] ∷ [])
    calls_held o reads (Repeat a) k = Fails (touch reads [] ∷ [])
    calls_held o reads (Exit outcome) k = Fails (touch reads [] ∷ [])
    calls_held o reads (Guard q barrier c) k = Fails (touch reads [] ∷ [])
    calls_held o reads (Delay e) k = Fails (touch reads [] ∷ [])
    calls_held o reads (ReadClock to) k = Fails (touch reads [] ∷ [])
    calls_held o reads Stop k = Fails (touch reads [] ∷ [])

    -- behind its barrier
    abbrev pub enters : ℕ → List CellNo → Code → List Remaining → Option Bool → Acted N
    enters o reads c k None = Fails (touch reads [] ∷ [])
    enters o reads c k (Some false) = Waits (touch reads [] ∷ [])
    enters o reads c k (Some true) = calls_held o reads c k

    -- what a statement comes to, which reads and writes this, before what remains behind it
    abbrev pub done_by : List CellNo → List CellNo → List Remaining → Deed → Acted N
    done_by reads writes k (Does e) =
        with_touch (touch reads writes)
        (settle (change_library p e.change library) holder (with_left f e.left (change_own p e.change f.own)) fs)
    done_by reads writes k CheckFails = Fails (touch reads [] ∷ [])
    done_by reads writes k (CallsBody b actuals) = calls [] holder None b actuals k
    done_by reads writes k (CallsGuarded o barrier c) =
        cond (is_free holder o) (enters o (barrier_reads barrier) c k (passes seen barrier)) (Waits [])

    abbrev pub act : Code → List Remaining → Acted N
    act a k = done_by (reads_by p seen a) (writes_by seen a) k (deed seen word a k)

    abbrev pub act_at : List Remaining → Acted N
    act_at [] = Waits []
    act_at (i ∷ k) = act (statement_of i) k

  -- States

  abbrev pub unless_over : List Remaining → Frame N → List (Frame N)
  unless_over [] f = []
  unless_over (i ∷ k) f = f ∷ []

  -- a body begins, if it has something to do
  abbrev pub first_frames : Frame N → List (Frame N)
  first_frames f = unless_over f.left f

  -- the first of these elaborations that has something to do, or else the main
  abbrev pub begun : List (Frame N) → List ℕ → Environment N → Environment N
  begun [] later rest = rest
  begun (f ∷ fs) later rest = record { coming = Some later; frames = f ∷ fs }

  abbrev pub main_frames : Option BodyNo → List (Frame N)
  main_frames None = []
  main_frames (Some b) = first_frames (frame_of b.0)

  abbrev pub next_body : List ℕ → Environment N
  next_body [] = record { coming = None; frames = main_frames p.main }
  next_body (b ∷ later) = begun (first_frames (frame_of b)) later (next_body later)

  -- the environment task does the elaborations in their order, and then the main
  abbrev pub environment_of : Option (List ℕ) → List (Frame N) → Environment N
  environment_of None frames = record { coming = None; frames = frames }
  environment_of (Some later) [] = next_body later
  environment_of (Some later) (f ∷ fs) = record { coming = Some later; frames = f ∷ fs }

  -- before the first step: no object is held, and no cell is assigned but those of the clock
  abbrev pub opening : State N
  opening = record {
    cells = opening_leaves p p.leaves;
    holder = free_objects p.objects;
    coming = (next_body (map (λ (b : BodyNo). b.0) p.order)).coming;
    environment = (next_body (map (λ (b : BodyNo). b.0) p.order)).frames;
    tasks = map (λ (t : TaskUnit). first_frames (frame_of t.body.0)) p.tasks;
  }

  -- the frames of a task
  abbrev pub frames_of : State N → ℕ → List (Frame N)
  frames_of st zero = st.environment
  frames_of st (suc t) = slice_index_or st.tasks t []

  -- what a step writes, each frame that is left notes
  abbrev pub noted_in : List CellNo → List (Frame N) → List (Frame N)
  noted_in writes [] = []
  noted_in writes (f ∷ fs) =
      record { body = f.body; left = f.left; own = f.own; actuals = f.actuals; frees = f.frees; note = noted writes f.note }
      ∷ noted_in writes fs

  abbrev pub noted_of : List (Touch N) → List (Frame N) → List (Frame N)
  noted_of [] fs = fs
  noted_of (t ∷ ts) fs = noted_of ts (noted_in t.writes fs)

  -- a task goes on with these cells of the library, these holders and these frames
  abbrev pub put_frames : State N → ℕ → List (List (Option ℤ)) → List (Option ℕ) → List (Frame N) → State N
  put_frames st zero cells holder frames = record {
    cells = cells;
    holder = holder;
    coming = (environment_of st.coming frames).coming;
    environment = (environment_of st.coming frames).frames;
    tasks = st.tasks;
  }
  put_frames st (suc t) cells holder frames = record {
    cells = cells;
    holder = holder;
    coming = st.coming;
    environment = st.environment;
    tasks = slice_set st.tasks t frames;
  }

  -- whether a task waits for the end of the elaborations
  abbrev pub waits : State N → ℕ → Bool
  waits st zero = false
  waits st (suc t) = elim st.coming [ None ↦ false | Some later ↦ true ]

  -- what the first frame of a task comes to; none where the task has no frame
  abbrev pub acted : State N → ℕ → ℕ → List (Frame N) → Option (Acted N)
  acted st t word [] = None
  acted st t word (f ∷ fs) = Some (act_at st.cells st.holder t word f fs f.left)

  abbrev pub came : State N → ℕ → Option (Acted N) → Stepped N
  came st t None = Done
  came st t (Some (Acted.Goes g)) = Moved (put_frames st t g.cells g.holder (noted_of g.touched g.frames))
  came st t (Some (Acted.Waits ts)) = Blocked
  came st t (Some (Acted.Fails ts)) = Failed

  -- one step of a task, for a word that the clock shows
  abbrev pub step : State N → ℕ → ℕ → Stepped N
  step st t word = cond (waits st t) Blocked (came st t (acted st t word (frames_of st t)))

  abbrev pub touches_of : Option (Acted N) → List (Touch N)
  touches_of None = []
  touches_of (Some (Acted.Goes g)) = g.touched
  touches_of (Some (Acted.Waits ts)) = ts
  touches_of (Some (Acted.Fails ts)) = ts

  -- what it touches: nothing where the task is done, waits for the elaborations, or calls an object that is held
  abbrev pub touched : State N → ℕ → ℕ → List (Touch N)
  touched st t word = cond (waits st t) [] (touches_of (acted st t word (frames_of st t)))

-- The machine without an observer

abbrev pub unnoted : List CellNo → Unit {0} → Unit {0}
unnoted writes note = tt

abbrev pub plain_frame : Program → ℕ → Frame (Unit {0})
plain_frame p b = frame_of (Unit {0}) p tt unnoted b

abbrev pub plain_first : Program → Frame (Unit {0}) → List (Frame (Unit {0}))
plain_first p f = first_frames (Unit {0}) p tt unnoted f

abbrev pub plain_environment : Program → Option (List ℕ) → List (Frame (Unit {0})) → Environment (Unit {0})
plain_environment p coming frames = environment_of (Unit {0}) p tt unnoted coming frames

abbrev pub plain_opening : Program → State (Unit {0})
plain_opening p = opening (Unit {0}) p tt unnoted

abbrev pub plain_step : Program → State (Unit {0}) → ℕ → ℕ → Stepped (Unit {0})
plain_step p st task word = step (Unit {0}) p tt unnoted st task word
