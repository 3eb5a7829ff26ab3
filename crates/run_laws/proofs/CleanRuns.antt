-- Each step of a run is clean: what holds of the frames before a step holds behind it.
use Rattle.std.proofs.Common.{◌≡◌, ℕ, List, [], ◌∷◌, ◌++◌, map, Option, Some, None, refl, subst, sym, ℤ}
use Rattle.std.specs.Prelude.{IsTrue}
use Rattle.std.specs.Option.{option_to_list}
use Rattle.spark_base.specs.declared.numbers.BodyNo.{BodyNo}
use Rattle.core_form.specs.Calls.{HasNoCalls}
use Rattle.core_form.specs.Code.{Next, Code, Repeat}
use Rattle.core_form.specs.Fine.{IsSeenIn, IsWellFormed}
use Rattle.core_form.specs.Proper.{IsProper}
use Rattle.core_form.specs.declared.program.Program.{Program}
use Rattle.flow_relations.specs.Equation.{code_of_body}
use Rattle.run_model.specs.Values.{CellNo}
use Rattle.run_model.specs.Machine.{Acted, Deed, Does, CheckFails, CallsBody, CallsGuarded, Effect, Environment, Frame, Remaining, Do, Again, State, Stepped, Moved, Blocked, Failed, Done, bare_leaves, body_code, cells_seen, change_library, change_own, deed, is_library, opening_leaves, push, reads_by, writes_by}
use Rattle.run_model.specs.Steps.{act_at, acted, begun, came, done_by, environment_of, main_frames, next_body, noted_of, opening, step, touches_of, unless_over}
use Rattle.run_model.specs.Runs.{IsSized, run}
use Rattle.run_laws.specs.Clean.{AreClean, AreCleanTouches, IsAmong, with_writes}
use Rattle.run_laws.specs.Laws.{IsSilent, RunsAreClean, alone}
use Rattle.run_laws.specs.Unassigned.{AreElaborated, all, opens_behind}
use Rattle.run_laws.proofs.Bodies.{Fits, IsCall, IsCleanNext, Loose, calls_none, clean, done, frame, steps}
use Rattle.run_model.proofs.Lists.{opening_sized}
use Rattle.run_laws.proofs.Names.{IsSound, sound_body}
use Rattle.run_laws.proofs.Starts.{Open, library_seen, loose_of, root_begins}
use Rattle.run_laws.proofs.Walks.{Below, Goes, none}

-- Which body runs: a root, behind those that were done, or a call that stands alone
pub data Kind : Type 0 where
  Root : List ℕ → Kind
  Call : ℕ → Kind

module _ (p : Program) where
  -- what may be unassigned behind these bodies, the last of which stands first
  abbrev pub before : List ℕ → ℕ → Type 0
  before [] = all
  before (b ∷ bs) = opens_behind p b (before bs)

  abbrev pub names_of : Kind → ℕ → Type 0
  names_of (Root []) = Below p
  names_of (Root (b ∷ bs)) = IsSeenIn p b
  names_of (Call b) = IsSeenIn p b

  abbrev pub owed_by : Kind → ℕ → Type 0
  owed_by (Root bs) = before bs
  owed_by (Call b) = all

  abbrev pub mains : List ℕ
  mains = map (λ (b : BodyNo). b.0) (option_to_list p.main)

  -- what is to come reads nothing that may be unassigned
  abbrev pub Follows : Option (List ℕ) → Kind → Type 0
  Follows None kind = Unit {0}
  Follows (Some later) (Root bs) = AreElaborated p (later ++ mains) (before bs)
  Follows (Some later) (Call b) = ⊥

  -- what fits is said of does not hang on the call that made the frame
  pub record Runs (library : List (List (Option ℤ))) (coming : Option (List ℕ)) (f : Frame (List CellNo)) : Type 0 where
    pub kind : Kind
    pub fits : Fits p (names_of kind) (owed_by kind) library (frame f.body f.left f.own f.note)
    pub follows : Follows coming kind

  -- nothing calls, so there is one frame at most
  abbrev pub Inv : List (List (Option ℤ)) → Option (List ℕ) → List (Frame (List CellNo)) → Type 0
  Inv library coming [] = Unit {0}
  Inv library coming (f ∷ []) = Runs library coming f
  Inv library coming (f ∷ g ∷ fs) = ⊥

  abbrev pub InvAt : List (List (Option ℤ)) → Environment (List CellNo) → Type 0
  InvAt library e = Inv library e.coming e.frames

  abbrev pub ends_with : List Remaining → Frame (List CellNo) → List (Frame (List CellNo))
  ends_with left f = unless_over (List CellNo) p [] with_writes left f

  -- a root may name each library leaf
  root_names : (bs : List ℕ) (x : ℕ) → Below p x → IsTrue (is_library p x) → names_of (Root bs) x
  root_names [] x l t = l
  root_names (b ∷ bs) x l t = library_seen p b x t

-- what is open at the end of a root is owed
loose_end : (p : Program) (bs : List ℕ) (library : List (List (Option ℤ))) (b : ℕ) (left : List Remaining) (own : List (List (Option ℤ))) (note : List CellNo) → Fits p (names_of p (Root bs)) (before p bs) library (frame b left own note) → left ≡ []
    → (x : ℕ) → Below p x → IsTrue (is_library p x) → Open library x → before p bs x
loose_end p bs library b left own note f e x l t o =
    let g = subst (λ k. Goes all none all (names_of p (Root bs)) (before p bs) p k Next (Loose p (names_of p (Root bs)) library own)) e f.assigned in
    g x l t (loose_of p (names_of p (Root bs)) library own x t (root_names p bs x l t) o)

module _ (p : Program) (fine : IsWellFormed p) (proper : IsProper p) (plain : HasNoCalls p) (silent : IsSilent p) where
  sound : (b : ℕ) → IsSound p b (code_of_body p b)
  sound b = sound_body p fine proper plain b

  -- the main begins
  main_starts : (library : List (List (Option ℤ))) (bs : List ℕ) (o : Option BodyNo) → AreElaborated p (map (λ (b : BodyNo). b.0) (option_to_list o)) (before p bs)
      → ((x : ℕ) → Below p x → IsTrue (is_library p x) → Open library x → before p bs x)
      → Inv p library None (main_frames (List CellNo) p [] with_writes o)
  main_starts library bs None e most = tt
  main_starts library bs (Some m) e most = cases (push (body_code p m.0) []) refl (root_begins p fine silent.own m.0 (sound m.0) library (before p bs) e.0 most)
    where
      cases : (left : List Remaining) → push (body_code p m.0) [] ≡ left → Fits p (IsSeenIn p m.0) (opens_behind p m.0 (before p bs)) library (frame m.0 (push (body_code p m.0) []) (bare_leaves p.leaves) [])
          → Inv p library None (ends_with p left (frame m.0 (push (body_code p m.0) []) (bare_leaves p.leaves) []))
      cases [] i f = tt
      cases (j ∷ k) i f = record { kind = Root (m.0 ∷ bs); fits = f; follows = tt }

  -- the next root begins
  next_starts : (library : List (List (Option ℤ))) (later bs : List ℕ) → AreElaborated p (later ++ mains p) (before p bs)
      → ((x : ℕ) → Below p x → IsTrue (is_library p x) → Open library x → before p bs x)
      → InvAt p library (next_body (List CellNo) p [] with_writes later)
  next_starts library [] bs e most = main_starts library bs p.main e most
  next_starts library (b ∷ later) bs e most =
      cases (push (body_code p b) []) refl (root_begins p fine silent.own b (sound b) library (before p bs) e.0 most) (next_starts library later (b ∷ bs) e.1)
    where
      cases : (left : List Remaining) → push (body_code p b) [] ≡ left → Fits p (IsSeenIn p b) (opens_behind p b (before p bs)) library (frame b (push (body_code p b) []) (bare_leaves p.leaves) [])
          → (((x : ℕ) → Below p x → IsTrue (is_library p x) → Open library x → before p (b ∷ bs) x) → InvAt p library (next_body (List CellNo) p [] with_writes later))
          → InvAt p library (begun (List CellNo) p [] with_writes (ends_with p left (frame b (push (body_code p b) []) (bare_leaves p.leaves) [])) later (next_body (List CellNo) p [] with_writes later))
      cases [] i f ih = ih (loose_end p (b ∷ bs) library b (push (body_code p b) []) (bare_leaves p.leaves) [] f i)
      cases (j ∷ k) i f ih = record { kind = Root (b ∷ bs); fits = f; follows = e.1 }

  -- behind a step, the environment task goes on
  goes_on : (library : List (List (Option ℤ))) (coming : Option (List ℕ)) (kind : Kind) (b : ℕ) (left : List Remaining) (own : List (List (Option ℤ))) (note : List CellNo)
      → Fits p (names_of p kind) (owed_by p kind) library (frame b left own note) → Follows p coming kind
      → InvAt p library (environment_of (List CellNo) p [] with_writes coming (ends_with p left (frame b left own note)))
  goes_on library None kind b [] own note f h = tt
  goes_on library (Some later) (Root bs) b [] own note f h = next_starts library later bs h (loose_end p bs library b [] own note f refl)
  goes_on library (Some later) (Call c) b [] own note f h = absurd h
  goes_on library None kind b (j ∷ k) own note f h = record { kind = kind; fits = f; follows = h }
  goes_on library (Some later) kind b (j ∷ k) own note f h = record { kind = kind; fits = f; follows = h }

  -- what holds of a state
  pub record Holds (st : State (List CellNo)) : Type 0 where
    pub library : IsSized p st.cells
    pub frames : Inv p st.cells st.coming st.environment

  -- what a task comes to is clean, and leaves what holds
  abbrev IsFair : Option (List ℕ) → Acted (List CellNo) → Type 0
  IsFair coming (Acted.Goes g) = AreCleanTouches p g.touched × (IsSized p g.cells × InvAt p g.cells (environment_of (List CellNo) p [] with_writes coming (noted_of (List CellNo) p [] with_writes g.touched g.frames)))
  IsFair coming (Acted.Waits ts) = AreCleanTouches p ts
  IsFair coming (Acted.Fails ts) = AreCleanTouches p ts

  -- the next statement of the one frame
  module _ (library : List (List (Option ℤ))) (holder : List (Option ℕ)) (coming : Option (List ℕ)) (t word : ℕ) (f : Frame (List CellNo)) (size : IsSized p library) (kind : Kind) (follows : Follows p coming kind) where
    abbrev does : Code → List Remaining → Deed → Acted (List CellNo)
    does a k d = done_by (List CellNo) p [] with_writes library holder t word f [] (reads_by p (cells_seen p library f.own) a) (writes_by (cells_seen p library f.own) a) k d

    act_fair : (a : Code) (k : List Remaining) → Fits p (names_of p kind) (owed_by p kind) library (frame f.body (Do a ∷ k) f.own f.note) → IsFair coming (does a k (deed (cells_seen p library f.own) word a k))
    act_fair a k g = cases (deed (cells_seen p library f.own) word a k) refl
      where
        next : (writes : List CellNo) → ((leaf cell : ℕ) → IsAmong leaf cell writes → IsAmong leaf cell (writes_by (cells_seen p library f.own) a)) → IsCleanNext p silent (names_of p kind) (owed_by p kind) library size f.body (sound f.body) f.own f.note a writes
        next writes some = clean p silent (names_of p kind) (owed_by p kind) library size f.body (sound f.body) f.own f.note a k g writes some

        ends : (e : Effect) → Fits p (names_of p kind) (owed_by p kind) (change_library p e.change library) (done p library f.body f.own (writes_by (cells_seen p library f.own) a ++ f.note) e) → IsSized p (change_library p e.change library)
            → (left : List Remaining) → e.left ≡ left → IsFair coming (does a k (Does (record { left = left; change = e.change })))
        ends e h l [] i =
            let n = next (writes_by (cells_seen p library f.own) a) (λ leaf cell w. w) in (
              (n.marked, ((n.allowed, tt), tt)),
              (
                l,
                goes_on (change_library p e.change library) coming kind f.body [] (change_own p e.change f.own) (writes_by (cells_seen p library f.own) a ++ f.note)
                    (subst (λ k. Fits p (names_of p kind) (owed_by p kind) (change_library p e.change library) (frame f.body k (change_own p e.change f.own) (writes_by (cells_seen p library f.own) a ++ f.note))) i h) follows,
              ),
            )
        ends e h l (j ∷ left) i =
            let n = next (writes_by (cells_seen p library f.own) a) (λ leaf cell w. w) in (
              (n.marked, ((n.allowed, tt), tt)),
              (
                l,
                goes_further coming kind (j ∷ left)
                    (subst (λ k. Fits p (names_of p kind) (owed_by p kind) (change_library p e.change library) (frame f.body k (change_own p e.change f.own) (writes_by (cells_seen p library f.own) a ++ f.note))) i h) follows,
              ),
            )
          where
            goes_further : (coming : Option (List ℕ)) (kind : Kind) (left : List Remaining)
                → Fits p (names_of p kind) (owed_by p kind) (change_library p e.change library) (frame f.body left (change_own p e.change f.own) (writes_by (cells_seen p library f.own) a ++ f.note)) → Follows p coming kind
                → InvAt p (change_library p e.change library) (environment_of (List CellNo) p [] with_writes coming
                (record { body = f.body; left = left; own = change_own p e.change f.own; actuals = f.actuals; frees = f.frees; note = writes_by (cells_seen p library f.own) a ++ f.note } ∷ []))
            goes_further None kind left h q = record { kind = kind; fits = h; follows = q }
            goes_further (Some later) kind left h q = record { kind = kind; fits = h; follows = q }

        cases : (d : Deed) → deed (cells_seen p library f.own) word a k ≡ d → IsFair coming (does a k d)
        cases CheckFails i = let n = next [] (λ leaf cell w. absurd w) in (n.marked, ((n.allowed, tt), tt))
        cases (CallsBody b actuals) i = absurd (calls_none p (cells_seen p library f.own) word a k g.assigned.0.below (subst IsCall (sym i) tt))
        cases (CallsGuarded o barrier b) i = absurd (calls_none p (cells_seen p library f.own) word a k g.assigned.0.below (subst IsCall (sym i) tt))
        cases (Does e) i =
            let after = steps p (names_of p kind) (owed_by p kind) library f.own size f.body f.note k word a e g i in
            ends e after.fits after.library_is e.left refl

    -- a loop of which a round was begun stands as the loop itself
    round_of : (a : Code) (k : List Remaining) → Fits p (names_of p kind) (owed_by p kind) library (frame f.body (Again a ∷ k) f.own f.note) → Fits p (names_of p kind) (owed_by p kind) library (frame f.body (Do (Repeat a) ∷ k) f.own f.note)
    round_of a k g = record { own = g.own; assigned = g.assigned; declared = g.declared; noted = g.noted }

    frame_fair : (left : List Remaining) → Fits p (names_of p kind) (owed_by p kind) library (frame f.body left f.own f.note) → IsFair coming (act_at (List CellNo) p [] with_writes library holder t word f [] left)
    frame_fair [] g = tt
    frame_fair (Do a ∷ k) g = act_fair a k g
    frame_fair (Again a ∷ k) g = act_fair (Repeat a) k (round_of a k g)

  -- and the whole of it
  abbrev IsFairly : Option (List ℕ) → Option (Acted (List CellNo)) → Type 0
  IsFairly coming None = Unit {0}
  IsFairly coming (Some a) = IsFair coming a

  task_fair : (st : State (List CellNo)) (word : ℕ) → Holds st → IsFairly st.coming (acted (List CellNo) p [] with_writes st 0 word st.environment)
  task_fair st word h = cases st.environment h.frames
    where
      cases : (fs : List (Frame (List CellNo))) → Inv p st.cells st.coming fs → IsFairly st.coming (acted (List CellNo) p [] with_writes st 0 word fs)
      cases [] i = tt
      cases (f ∷ []) i = frame_fair st.cells st.holder st.coming 0 word f h.library i.kind i.follows f.left i.fits
      cases (f ∷ g ∷ fs) i = absurd i

  -- what holds behind a step
  abbrev HoldsBehind : Stepped (List CellNo) → Type 0
  HoldsBehind (Moved new) = Holds new
  HoldsBehind Blocked = Unit {0}
  HoldsBehind Failed = Unit {0}
  HoldsBehind Done = Unit {0}

  fair_holds : (st : State (List CellNo)) (o : Option (Acted (List CellNo))) → IsFairly st.coming o → HoldsBehind (came (List CellNo) p [] with_writes st 0 o)
  fair_holds st None h = tt
  fair_holds st (Some (Acted.Goes g)) h = record { library = h.1.0; frames = h.1.1 }
  fair_holds st (Some (Acted.Waits ts)) h = tt
  fair_holds st (Some (Acted.Fails ts)) h = tt

  fair_clean : (coming : Option (List ℕ)) (o : Option (Acted (List CellNo))) → IsFairly coming o → AreCleanTouches p (touches_of (List CellNo) p [] with_writes o)
  fair_clean coming None h = tt
  fair_clean coming (Some (Acted.Goes g)) h = h.0
  fair_clean coming (Some (Acted.Waits ts)) h = h
  fair_clean coming (Some (Acted.Fails ts)) h = h

  -- every run from such a state is clean
  pub run_clean : (words : List ℕ) (st : State (List CellNo)) → Holds st → AreClean p (run (List CellNo) p [] with_writes (alone words) st)
  run_clean [] st h = tt
  run_clean (w ∷ ws) st h =
      let fair = task_fair st w h in (
        fair_clean st.coming (acted (List CellNo) p [] with_writes st 0 w st.environment) fair,
        cases (step (List CellNo) p [] with_writes st 0 w) (fair_holds st (acted (List CellNo) p [] with_writes st 0 w st.environment) fair) (run_clean ws),
      )
    where
      cases : (s : Stepped (List CellNo)) → HoldsBehind s → ((t : State (List CellNo)) → Holds t → AreClean p (run (List CellNo) p [] with_writes (alone ws) t))
          → AreClean p (elim s [ Moved new ↦ run (List CellNo) p [] with_writes (alone ws) new | Blocked ↦ run (List CellNo) p [] with_writes (alone ws) st | Failed ↦ [] | Done ↦ run (List CellNo) p [] with_writes (alone ws) st ])
      cases (Moved new) g ih = ih new g
      cases Blocked g ih = ih st h
      cases Failed g ih = tt
      cases Done g ih = ih st h

  pub runs_clean : RunsAreClean p
  runs_clean words = run_clean words (opening (List CellNo) p [] with_writes) (record {
    library = opening_sized p;
    frames = next_starts (opening_leaves p p.leaves) (map (λ (b : BodyNo). b.0) p.order) [] silent.elaborations (λ x l t o. tt);
  })
