-- What the frames and the state of the code hold.
use Rattle.std.proofs.Common.{◌≡◌, ℕ, suc, ◌+◌, ◌-◌, ◌<◌, ◌≤◌, Bool, true, false, cond, List, [], ◌∷◌, ◌++◌, length, get_or, set, map, take, drop, Option, Some, None, refl, sym, ap, subst, ◌∙◌, arith, ℤ, add-one}
use Rattle.std.specs.Prelude.{slice_get, slice_index_or}
use Rattle.std.proofs.Common.{Vec}
use Rattle.std.specs.declared.alloc.Global.{Global}
use Rattle.spark_base.specs.declared.items.Items.{Items}
use Rattle.std.proofs.Math.ListN.{drop_of_length-le}
use Rattle.std.proofs.Math.Seq.{drop-cons}
use Rattle.std.proofs.lemmas.Option.{get_or_from_slice_get, slice_get-get_or, slice_get_within}
use Rattle.spark_base.specs.declared.numbers.BodyNo.{BodyNo}
use Rattle.spark_base.specs.declared.numbers.StmtNo.{StmtNo}
use Rattle.core_form.specs.Code.{code_of}
use Rattle.core_form.specs.declared.program.Program.{Program}
use Rattle.run_model.specs.declared.state.Frame.{Frame as HeldFrame}
use Rattle.run_model.specs.declared.state.Rest.{Rest}
use Rattle.run_model.specs.declared.state.Rest.TheVariants as rest
use Rattle.run_model.specs.declared.state.State.{State as HeldState}
use Rattle.run_model.specs.declared.steps.Stepped.{Stepped as Answer}
use Rattle.run_model.specs.declared.steps.Stepped.TheVariants as answer
use Rattle.run_model.specs.Values.{CellNo}
use Rattle.run_model.specs.Held.{IsOpened, IsPlain, do_of, next_do, FrameStep, Over, Stops, Calls, GoesOn, frame_step, next_step, with_deed, plain_frame_of, Tells, TellsFrame, held, held_coming, held_environment, held_frame, held_frames, held_left}
use Rattle.run_model.specs.Machine.{Remaining, Do, Again, push, goes_to, opening_leaves, Change, reads_by, writes_by, statement_of, Frame, State, Stepped, Environment, Deed, Does, CheckFails, CallsBody, CallsGuarded, Moved, Blocked, Failed, Done, deed, cells_seen}
use Rattle.run_model.specs.Steps.{act_at, acted, begun, came, done_by, free_objects, main_frames, next_body, put_frames, plain_step, plain_first, plain_environment, plain_opening, plain_frame, unnoted}
use Rattle.std.specs.Vec.{with_item}
use Rattle.std.proofs.Math.Seq.{map-set_same}
use Rattle.std.proofs.lemmas.List.{get_or-map, get_or-set_same, map-set}
use Rattle.run_model.proofs.Lists.{held_more, push_plain, split_last}

-- a step of a frame is its next statement's effect
pub step_is : (p : Program) (library : List (List (Option ℤ))) (word : ℕ) (f : HeldFrame) (front : List Rest) (s : StmtNo) → f.rest.items ≡ front ++ rest.Do s ∷ [] → IsPlain (code_of p.exprs p.stmts s)
    → (o : Deed) → o ≡ deed (cells_seen p library f.own.items) word (code_of p.exprs p.stmts s) (held_left p front [])
    → frame_step p library word (held_frame p f) ≡ with_deed p library (held_frame p f) o
step_is p library word f front s e plain o is =
    let left : held_left p f.rest.items [] ≡ Do (code_of p.exprs p.stmts s) ∷ held_left p front [] =
    ap (λ r. held_left p r []) e ∙ (held_more p front (rest.Do s) [] ∙ push_plain (code_of p.exprs p.stmts s) (held_left p front []) plain) in
    ap (next_step p library word (held_frame p f)) left ∙ ap (with_deed p library (held_frame p f)) (sym is)

-- a step of a frame whose next is a loop of which a round was begun
pub again_is : (p : Program) (library : List (List (Option ℤ))) (word : ℕ) (f : HeldFrame) (front : List Rest) (s : StmtNo) → f.rest.items ≡ front ++ rest.Again s ∷ []
    → frame_step p library word (held_frame p f) ≡ with_deed p library (held_frame p f) (Does (goes_to (push (code_of p.exprs p.stmts s) (Again (code_of p.exprs p.stmts s) ∷ held_left p front []))))
again_is p library word f front s e =
    ap (next_step p library word (held_frame p f)) (ap (λ r. held_left p r []) e ∙ held_more p front (rest.Again s) [])

abbrev main_of : Program → Option BodyNo → Environment (Unit {0})
main_of p m = record { coming = None; frames = main_frames (Unit {0}) p tt unnoted m }

abbrev together : Program → List (List (Option ℤ)) → Environment (Unit {0}) → List (List (Frame (Unit {0}))) → State (Unit {0})
together p cells e tasks = record { cells = cells; holder = free_objects p.objects; coming = e.coming; environment = e.frames; tasks = tasks }

-- a state is told by its parts
pub held_by : (p : Program) (s t : HeldState) → s.cells.items ≡ t.cells.items → held_environment p s ≡ held_environment p t → map (held_frames p) s.tasks.items ≡ map (held_frames p) t.tasks.items → held p s ≡ held p t
unfolding held
held_by p s t cells e tasks =
    ap (λ c. together p c (held_environment p s) (map (held_frames p) s.tasks.items)) cells
    ∙ (ap (λ x. together p t.cells.items x (map (held_frames p) s.tasks.items)) e
    ∙ ap (λ ts. together p t.cells.items (held_environment p t) ts) tasks)

begun_is : (p : Program) (later : List ℕ) (fs : List (Frame (Unit {0})))
    → plain_environment p (Some later) fs ≡ begun (Unit {0}) p tt unnoted fs later (next_body (Unit {0}) p tt unnoted later)
begun_is p later [] = refl
begun_is p later (f ∷ fs) = refl

-- the numbers of the bodies from one on
order_next : (order : List BodyNo) (n : ℕ) (b : BodyNo) → slice_get order n ≡ Some b → map (λ (x : BodyNo). x.0) (drop n order) ≡ b.0 ∷ map (λ (x : BodyNo). x.0) (drop (n + 1) order)
order_next order n b h =
    let within = slice_get_within order n b h in
    let is = get_or_from_slice_get order n b b h in
    rw (drop-cons order n b within, is, add-one n) refl

-- a frame in which nothing remains is taken away
gone : (p : Program) (f : HeldFrame) → f.rest.items ≡ [] → held_frames p f ≡ []
gone p f over = ap (λ r. plain_first p (plain_frame_of f.body.0 (held_left p r []) f.own.items)) over

-- the next elaboration has begun
pub begins_next : (p : Program) (n : ℕ) (b : BodyNo) (f g : HeldFrame) → f.rest.items ≡ [] → slice_get p.order n ≡ Some b → held_frame p g ≡ plain_frame p b.0
    → plain_environment p (Some (map (λ (x : BodyNo). x.0) (drop (n + 1) p.order))) (held_frames p g)
    ≡ plain_environment p (Some (map (λ (x : BodyNo). x.0) (drop n p.order))) (held_frames p f)
begins_next p n b f g over h is =
    let later = map (λ (x : BodyNo). x.0) (drop (n + 1) p.order) in
    ap (λ fr. plain_environment p (Some later) (plain_first p fr)) is
    ∙ (begun_is p later (plain_first p (plain_frame p b.0))
    ∙ (sym (ap (next_body (Unit {0}) p tt unnoted) (order_next p.order n b h))
    ∙ sym (ap (plain_environment p (Some (map (λ (x : BodyNo). x.0) (drop n p.order)))) (gone p f over))))

none_later : (p : Program) (n : ℕ) → length p.order ≤ n → map (λ (x : BodyNo). x.0) (drop n p.order) ≡ []
none_later p n h = ap (map (λ (x : BodyNo). x.0)) (drop_of_length-le p.order h)

-- the elaborations are over, and the main has begun
pub begins_main : (p : Program) (n : ℕ) (b : BodyNo) (f g : HeldFrame) → f.rest.items ≡ [] → length p.order ≤ n → p.main ≡ Some b → held_frame p g ≡ plain_frame p b.0
    → plain_environment p None (held_frames p g) ≡ plain_environment p (Some (map (λ (x : BodyNo). x.0) (drop n p.order))) (held_frames p f)
begins_main p n b f g over h main is =
    ap (λ fr. plain_environment p None (plain_first p fr)) is
    ∙ (sym (ap (λ m. main_of p m) main)
    ∙ (sym (ap (next_body (Unit {0}) p tt unnoted) (none_later p n h))
    ∙ sym (ap (plain_environment p (Some (map (λ (x : BodyNo). x.0) (drop n p.order)))) (gone p f over))))

-- there is no main
pub begins_none : (p : Program) (n : ℕ) (f : HeldFrame) → f.rest.items ≡ [] → length p.order ≤ n → p.main ≡ None
    → plain_environment p None (held_frames p f) ≡ plain_environment p (Some (map (λ (x : BodyNo). x.0) (drop n p.order))) (held_frames p f)
begins_none p n f over h main =
    ap (plain_environment p None) (gone p f over)
    ∙ (sym (ap (λ m. main_of p m) main)
    ∙ (sym (ap (next_body (Unit {0}) p tt unnoted) (none_later p n h))
    ∙ sym (ap (plain_environment p (Some (map (λ (x : BodyNo). x.0) (drop n p.order)))) (gone p f over))))

-- what remains of a frame decides what it holds
pub rest_same : (p : Program) (f g : HeldFrame) → g.body ≡ f.body → g.own ≡ f.own → held_left p g.rest.items [] ≡ held_left p f.rest.items [] → held_frame p g ≡ held_frame p f
rest_same p f g body own left =
    ap (λ (b : BodyNo). plain_frame_of b.0 (held_left p g.rest.items []) g.own.items) body
    ∙ (ap (λ l. plain_frame_of f.body.0 l g.own.items) left ∙ ap (λ (o : Vec (Items (Option ℤ)) Global). plain_frame_of f.body.0 (held_left p f.rest.items []) o.items) own)

-- what the environment's frame holds decides what the state holds
pub environment_same : (p : Program) (s : HeldState) (f : HeldFrame) → held_frame p f ≡ held_frame p s.environment
    → held p (record { cells = s.cells; elaborating = s.elaborating; next = s.next; environment = f; tasks = s.tasks }) ≡ held p s
environment_same p s f e =
    held_by p (record { cells = s.cells; elaborating = s.elaborating; next = s.next; environment = f; tasks = s.tasks }) s refl
    (ap (λ fr. plain_environment p (cond s.elaborating (Some (map (λ (x : BodyNo). x.0) (drop s.next p.order))) None) (plain_first p fr)) e) refl

-- the state before the first step
pub opening_is : (p : Program) (s : HeldState) → s.cells.items ≡ opening_leaves p p.leaves → s.elaborating ≡ true → s.next ≡ 0 → s.environment.rest.items ≡ []
    → map (held_frames p) s.tasks.items ≡ (plain_opening p).tasks → held p s ≡ plain_opening p
unfolding held
opening_is p s cells elaborating next over tasks =
    let first = next_body (Unit {0}) p tt unnoted (map (λ (x : BodyNo). x.0) p.order) in
    let e : held_environment p s ≡ first =
    ap (λ b. plain_environment p (cond b (Some (map (λ (x : BodyNo). x.0) (drop s.next p.order))) None) (held_frames p s.environment)) elaborating
    ∙ (ap (λ n. plain_environment p (Some (map (λ (x : BodyNo). x.0) (drop n p.order))) (held_frames p s.environment)) next
    ∙ ap (plain_environment p (Some (map (λ (x : BodyNo). x.0) p.order))) (gone p s.environment over)) in
    ap (λ c. together p c (held_environment p s) (map (held_frames p) s.tasks.items)) cells
    ∙ (ap (λ x. together p (opening_leaves p p.leaves) x (map (held_frames p) s.tasks.items)) e
    ∙ ap (λ ts. together p (opening_leaves p p.leaves) first ts) tasks)

-- a frame with something to do runs
runs : (p : Program) (coming : Option (List ℕ)) (f : HeldFrame) (i : Remaining) (k : List Remaining) → held_left p f.rest.items [] ≡ i ∷ k
    → plain_environment p coming (held_frames p f) ≡ record { coming = coming; frames = held_frame p f ∷ [] }
runs p coming f i k e = settled ∙ cases coming
  where
    settled : plain_environment p coming (held_frames p f) ≡ plain_environment p coming (held_frame p f ∷ [])
    settled = ap (λ l. plain_environment p coming (plain_first p (plain_frame_of f.body.0 l f.own.items))) e
        ∙ sym (ap (λ l. plain_environment p coming (plain_frame_of f.body.0 l f.own.items ∷ [])) e)

    cases : (o : Option (List ℕ)) → plain_environment p o (held_frame p f ∷ []) ≡ record { coming = o; frames = held_frame p f ∷ [] }
    cases None = refl
    cases (Some later) = refl

-- what a step of a frame came to says whether something was to be done
abbrev Starts : Program → HeldFrame → Type 0
Starts p f = (i : Remaining) × ((k : List Remaining) × (held_left p f.rest.items [] ≡ i ∷ k))

starts : (p : Program) (library : List (List (Option ℤ))) (word : ℕ) (f : HeldFrame) (told : FrameStep) → (Over ≡ told → ⊥) → frame_step p library word (held_frame p f) ≡ told → Starts p f
starts p library word f told other is = cases (held_left p f.rest.items []) refl
  where
    cases : (l : List Remaining) → held_left p f.rest.items [] ≡ l → Starts p f
    cases [] e = absurd (other (sym (ap (next_step p library word (held_frame p f)) e) ∙ is))
    cases (i ∷ k) e = (i, (k, e))

-- What a step of a task comes to, by that of its one frame

abbrev stands_by : Program → State (Unit {0}) → ℕ → FrameStep → Stepped (Unit {0})
stands_by p st t Over = Blocked
stands_by p st t Stops = Failed
stands_by p st t Calls = Blocked
stands_by p st t (GoesOn library f) = Moved (put_frames (Unit {0}) p tt unnoted st t library st.holder (plain_first p f))

-- where it does not call
landed : (p : Program) (st : State (Unit {0})) (t word b : ℕ) (left : List Remaining) (own : List (List (Option ℤ))) (told : FrameStep) → (Calls ≡ told → ⊥)
    → next_step p st.cells word (plain_frame_of b left own) left ≡ told
    → came (Unit {0}) p tt unnoted st t (Some (act_at (Unit {0}) p tt unnoted st.cells st.holder t word (plain_frame_of b left own) [] left)) ≡ stands_by p st t told
landed p st t word b [] own told other is = ap (stands_by p st t) is
landed p st t word b (i ∷ k) own told other is = cases (deed (cells_seen p st.cells own) word (statement_of i) k) is
  where
    f : Frame (Unit {0})
    f = plain_frame_of b (i ∷ k) own

    reads : List CellNo
    reads = reads_by p (cells_seen p st.cells own) (statement_of i)

    writes : List CellNo
    writes = writes_by (cells_seen p st.cells own) (statement_of i)

    ends : (left : List Remaining) (change : Option Change)
        → came (Unit {0}) p tt unnoted st t (Some (done_by (Unit {0}) p tt unnoted st.cells st.holder t word f [] reads writes k (Does (record { left = left; change = change }))))
        ≡ stands_by p st t (with_deed p st.cells f (Does (record { left = left; change = change })))
    ends [] change = refl
    ends (j ∷ l) change = refl

    cases : (d : Deed) → with_deed p st.cells f d ≡ told → came (Unit {0}) p tt unnoted st t (Some (done_by (Unit {0}) p tt unnoted st.cells st.holder t word f [] reads writes k d)) ≡ stands_by p st t told
    cases (Does e) h = ends e.left e.change ∙ ap (stands_by p st t) h
    cases CheckFails h = ap (stands_by p st t) h
    cases (CallsBody c actuals) h = absurd (other h)
    cases (CallsGuarded o barrier c) h = absurd (other h)

-- The step of a task, by that of its frame

abbrev after_environment : HeldState → Vec (Items (Option ℤ)) Global → HeldFrame → HeldState
after_environment s library f = record { cells = library; elaborating = s.elaborating; next = s.next; environment = f; tasks = s.tasks }

pub environment_held : (p : Program) (s : HeldState) (library : Vec (Items (Option ℤ)) Global) (f : HeldFrame) → library.items ≡ s.cells.items → held_frame p f ≡ held_frame p s.environment → held p (after_environment s library f) ≡ held p s
environment_held p s library f l e = held_by p (after_environment s library f) s l (ap (λ fr. plain_environment p (held_coming p s) (plain_first p fr)) e) refl

pub environment_unchanged : (p : Program) (s : HeldState) (library : Vec (Items (Option ℤ)) Global) (f : HeldFrame) → library.items ≡ s.cells.items → f ≡ s.environment → held p (after_environment s library f) ≡ held p s
environment_unchanged p s library f l e = held_by p (after_environment s library f) s l (ap (λ g. plain_environment p (held_coming p s) (held_frames p g)) e) refl

pub told_environment : (p : Program) (s : HeldState) (library : Vec (Items (Option ℤ)) Global) (f : HeldFrame) (word : ℕ) (came : Answer)
    → (s.elaborating ≡ true → s.environment.rest.items ≡ [] → ⊥)
    → TellsFrame p s.cells.items s.environment f library.items came (frame_step p s.cells.items word (held_frame p s.environment))
    → Tells p s (after_environment s library f) came (plain_step p (held p s) 0 word)
unfolding held
told_environment p s library f word answer.Moved begun told =
    let st = starts p s.cells.items word s.environment (GoesOn library.items (held_frame p f)) (λ e. cc) told in
    ap (λ x. plain_step p (together p s.cells.items x (map (held_frames p) s.tasks.items)) 0 word) (runs p (held_coming p s) s.environment st.0 st.1.0 st.1.1)
    ∙ landed p (together p s.cells.items (record { coming = held_coming p s; frames = held_frame p s.environment ∷ [] }) (map (held_frames p) s.tasks.items)) 0 word s.environment.body.0 (held_left p s.environment.rest.items []) s.environment.own.items (GoesOn library.items (held_frame p f)) (λ e. cc) told
told_environment p s library f word answer.Blocked begun told = absurd told
told_environment p s library f word answer.Failed begun told =
    let st = starts p s.cells.items word s.environment Stops (λ e. cc) told.0 in (
      ap (λ x. plain_step p (together p s.cells.items x (map (held_frames p) s.tasks.items)) 0 word) (runs p (held_coming p s) s.environment st.0 st.1.0 st.1.1)
          ∙ landed p (together p s.cells.items (record { coming = held_coming p s; frames = held_frame p s.environment ∷ [] }) (map (held_frames p) s.tasks.items)) 0 word s.environment.body.0 (held_left p s.environment.rest.items []) s.environment.own.items Stops (λ e. cc) told.0,
      environment_unchanged p s library f told.1 told.2,
    )
told_environment p s library f word answer.Done begun told = (
  cases s.elaborating refl,
  environment_unchanged p s library f told.1 told.2,
)
  where
    cases : (b : Bool) → s.elaborating ≡ b → plain_step p (together p s.cells.items (plain_environment p (held_coming p s) (held_frames p s.environment)) (map (held_frames p) s.tasks.items)) 0 word ≡ Done
    cases true e = absurd (begun e told.3)
    cases false e =
        ap (λ fs. plain_step p (together p s.cells.items (plain_environment p (held_coming p s) fs) (map (held_frames p) s.tasks.items)) 0 word) (gone p s.environment told.3)
        ∙ ap (λ b. plain_step p (together p s.cells.items (plain_environment p (cond b (Some (map (λ (x : BodyNo). x.0) (drop s.next p.order))) None) []) (map (held_frames p) s.tasks.items)) 0 word) e

-- another task, once the elaborations are over

abbrev frames_come : Program → State (Unit {0}) → ℕ → ℕ → List (Frame (Unit {0})) → Stepped (Unit {0})
frames_come p st t word fs = came (Unit {0}) p tt unnoted st t (acted (Unit {0}) p tt unnoted st t word fs)

abbrev over_with : Program → HeldState → List (List (Option ℤ)) → List (List (Frame (Unit {0}))) → State (Unit {0})
over_with p s cells tasks = record { cells = cells; holder = free_objects p.objects; coming = None; environment = held_frames p s.environment; tasks = tasks }

over_is : (p : Program) (s : HeldState) → s.elaborating ≡ false → held p s ≡ over_with p s s.cells.items (map (held_frames p) s.tasks.items)
unfolding held
over_is p s e = ap (λ b. together p s.cells.items (plain_environment p (cond b (Some (map (λ (x : BodyNo). x.0) (drop s.next p.order))) None) (held_frames p s.environment)) (map (held_frames p) s.tasks.items)) e

settled_is : (p : Program) (f : HeldFrame) (i : Remaining) (k : List Remaining) → held_left p f.rest.items [] ≡ i ∷ k → held_frames p f ≡ held_frame p f ∷ []
settled_is p f i k e =
    ap (λ l. plain_first p (plain_frame_of f.body.0 l f.own.items)) e
    ∙ sym (ap (λ l. plain_frame_of f.body.0 l f.own.items ∷ []) e)

task_seen : (p : Program) (s : HeldState) (at : ℕ) (old : HeldFrame) → slice_get s.tasks.items at ≡ Some old → slice_index_or (map (held_frames p) s.tasks.items) at [] ≡ held_frames p old
task_seen p s at old h = get_or-map (held_frames p) s.tasks.items at old [] (slice_get_within s.tasks.items at old h) ∙ ap (held_frames p) (get_or_from_slice_get s.tasks.items at old old h)

abbrev after_task : HeldState → Vec (Items (Option ℤ)) Global → ℕ → HeldFrame → HeldState
after_task s library at f = record { cells = library; elaborating = s.elaborating; next = s.next; environment = s.environment; tasks = with_item s.tasks at f }

task_same : (p : Program) (s : HeldState) (at : ℕ) (old f : HeldFrame) → slice_get s.tasks.items at ≡ Some old → held_frame p f ≡ held_frame p old → map (held_frames p) (set s.tasks.items at f) ≡ map (held_frames p) s.tasks.items
task_same p s at old f h e = map-set_same (held_frames p) s.tasks.items at f old
    (ap (λ fr. plain_first p fr) e ∙ sym (ap (held_frames p) (get_or_from_slice_get s.tasks.items at old old h)))

-- a task's frame decides what the state holds
pub with_task : (p : Program) (s : HeldState) (library : Vec (Items (Option ℤ)) Global) (at : ℕ) (old f : HeldFrame) → slice_get s.tasks.items at ≡ Some old → library.items ≡ s.cells.items → held_frame p f ≡ held_frame p old → held p (after_task s library at f) ≡ held p s
with_task p s library at old f h l e = held_by p (after_task s library at f) s l refl (task_same p s at old f h e)

pub told_task : (p : Program) (s : HeldState) (library : Vec (Items (Option ℤ)) Global) (at : ℕ) (old f : HeldFrame) (word : ℕ) (came : Answer)
    → s.elaborating ≡ false → slice_get s.tasks.items at ≡ Some old
    → TellsFrame p s.cells.items old f library.items came (frame_step p s.cells.items word (held_frame p old))
    → Tells p s (after_task s library at f) came (plain_step p (held p s) (suc at) word)
told_task p s library at old f word answer.Moved over h told =
    let st = starts p s.cells.items word old (GoesOn library.items (held_frame p f)) (λ e. cc) told in
    let now = over_with p s s.cells.items (map (held_frames p) s.tasks.items) in
    let tasks : map (held_frames p) (set s.tasks.items at f) ≡ set (map (held_frames p) s.tasks.items) at (held_frames p f) = map-set (held_frames p) s.tasks.items at f in
    ap (λ x. plain_step p x (suc at) word) (over_is p s over)
    ∙ (ap (frames_come p now (suc at) word) (task_seen p s at old h ∙ settled_is p old st.0 st.1.0 st.1.1)
    ∙ (landed p now (suc at) word old.body.0 (held_left p old.rest.items []) old.own.items (GoesOn library.items (held_frame p f)) (λ e. cc) told
    ∙ (sym (ap (λ ts. Moved (over_with p s library.items ts)) tasks)
    ∙ sym (ap (λ (x : State (Unit {0})). Moved x) (over_is p (after_task s library at f) over)))))
told_task p s library at old f word answer.Blocked over h told = absurd told
told_task p s library at old f word answer.Failed over h told =
    let st = starts p s.cells.items word old Stops (λ e. cc) told.0 in
    let now = over_with p s s.cells.items (map (held_frames p) s.tasks.items) in (
      ap (λ x. plain_step p x (suc at) word) (over_is p s over)
          ∙ (ap (frames_come p now (suc at) word) (task_seen p s at old h ∙ settled_is p old st.0 st.1.0 st.1.1)
          ∙ landed p now (suc at) word old.body.0 (held_left p old.rest.items []) old.own.items Stops (λ e. cc) told.0),
      with_task p s library at old f h told.1 (ap (held_frame p) told.2),
    )
told_task p s library at old f word answer.Done over h told =
    let now = over_with p s s.cells.items (map (held_frames p) s.tasks.items) in (
      ap (λ x. plain_step p x (suc at) word) (over_is p s over)
          ∙ ap (frames_come p now (suc at) word) (task_seen p s at old h ∙ gone p old told.3),
      with_task p s library at old f h told.1 (ap (held_frame p) told.2),
    )

-- the answer, over another state that holds the same
pub tells_from : (p : Program) (s t new : HeldState) (task word : ℕ) (came : Answer) → held p t ≡ held p s
    → Tells p t new came (plain_step p (held p t) task word) → Tells p s new came (plain_step p (held p s) task word)
tells_from p s t new task word answer.Moved e h = sym (ap (λ x. plain_step p x task word) e) ∙ h
tells_from p s t new task word answer.Blocked e h = (sym (ap (λ x. plain_step p x task word) e) ∙ h.0, h.1 ∙ e)
tells_from p s t new task word answer.Failed e h = (sym (ap (λ x. plain_step p x task word) e) ∙ h.0, h.1 ∙ e)
tells_from p s t new task word answer.Done e h = (sym (ap (λ x. plain_step p x task word) e) ∙ h.0, h.1 ∙ e)

-- where something remains and the next statement is no sequence, something is to be done
opened_starts : (p : Program) (f : HeldFrame) → IsOpened p f.rest.items → (f.rest.items ≡ [] → ⊥) → Starts p f
opened_starts p f opened some = cases f.rest.items refl
  where
    cases : (items : List Rest) → f.rest.items ≡ items → Starts p f
    cases [] e = absurd (some e)
    cases (x ∷ xs) e =
        let last = get_or (x ∷ xs) (length (x ∷ xs) - 1) x in
        let got = slice_get-get_or (x ∷ xs) (length (x ∷ xs) - 1) x (omega arith) in
        kinds last got (e ∙ split_last (x ∷ xs) last got)
      where
        kinds : (r : Rest) → slice_get (x ∷ xs) (length (x ∷ xs) - 1) ≡ Some r → f.rest.items ≡ take (length (x ∷ xs) - 1) (x ∷ xs) ++ r ∷ [] → Starts p f
        kinds (rest.Do s) got split =
            let front = take (length (x ∷ xs) - 1) (x ∷ xs) in
            let plain : IsPlain (code_of p.exprs p.stmts s) = opened s (ap next_do e ∙ ap do_of got) in
            (Do (code_of p.exprs p.stmts s), (held_left p front [], ap (λ r. held_left p r []) split ∙ (held_more p front (rest.Do s) [] ∙ push_plain (code_of p.exprs p.stmts s) (held_left p front []) plain)))
        kinds (rest.Again s) got split =
            let front = take (length (x ∷ xs) - 1) (x ∷ xs) in
            (Again (code_of p.exprs p.stmts s), (held_left p front [], ap (λ r. held_left p r []) split ∙ held_more p front (rest.Again s) []))

pub blocked : (p : Program) (s : HeldState) (at word : ℕ) → s.elaborating ≡ true → IsOpened p s.environment.rest.items → (s.environment.rest.items ≡ [] → ⊥)
    → plain_step p (held p s) (suc at) word ≡ Blocked
unfolding held
blocked p s at word e opened some =
    let st = opened_starts p s.environment opened some in
    ap (λ x. plain_step p (together p s.cells.items x (map (held_frames p) s.tasks.items)) (suc at) word) (runs p (held_coming p s) s.environment st.0 st.1.0 st.1.1)
    ∙ ap (λ b. plain_step p (together p s.cells.items (record { coming = cond b (Some (map (λ (x : BodyNo). x.0) (drop s.next p.order))) None; frames = held_frame p s.environment ∷ [] }) (map (held_frames p) s.tasks.items)) (suc at) word) e

-- the frame that was put there is the task's
pub put_opened : (p : Program) (tasks : List HeldFrame) (at : ℕ) (new f : HeldFrame) → at < length tasks → IsOpened p new.rest.items → slice_get (set tasks at new) at ≡ Some f → IsOpened p f.rest.items
put_opened p tasks at new f within opened e =
    let here : get_or (set tasks at new) at new ≡ new = get_or-set_same tasks at new new within in
    let got = get_or_from_slice_get (set tasks at new) at f new e in
    let is : new ≡ f = sym here ∙ got in
    subst (λ (g : HeldFrame). IsOpened p g.rest.items) is opened
