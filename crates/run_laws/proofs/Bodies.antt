-- A body that runs: what is tracked in its frame, and what each of its steps keeps.
use Rattle.std.proofs.Common.{◌≡◌, ◌≢◌, ◌⊎◌, inl, inr, ℕ, ◌<◌, Bool, true, false, cond, List, [], ◌∷◌, ◌++◌, length, get_or, Option, Some, None, refl, sym, ap, ◌∙◌, subst, arith, ℤ}
use Rattle.std.specs.Prelude.{IsTrue, slice_get, nat_eq}
use Rattle.std.proofs.lemmas.List.{length-replicate}
use Rattle.std.proofs.lemmas.Bool.{cases_eq, eqb-true}
use Rattle.std.proofs.lemmas.Option.{slice_get-get_or, slice_get_within}
use Rattle.core_form.specs.Code.{Expr, Exprs, At, NoActual, Next, Code, Skip, Then, Assign, Clear, Branch, Repeat, Exit, Called, Guard, Delay, ReadClock, Stop}
use Rattle.core_form.proofs.Alone.{NamesAlone}
use Rattle.core_form.specs.Proper.{cells_of}
use Rattle.core_form.specs.declared.contract.Contract.{Contract}
use Rattle.core_form.specs.declared.program.Program.{Program}
use Rattle.spark_base.specs.declared.numbers.Span.{Span}
use Rattle.flow_relations.specs.Equation.{code_of_body, plain_flow}
use Rattle.run_model.specs.Values.{CellNo, cells_from, cells_of_place, first_of, then_some, truth_in, value_of, written}
use Rattle.run_model.specs.Machine.{Deed, Does, CheckFails, CallsBody, CallsGuarded, Effect, Frame, Remaining, Do, Again, deed, bare, cells_seen, change_library, change_own, changes, goes_to, is_library, moved, push, resume, reads_by, sized, unless_failed, unmarked, writes_by}
use Rattle.run_model.specs.Runs.{IsAssigned, IsSized}
use Rattle.run_laws.specs.Clean.{Allows, IsAmong, IsGlobalOf, IsListed, IsOutside, is_input, is_output}
use Rattle.run_laws.specs.Laws.{IsSilent}
use Rattle.run_laws.specs.Unassigned.{all}
use Rattle.run_laws.proofs.Cells.{among_left, among_or_not, among_parts, among_right, among_row, bare_behind, unmarked_none, library_sized, own_sized, seen_here, seen_other}
use Rattle.run_model.proofs.Lists.{seen_sized, written_length}
use Rattle.run_laws.proofs.Names.{IsSound}
use Rattle.run_laws.proofs.Rows.{reads_listed, writes_listed}
use Rattle.run_laws.proofs.Touches.{comes, named_of, site_of, whole_first, write_of}
use Rattle.run_laws.proofs.Walks.{Below, Goes, goes_branch, goes_clear, goes_part, goes_push, goes_exit, goes_round, goes_whole, goes_within, none}

some_same : (d e : Effect) → Some d ≡ Some e → d ≡ e
some_same d e h = cc

-- an effect is that of a statement whose checks hold
not_failed : (o : Option Effect) (e : Effect) → unless_failed o ≡ Does e → o ≡ Some e
not_failed None e h = let z : CheckFails ≡ Does e = h in absurd (cc)
not_failed (Some d) e h = let z : Does d ≡ Does e = h in cc

-- it calls
abbrev pub IsCall : Deed → Type 0
IsCall (Does e) = ⊥
IsCall CheckFails = ⊥
IsCall (CallsBody b actuals) = Unit {0}
IsCall (CallsGuarded o barrier c) = Unit {0}

no_call : (o : Option Effect) → IsCall (unless_failed o) → ⊥
no_call None h = h
no_call (Some e) h = h

-- a leaf that the body may name has a cell that is not assigned
abbrev pub Loose : Program → (ℕ → Type 0) → List (List (Option ℤ)) → List (List (Option ℤ)) → ℕ → Type 0
Loose p names library own x = names x × ((i : ℕ) × (slice_get (cells_seen p library own x) i ≡ Some None))

-- a library leaf has a cell that was not written since the frame began
abbrev pub Unwritten : Program → List CellNo → ℕ → Type 0
Unwritten p note x = IsTrue (is_library p x) × ((i : ℕ) × ((i < cells_of p x) × (IsAmong x i note → ⊥)))

-- what a body reads and writes by its code
abbrev pub read_by : Program → ℕ → ℕ → Type 0
read_by p b x = (plain_flow p (code_of_body p b)).reads x

abbrev pub written_by : Program → ℕ → ℕ → Type 0
written_by p b x = (plain_flow p (code_of_body p b)).writes x

-- A frame does what it should: no read of a leaf that may be unassigned remains, and at its end only these may be; each
-- read of what it has not written is one of the body's row, and so is each write.
pub record Fits (p : Program) (names owed : ℕ → Type 0) (library : List (List (Option ℤ))) (f : Frame (List CellNo)) : Type 0 where
  pub own : IsSized p f.own
  pub assigned : Goes all none all names owed p f.left Next (Loose p names library f.own)
  pub declared : Goes none (read_by p f.body) (written_by p f.body) names all p f.left Next (Unwritten p f.note)
  pub noted : (leaf cell : ℕ) → IsAmong leaf cell f.note → IsTrue (is_library p leaf) → written_by p f.body leaf

abbrev pub frame : ℕ → List Remaining → List (List (Option ℤ)) → List CellNo → Frame (List CellNo)
frame b left own note = record { body = b; left = left; own = own; actuals = NoActual; frees = None; note = note }

-- a frame, when its next statement is done
abbrev pub done : Program → List (List (Option ℤ)) → ℕ → List (List (Option ℤ)) → List CellNo → Effect → Frame (List CellNo)
done p library b own note e = frame b e.left (change_own p e.change own) note

module _ (p : Program) (names owed : ℕ → Type 0) (library own : List (List (Option ℤ))) (sized_library : IsSized p library) (b : ℕ) (note : List CellNo) (k : List Remaining) where
  -- a leaf whose cells are written, from one on
  module _ (leaf : ℕ) (new : List (Option ℤ)) where
    loose_other : (x : ℕ) → x ≢ leaf → Loose p names (change_library p (Some (record { leaf = leaf; cells = new })) library) (change_own p (Some (record { leaf = leaf; cells = new })) own) x → Loose p names library own x
    loose_other x d h = (h.0, (h.1.0, sym (ap (λ cs. slice_get cs h.1.0) (seen_other p library own leaf new x d)) ∙ h.1.1))

    loose_here : IsSized p own → Below p leaf → Loose p names (change_library p (Some (record { leaf = leaf; cells = new })) library) (change_own p (Some (record { leaf = leaf; cells = new })) own) leaf → (i : ℕ) × (slice_get new i ≡ Some None)
    loose_here own_is l h = (h.1.0, sym (ap (λ cs. slice_get cs h.1.0) (seen_here p library own leaf new sized_library own_is l)) ∙ h.1.1)

  -- a leaf that is unwritten behind a step was so before
  unwritten_before : (writes : List CellNo) (x : ℕ) → Unwritten p (writes ++ note) x → Unwritten p note x
  unwritten_before writes x h = (h.0, (h.1.0, (h.1.1.0, λ a. h.1.1.1 (among_right x h.1.0 writes note a))))

  -- all its cells were written
  unwritten_all : (x count : ℕ) → count ≡ cells_of p x → Unwritten p (cells_from x 0 count ++ note) x → ⊥
  unwritten_all x count e h = let l = h.1.1.0 in h.1.1.1 (among_left x h.1.0 (cells_from x 0 count) note (among_row x h.1.0 0 count (omega arith) (omega arith)))

  noted_more : (a : Code) → ((leaf cell : ℕ) → IsAmong leaf cell note → IsTrue (is_library p leaf) → written_by p b leaf)
      → ((x : ℕ) → IsTrue (is_library p x) → (plain_flow p a).writes x → written_by p b x)
      → (leaf cell : ℕ) → IsAmong leaf cell (writes_by (cells_seen p library own) a ++ note) → IsTrue (is_library p leaf) → written_by p b leaf
  noted_more a old new leaf cell h l = cases (among_parts leaf cell (writes_by (cells_seen p library own) a) note h)
    where
      cases : IsAmong leaf cell (writes_by (cells_seen p library own) a) ⊎ IsAmong leaf cell note → written_by p b leaf
      cases (inl i) = new leaf l (write_of p (cells_seen p library own) a leaf cell i)
      cases (inr i) = old leaf cell i l

  -- the frame and the library behind a statement
  pub record After (a : Code) (e : Effect) : Type 0 where
    pub library_is : IsSized p (change_library p e.change library)
    pub fits : Fits p names owed (change_library p e.change library) (done p library b own (writes_by (cells_seen p library own) a ++ note) e)

  -- a cell that is not assigned behind a move of other values than all was not assigned before
  loose_part : (leaf first : ℕ) (values : List ℤ) → IsSized p own → Below p leaf → (x : ℕ)
      → Loose p names (change_library p (Some (record { leaf = leaf; cells = written (cells_seen p library own leaf) first values })) library) (change_own p (Some (record { leaf = leaf; cells = written (cells_seen p library own leaf) first values })) own) x
      → Loose p names library own x
  loose_part leaf first values own_is below x h = cases (cases_eq x leaf)
    where
      cases : (x ≡ leaf) ⊎ (x ≢ leaf) → Loose p names library own x
      cases (inr d) = loose_other leaf (written (cells_seen p library own leaf) first values) x d h
      cases (inl i) =
          let g = subst (Loose p names (change_library p (Some (record { leaf = leaf; cells = written (cells_seen p library own leaf) first values })) library) (change_own p (Some (record { leaf = leaf; cells = written (cells_seen p library own leaf) first values })) own)) i h in
          let n = loose_here leaf (written (cells_seen p library own leaf) first values) own_is below g in
          let was = (bare_behind (cells_seen p library own leaf) first values n.0 n.1).was in
          subst (Loose p names library own) (sym i) (g.0, (n.0, was))

  -- nor is one of its leaf left behind a move of all
  loose_whole : (leaf first : ℕ) (values : List ℤ) → IsSized p own → Below p leaf → first ≡ 0 → length values ≡ cells_of p leaf → (x : ℕ)
      → Loose p names (change_library p (Some (record { leaf = leaf; cells = written (cells_seen p library own leaf) first values })) library) (change_own p (Some (record { leaf = leaf; cells = written (cells_seen p library own leaf) first values })) own) x
      → x ≢ leaf
  loose_whole leaf first values own_is below begins size x h i =
      let g = subst (Loose p names (change_library p (Some (record { leaf = leaf; cells = written (cells_seen p library own leaf) first values })) library) (change_own p (Some (record { leaf = leaf; cells = written (cells_seen p library own leaf) first values })) own)) i h in
      let n = loose_here leaf (written (cells_seen p library own leaf) first values) own_is below g in
      let before = bare_behind (cells_seen p library own leaf) first values n.0 n.1 in
      let within = slice_get_within (cells_seen p library own leaf) n.0 None before.was in
      let seen = seen_sized p library own leaf sized_library own_is in
      before.away (omega arith) (omega arith)

  unwritten_leaf : (leaf x count : ℕ) → count ≡ cells_of p leaf → Unwritten p (cells_from leaf 0 count ++ note) x → x ≢ leaf
  unwritten_leaf leaf x count e h i = unwritten_all leaf count e (subst (Unwritten p (cells_from leaf 0 count ++ note)) i h)

  -- a move of so many values from a cell on
  moves : (leaf : ℕ) (part : Exprs) (whole : Bool) (count : ℕ) (e : Expr) (at : Span) (first : ℕ) (values : List ℤ)
      → Fits p names owed library (frame b (Do (Assign (At leaf part whole count) e at) ∷ k) own note)
      → length values ≡ count → first_of (cells_seen p library own) (At leaf part whole count) ≡ Some first
      → After (Assign (At leaf part whole count) e at) (record { left = k; change = Some (record { leaf = leaf; cells = written (cells_seen p library own leaf) first values }) })
  moves leaf part true count e at first values f size place =
      let below = f.assigned.0.below.0.0 in
      let right = f.assigned.0.right.0 refl in
      let count_is : count ≡ cells_of p leaf = right.1 in
      let new = written (cells_seen p library own leaf) first values in
      let new_size : length new ≡ cells_of p leaf = written_length (cells_seen p library own leaf) first values ∙ seen_sized p library own leaf sized_library f.own in
      let begins : first ≡ 0 = whole_first (cells_seen p library own) leaf part true count first right.0 place in
      let writes : cells_of_place leaf count (first_of (cells_seen p library own) (At leaf part true count)) ≡ cells_from leaf 0 count = ap (cells_of_place leaf count) place ∙ ap (λ n. cells_from leaf n count) begins in
      record {
        library_is = library_sized p library leaf new sized_library below new_size;
        fits = record {
          own = own_sized p own leaf new f.own below new_size;
          assigned = goes_within all none all names owed p k Next _ (λ x. Loose p names library own x × (x ≢ leaf))
              (λ x l h. (loose_part leaf first values f.own below x h, loose_whole leaf first values f.own below begins (size ∙ count_is) x h))
              (goes_whole all none all names owed p leaf part count e at k (Loose p names library own) f.assigned);
          declared = goes_within none (read_by p b) (written_by p b) names all p k Next _ (λ x. Unwritten p note x × (x ≢ leaf))
              (λ x l h. (
                unwritten_before (cells_of_place leaf count (first_of (cells_seen p library own) (At leaf part true count))) x h,
                unwritten_leaf leaf x count count_is (subst (λ ws. Unwritten p (ws ++ note) x) writes h),
              ))
              (goes_whole none (read_by p b) (written_by p b) names all p leaf part count e at k (Unwritten p note) f.declared);
          noted = noted_more (Assign (At leaf part true count) e at) f.noted f.declared.0.writes;
        };
      }
  moves leaf part false count e at first values f size place =
      let below = f.assigned.0.below.0.0 in
      let new = written (cells_seen p library own leaf) first values in
      let new_size : length new ≡ cells_of p leaf = written_length (cells_seen p library own leaf) first values ∙ seen_sized p library own leaf sized_library f.own in
      record {
        library_is = library_sized p library leaf new sized_library below new_size;
        fits = record {
          own = own_sized p own leaf new f.own below new_size;
          assigned = goes_within all none all names owed p k Next _ (Loose p names library own)
              (λ x l h. loose_part leaf first values f.own below x h)
              (goes_part all none all names owed p leaf part count e at k (Loose p names library own) f.assigned);
          declared = goes_within none (read_by p b) (written_by p b) names all p k Next _ (Unwritten p note)
              (λ x l h. unwritten_before (cells_of_place leaf count (first_of (cells_seen p library own) (At leaf part false count))) x h)
              (goes_part none (read_by p b) (written_by p b) names all p leaf part count e at k (Unwritten p note) f.declared);
          noted = noted_more (Assign (At leaf part false count) e at) f.noted f.declared.0.writes;
        };
      }

  -- a leaf is no longer assigned
  clears : (leaf : ℕ) → Fits p names owed library (frame b (Do (Clear leaf) ∷ k) own note)
      → After (Clear leaf) (record { left = k; change = Some (record { leaf = leaf; cells = bare (length (cells_seen p library own leaf)) }) })
  clears leaf f =
      let below = f.assigned.0.below in
      let seen = seen_sized p library own leaf sized_library f.own in
      let new = bare (length (cells_seen p library own leaf)) in
      let new_size : length new ≡ cells_of p leaf = length-replicate (length (cells_seen p library own leaf)) None ∙ seen in
      record {
        library_is = library_sized p library leaf new sized_library below new_size;
        fits = record {
          own = own_sized p own leaf new f.own below new_size;
          assigned = goes_within all none all names owed p k Next _ (λ x. ((x ≡ leaf) × all x) ⊎ (Loose p names library own x × (x ≢ leaf)))
              (λ x l h. tracked x h (cases_eq x leaf)) (goes_clear all none all names owed p leaf k (Loose p names library own) f.assigned);
          declared = goes_within none (read_by p b) (written_by p b) names all p k Next _ (λ x. ((x ≡ leaf) × none x) ⊎ (Unwritten p note x × (x ≢ leaf)))
              (λ x l h. inr (unwritten_before (cells_from leaf 0 (length (cells_seen p library own leaf))) x h, unwritten_leaf leaf x (length (cells_seen p library own leaf)) seen h))
              (goes_clear none (read_by p b) (written_by p b) names all p leaf k (Unwritten p note) f.declared);
          noted = noted_more (Clear leaf) f.noted f.declared.0.writes;
        };
      }
    where
      tracked : (x : ℕ) → Loose p names (change_library p (Some (record { leaf = leaf; cells = bare (length (cells_seen p library own leaf)) })) library) (change_own p (Some (record { leaf = leaf; cells = bare (length (cells_seen p library own leaf)) })) own) x
          → (x ≡ leaf) ⊎ (x ≢ leaf) → ((x ≡ leaf) × all x) ⊎ (Loose p names library own x × (x ≢ leaf))
      tracked x h (inl i) = inl (i, tt)
      tracked x h (inr d) = inr (loose_other leaf (bare (length (cells_seen p library own leaf))) x d h, d)

  -- no cell is written, and this remains
  goes_on : (a : Code) (left : List Remaining) → Fits p names owed library (frame b (Do a ∷ k) own note) → writes_by (cells_seen p library own) a ≡ []
      → Goes all none all names owed p left Next (Loose p names library own)
      → Goes none (read_by p b) (written_by p b) names all p left Next (Unwritten p note)
      → After a (record { left = left; change = None })
  goes_on a left f silent assigned declared = record {
    library_is = sized_library;
    fits = record {
      own = f.own;
      assigned = assigned;
      declared = subst (λ ws. Goes none (read_by p b) (written_by p b) names all p left Next (Unwritten p (ws ++ note))) (sym silent) declared;
      noted = noted_more a f.noted f.declared.0.writes;
    };
  }

  -- what a statement does keeps it
  pub steps : (word : ℕ) (a : Code) (e : Effect) → Fits p names owed library (frame b (Do a ∷ k) own note) → deed (cells_seen p library own) word a k ≡ Does e → After a e
  steps word Skip e f h =
      let is : record { left = k; change = None } ≡ e = cc in
      subst (After Skip) is (goes_on Skip k f refl (goes_push all none all names owed p Skip k (Loose p names library own) f.assigned) (goes_push none (read_by p b) (written_by p b) names all p Skip k (Unwritten p note) f.declared))
  steps word (Then a c) e f h =
      let is : record { left = push a (push c k); change = None } ≡ e = cc in
      subst (After (Then a c)) is (goes_on (Then a c) (push a (push c k)) f refl (goes_push all none all names owed p (Then a c) k (Loose p names library own) f.assigned) (goes_push none (read_by p b) (written_by p b) names all p (Then a c) k (Unwritten p note) f.declared))
  steps word (Assign (At leaf part whole count) x at) e f h =
      let cells = cells_seen p library own in
      let to = At leaf part whole count in
      let v = comes (value_of cells x) (λ v. then_some (sized to v) (λ w. moved cells to w k)) e (not_failed _ e h) in
      let w = comes (sized to v.value) (λ w. moved cells to w k) e v.then_is in
      let n = comes (first_of cells to) (λ first. Some (changes leaf (written (cells leaf) first w.value) k)) e w.then_is in
      let is = some_same (record { left = k; change = Some (record { leaf = leaf; cells = written (cells leaf) n.value w.value }) }) e n.then_is in
      subst (After (Assign to x at)) is (moves leaf part whole count x at n.value w.value f (size_is v.value w.value w.is) n.is)
    where
      size_is : (v w : List ℤ) → cond (nat_eq (length v) count) (Some v) None ≡ Some w → length w ≡ count
      size_is v w g = cases (nat_eq (length v) count) refl g
        where
          cases : (t : Bool) → nat_eq (length v) count ≡ t → cond t (Some v) None ≡ Some w → length w ≡ count
          cases true i j = let same : v ≡ w = cc in ap length (sym same) ∙ eqb-true (length v) count i
          cases false i j = let z : Option (List ℤ) = None in let y : z ≡ Some w = j in absurd (cc)
  steps word (Clear leaf) e f h =
      let is : record { left = k; change = Some (record { leaf = leaf; cells = bare (length (cells_seen p library own leaf)) }) } ≡ e = cc in
      subst (After (Clear leaf)) is (clears leaf f)
  steps word (Branch x a c) e f h =
      let cells = cells_seen p library own in
      let v = comes (value_of cells x) (λ v. then_some (truth_in v) (λ t. Some (goes_to (push (cond t a c) k)))) e (not_failed _ e h) in
      let t = comes (truth_in v.value) (λ t. Some (goes_to (push (cond t a c) k))) e v.then_is in
      let is = some_same (record { left = push (cond t.value a c) k; change = None }) e t.then_is in
      subst (After (Branch x a c)) is (goes_on (Branch x a c) (push (cond t.value a c) k) f refl
      (goes_branch all none all names owed p x a c k (Loose p names library own) t.value f.assigned)
      (goes_branch none (read_by p b) (written_by p b) names all p x a c k (Unwritten p note) t.value f.declared))
  steps word (Repeat a) e f h =
      let is : record { left = push a (Again a ∷ k); change = None } ≡ e = cc in
      subst (After (Repeat a)) is (goes_on (Repeat a) (push a (Again a ∷ k)) f refl (goes_round all none all names owed p a k (Loose p names library own) f.assigned) (goes_round none (read_by p b) (written_by p b) names all p a k (Unwritten p note) f.declared))
  steps word (Exit o) e f h =
      let is : record { left = resume k o; change = None } ≡ e = cc in
      subst (After (Exit o)) is (goes_on (Exit o) (resume k o) f refl (goes_exit all none all names owed p o k (Loose p names library own) f.assigned) (goes_exit none (read_by p b) (written_by p b) names all p o k (Unwritten p note) f.declared))
  steps word (Called c actuals at) e f h = absurd f.assigned.0.below
  steps word (Guard o barrier c) e f h = absurd f.assigned.0.below
  steps word (Delay x) e f h = absurd f.assigned.0.below
  steps word (ReadClock to) e f h = absurd f.assigned.0.below
  steps word Stop e f h = let y : CheckFails ≡ Does e = h in absurd (cc)

-- What the next statement touches is clean

module _ (p : Program) (silent : IsSilent p) (names owed : ℕ → Type 0) (library : List (List (Option ℤ))) (sized_library : IsSized p library) (b : ℕ) (sound : IsSound p b (code_of_body p b)) (own : List (List (Option ℤ))) (note : List CellNo) where
  cell_is : (cells : List (Option ℤ)) (i : ℕ) → i < length cells → (slice_get cells i ≡ Some None → ⊥) → IsAssigned cells i
  cell_is cells i l n = cases (get_or cells i None) (slice_get-get_or cells i None l)
    where
      cases : (o : Option ℤ) → slice_get cells i ≡ Some o → IsAssigned cells i
      cases None e = absurd (n e)
      cases (Some v) e = (v, e)

  reads_assigned : (a : Code) (k : List Remaining) → Fits p names owed library (frame b (Do a ∷ k) own note) → (leaf cell : ℕ) → IsAmong leaf cell (reads_by p (cells_seen p library own) a) → IsAssigned (cells_seen p library own leaf) cell
  reads_assigned a k f leaf cell h =
      let named = named_of p names (cells_seen p library own) a leaf cell f.assigned.0.named h in
      let below = (named_of p (Below p) (cells_seen p library own) a leaf cell f.assigned.0.below h).0 in
      cell_is (cells_seen p library own leaf) cell named.1
      (λ e. f.assigned.0.reads leaf below (site_of all p names (cells_seen p library own) a leaf cell f.assigned.0.named h (Loose p names library own) (named.0, (cell, e))))

  allows : (a : Code) (k : List Remaining) → Fits p names owed library (frame b (Do a ∷ k) own note) → (writes : List CellNo)
      → ((leaf cell : ℕ) → IsAmong leaf cell writes → IsAmong leaf cell (writes_by (cells_seen p library own) a))
      → (c : Contract) → IsGlobalOf p b c → Allows p b c note (reads_by p (cells_seen p library own) a) writes
  allows a k f writes some c is = record {
    outputs = λ leaf cell out h. writes_listed p silent b sound.below c is leaf out (f.declared.0.writes leaf out.library (write_of p (cells_seen p library own) a leaf cell (some leaf cell h)));
    inputs = λ leaf cell out h. cases leaf cell out h (among_or_not leaf cell note);
  }
    where
      cases : (leaf cell : ℕ) → IsOutside p b leaf → IsAmong leaf cell (reads_by p (cells_seen p library own) a) → IsAmong leaf cell note ⊎ (IsAmong leaf cell note → ⊥)
          → IsListed p is_input c.globals leaf ⊎ (IsListed p is_output c.globals leaf × IsAmong leaf cell note)
      cases leaf cell out h (inl i) = inr (writes_listed p silent b sound.below c is leaf out (f.noted leaf cell i out.library), i)
      cases leaf cell out h (inr d) =
          let named = named_of p names (cells_seen p library own) a leaf cell f.declared.0.named h in
          let below = (named_of p (Below p) (cells_seen p library own) a leaf cell f.declared.0.below h).0 in
          let seen = seen_sized p library own leaf sized_library f.own in
          inl (reads_listed p silent b sound.below c is leaf out
          (f.declared.0.reads leaf below (site_of none p names (cells_seen p library own) a leaf cell f.declared.0.named h (Unwritten p note) (out.library, (cell, (omega arith, d))))))

  -- what the next statement reads is assigned, and the Globals of the body allow what it touches
  pub record IsCleanNext (a : Code) (writes : List CellNo) : Type 0 where
    pub marked : unmarked (cells_seen p library own) (reads_by p (cells_seen p library own) a) ≡ []
    pub allowed : (c : Contract) → IsGlobalOf p b c → Allows p b c note (reads_by p (cells_seen p library own) a) writes

  pub clean : (a : Code) (k : List Remaining) → Fits p names owed library (frame b (Do a ∷ k) own note) → (writes : List CellNo)
      → ((leaf cell : ℕ) → IsAmong leaf cell writes → IsAmong leaf cell (writes_by (cells_seen p library own) a)) → IsCleanNext a writes
  clean a k f writes some = record {
    marked = unmarked_none (cells_seen p library own) (reads_by p (cells_seen p library own) a) (λ leaf cell h. reads_assigned a k f leaf cell h);
    allowed = allows a k f writes some;
  }

-- a plain statement does not call
pub calls_none : (p : Program) (cells : ℕ → List (Option ℤ)) (word : ℕ) (a : Code) (k : List Remaining) → NamesAlone (Below p) a → IsCall (deed cells word a k) → ⊥
calls_none p cells word Skip k g h = h
calls_none p cells word (Then a b) k g h = h
calls_none p cells word (Assign to e at) k g h = no_call (then_some (value_of cells e) (λ v. then_some (sized to v) (λ w. moved cells to w k))) h
calls_none p cells word (Clear leaf) k g h = h
calls_none p cells word (Branch e a b) k g h = no_call (then_some (value_of cells e) (λ v. then_some (truth_in v) (λ t. Some (goes_to (push (cond t a b) k))))) h
calls_none p cells word (Repeat a) k g h = h
calls_none p cells word (Exit o) k g h = h
calls_none p cells word (Called b actuals at) k g h = g
calls_none p cells word (Guard o barrier b) k g h = g
calls_none p cells word (Delay e) k g h = g
calls_none p cells word (ReadClock to) k g h = g
calls_none p cells word Stop k g h = h
