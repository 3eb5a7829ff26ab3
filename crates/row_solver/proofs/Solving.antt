-- What one visit of a body does to the state of the solver.
use Rattle.std.proofs.Common.{◌≡◌, ℕ, ◌<◌, ◌⊎◌, ◌↔◌, Bool, true, false, IsTrue, List, [], length, get_or-set_other, refl, inl, inr, arith, sym, ap, subst, ◌∙◌}
use Rattle.std.specs.Prelude.{slice_index_or}
use Rattle.std.proofs.Math.ListN.{set}
use Rattle.std.proofs.lemmas.Bool.{false≢true, cases_Bool, cases_eq, cases_lt}
use Rattle.std.proofs.lemmas.List.{get_or_past}
use Rattle.spark_base.specs.declared.numbers.BodyNo.{BodyNo}
use Rattle.least_solution.specs.Least.{least, Passes, IsReached, IsMet, IsListed, Grows}
use Rattle.least_solution.proofs.Worklist as worklist
use Rattle.summary_rows.specs.declared.layout.Layout.{Layout}
use Rattle.summary_rows.specs.declared.rows.Rows.{Rows}
use Rattle.summary_rows.specs.Bits.{Bit}
use Rattle.summary_rows.specs.Facts.{Part, Fact}
use Rattle.summary_rows.specs.Layout.{Stands, RowTells, IsTidyRow, GainsFact, AreRows, IsTidy, outer_of, facts, told}
use Rattle.summary_rows.proofs.Listed.{stands_listed, facts_listed, same_part}
use Rattle.summary_rows.proofs.Places.{one_part}
use Rattle.call_lists.specs.Lists.{Names, Has}
use Rattle.row_solver.specs.Equations.{owner_of, IsEquation, AreCallers}
use Rattle.row_solver.specs.Solving.{tells, room, IsSolving}
use Rattle.row_solver.proofs.Tells.{tells_told}

-- what a body has by its equation, as bits of its row
abbrev pub HasBits : Layout → ((Fact → Type 0) → Fact → Type 0) → Rows → ℕ → List ℕ → Type 0
HasBits l F rows b words = (n : ℕ) → Bit words n ↔ ((x : Part) × (Stands (outer_of l b) x n × F (told rows) (record { owner = b; part = x })))

-- no other bit is set
pub bits_are_tidy : (l : Layout) (F : (Fact → Type 0) → Fact → Type 0) (rows : Rows) (b : ℕ) (words : List ℕ) → rows.layout ≡ l → HasBits l F rows b words
    → IsTidyRow (outer_of rows.layout b) words
bits_are_tidy l F rows b words e h n s =
    let r = (h n).0 s in
    (r.0, subst (λ (m : Layout). Stands (outer_of m b) r.0 n) (sym e) r.1.0)

-- a mark that is cleared
pub left_by : (dirty : List Bool) (b x : ℕ) → Has dirty x → Has (set dirty b false) x ⊎ (x ≡ b)
left_by dirty b x h = elim (cases_eq x b) [ inl e ↦ inr e | inr n ↦ inl (rw (get_or-set_other dirty b x false false n) h) ]

pub marked_below : (marks : List Bool) (b : ℕ) → Has marks b → b < length marks
marked_below marks b h = elim (cases_lt b (length marks)) [ inl l ↦ l | inr g ↦ absurd (false≢true (sym (get_or_past marks b false g) ∙ h)) ]

module _ (l : Layout) (calls : ℕ → ℕ → Type 0) (F : (Fact → Type 0) → Fact → Type 0) (is : IsEquation l calls F) where
  listed : IsListed (facts l) F
  listed R f x =
      let s = is.stands R f x in
      facts_listed 0 l.outer f.owner f.owner (omega arith) s.0 f.part (stands_listed (outer_of l f.owner) f.part s.1.0 s.1.1)

  grows : Grows F
  grows R S f h x = is.sees R S f (λ g _. h g) x

  -- a row of these bits tells what follows
  row_follows : (rows : Rows) (b : ℕ) (words : List ℕ) → HasBits l F rows b words → (x : Part)
      → RowTells (outer_of l b) words x ↔ F (told rows) (record { owner = b; part = x })
  row_follows rows b words h x = (
    λ t. (let r = (h t.0).0 t.1.1 in
        let e = same_part (outer_of l b) r.0 x t.0 r.1.0 t.1.0 (one_part (outer_of l b) r.0 x t.0 t.0 r.1.0 t.1.0 refl) in
        subst (λ (y : Part). F (told rows) (record { owner = b; part = y })) e r.1.1),
    λ y. (let s = is.stands (told rows) (record { owner = b; part = x }) y in (s.1.0, (s.1.1, (h s.1.0).1 (x, (s.1.1, y))))),
  )

  not_told : (rows : Rows) (f : Fact) → (told rows f → ⊥) → tells rows f ≡ false
  not_told rows f n = elim (cases_Bool (tells rows f)) [ inl e ↦ absurd (n ((tells_told rows f).0 e)) | inr e ↦ e ]

  -- one visit

  module _ (rows new : Rows) (words : List ℕ) (dirty left : List Bool) (b : ℕ)
      (now : IsSolving l F rows dirty)
      (layout : new.layout ≡ l) (are : AreRows new) (tidy : IsTidy new) (flags : length left ≡ length l.outer)
      (joins : (f : Fact) → told new f ↔ (told rows f ⊎ ((f.owner ≡ b) × RowTells (outer_of rows.layout b) words f.part)))
      (bits : HasBits l F rows b words) where
    of_owner : (f : Fact) → f.owner ≡ b → RowTells (outer_of rows.layout b) words f.part ↔ F (told rows) f
    of_owner f o = (
      λ t. subst (λ (k : ℕ). F (told rows) (record { owner = k; part = f.part })) (sym o)
          ((row_follows rows b words bits f.part).0 (subst (λ (m : Layout). RowTells (outer_of m b) words f.part) now.layout t)),
      λ y. subst (λ (m : Layout). RowTells (outer_of m b) words f.part) (sym now.layout)
          ((row_follows rows b words bits f.part).1 (subst (λ (k : ℕ). F (told rows) (record { owner = k; part = f.part })) o y)),
    )

    to_test : (f : Fact) → F (told rows) f → F (Passes (tells rows)) f
    to_test f x = grows (told rows) (Passes (tells rows)) f (λ g y. (tells_told rows g).1 y) x

    from_test : (f : Fact) → F (Passes (tells rows)) f → F (told rows) f
    from_test f x = grows (Passes (tells rows)) (told rows) f (λ g y. (tells_told rows g).0 y) x

    joined : (f : Fact) → (tells new f ≡ true) ↔ ((tells rows f ≡ true) ⊎ ((owner_of f ≡ b) × F (Passes (tells rows)) f))
    joined f = (
      λ x. elim ((joins f).0 ((tells_told new f).0 x)) [
        | inl y ↦ inl ((tells_told rows f).1 y)
        | inr q ↦ inr (q.0, to_test f ((of_owner f q.0).0 q.1))
      ],
      λ x. (tells_told new f).1 (elim x [
        | inl y ↦ (joins f).1 (inl ((tells_told rows f).0 y))
        | inr q ↦ (joins f).1 (inr (q.0, (of_owner f q.0).1 (from_test f q.1)))
      ]),
    )

    grown : (callers : List (List BodyNo)) → AreCallers calls callers → GainsFact rows new
        → ((c : ℕ) → Names (slice_index_or callers b []) c → Has left c) → ((c : ℕ) → Has dirty c → Has left c ⊎ (c ≡ b)) → IsSolving l F new left
    grown callers who g q k = record {
      layout = layout;
      sized = are;
      tidy = tidy;
      flags = flags;
      reached = worklist.reached_joined owner_of (facts l) calls F listed is.sees (tells rows) (tells new) b joined now.reached g.0
          (not_told rows g.0 g.1) ((tells_told new g.0).1 g.2);
      met = λ c e. worklist.met_joined owner_of (facts l) calls F listed is.sees (tells rows) (tells new) b c joined
          (λ h. absurd (let d = q c (who c b h) in cc))
          (elim (cases_Bool (slice_index_or dirty c false)) [
            | inl d ↦ (elim (k c d) [ inl h ↦ absurd (cc) | inr i ↦ inl i ])
            | inr d ↦ inr (now.met c d)
          ]);
    }

    -- what came in is one fact less to come
    pub grown_room : GainsFact rows new → room l new < room l rows
    grown_room g =
        let more = worklist.tally_more (tells rows) (tells new) (λ y z. (joined y).1 (inl z)) g.0 (not_told rows g.0 g.1) ((tells_told new g.0).1 g.2) (facts l)
        (elim ((joined g.0).0 ((tells_told new g.0).1 g.2)) [
          | inl z ↦ absurd (g.1 ((tells_told rows g.0).0 z))
          | inr q ↦ listed (Passes (tells rows)) g.0 q.1
        ]) in
        let most = worklist.tally_most (tells new) (facts l) in
        omega arith

    same : new ≡ rows → ((c : ℕ) → Has dirty c → Has left c ⊎ (c ≡ b)) → IsSolving l F new left
    same e k = record {
      layout = layout;
      sized = are;
      tidy = tidy;
      flags = flags;
      reached = subst (λ (r : Rows). IsReached (facts l) F (tells r)) (sym e) now.reached;
      met = λ c d. subst (λ (r : Rows). IsMet owner_of F (tells r) c) (sym e)
          (elim (cases_Bool (slice_index_or dirty c false)) [
            | inl h ↦ (elim (k c h) [
              | inl i ↦ absurd (cc)
              | inr i ↦ subst (λ (j : ℕ). IsMet owner_of F (tells rows) j) (sym i)
                  (worklist.met_same owner_of (facts l) calls F listed is.sees (tells rows) (tells new) b joined (λ f. ap (λ (r : Rows). tells r f) e))
            ])
            | inr h ↦ now.met c h
          ]);
    }

    pub visited : (callers : List (List BodyNo)) → AreCallers calls callers → (grew : Bool) → (IsTrue grew → GainsFact rows new) → (grew ≡ false → new ≡ rows)
        → ((c : ℕ) → Has dirty c → Has left c ⊎ (c ≡ b)) → (IsTrue grew → (c : ℕ) → Names (slice_index_or callers b []) c → Has left c) → IsSolving l F new left
    visited callers who grew gains keeps cleans wakes = elim (cases_Bool grew) [
      | inl t ↦ grown callers who (gains t) (wakes t) cleans
      | inr n ↦ same (keeps n) cleans
    ]

  -- before the first visit
  pub started : (rows : Rows) (dirty : List Bool) → rows.layout ≡ l → AreRows rows → IsTidy rows → ((f : Fact) → told rows f → ⊥)
      → length dirty ≡ length l.outer → ((b : ℕ) → b < length l.outer → Has dirty b) → IsSolving l F rows dirty
  started rows dirty layout are tidy none flags all = record {
    layout = layout;
    sized = are;
    tidy = tidy;
    flags = flags;
    reached = worklist.reached_none owner_of (facts l) calls F listed is.sees (tells rows) (λ f. not_told rows f (none f));
    met = λ b e. elim (cases_lt b (length l.outer)) [
      | inl h ↦ absurd (let d = all b h in cc)
      | inr g ↦ (λ f o x. absurd (let s = is.stands (Passes (tells rows)) f x in let k = s.0 in omega (arith, k, o, g)))
    ];
  }

  -- where no body is dirty
  pub finished : (rows : Rows) (dirty : List Bool) → IsSolving l F rows dirty → ((b : ℕ) → Has dirty b → ⊥) → (f : Fact) → told rows f ↔ least (facts l) F f
  finished rows dirty s q f =
      let r = worklist.met_is_least owner_of (facts l) calls F listed is.sees (tells rows) s.reached
      (λ b. elim (cases_Bool (slice_index_or dirty b false)) [ inl h ↦ absurd (q b h) | inr e ↦ s.met b e ]) f in
      (λ t. r.0 ((tells_told rows f).1 t), λ h. (tells_told rows f).0 (r.1 h))
