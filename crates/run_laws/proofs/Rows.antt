-- What the flow of a body's code says of library leaves, its row says too.
use Rattle.std.proofs.Common.{◌≡◌, ◌≢◌, ◌⊎◌, inl, inr, ℕ, zero, suc, ◌<◌, ◌≤◌, Bool, true, false, cond, ◌&&◌, nat_eq, List, [], ◌∷◌, length, Option, Some, None, refl, sym, ap, ◌∙◌, subst, arith}
use Rattle.std.specs.Prelude.{IsTrue, IsSomeAnd, slice_get}
use Rattle.core_form.specs.Code.{At, Outcome, Next, Code, Skip, Then, Assign, Clear, Branch, Repeat, Exit, Called, Guard, Delay, ReadClock, Stop, code_of}
use Rattle.core_form.specs.Fine.{home_of}
use Rattle.core_form.proofs.Alone.{NamesAlone}
use Rattle.core_form.specs.declared.contract.Contract.{Contract}
use Rattle.core_form.specs.declared.program.Body.{Body}
use Rattle.core_form.specs.declared.program.Formal.{Formal}
use Rattle.core_form.specs.declared.program.Home.{Home}
use Rattle.core_form.specs.declared.program.Program.{Program}
use Rattle.core_form.specs.declared.program.Leaf.{Leaf}
use Rattle.core_form.specs.declared.program.Var.{Var}
use Rattle.flow_relations.specs.Equation.{IsLibrary, IsPassed, is_out, clock_among, code_at_body, code_of_body, equation, is_unset, is_unset_leaf, is_unset_var, names_of, opened, plain_flow, starts_unset, whole_at, whole_code}
use Rattle.flow_relations.specs.Flow.{Flow, inside, unrolling}
use Rattle.run_model.specs.Machine.{is_library, is_library_home}
use Rattle.run_laws.specs.Clean.{IsGlobalOf, IsListed, IsOutside, is_input, is_output}
use Rattle.run_laws.specs.Laws.{IsGiven, IsGivenBy, IsSilent}
use Rattle.run_laws.proofs.Walks.{Below}

-- Named leaves

module _ (void : ℕ) (f : Flow) (self : (o : Outcome) (x w : ℕ) → x < void → f.kept o x w → x ≡ w) where
  rounds_self : (n : ℕ) (o : Outcome) (x w : ℕ) → x < void → (unrolling void f n).kept o x w → x ≡ w
  rounds_self zero o x w l k = absurd k
  rounds_self (suc n) o x w l (inl k) = self o x w l k.1
  rounds_self (suc n) o x w l (inr k) = let e = self Next x k.0 l k.1.0 in e ∙ rounds_self n o k.0 w (subst (λ y. y < void) e l) k.1.1

  rounds_read : (n x : ℕ) → x < void → (unrolling void f n).reads x → f.reads x
  rounds_read zero x l h = absurd h
  rounds_read (suc n) x l (inl h) = h
  rounds_read (suc n) x l (inr h) = let e = self Next x h.1.0 l h.1.1.0 in rounds_read n x l (subst (unrolling void f n).reads (sym e) h.1.1.1)

rounds_write : (void : ℕ) (f : Flow) (n x : ℕ) → (unrolling void f n).writes x → f.writes x
rounds_write void f zero x h = absurd h
rounds_write void f (suc n) x (inl h) = h
rounds_write void f (suc n) x (inr h) = rounds_write void f n x h.1

module _ (p : Program) where
  -- a leaf that is kept is itself
  kept_self : (P : ℕ → Type 0) (a : Code) → NamesAlone P a → (o : Outcome) (x w : ℕ) → Below p x → (plain_flow p a).kept o x w → x ≡ w
  kept_self P Skip g o x w l k = k.1.1
  kept_self P (Then a b) g o x w l (inl k) = kept_self P a g.0 o x w l k.1
  kept_self P (Then a b) g o x w l (inr k) =
      let e = kept_self P a g.0 Next x k.0 l k.1.0 in
      e ∙ kept_self P b g.1 o k.0 w (subst (Below p) e l) k.1.1
  kept_self P (Assign (At leaf part true count) e at) g o x w l k = k.1.1
  kept_self P (Assign (At leaf part false count) e at) g o x w l k = k.1.1
  kept_self P (Clear leaf) g o x w l k = cases k.1
    where
      cases : ((x ≤ length p.leaves) × (x ≡ w) × (x ≢ leaf)) ⊎ ((x ≡ length p.leaves) × (w ≡ leaf)) → x ≡ w
      cases (inl j) = j.1
      cases (inr j) = let e : x ≡ length p.leaves = j.0 in absurd (omega arith)
  kept_self P (Branch e a b) g o x w l (inl k) = kept_self P a g.1 o x w l k
  kept_self P (Branch e a b) g o x w l (inr k) = kept_self P b g.2 o x w l k
  kept_self P (Repeat a) g o x w l k = rounds_self (length p.leaves) (plain_flow p a) (kept_self P a g) k.0 (inside o) x w l k.1
  kept_self P (Exit u) g o x w l k = k.1.1
  kept_self P (Called b actuals at) g o x w l k = absurd g
  kept_self P (Guard u barrier b) g o x w l k = absurd g
  kept_self P (Delay e) g o x w l k = absurd g
  kept_self P (ReadClock to) g o x w l k = absurd g
  kept_self P Stop g o x w l k = absurd k

  -- what is read is named
  pub reads_named : (P : ℕ → Type 0) (a : Code) → NamesAlone P a → (x : ℕ) → Below p x → (plain_flow p a).reads x → names_of (clock_among p.vars) a x
  reads_named P Skip g x l h = h
  reads_named P (Then a b) g x l (inl h) = inl (reads_named P a g.0 x l h)
  reads_named P (Then a b) g x l (inr h) =
      let e = kept_self P a g.0 Next x h.1.0 l h.1.1.0 in
      inr (reads_named P b g.1 x l (subst (plain_flow p b).reads (sym e) h.1.1.1))
  reads_named P (Assign (At leaf part true count) e at) g x l (inl h) = inr h
  reads_named P (Assign (At leaf part true count) e at) g x l (inr h) = inl (inr h)
  reads_named P (Assign (At leaf part false count) e at) g x l (inl h) = inr h
  reads_named P (Assign (At leaf part false count) e at) g x l (inr h) = inl (inr h)
  reads_named P (Clear leaf) g x l h = absurd h
  reads_named P (Branch e a b) g x l (inl h) = inl h
  reads_named P (Branch e a b) g x l (inr (inl h)) = inr (inl (reads_named P a g.1 x l h))
  reads_named P (Branch e a b) g x l (inr (inr h)) = inr (inr (reads_named P b g.2 x l h))
  reads_named P (Repeat a) g x l h = reads_named P a g x l (rounds_read (length p.leaves) (plain_flow p a) (kept_self P a g) h.0 x l h.1)
  reads_named P (Exit u) g x l h = absurd h
  reads_named P (Called b actuals at) g x l h = absurd g
  reads_named P (Guard u barrier b) g x l h = absurd g
  reads_named P (Delay e) g x l h = absurd g
  reads_named P (ReadClock to) g x l h = absurd g
  reads_named P Stop g x l h = h

  -- what is written is named
  pub writes_named : (P : ℕ → Type 0) (a : Code) → NamesAlone P a → (x : ℕ) → (plain_flow p a).writes x → names_of (clock_among p.vars) a x
  writes_named P Skip g x h = h
  writes_named P (Then a b) g x (inl h) = inl (writes_named P a g.0 x h)
  writes_named P (Then a b) g x (inr h) = inr (writes_named P b g.1 x h.1)
  writes_named P (Assign (At leaf part true count) e at) g x h = inl (inl h)
  writes_named P (Assign (At leaf part false count) e at) g x h = inl (inl h)
  writes_named P (Clear leaf) g x h = h
  writes_named P (Branch e a b) g x (inl h) = inr (inl (writes_named P a g.1 x h))
  writes_named P (Branch e a b) g x (inr h) = inr (inr (writes_named P b g.2 x h))
  writes_named P (Repeat a) g x h = writes_named P a g x (rounds_write (length p.leaves) (plain_flow p a) h.0 x h.1)
  writes_named P (Exit u) g x h = absurd h
  writes_named P (Called b actuals at) g x h = absurd g
  writes_named P (Guard u barrier b) g x h = absurd g
  writes_named P (Delay e) g x h = absurd g
  writes_named P (ReadClock to) g x h = absurd g
  writes_named P Stop g x h = h

-- Library leaves

pub library_below : (p : Program) (x : ℕ) → IsTrue (is_library p x) → Below p x
library_below p x h = cases p.leaves x (λ e. no_home e)
  where
    no_home : slice_get p.leaves x ≡ None → ⊥
    no_home e = let z : IsTrue (is_library_home (elim (slice_get p.leaves x) [ None ↦ None | Some l ↦ (elim (slice_get p.vars l.var.0) [ None ↦ None | Some v ↦ Some v.home ]) ])) = h in let y : false ≡ true = rw e at z in cc

    cases : {X : Type 0} → (xs : List X) (i : ℕ) → (slice_get xs i ≡ None → ⊥) → i < length xs
    cases [] i n = absurd (n refl)
    cases (y ∷ ys) zero n = omega arith
    cases (y ∷ ys) (suc i) n = let r = cases ys i n in omega arith

pub library_home : (p : Program) (x : ℕ) → IsTrue (is_library p x) → IsSomeAnd (home_of p x) IsLibrary
library_home p x h = cases (home_of p x) h
  where
    cases : (o : Option Home) → IsTrue (is_library_home o) → IsSomeAnd o IsLibrary
    cases None g = let z : false ≡ true = g in absurd (cc)
    cases (Some (Home.Package k)) g = tt
    cases (Some (Home.Local b)) g = let z : false ≡ true = g in absurd (cc)
    cases (Some (Home.Formal b)) g = let z : false ≡ true = g in absurd (cc)
    cases (Some (Home.Outcome b)) g = let z : false ≡ true = g in absurd (cc)
    cases (Some (Home.Spare b)) g = let z : false ≡ true = g in absurd (cc)
    cases (Some Home.Clock) g = tt

-- a library leaf does not begin unassigned
library_set : (p : Program) (b : ℕ) (formals : List Formal) (x : ℕ) → IsTrue (is_library p x) → starts_unset p b formals x ≡ false
library_set p b formals x h = leaf (slice_get p.leaves x) h
  where
    home : (var : ℕ) (o : Option Var) → IsTrue (is_library_home (elim o [ None ↦ None | Some v ↦ Some v.home ])) → is_unset_var b formals var o ≡ false
    home var None g = refl
    home var (Some v) g = kind v.home g
      where
        kind : (k : Home) → IsTrue (is_library_home (Some k)) → is_unset b formals var k ≡ false
        kind (Home.Package k) j = refl
        kind (Home.Local c) j = let z : false ≡ true = j in absurd (cc)
        kind (Home.Formal c) j = let z : false ≡ true = j in absurd (cc)
        kind (Home.Outcome c) j = let z : false ≡ true = j in absurd (cc)
        kind (Home.Spare c) j = let z : false ≡ true = j in absurd (cc)
        kind Home.Clock j = refl

    leaf : (o : Option Leaf) → IsTrue (is_library_home (elim o [ None ↦ None | Some l ↦ (elim (slice_get p.vars l.var.0) [ None ↦ None | Some v ↦ Some v.home ]) ])) → is_unset_leaf p b formals o ≡ false
    leaf None g = refl
    leaf (Some l) g = home l.var.0 (slice_get p.vars l.var.0) g

-- The frame is opened first

module _ (p : Program) (unset : ℕ → Bool) (x : ℕ) (stays : unset x ≡ false) (below : Below p x) where
  opened_reads : (n first : ℕ) (a : Code) → (plain_flow p a).reads x → (plain_flow p (opened unset n first a)).reads x
  opened_reads zero first a h = h
  opened_reads (suc n) first a h = cases (unset first) refl (opened_reads n (suc first) a h)
    where
      cases : (b : Bool) → unset first ≡ b → (plain_flow p (opened unset n (suc first) a)).reads x → (plain_flow p (cond b (Then (Clear first) (opened unset n (suc first) a)) (opened unset n (suc first) a))).reads x
      cases true e g =
          let away : x ≢ first = λ i. let z : true ≡ false = sym e ∙ (sym (ap unset i) ∙ stays) in cc in
          inr ((λ i. let j : x ≡ length p.leaves = i in absurd (omega arith)), (x, ((refl, inl (omega arith, refl, away)), g)))
      cases false e g = g

  opened_writes : (n first : ℕ) (a : Code) → (plain_flow p a).writes x → (plain_flow p (opened unset n first a)).writes x
  opened_writes zero first a h = h
  opened_writes (suc n) first a h = cases (unset first) (opened_writes n (suc first) a h)
    where
      cases : (b : Bool) → (plain_flow p (opened unset n (suc first) a)).writes x → (plain_flow p (cond b (Then (Clear first) (opened unset n (suc first) a)) (opened unset n (suc first) a))).writes x
      cases true g = inr (refl, g)
      cases false g = g

-- the row of a body has what it reads and writes of the library by its code
module _ (p : Program) (b : ℕ) (body : Body) (is : slice_get p.bodies b ≡ Some body) (sound : NamesAlone (Below p) (code_of_body p b)) (x : ℕ) (library : IsTrue (is_library p x)) where
  code_is : code_of_body p b ≡ code_of p.exprs p.stmts body.code
  code_is = ap (code_at_body p) is

  whole_is : whole_code p b ≡ opened (starts_unset p b body.formals) (length p.leaves) 0 (code_of p.exprs p.stmts body.code)
  whole_is = ap (whole_at p b) is

  pub row_reads : (plain_flow p (code_of_body p b)).reads x → (equation p b).reads x
  row_reads h =
      let below = library_below p x library in
      let flow = opened_reads p (starts_unset p b body.formals) x (library_set p b body.formals x library) below (length p.leaves) 0 (code_of p.exprs p.stmts body.code) (subst (λ a. (plain_flow p a).reads x) code_is h) in
      (inl (library_home p x library, reads_named p (Below p) (code_of_body p b) sound x below h), subst (λ a. (plain_flow p a).reads x) (sym whole_is) flow)

  pub row_writes : (plain_flow p (code_of_body p b)).writes x → (equation p b).writes x
  row_writes h =
      let below = library_below p x library in
      let flow = opened_writes p (starts_unset p b body.formals) x (library_set p b body.formals x library) below (length p.leaves) 0 (code_of p.exprs p.stmts body.code) (subst (λ a. (plain_flow p a).writes x) code_is h) in
      (inl (library_home p x library, writes_named p (Below p) (code_of_body p b) sound x h), subst (λ a. (plain_flow p a).writes x) (sym whole_is) flow)

-- nor does a leaf that is given to the body begin unassigned: the row has what its code reads of it
module _ (p : Program) (b : ℕ) (body : Body) (is : slice_get p.bodies b ≡ Some body) (sound : NamesAlone (Below p) (code_of_body p b)) (x : ℕ) (below : Below p x) (given : IsGiven p b body x) where
  given_home : IsSomeAnd (home_of p x) (IsPassed b) × (starts_unset p b body.formals x ≡ false)
  given_home = leaf (slice_get p.leaves x) given
    where
      kind : (v : ℕ) (h : Home) → IsGivenBy b body v h → IsPassed b h × (is_unset b body.formals v h ≡ false)
      kind v (Home.Package k) g = absurd g
      kind v (Home.Local c) g = absurd g
      kind v (Home.Formal c) g = (g.0, both (nat_eq c.0 b) (is_out body.formals v) g.1)
        where
          both : (s t : Bool) → t ≡ false → (s && t) ≡ false
          both true t e = e
          both false t e = refl
      kind v (Home.Outcome c) g = absurd g
      kind v (Home.Spare c) g = absurd g
      kind v Home.Clock g = absurd g

      var : (v : ℕ) (o : Option Var) → IsSomeAnd o (λ w. IsGivenBy b body v w.home) → IsSomeAnd (elim o [ None ↦ None | Some w ↦ Some w.home ]) (IsPassed b) × (is_unset_var b body.formals v o ≡ false)
      var v None g = absurd g
      var v (Some w) g = kind v w.home g

      leaf : (o : Option Leaf) → IsSomeAnd o (λ l. IsSomeAnd (slice_get p.vars l.var.0) (λ w. IsGivenBy b body l.var.0 w.home))
          → IsSomeAnd (elim o [ None ↦ None | Some l ↦ (elim (slice_get p.vars l.var.0) [ None ↦ None | Some w ↦ Some w.home ]) ]) (IsPassed b) × (is_unset_leaf p b body.formals o ≡ false)
      leaf None g = absurd g
      leaf (Some l) g = var l.var.0 (slice_get p.vars l.var.0) g

  pub given_reads : (plain_flow p (code_of_body p b)).reads x → (equation p b).reads x
  given_reads h =
      let flow = opened_reads p (starts_unset p b body.formals) x given_home.1 below (length p.leaves) 0 (code_of p.exprs p.stmts body.code) (subst (λ a. (plain_flow p a).reads x) (ap (code_at_body p) is) h) in
      (inr given_home.0, subst (λ a. (plain_flow p a).reads x) (sym (ap (whole_at p b) is)) flow)

-- it is listed in a Global of the body
module _ (p : Program) (silent : IsSilent p) (b : ℕ) (sound : NamesAlone (Below p) (code_of_body p b)) (c : Contract) (is : IsGlobalOf p b c) (x : ℕ) (out : IsOutside p b x) where
  pub reads_listed : (plain_flow p (code_of_body p b)).reads x → IsListed p is_input c.globals x
  reads_listed h = (silent.globals b c is).reads x out (row_reads p b is.0 is.1 sound x out.library h)

  pub writes_listed : (plain_flow p (code_of_body p b)).writes x → IsListed p is_output c.globals x
  writes_listed h = (silent.globals b c is).writes x out (row_writes p b is.0 is.1 sound x out.library h)
