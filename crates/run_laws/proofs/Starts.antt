-- A body that begins.
use Rattle.std.proofs.Common.{◌≡◌, ◌⊎◌, inl, inr, ℕ, ◌<◌, Bool, true, false, cond, ◌&&◌, List, [], length, Option, Some, None, refl, sym, ap, ◌∙◌, subst, ℤ, arith}
use Rattle.std.specs.Prelude.{IfSome, IsSomeAnd, IsTrue, slice_get, slice_index_or}
use Rattle.std.proofs.lemmas.Bool.{eq-eqb}
use Rattle.core_form.specs.Code.{Outcome, Next, Leaves, Returns}
use Rattle.core_form.specs.Fine.{IsHomeOf, IsSeenIn, IsWellFormed, home_of}
use Rattle.core_form.proofs.Alone.{NamesAlone}
use Rattle.core_form.specs.declared.program.Body.{Body}
use Rattle.core_form.specs.declared.program.Home.{Home}
use Rattle.core_form.specs.declared.program.Leaf.{Leaf}
use Rattle.core_form.specs.declared.program.Program.{Program}
use Rattle.core_form.specs.declared.program.Var.{Var}
use Rattle.flow_relations.specs.Equation.{code_at_body, code_of_body, equation, is_out, is_unset, is_unset_leaf, is_unset_var, plain_flow, starts_unset}
use Rattle.run_model.specs.Machine.{bare_leaves, body_code, is_library, is_library_home, push}
use Rattle.run_laws.specs.Laws.{IsGiven, IsGivenBy}
use Rattle.run_model.specs.Runs.{IsSized}
use Rattle.run_laws.specs.Unassigned.{OwnAreAssigned, all, behind, opens, opens_behind, sites}
use Rattle.run_laws.proofs.Bodies.{Fits, Loose, Unwritten, frame, read_by, written_by}
use Rattle.run_model.proofs.Lists.{bare_sized}
use Rattle.run_laws.proofs.Names.{All_got, IsSound, body_code_is, gone_within}
use Rattle.run_laws.proofs.Rows.{given_reads, row_reads}
use Rattle.flow_relations.proofs.Leaving.{leaves_within}
use Rattle.run_laws.proofs.Walks.{Below, Goes, Within, behind_within, goes_push, none, sites_empty, sites_parts, sites_within}

pub bools : (b : Bool) → (b ≡ true) ⊎ (b ≡ false)
bools true = inl refl
bools false = inr refl

-- a library leaf has a cell that is not assigned
abbrev pub Open : List (List (Option ℤ)) → ℕ → Type 0
Open library x = (i : ℕ) × (slice_get (slice_index_or library x []) i ≡ Some None)

pub open_of : (p : Program) (names : ℕ → Type 0) (library own : List (List (Option ℤ))) (x : ℕ) → IsTrue (is_library p x) → Loose p names library own x → Open library x
open_of p names library own x l h = (h.1.0, sym (ap (λ b. slice_get (cond b (slice_index_or library x []) (slice_index_or own x [])) h.1.0) l) ∙ h.1.1)

pub loose_of : (p : Program) (names : ℕ → Type 0) (library own : List (List (Option ℤ))) (x : ℕ) → IsTrue (is_library p x) → names x → Open library x → Loose p names library own x
loose_of p names library own x l n h = (n, (h.0, ap (λ b. slice_get (cond b (slice_index_or library x []) (slice_index_or own x [])) h.0) l ∙ h.1))

module _ (p : Program) (b : ℕ) (sound : IsSound p b (code_of_body p b)) (names : ℕ → Type 0) (named : NamesAlone names (code_of_body p b)) where
  -- it has written nothing yet
  begins_declared : Goes none (read_by p b) (written_by p b) names all p (push (code_of_body p b) []) Next (Unwritten p [])
  begins_declared = goes_push none (read_by p b) (written_by p b) names all p (code_of_body p b) [] (Unwritten p []) (
    record {
      reads = λ x l i. cases x (sites_parts none p (Below p) (code_of_body p b) sound.below (Unwritten p []) none (Unwritten p []) (λ y h. inr h) x l i);
      writes = λ x l h. h;
      below = sound.below;
      named = named;
      right = sound.right;
    },
    λ o n x l k h. tt,
  )
    where
      cases : (x : ℕ) → sites none p (code_of_body p b) none x ⊎ (Unwritten p [] x × read_by p b x) → read_by p b x
      cases x (inl i) = absurd (sites_empty p (Below p) (code_of_body p b) sound.below none (λ y h. h) x i)
      cases x (inr i) = i.1

  -- a frame of it, where no read of a leaf that may be unassigned comes
  module _ (owed : ℕ → Type 0) (library own : List (List (Option ℤ))) (own_is : IsSized p own)
      (reads : Within p (sites all p (code_of_body p b) (Loose p names library own)) none)
      (ends : (o : Outcome) → (plain_flow p (code_of_body p b)).can o → (x : ℕ) → Below p x → IsTrue (is_library p x) → behind all p (code_of_body p b) o (Loose p names library own) x → owed x) where
    pub begins : Fits p names owed library (frame b (push (body_code p b) []) own [])
    begins = record {
      own = own_is;
      assigned = subst (λ a. Goes all none all names owed p (push a []) Next (Loose p names library own)) (sym (body_code_is p b))
          (goes_push all none all names owed p (code_of_body p b) [] (Loose p names library own) (
            record { reads = reads; writes = λ x l h. tt; below = sound.below; named = named; right = sound.right },
            finish,
          ));
      declared = subst (λ a. Goes none (read_by p b) (written_by p b) names all p (push a []) Next (Unwritten p [])) (sym (body_code_is p b)) begins_declared;
      noted = λ leaf cell h. absurd h;
    }
      where
        finish : (o : Outcome) → (plain_flow p (code_of_body p b)).can o → Goes all none all names owed p [] o (behind all p (code_of_body p b) o (Loose p names library own))
        finish o n = ends o n

-- a leaf that a body may name, and that is no library leaf, begins unassigned or is given to it
pub own_leaf : (p : Program) → IsWellFormed p → (b : ℕ) (body : Body) (x : ℕ) → Below p x → IsSeenIn p b x → is_library p x ≡ false → IsTrue (starts_unset p b body.formals x) ⊎ IsGiven p b body x
own_leaf p fine b body x below seen no_library = leaf (slice_get p.leaves x) refl seen no_library
  where
    kind : (v : ℕ) (h : Home) → IsHomeOf b h → is_library_home (Some h) ≡ false → (is_unset b body.formals v h ≡ true) ⊎ IsGivenBy b body v h
    kind v (Home.Package k) s n = let z : true ≡ false = n in absurd (cc)
    kind v (Home.Local c) s n = inl (eq-eqb c.0 b s)
    kind v (Home.Formal c) s n = cases (is_out body.formals v) refl
      where
        cases : (t : Bool) → is_out body.formals v ≡ t → (is_unset b body.formals v (Home.Formal c) ≡ true) ⊎ IsGivenBy b body v (Home.Formal c)
        cases true i = inl (ap (λ a. a && is_out body.formals v) (eq-eqb c.0 b s) ∙ i)
        cases false i = inr (s, i)
    kind v (Home.Outcome c) s n = inl (eq-eqb c.0 b s)
    kind v (Home.Spare c) s n = inl (eq-eqb c.0 b s)
    kind v Home.Clock s n = let z : true ≡ false = n in absurd (cc)

    var : (v : ℕ) (o : Option Var) → (slice_get p.vars v ≡ o) → v < length p.vars → IfSome (elim o [ None ↦ None | Some w ↦ Some w.home ]) (IsHomeOf b) → is_library_home (elim o [ None ↦ None | Some w ↦ Some w.home ]) ≡ false
        → (is_unset_var b body.formals v o ≡ true) ⊎ IsSomeAnd o (λ w. IsGivenBy b body v w.home)
    var v None e l s n = absurd (gone_within p.vars v e l)
    var v (Some w) e l s n = kind v w.home s n

    leaf : (o : Option Leaf) → slice_get p.leaves x ≡ o → IfSome (elim o [ None ↦ None | Some l ↦ (elim (slice_get p.vars l.var.0) [ None ↦ None | Some v ↦ Some v.home ]) ]) (IsHomeOf b)
        → is_library_home (elim o [ None ↦ None | Some l ↦ (elim (slice_get p.vars l.var.0) [ None ↦ None | Some v ↦ Some v.home ]) ]) ≡ false
        → (is_unset_leaf p b body.formals o ≡ true) ⊎ IsSomeAnd o (λ l. IsSomeAnd (slice_get p.vars l.var.0) (λ v. IsGivenBy b body l.var.0 v.home))
    leaf None e s n = absurd (gone_within p.leaves x e below)
    leaf (Some l) e s n =
        let within : l.var.0 < length p.vars = All_got (λ (m : Leaf). m.var.0 < length p.vars) p.leaves x l fine.leaves e in
        var l.var.0 (slice_get p.vars l.var.0) refl within s n

-- a library leaf is seen in each body
pub library_seen : (p : Program) (b x : ℕ) → IsTrue (is_library p x) → IsSeenIn p b x
library_seen p b x h = cases (home_of p x) h
  where
    cases : (o : Option Home) → IsTrue (is_library_home o) → IfSome o (IsHomeOf b)
    cases None g = tt
    cases (Some (Home.Package k)) g = tt
    cases (Some (Home.Local c)) g = let z : false ≡ true = g in absurd (cc)
    cases (Some (Home.Formal c)) g = let z : false ≡ true = g in absurd (cc)
    cases (Some (Home.Outcome c)) g = let z : false ≡ true = g in absurd (cc)
    cases (Some (Home.Spare c)) g = let z : false ≡ true = g in absurd (cc)
    cases (Some Home.Clock) g = tt

-- where the row of a body reads no leaf that may be unassigned, and it leaves none of its own so, its code has no site
module _ (p : Program) (fine : IsWellFormed p) (silent : OwnAreAssigned p) (b : ℕ) (sound : IsSound p b (code_of_body p b)) (loose : ℕ → Type 0)
    (rows : (x : ℕ) → (equation p b).reads x → opens p loose x → ⊥) (v : ℕ → Type 0) (seen : (x : ℕ) → v x → IsSeenIn p b x) (most : Within p v (opens p loose)) where
  -- what is tracked began unassigned, or is read by the row where it is read by the code
  row_sites : (body : Body) → slice_get p.bodies b ≡ Some body → (x : ℕ) → Below p x → sites all p (code_of_body p b) (λ y. Below p y × v y) x → ⊥
  row_sites body is x l i = finish (sites_parts all p (Below p) (code_of_body p b) sound.below (λ y. Below p y × v y) (λ y. IsTrue (starts_unset p b body.formals y)) (λ y. opens p loose y × (IsTrue (is_library p y) ⊎ IsGiven p b body y)) parts x l i)
    where
      parts : (y : ℕ) → Below p y × v y → IsTrue (starts_unset p b body.formals y) ⊎ (opens p loose y × (IsTrue (is_library p y) ⊎ IsGiven p b body y))
      parts y h = cases (bools (is_library p y))
        where
          given : IsTrue (starts_unset p b body.formals y) ⊎ IsGiven p b body y → IsTrue (starts_unset p b body.formals y) ⊎ (opens p loose y × (IsTrue (is_library p y) ⊎ IsGiven p b body y))
          given (inl u) = inl u
          given (inr g) = inr (most y h.0 h.1, inr g)

          cases : (is_library p y ≡ true) ⊎ (is_library p y ≡ false) → IsTrue (starts_unset p b body.formals y) ⊎ (opens p loose y × (IsTrue (is_library p y) ⊎ IsGiven p b body y))
          cases (inl t) = inr (most y h.0 h.1, inl t)
          cases (inr n) = given (own_leaf p fine b body y h.0 (seen y h.1) n)

      finish : sites all p (code_of_body p b) (λ y. IsTrue (starts_unset p b body.formals y)) x ⊎ ((opens p loose x × (IsTrue (is_library p x) ⊎ IsGiven p b body x)) × (plain_flow p (code_of_body p b)).reads x) → ⊥
      finish (inl j) = silent.body b body is x j
      finish (inr j) = rows x (read j.0.1 j.1) j.0.0
        where
          read : IsTrue (is_library p x) ⊎ IsGiven p b body x → (plain_flow p (code_of_body p b)).reads x → (equation p b).reads x
          read (inl t) r = row_reads p b body is sound.below x t r
          read (inr g) r = given_reads p b body is sound.below x l g r

  pub no_site : (x : ℕ) → Below p x → sites all p (code_of_body p b) v x → ⊥
  no_site x l i = cases (slice_get p.bodies b) refl
    where
      cases : (o : Option Body) → slice_get p.bodies b ≡ o → ⊥
      cases None e = subst (λ a. sites all p a v x) (ap (code_at_body p) e) i
      cases (Some body) e = row_sites body e x l (sites_within all p (Below p) (code_of_body p b) sound.below v (λ y. Below p y × v y) (λ y k h. (k, h)) x l i)

-- an elaboration or the main begins, where only these library leaves may be unassigned
pub root_begins : (p : Program) → IsWellFormed p → OwnAreAssigned p → (b : ℕ) → IsSound p b (code_of_body p b) → (library : List (List (Option ℤ))) (loose : ℕ → Type 0)
    → ((x : ℕ) → (equation p b).reads x → opens p loose x → ⊥)
    → ((x : ℕ) → Below p x → IsTrue (is_library p x) → Open library x → loose x)
    → Fits p (IsSeenIn p b) (opens_behind p b loose) library (frame b (push (body_code p b) []) (bare_leaves p.leaves) [])
root_begins p fine silent b sound library loose rows most =
    begins p b sound (IsSeenIn p b) sound.seen (opens_behind p b loose) library (bare_leaves p.leaves) (bare_sized p)
    (λ x l i. no_site p fine silent b sound loose rows (Loose p (IsSeenIn p b) library (bare_leaves p.leaves)) (λ y h. h.0) open_is x l i)
    ends
  where
    open_is : Within p (Loose p (IsSeenIn p b) library (bare_leaves p.leaves)) (opens p loose)
    open_is x l h = cases (bools (is_library p x))
      where
        cases : (is_library p x ≡ true) ⊎ (is_library p x ≡ false) → opens p loose x
        cases (inl t) = inl (t, most x l t (open_of p (IsSeenIn p b) library (bare_leaves p.leaves) x t h))
        cases (inr f) = inr f

    ends : (o : Outcome) → (plain_flow p (code_of_body p b)).can o → (x : ℕ) → Below p x → IsTrue (is_library p x) → behind all p (code_of_body p b) o (Loose p (IsSeenIn p b) library (bare_leaves p.leaves)) x → opens_behind p b loose x
    ends Next n x l k h = inl (behind_within all p (code_of_body p b) Next (Loose p (IsSeenIn p b) library (bare_leaves p.leaves)) (opens p loose) open_is x l h)
    ends Returns n x l k h = inr (behind_within all p (code_of_body p b) Returns (Loose p (IsSeenIn p b) library (bare_leaves p.leaves)) (opens p loose) open_is x l h)
    ends (Leaves i) n x l k h = let z : i < 0 = leaves_within p 0 (code_of_body p b) sound.exits i n in absurd (omega arith)
