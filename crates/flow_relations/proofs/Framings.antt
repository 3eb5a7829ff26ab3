-- The frame of a body: its numbers are those of its leaves, and its code names no other.
use Rattle.std.proofs.Common.{◌≡◌, ℕ, zero, suc, ◌≤◌, ◌⊎◌, ◌↔◌, inl, inr, Bool, true, false, cond, Option, Some, None, List, [], length, refl, sym, ap, subst, ◌∙◌, arith}
use Rattle.std.specs.Prelude.{IsSomeAnd, slice_get}
use Rattle.std.proofs.lemmas.Bool.{cases_lt}
use Rattle.std.proofs.lemmas.List.{get_or_past}
use Rattle.spark_base.specs.declared.numbers.BodyNo.{BodyNo}
use Rattle.core_form.specs.declared.program.Body.{Body}
use Rattle.core_form.specs.declared.program.Formal.{Formal}
use Rattle.core_form.specs.declared.program.Home.{Home}
use Rattle.core_form.specs.declared.program.Leaf.{Leaf}
use Rattle.core_form.specs.declared.program.Program.{Program}
use Rattle.core_form.specs.declared.program.Var.{Var}
use Rattle.core_form.specs.Code.{Actuals, Code, Then, Clear, code_of}
use Rattle.core_form.specs.Fine.{home_of}
use Rattle.flow_relations.specs.declared.frame.Frame.{Frame}
use Rattle.flow_relations.specs.declared.frame.Framing.{Framing}
use Rattle.flow_relations.specs.Equation.{IsPassed, IsRowLeaf, clock_among, code_at_body, is_unset, is_unset_leaf, is_unset_var, names_of, no_calls, opened, plain_flow, starts_unset}
use Rattle.flow_facts.specs.Flow.{Flow, IsSame, flow}
use Rattle.flow_relations.specs.Framing.{IsFrame, IsFrameLeaf, IsFraming, IsFramingOf, IsOwn, Spreads, SpreadsAll, frame_size, framed, name_at, place_at, spread, spread_of}
use Rattle.flow_relations.specs.CallsTold.{calls_of}
use Rattle.flow_relations.specs.Summaries.{flow_with}
use Rattle.flow_relations.proofs.Framed.{AreCallsTold, IsNaming, code_spread, no_calls_told}
use Rattle.flow_facts.proofs.Same.{same_through}

-- Names

pub name_last : (frame : Frame) → name_at frame (frame_size frame) ≡ frame.void
name_last frame = ap (λ l. l.0) (get_or_past frame.leaves.items (frame_size frame) (record { 0 = frame.void }) (omega arith))

pub name_most : (frame : Frame) → IsFrame frame → (i : ℕ) → i ≤ frame_size frame → name_at frame i ≤ frame.void
name_most frame h i l = elim (cases_lt i (frame_size frame)) [
  | inl m ↦ (let a = h.increasing i (frame_size frame) m (omega arith) in let b = name_last frame in omega arith)
  | inr g ↦ (let a : name_at frame i ≡ frame.void = ap (name_at frame) (omega arith) ∙ name_last frame in omega arith)
]

pub naming_of : (leaves : ℕ) (S : ℕ → Type 0) (r : Framing) → IsFraming leaves S r → IsNaming (name_at r.frame) (place_at r.places) r.places.void r.frame.void
naming_of leaves S r h =
    let last : name_at r.frame r.places.void ≡ r.frame.void = ap (name_at r.frame) (sym h.framed.count) ∙ name_last r.frame in
    record {
      places = h.framed.back;
      last = last;
      below = λ i l. (let a = h.frame.increasing i r.places.void l (omega (arith, h.framed.count)) in omega arith);
    }

-- a frame that has more has less
pub framing_in : (leaves : ℕ) (S T : ℕ → Type 0) → ((v : ℕ) → T v → S v) → (r : Framing) → IsFraming leaves S r → IsFraming leaves T r
framing_in leaves S T h r x = record {
  void = x.void;
  frame = x.frame;
  framed = x.framed;
  below = x.below;
  inside = λ v t. x.inside v (h v t);
}

-- Sets and relations that are the same are told so

module _ (name : ℕ → ℕ) (n void : ℕ) where
  pub set_same : (S T : ℕ → Type 0) → ((i : ℕ) → S i ↔ T i) → (v : ℕ) → Spreads name n void S v ↔ Spreads name n void T v
  set_same S T h v = (λ x. (x.0, (x.1.0, x.1.1, (h x.0).0 x.1.2)), λ x. (x.0, (x.1.0, x.1.1, (h x.0).1 x.1.2)))

  pub all_same : (R S : ℕ → ℕ → Type 0) (c d : Type 0) → ((i j : ℕ) → R i j ↔ S i j) → (c ↔ d) → (v w : ℕ) → SpreadsAll name n void R c v w ↔ SpreadsAll name n void S d v w
  all_same R S c d h k v w = (there, back)
    where
      there : SpreadsAll name n void R c v w → SpreadsAll name n void S d v w
      there (inl (i, (j, x))) = inl (i, (j, (x.0, x.1, x.2, x.3, (h i j).0 x.4)))
      there (inr x) = inr (x.0, k.0 x.1, x.2)

      back : SpreadsAll name n void S d v w → SpreadsAll name n void R c v w
      back (inl (i, (j, x))) = inl (i, (j, (x.0, x.1, x.2, x.3, (h i j).1 x.4)))
      back (inr x) = inr (x.0, k.1 x.1, x.2)

  pub spread_same : (f g : Flow) → IsSame f g → IsSame (spread name n void f) (spread name n void g)
  spread_same f g h = record {
    reads = set_same f.reads g.reads h.reads;
    writes = set_same f.writes g.writes h.writes;
    decides = set_same f.decides g.decides h.decides;
    can = h.can;
    kept = λ o. all_same (f.kept o) (g.kept o) (f.can o) (g.can o) (h.kept o) (h.can o);
    dep = λ o. all_same (f.dep o) (g.dep o) (f.can o) (g.can o) (h.dep o) (h.can o);
  }

-- code that names leaves of the frame alone has the flow of its numbers, where its calls have theirs
module _ (p : Program) (S : ℕ → Type 0) (r : Framing) (h : IsFraming (length p.leaves) S r) (by_number by_leaf : BodyNo → Actuals → Flow) where
  abbrev pub Told : Code → Type 0
  Told code = AreCallsTold (name_at r.frame) (place_at r.places) r.places.void r.frame.void (naming_of (length p.leaves) S r h) (clock_among p.vars) by_number by_leaf code

  frame_spread : (code : Code) → ((v : ℕ) → names_of (clock_among p.vars) code v → S v) → Told code → IsSame (spread_of r.frame (framed p by_number r.places code)) (flow_with p by_leaf code)
  frame_spread code inside told =
      let clock = clock_among p.vars in
      let by = framed p by_number r.places code in
      let base = code_spread (name_at r.frame) (place_at r.places) r.places.void r.frame.void (naming_of (length p.leaves) S r h) clock by_number by_leaf code (λ v x. h.inside v (inside v x)) told in
      let sized : IsSame (spread_of r.frame by) (flow r.frame.void clock by_leaf code) =
      subst (λ n. IsSame (spread (name_at r.frame) n r.frame.void by) (flow r.frame.void clock by_leaf code)) (sym h.framed.count) base in
      subst (λ u. IsSame (spread_of r.frame by) (flow u clock by_leaf code)) h.void sized

  pub facts_spread : (code : Code) → ((v : ℕ) → names_of (clock_among p.vars) code v → S v) → Told code → (f : Flow) → IsSame f (framed p by_number r.places code) → IsSame (spread_of r.frame f) (flow_with p by_leaf code)
  facts_spread code inside told f s = same_through _ _ _ (spread_same (name_at r.frame) (frame_size r.frame) r.frame.void f _ s) (frame_spread code inside told)

-- What the whole code of a body names

opened_step : (clock : ℕ) (unset : ℕ → Bool) (first v : ℕ) (rest : Code) (Q : Type 0) → (names_of clock rest v → Q ⊎ (unset v ≡ true)) → (b : Bool) → unset first ≡ b
    → names_of clock (cond b (Then (Clear first) rest) rest) v → Q ⊎ (unset v ≡ true)
opened_step clock unset first v rest Q h true e (inl x) = inr (ap unset x ∙ e)
opened_step clock unset first v rest Q h true e (inr x) = h x
opened_step clock unset first v rest Q h false e x = h x

pub opened_names : (clock : ℕ) (unset : ℕ → Bool) (n first : ℕ) (code : Code) (v : ℕ) → names_of clock (opened unset n first code) v → names_of clock code v ⊎ (unset v ≡ true)
opened_names clock unset zero first code v h = inl h
opened_names clock unset (suc n) first code v h =
    opened_step clock unset first v (opened unset n (suc first) code) (names_of clock code v) (opened_names clock unset n (suc first) code v) (unset first) refl h

unset_home : (b v : ℕ) (formals : List Formal) (home : Home) → is_unset b formals v home ≡ true → IsOwn b home
unset_home b v formals (Home.Package k) h = absurd (cc)
unset_home b v formals (Home.Local c) h = grind (arith, h)
unset_home b v formals (Home.Formal c) h = grind (arith, h)
unset_home b v formals (Home.Outcome c) h = grind (arith, h)
unset_home b v formals (Home.Spare c) h = grind (arith, h)
unset_home b v formals Home.Clock h = absurd (cc)

passed_home : (b : ℕ) (home : Home) → IsPassed b home → IsOwn b home
passed_home b (Home.Package k) h = h
passed_home b (Home.Local c) h = absurd h
passed_home b (Home.Formal c) h = h
passed_home b (Home.Outcome c) h = h
passed_home b (Home.Spare c) h = absurd h
passed_home b Home.Clock h = h

some_weaker : (o : Option Home) (P Q : Home → Type 0) → ((x : Home) → P x → Q x) → IsSomeAnd o P → IsSomeAnd o Q
some_weaker None P Q h x = x
some_weaker (Some y) P Q h x = h y x

-- a leaf that begins unassigned is the body's own, and so is one of a formal or the result
pub unset_own : (p : Program) (b : ℕ) (formals : List Formal) (v : ℕ) → starts_unset p b formals v ≡ true → IsSomeAnd (home_of p v) (IsOwn b)
unset_own p b formals v h = of_leaf (slice_get p.leaves v) h
  where
    of_var : (w : ℕ) (o : Option Var) → is_unset_var b formals w o ≡ true → IsSomeAnd (elim o [ None ↦ None | Some x ↦ Some x.home ]) (IsOwn b)
    of_var w None h = absurd (cc)
    of_var w (Some x) h = unset_home b w formals x.home h

    of_leaf : (o : Option Leaf) → is_unset_leaf p b formals o ≡ true
        → IsSomeAnd (elim o [ None ↦ None | Some l ↦ (elim (slice_get p.vars l.var.0) [ None ↦ None | Some x ↦ Some x.home ]) ]) (IsOwn b)
    of_leaf None h = absurd (cc)
    of_leaf (Some l) h = of_var l.var.0 (slice_get p.vars l.var.0) h

pub passed_own : (p : Program) (b v : ℕ) → IsSomeAnd (home_of p v) (IsPassed b) → IsSomeAnd (home_of p v) (IsOwn b)
passed_own p b v h = some_weaker (home_of p v) (IsPassed b) (IsOwn b) (passed_home b) h

-- The flows of a body's code

module _ (p : Program) (b : ℕ) (body : Body) (is : slice_get p.bodies b ≡ Some body) (r : Framing) (h : IsFramingOf p b r) where
  abbrev code : Code
  code = code_of p.exprs p.stmts body.code

  code_named : (v : ℕ) → names_of (clock_among p.vars) code v → IsFrameLeaf p b v
  code_named v x = inl (subst (λ c. names_of (clock_among p.vars) c v) (sym (ap (code_at_body p) is)) x)

  none_told : (a : Code) → Told p (IsFrameLeaf p b) r h (calls_of r.places.void []) no_calls a
  none_told a = no_calls_told (name_at r.frame) (place_at r.places) r.places.void r.frame.void (naming_of (length p.leaves) (IsFrameLeaf p b) r h) (clock_among p.vars) a

  pub body_spread : (f : Flow) → IsSame f (framed p (calls_of r.places.void []) r.places code) → IsSame (spread_of r.frame f) (plain_flow p code)
  body_spread f s = facts_spread p (IsFrameLeaf p b) r h (calls_of r.places.void []) no_calls code code_named (none_told code) f s

  abbrev whole : Code
  whole = opened (starts_unset p b body.formals) (length p.leaves) 0 code

  whole_named : (v : ℕ) → names_of (clock_among p.vars) whole v → IsFrameLeaf p b v
  whole_named v x = elim (opened_names (clock_among p.vars) (starts_unset p b body.formals) (length p.leaves) 0 code v x) [
    | inl y ↦ code_named v y
    | inr y ↦ inr (unset_own p b body.formals v y)
  ]

  pub whole_spread : (f : Flow) → IsSame f (framed p (calls_of r.places.void []) r.places whole) → IsSame (spread_of r.frame f) (plain_flow p whole)
  whole_spread f s = facts_spread p (IsFrameLeaf p b) r h (calls_of r.places.void []) no_calls whole whole_named (none_told whole) f s

-- a leaf of the row is in the frame
pub row_inside : (p : Program) (b : ℕ) (r : Framing) → IsFramingOf p b r → (v : ℕ) → IsRowLeaf p b v → (i : ℕ) × ((i ≤ frame_size r.frame) × (name_at r.frame i ≡ v))
row_inside p b r h v x =
    let leaf : IsFrameLeaf p b v = elim x [ inl y ↦ inl y.1 | inr y ↦ inr (passed_own p b v y) ] in
    let k = h.inside v leaf in
    let l = k.number in
    (place_at r.places v, (omega (arith, h.framed.count), k.leaf))
