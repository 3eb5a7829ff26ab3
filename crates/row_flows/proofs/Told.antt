-- The flow of a body's code by numbers, with what is known of callees, tells that by leaves.
use Rattle.std.proofs.Common.{◌≡◌, ℕ, zero, suc, ◌≤◌, ◌⊎◌, inl, inr, Bool, true, false, cond, nat_eq, List, [], ◌∷◌, Some, map, length, refl, sym, ap, subst, ◌∙◌, arith}
use Rattle.std.specs.Prelude.{All, slice_get}
use Rattle.spark_base.specs.declared.numbers.BodyNo.{BodyNo}
use Rattle.core_form.specs.declared.program.Program.{Program}
use Rattle.core_form.specs.Code.{Actuals, Code, Leaves, Next}
use Rattle.core_form.specs.Exits.{ExitsIn}
use Rattle.summary_rows.specs.declared.rows.Rows.{Rows}
use Rattle.summary_rows.specs.Layout.{told}
use Rattle.call_lists.specs.Lists.{IsBodyAt, Names}
use Rattle.call_flow.specs.Calls.{IsCalled, actuals_in, actuals_out, calling, knowing, last_name, stands}
use Rattle.call_flow.specs.Told.{known_told, name_in}
use Rattle.callee_view.specs.Seen.{seen}
use Rattle.callee_view.specs.Shown.{IsAbout}
use Rattle.callee_view.specs.Signatures.{signature_of}
use Rattle.callee_view.proofs.Knowing.{knowing_shown}
use Rattle.contract_facts.specs.Seeing.{AreSeenLeaves}
use Rattle.flow_facts.specs.Flow.{Flow, IsSame, leaving, seq}
use Rattle.flow_facts.proofs.Same.{same_itself, same_through}
use Rattle.flow_relations.specs.declared.callees.Callee.{Callee}
use Rattle.flow_relations.specs.declared.frame.Frame.{Frame}
use Rattle.flow_relations.specs.declared.frame.Framing.{Framing}
use Rattle.flow_relations.specs.declared.frame.Places.{Places}
use Rattle.flow_relations.specs.CallsTold.{call_of, calls_of}
use Rattle.flow_relations.specs.Equation.{clock_among, names_of, names_of_actuals}
use Rattle.flow_relations.specs.Framing.{IsFrame, IsFrameLeaf, IsFraming, IsInside, frame_size, framed, name_at, place_at, spread, spread_of}
use Rattle.flow_relations.specs.Renamed.{renamed_actuals}
use Rattle.flow_relations.specs.Summaries.{calls_seen, flow_with}
use Rattle.flow_relations.proofs.Calling.{calling_spread}
use Rattle.flow_relations.proofs.Chains.{dropped_same, parts_same}
use Rattle.flow_relations.proofs.Framings.{facts_spread, name_last, naming_of, spread_same}
use Rattle.flow_relations.proofs.Signed.{signature_within}
use Rattle.flow_relations.proofs.Spread.{IsBounded}
use Rattle.row_flows.specs.Frames.{IsLeafOver, IsSeenAside, IsSeenOfSome}
use Rattle.row_flows.specs.declared.facts.BodyView.{BodyView}
use Rattle.row_flows.specs.Known.{IsCalleeOf, IsToldBy, IsViewOf}
use Rattle.row_flows.proofs.Leaving.{calling_alone, leaves_in}

-- One call

module _ (p : Program) (rows : Rows) (b : ℕ) (places : Places) where
  -- what the body sees of a callee, in numbers
  abbrev numbered : BodyNo → Actuals → Flow
  numbered c actuals = calling places.void (place_at places) (signature_of p c.0) (seen p rows.layout (told rows) (slice_get p.bodies b) c) actuals

  callee_told : (c : Callee) → IsCalleeOf p rows b places c → (actuals : Actuals) → IsSame (call_of places.void c actuals) (numbered c.body actuals)
  callee_told c h actuals =
      let void = places.void in
      let s = c.signature in
      let big = last_name void s in
      let k = seen p rows.layout (told rows) (slice_get p.bodies b) c.body in
      let second = knowing big (name_in c.known.names.items) (known_told c.known) in
      let known = knowing big (stands (place_at places) void s.leaves) k in
      let last = leaving big Next in
      let outs = actuals_out void big s actuals last in
      let both = seq big second outs in
      let all = actuals_in void big s actuals both in
      let shown : IsSame second known = knowing_shown big (stands (place_at places) void s.leaves) h.leaves c.known k h.names h.shows h.about in
      let parts = parts_same void big s actuals second known last outs both all shown (same_itself last) (same_itself outs) (same_itself both) (same_itself all) in
      subst (λ t. IsSame (call_of void c actuals) (calling void (place_at places) t k actuals)) h.signature (dropped_same void big _ _ parts)

  -- some callee of the list is this body
  abbrev HasBody : List Callee → ℕ → Type 0
  HasBody [] c = ⊥
  HasBody (x ∷ xs) c = (x.body.0 ≡ c) ⊎ HasBody xs c

  calls_told : (cs : List Callee) → All (IsCalleeOf p rows b places) cs → (c : BodyNo) → HasBody cs c.0 → (actuals : Actuals) → IsSame (calls_of places.void cs c actuals) (numbered c actuals)
  calls_told [] h c m actuals = absurd m
  calls_told (x ∷ xs) h c m actuals = cases (nat_eq x.body.0 c.0) refl (λ rest. calls_told xs (λ i d l. h (suc i) d (omega (arith, l))) c rest actuals) m
    where
      cases : (t : Bool) → nat_eq x.body.0 c.0 ≡ t → (HasBody xs c.0 → IsSame (calls_of places.void xs c actuals) (numbered c actuals)) → HasBody (x ∷ xs) c.0
          → IsSame (cond t (call_of places.void x actuals) (calls_of places.void xs c actuals)) (numbered c actuals)
      cases true e rest m =
          let same : x.body.0 ≡ c.0 = grind (arith, e) in
          subst (λ (n : ℕ). IsSame (call_of places.void x actuals) (numbered (record { 0 = n }) actuals)) same (callee_told x (h zero x (omega arith)) actuals)
      cases false e rest (inl y) = absurd (grind (arith, e, y))
      cases false e rest (inr y) = rest y

  -- a body of the list of numbers is one of the callees
  has_body : (cs : List Callee) (k c : ℕ) → IsBodyAt (map (λ (x : Callee). x.body) cs) c k → HasBody cs c
  has_body [] k c h = absurd (let e = h.1.0 in cc)
  has_body (x ∷ xs) zero c h = let z : Some x.body ≡ Some h.0 = h.1.0 in let y : x.body ≡ h.0 = cc in inl (ap (λ (n : BodyNo). n.0) y ∙ h.1.1)
  has_body (x ∷ xs) (suc k) c h = inr (has_body xs k c h)

-- calls by numbers stay within the frame
calls_bounded : (void : ℕ) (cs : List Callee) (c : BodyNo) (actuals : Actuals) → IsBounded void (calls_of void cs c actuals)
calls_bounded void [] c actuals = record { writes = λ i h. absurd h; kept = λ o i j h. absurd h; dep = λ o i j h. absurd h }
calls_bounded void (x ∷ xs) c actuals = cases (nat_eq x.body.0 c.0) (calls_bounded void xs c actuals)
  where
    cases : (t : Bool) → IsBounded void (calls_of void xs c actuals) → IsBounded void (cond t (call_of void x actuals) (calls_of void xs c actuals))
    cases true rest = record {
      writes = λ i h. (let l = h.0 in omega (arith, l));
      kept = λ o i j h. h.0.1;
      dep = λ o i j h. (let l = h.0.1 in omega (arith, l));
    }
    cases false rest = rest

-- The frame

-- numbers do not go beyond leaves
climbs : (frame : Frame) → IsFrame frame → (i : ℕ) → i ≤ frame_size frame → i ≤ name_at frame i
climbs frame h zero l = omega arith
climbs frame h (suc i) l = let k = climbs frame h i (omega (arith, l)) in let g = h.increasing i (suc i) (omega arith) l in omega (arith, k, g)

-- what is seen of one callee is seen of some
seen_of : (p : Program) (rows : Rows) (b : ℕ) (list : List BodyNo) (c : BodyNo) (k v : ℕ) → slice_get list k ≡ Some c → IsSeenAside p rows.layout b c v → IsSeenOfSome p rows.layout b list v
seen_of p rows b [] c k v e h = absurd (cc)
seen_of p rows b (x ∷ xs) c zero v e h = let z : Some x ≡ Some c = e in let y : x ≡ c = cc in inl (subst (λ (n : BodyNo). IsSeenAside p rows.layout b n v) (sym y) h)
seen_of p rows b (x ∷ xs) c (suc k) v e h = inr (seen_of p rows b xs c k v e h)

module _ (p : Program) (rows : Rows) (b : ℕ) (r : Framing) (list : List BodyNo) (h : IsFraming (length p.leaves) (IsLeafOver p rows.layout b list) r) (cs : List Callee)
    (are : map (λ (x : Callee). x.body) cs ≡ list) (each : All (IsCalleeOf p rows b r.places) cs) where
  abbrev S : ℕ → Type 0
  S = IsLeafOver p rows.layout b list

  found : (xs : List Callee) → All (IsCalleeOf p rows b r.places) xs → (c : BodyNo) → HasBody p rows b r.places xs c.0 → (x : Callee) × ((x.body ≡ c) × IsCalleeOf p rows b r.places x)
  found [] all c m = absurd m
  found (x ∷ xs) all c (inl e) = (x, (ap (λ n. record { 0 = n }) e, all zero x (omega arith)))
  found (x ∷ xs) all c (inr m) = found xs (λ i d l. all (suc i) d (omega (arith, l))) c m

  -- a call of a body of the list
  call_told : (c : BodyNo) → Names list c.0 → (actuals : Actuals) → ((v : ℕ) → names_of_actuals actuals v → IsInside (name_at r.frame) (place_at r.places) r.places.void v)
      → IsSame (spread (name_at r.frame) r.places.void r.frame.void (calls_of r.places.void cs c (renamed_actuals (place_at r.places) actuals)))
      (calls_seen p rows.layout (told rows) (slice_get p.bodies b) c actuals)
  call_told c m actuals names =
      let at : IsBodyAt (map (λ (x : Callee). x.body) cs) c.0 m.0 = subst (λ l. IsBodyAt l c.0 m.0) (sym are) m.1.1 in
      let has = has_body p rows b r.places cs m.0 c.0 at in
      let listed : slice_get list m.0 ≡ Some c = m.1.1.1.0 ∙ ap (λ n. Some (record { 0 = n })) m.1.1.1.1 in
      let one = found cs each c has in
      let about = subst (λ n. IsAbout one.1.1.leaves (seen p rows.layout (told rows) (slice_get p.bodies b) n)) one.1.0 one.1.1.about in
      let leaves = subst (λ n. AreSeenLeaves p rows.layout (slice_get p.bodies b) n one.1.1.leaves) one.1.0 one.1.1.listed in
      let s = signature_of p c.0 in
      let k = seen p rows.layout (told rows) (slice_get p.bodies b) c in
      let by = calls_told p rows b r.places cs each c has (renamed_actuals (place_at r.places) actuals) in
      let within = signature_within p c.0 in
      let inside : (f : ℕ) → k.leaves f → stands (λ v. v) r.frame.void s.leaves f ≡ f → IsInside (name_at r.frame) (place_at r.places) r.places.void f = λ f x e.
      let i = (about.leaves f).0 x in
      let aside : stands (λ v. v) (length p.leaves) s.leaves f ≡ f = subst (λ n. stands (λ v. v) n s.leaves f ≡ f) h.void e in
      h.inside f (inr (inr (seen_of p rows b list c m.0 f listed ((leaves f).1 i, (one.1.1.below f i.0 i.1, aside))))) in
      let spreads =
      calling_spread (name_at r.frame) (place_at r.places) r.places.void r.frame.void (naming_of (length p.leaves) S r h) s within.ins within.backs k
      about.reads about.writes about.keeps about.depends inside actuals names in
      same_through _ _ _ (spread_same (name_at r.frame) r.places.void r.frame.void _ _ by)
      (subst (λ n. IsSame (spread (name_at r.frame) r.places.void r.frame.void (numbered p rows b r.places c (renamed_actuals (place_at r.places) actuals))) (calling n (λ v. v) s k actuals)) h.void spreads)

  -- code that calls bodies of the list alone
  pub code_told : (code : Code) → ((v : ℕ) → names_of (clock_among p.vars) code v → IsFrameLeaf p b v) → ((c : ℕ) → IsCalled c code → Names list c)
      → IsSame (spread_of r.frame (framed p (calls_of r.places.void cs) r.places code)) (flow_with p (calls_seen p rows.layout (told rows) (slice_get p.bodies b)) code)
  code_told code names calls =
      facts_spread p S r h (calls_of r.places.void cs) (calls_seen p rows.layout (told rows) (slice_get p.bodies b)) code (λ v x. inl (names v x))
      (λ c actuals called inside. record { bounded = calls_bounded r.places.void cs c (renamed_actuals (place_at r.places) actuals); same = call_told c (calls c.0 called) actuals inside })
      (framed p (calls_of r.places.void cs) r.places code) (same_itself _)

  -- the numbers are no more than the leaves
  pub few_numbers : r.places.void ≤ length p.leaves
  few_numbers =
      let k = climbs r.frame h.frame (frame_size r.frame) (omega arith) in
      let last = name_last r.frame in
      let count = h.framed.count in
      let void = h.void in
      omega (arith, k, last, count, void)

-- The view of a body

module _ (p : Program) (rows : Rows) (b : ℕ) (x : BodyView) (h : IsViewOf p rows b x) where
  abbrev pub told_by : Code → Flow
  told_by code = framed p (calls_of x.framing.places.void x.callees.items) x.framing.places code

  abbrev pub by_leaf : Code → Flow
  by_leaf code = flow_with p (calls_seen p rows.layout (told rows) (slice_get p.bodies b)) code

  -- facts that tell the code by numbers tell it by leaves
  pub view_told : (code : Code) → IsToldBy p rows b x code → (f : Flow) → IsSame f (told_by code) → IsSame (spread_of x.framing.frame f) (by_leaf code)
  view_told code t f s = same_through _ _ _ (spread_same (name_at x.framing.frame) (frame_size x.framing.frame) x.framing.frame.void f (told_by code) s) t

  -- and leave no loop
  pub view_leaves : (code : Code) → IsToldBy p rows b x code → ExitsIn 0 code → (f : Flow) → IsSame f (told_by code) → (n : ℕ) → f.can (Leaves n) → ⊥
  view_leaves code t e f s n c =
      let l = leaves_in (length p.leaves) (clock_among p.vars) (calls_seen p rows.layout (told rows) (slice_get p.bodies b))
      (λ k actuals o. calling_alone (length p.leaves) (λ v. v) (signature_of p k.0) (seen p rows.layout (told rows) (slice_get p.bodies b) k) actuals o)
      0 code e n (((view_told code t f s).can (Leaves n)).0 c) in
      absurd (omega (arith, l))
