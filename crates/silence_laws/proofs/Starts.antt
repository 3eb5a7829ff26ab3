-- Where I04 is silent, no elaboration, nor the main, reads by its row what is in the set of its moment.
use Rattle.std.proofs.Common.{◌≡◌, ℕ, ◌⊎◌, inl, inr, refl, sym, subst, List, Option, Some, None, length}
use Rattle.std.specs.Prelude.{IsSomeAnd, slice_get}
use Rattle.spark_base.specs.declared.numbers.BodyNo.{BodyNo}
use Rattle.core_form.specs.declared.program.Body.{Body}
use Rattle.core_form.specs.declared.program.Home.{Home}
use Rattle.core_form.specs.declared.program.Leaf.{Leaf}
use Rattle.core_form.specs.declared.program.Program.{Program}
use Rattle.core_form.specs.Fine.{home_of}
use Rattle.spark_messages.specs.declared.messages.Code.TheVariants as code
use Rattle.spark_messages.specs.declared.messages.Message.{Message}
use Rattle.spark_messages.specs.MessageTexts.{unassigned_at_start_text}
use Rattle.flow_relations.specs.Equation.{IsLibrary, IsPassed, IsRowLeaf, equation, plain_flow, whole_at}
use Rattle.used_modes.specs.Added.{error_at}
use Rattle.used_modes.specs.UsedModes.{BodyFacts}
use Rattle.initializes_check.specs.InitializesCheck.{IsForeignWrite, IsInitialMessage, IsOfElaboration, IsOfMain, IsOfStart}
use Rattle.unset_moments.specs.declared.endings.Ending.{Ending}
use Rattle.unset_moments.specs.Moments.{loose_before}
use Rattle.elaboration_laws.specs.Covering.{HasPlainRoots, IsItem, StartsAreAssigned, StartsAssigned}
use Rattle.silence_laws.specs.Silence.{IsError}

-- a leaf that has a home is there
leaf_there : (p : Program) (x : ℕ) (Q : Home → Type 0) → IsSomeAnd (home_of p x) Q → (l : Leaf) × (slice_get p.leaves x ≡ Some l)
leaf_there p x Q h = cases (slice_get p.leaves x) refl h
  where
    cases : (o : Option Leaf) → slice_get p.leaves x ≡ o
        → IsSomeAnd (elim o [ None ↦ None | Some l ↦ (elim (slice_get p.vars l.var.0) [ None ↦ None | Some v ↦ Some v.home ]) ]) Q → (l : Leaf) × (slice_get p.leaves x ≡ Some l)
    cases None e g = absurd g
    cases (Some l) e g = (l, e)

row_leaf_there : (p : Program) (b x : ℕ) → IsRowLeaf p b x → (l : Leaf) × (slice_get p.leaves x ≡ Some l)
row_leaf_there p b x (inl h) = leaf_there p x IsLibrary h.0
row_leaf_there p b x (inr h) = leaf_there p x (IsPassed b) h

-- a body that reads something is there
body_there : (p : Program) (b x : ℕ) → (equation p b).reads x → (body : Body) × (slice_get p.bodies b ≡ Some body)
body_there p b x h = cases (slice_get p.bodies b) refl h.1
  where
    cases : (o : Option Body) → slice_get p.bodies b ≡ o → (plain_flow p (whole_at p b o)).reads x → (body : Body) × (slice_get p.bodies b ≡ Some body)
    cases None e g = absurd g
    cases (Some body) e g = (body, e)

module _ (p : Program) (facts : ℕ → BodyFacts) (outside : ℕ → ℕ → Type 0) (items : List Ending) (roots : HasPlainRoots p)
    (seen : (b x : ℕ) → (IsSomeAnd (home_of p x) (IsPassed b) → ⊥) → (equation p b).reads x → outside b x)
    (silent : (m : Message) → IsError m → IsInitialMessage p facts outside (loose_before p items) m → ⊥) where
  -- what is told where a body that reads such a leaf begins
  abbrev told : Body → Leaf → Message
  told body l = error_at body.place code.I04 (unassigned_at_start_text l.name body.name)

  start_told : (c : BodyNo) (body : Body) (n x : ℕ) (l : Leaf) → slice_get p.leaves x ≡ Some l → outside c.0 x → loose_before p items n x
      → IsOfStart p outside (loose_before p items n) c body body.name (told body l)
  start_told c body n x l e r h = (x, record { read = r; may_lack = h; is_leaf = l; has_leaf = e; message = refl })

  at_item : (n : ℕ) (c : BodyNo) → slice_get p.order n ≡ Some c → (x : ℕ) → (equation p c.0).reads x → loose_before p items n x → ⊥
  at_item n c e x r h =
      let is : IsItem p n c.0 = subst (λ q. IsSomeAnd q (λ d. d.0 ≡ c.0)) (sym e) refl in
      let body = body_there p c.0 x r in
      let leaf = row_leaf_there p c.0 x r.0 in
      let m = told body.0 leaf.0 in
      let start = start_told c body.0 n x leaf.0 leaf.1 (seen c.0 x (roots.order n c.0 x is) r) h in
      let elaboration : IsOfElaboration p facts outside (loose_before p items n) c m = subst (λ o. IsSomeAnd o (λ d.
      ((v : ℕ) × IsForeignWrite p (facts c.0) d v m) ⊎ IsOfStart p outside (loose_before p items n) c d d.name m)) (sym body.1) (inr start) in
      silent m refl (inr (inl (n, subst (λ o. IsSomeAnd o (λ d. IsOfElaboration p facts outside (loose_before p items n) d m)) (sym e) elaboration)))

  at_main : (c : BodyNo) → p.main ≡ Some c → (x : ℕ) → (equation p c.0).reads x → loose_before p items (length p.order) x → ⊥
  at_main c e x r h =
      let is : IsSomeAnd p.main (λ d. d.0 ≡ c.0) = subst (λ q. IsSomeAnd q (λ d. d.0 ≡ c.0)) (sym e) refl in
      let body = body_there p c.0 x r in
      let leaf = row_leaf_there p c.0 x r.0 in
      let m = told body.0 leaf.0 in
      let start = start_told c body.0 (length p.order) x leaf.0 leaf.1 (seen c.0 x (roots.main c.0 x is) r) h in
      let main : IsOfMain p outside (loose_before p items (length p.order)) c m = subst (λ o. IsSomeAnd o (λ d.
      IsOfStart p outside (loose_before p items (length p.order)) c d d.name m)) (sym body.1) start in
      silent m refl (inr (inr (inl (subst (λ o. IsSomeAnd o (λ d. IsOfMain p outside (loose_before p items (length p.order)) d m)) (sym e) main))))

  order_cases : (n b : ℕ) (o : Option BodyNo) → slice_get p.order n ≡ o → IsSomeAnd o (λ c. c.0 ≡ b) → StartsAssigned p items n b
  order_cases n b None e i = absurd i
  order_cases n b (Some c) e i = subst (λ k. StartsAssigned p items n k) i (at_item n c e)

  main_cases : (b : ℕ) (o : Option BodyNo) → p.main ≡ o → IsSomeAnd o (λ c. c.0 ≡ b) → StartsAssigned p items (length p.order) b
  main_cases b None e i = absurd i
  main_cases b (Some c) e i = subst (λ k. StartsAssigned p items (length p.order) k) i (at_main c e)

  pub starts_assigned : StartsAreAssigned p items
  starts_assigned = record {
    order = λ n b i. order_cases n b (slice_get p.order n) refl i;
    main = λ b i. main_cases b p.main refl i;
  }
