-- What is kept behind a statement, and what it makes fresh.
use Rattle.std.proofs.Common.{◌≡◌, ◌∙◌, ℕ, zero, suc, ◌<◌, ◌⊎◌, inl, inr, refl, sym, subst, true, false, Option, Some, None, arith}
use Rattle.std.specs.Prelude.{IsSomeAnd, slice_get, length}
use Rattle.spark_base.specs.declared.numbers.ObjectNo.{ObjectNo}
use Rattle.core_form.specs.declared.program.Body.{Body}
use Rattle.core_form.specs.declared.program.Home.{Home}
use Rattle.core_form.specs.declared.program.Program.{Program}
use Rattle.core_form.specs.Code.{Outcome, Next, At, Spot}
use Rattle.core_form.specs.Code.{Code, Skip, Then, Assign, Clear, Branch, Repeat, Exit, Called, Guard, Delay, ReadClock, Stop}
use Rattle.core_form.specs.Fine.{home_of}
use Rattle.core_form.specs.Proper.{IsGuardedCall, IsProper, IsProperCode, IsProperList, IsProperMember, MayClear}
use Rattle.flow_facts.specs.Flow.{Flow, seq, setting, unrolling}
use Rattle.flow_relations.specs.Equation.{code_at_body, code_of_body, plain_flow}
use Rattle.unset_moments.specs.Moments.{IsPackageHome, loose_first}
use Rattle.elaboration_laws.specs.Endings.{Clears, Declares}

module _ (p : Program) where
  abbrev void : ℕ
  void = length p.leaves

  -- it is the leaf itself, or one that was made fresh
  abbrev pub Comes : (ℕ → Type 0) → ℕ → ℕ → Type 0
  Comes clears v x = (v ≡ x) ⊎ ((v ≡ void) × clears x)

  comes_further : (c d : ℕ → Type 0) → ((x : ℕ) → c x → d x) → (v x : ℕ) → Comes c v x → Comes d v x
  comes_further c d f v x (inl e) = inl e
  comes_further c d f v x (inr h) = inr (h.0, f x h.1)

  comes_then : (c d : ℕ → Type 0) → (v u x : ℕ) → Comes c v u → Comes d u x → Comes (λ y. c y ⊎ d y) v x
  comes_then c d v u x (inl e) (inl g) = inl (e ∙ g)
  comes_then c d v u x (inl e) (inr h) = inr (e ∙ h.0, inr h.1)
  comes_then c d v u x (inr h) (inl g) = inr (h.0, inl (subst c g h.1))
  comes_then c d v u x (inr h) (inr k) = inr (h.0, inr k.1)

  seq_comes : (a b : Flow) (c d : ℕ → Type 0) → ((o : Outcome) (v x : ℕ) → a.kept o v x → Comes c v x) → ((o : Outcome) (v x : ℕ) → b.kept o v x → Comes d v x)
      → (o : Outcome) (v x : ℕ) → (seq void a b).kept o v x → Comes (λ y. c y ⊎ d y) v x
  seq_comes a b c d f g o v x (inl h) = comes_further c (λ y. c y ⊎ d y) (λ y k. inl k) v x (f o v x h.1)
  seq_comes a b c d f g o v x (inr h) = comes_then c d v h.0 x (f Next v h.0 h.1.0) (g o h.0 x h.1.1)

  setting_comes : (to : Spot) (from : ℕ → Type 0) (o : Outcome) (v x : ℕ) → (setting void to from).kept o v x → v ≡ x
  setting_comes (At leaf part true cells) from o v x h = h.1.1
  setting_comes (At leaf part false cells) from o v x h = h.1.1

  rounds_come : (a : Flow) (c : ℕ → Type 0) → ((o : Outcome) (v x : ℕ) → a.kept o v x → Comes c v x) → (n : ℕ) (o : Outcome) (v x : ℕ)
      → (unrolling void a n).kept o v x → Comes c v x
  rounds_come a c f zero o v x h = absurd h
  rounds_come a c f (suc n) o v x h = comes_further (λ y. c y ⊎ c y) c (λ y k. elim k [ inl l ↦ l | inr r ↦ r ]) v x
      (seq_comes a (unrolling void a n) c c f (rounds_come a c f n) o v x h)

  -- what is kept is a leaf with itself, or one that was made fresh on the way
  pub kept_comes : (a : Code) (o : Outcome) (v x : ℕ) → (plain_flow p a).kept o v x → Comes (Clears a) v x
  kept_comes Skip o v x h = inl h.1.1
  kept_comes (Then a b) o v x h = seq_comes (plain_flow p a) (plain_flow p b) (Clears a) (Clears b) (kept_comes a) (kept_comes b) o v x h
  kept_comes (Assign to e at) o v x h = inl (setting_comes to _ o v x h)
  kept_comes (Clear leaf) o v x h = elim h.1 [ inl y ↦ inl y.1 | inr y ↦ inr (y.0, y.1) ]
  kept_comes (Branch e a b) o v x (inl h) = comes_further (Clears a) (Clears (Branch e a b)) (λ y k. inl k) v x (kept_comes a o v x h)
  kept_comes (Branch e a b) o v x (inr h) = comes_further (Clears b) (Clears (Branch e a b)) (λ y k. inr k) v x (kept_comes b o v x h)
  kept_comes (Repeat a) o v x h = rounds_come (plain_flow p a) (Clears a) (kept_comes a) h.0 _ v x h.1
  kept_comes (Exit e) o v x h = inl h.1.1
  kept_comes (Called b actuals at) o v x h = absurd h
  kept_comes (Guard object barrier c) o v x h = kept_comes c o v x h
  kept_comes (Delay e) o v x h = inl h.1.1
  kept_comes (ReadClock to) o v x h = inl (setting_comes to _ o v x h)
  kept_comes Stop o v x h = absurd h

  -- A leaf of a package is made fresh in the body's own list alone, and behind that it is not what it was

  no_package : (o : Option Home) → MayClear o → (h : Home) → o ≡ Some h → IsPackageHome h → ⊥
  no_package None m h e k = m
  no_package (Some (Home.Package q)) m h e k = m
  no_package (Some (Home.Local b)) m h e k = let g : Home.Local b ≡ h = cc in subst IsPackageHome (sym g) k
  no_package (Some (Home.Formal b)) m h e k = m
  no_package (Some (Home.Outcome b)) m h e k = let g : Home.Outcome b ≡ h = cc in subst IsPackageHome (sym g) k
  no_package (Some (Home.Spare b)) m h e k = let g : Home.Spare b ≡ h = cc in subst IsPackageHome (sym g) k
  no_package (Some Home.Clock) m h e k = m

  other_home : (x : ℕ) → loose_first p x → MayClear (home_of p x) → ⊥
  other_home x l m = cases (home_of p x) l m
    where
      cases : (o : Option Home) → IsSomeAnd o IsPackageHome → MayClear o → ⊥
      cases None l m = l
      cases (Some h) l m = no_package (Some h) m h refl l

  guard_clears : (body : Body) (o : ObjectNo) (c : Code) (x : ℕ) → IsGuardedCall p body o c → Clears c x → ⊥
  guard_clears body o Skip x h k = h
  guard_clears body o (Then a b) x h k = h
  guard_clears body o (Assign to e at) x h k = h
  guard_clears body o (Clear leaf) x h k = h
  guard_clears body o (Branch e a b) x h k = h
  guard_clears body o (Repeat a) x h k = h
  guard_clears body o (Exit e) x h k = h
  guard_clears body o (Called b actuals at) x h k = k
  guard_clears body o (Guard g barrier c) x h k = h
  guard_clears body o (Delay e) x h k = h
  guard_clears body o (ReadClock to) x h k = h
  guard_clears body o Stop x h k = h

  module _ (body : Body) (x : ℕ) (l : loose_first p x) (below : x < void) where
    code_clears : (a : Code) → IsProperCode p body a → Clears a x → ⊥
    code_clears Skip h k = k
    code_clears (Then a b) h (inl k) = code_clears a h.0 k
    code_clears (Then a b) h (inr k) = code_clears b h.1 k
    code_clears (Assign to e at) h k = k
    code_clears (Clear leaf) h k = other_home x l (subst (λ y. MayClear (home_of p y)) (sym k) h)
    code_clears (Branch e a b) h (inl k) = code_clears a h.1 k
    code_clears (Branch e a b) h (inr k) = code_clears b h.2 k
    code_clears (Repeat a) h k = code_clears a h k
    code_clears (Exit o) h k = k
    code_clears (Called b actuals at) h k = k
    code_clears (Guard o barrier c) h k = guard_clears body o c x h k
    code_clears (Delay e) h k = k
    code_clears (ReadClock to) h k = k
    code_clears Stop h k = k

    not_void : (x ≡ void) → ⊥
    not_void e = omega (arith, e, below)

    member_keeps : (a : Code) → IsProperMember p body a → Clears a x → (plain_flow p a).kept Next x x → ⊥
    member_keeps Skip h k g = k
    member_keeps (Then a b) h k g = code_clears (Then a b) h k
    member_keeps (Assign to e at) h k g = k
    member_keeps (Clear leaf) h k g = elim g.1 [ inl y ↦ y.2 k | inr y ↦ not_void y.0 ]
    member_keeps (Branch e a b) h k g = code_clears (Branch e a b) h k
    member_keeps (Repeat a) h k g = code_clears (Repeat a) h k
    member_keeps (Exit o) h k g = k
    member_keeps (Called b actuals at) h k g = k
    member_keeps (Guard o barrier c) h k g = code_clears (Guard o barrier c) h k
    member_keeps (Delay e) h k g = k
    member_keeps (ReadClock to) h k g = k
    member_keeps Stop h k g = k

    -- where one statement keeps it and then another, each does
    both_keep : (a b : Code) → (plain_flow p (Then a b)).kept Next x x → (plain_flow p a).kept Next x x × (plain_flow p b).kept Next x x
    both_keep a b (inl h) = absurd h.0
    both_keep a b (inr h) = cases (kept_comes a Next x h.0 h.1.0)
      where
        cases : Comes (Clears a) x h.0 → (plain_flow p a).kept Next x x × (plain_flow p b).kept Next x x
        cases (inl e) = (subst (λ u. (plain_flow p a).kept Next x u) (sym e) h.1.0, subst (λ u. (plain_flow p b).kept Next u x) (sym e) h.1.1)
        cases (inr v) = absurd (not_void v.0)

    list_keeps : (a : Code) → IsProperList p body a → Clears a x → (plain_flow p a).kept Next x x → ⊥
    list_keeps Skip h k g = k
    list_keeps (Then a b) h (inl k) g = member_keeps a h.0 k (both_keep a b g).0
    list_keeps (Then a b) h (inr k) g = list_keeps b h.1 k (both_keep a b g).1
    list_keeps (Assign to e at) h k g = k
    list_keeps (Clear leaf) h k g = member_keeps (Clear leaf) h k g
    list_keeps (Branch e a b) h k g = member_keeps (Branch e a b) h k g
    list_keeps (Repeat a) h k g = member_keeps (Repeat a) h k g
    list_keeps (Exit o) h k g = k
    list_keeps (Called b actuals at) h k g = k
    list_keeps (Guard o barrier c) h k g = member_keeps (Guard o barrier c) h k g
    list_keeps (Delay e) h k g = k
    list_keeps (ReadClock to) h k g = k
    list_keeps Stop h k g = k

  -- what a body declares, it does not keep where its code goes on
  pub declared_gone : IsProper p → (b x : ℕ) → x < void → Declares p b x → (plain_flow p (code_of_body p b)).kept Next x x → ⊥
  declared_gone proper b x below d g = cases (slice_get p.bodies b) refl d.1 g
    where
      cases : (o : Option Body) → slice_get p.bodies b ≡ o → Clears (code_at_body p o) x → (plain_flow p (code_at_body p o)).kept Next x x → ⊥
      cases None e k g = k
      cases (Some body) e k g = list_keeps body x d.0 below (code_at_body p (Some body)) (proper.code b body e) k g
