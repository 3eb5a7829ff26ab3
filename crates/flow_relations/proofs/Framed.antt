-- The flow of code by numbers tells the flow of the code.
use Rattle.std.proofs.Common.{◌≡◌, ◌≢◌, ℕ, zero, suc, ◌<◌, ◌≤◌, ◌⊎◌, ◌↔◌, inl, inr, true, false, [], Option, Some, None, refl, sym, ap, subst, ◌∙◌, arith}
use Rattle.std.proofs.lemmas.Bool.{cases_lt}
use Rattle.spark_base.specs.declared.numbers.BodyNo.{BodyNo}
use Rattle.spark_base.specs.declared.numbers.LeafNo.{LeafNo}
use Rattle.core_form.specs.Code.{Expr, Exprs, Spot, Actuals, Outcome, Next, Code, Constant, Load, Operation, Choice, Listed, Checked, Nothing, And, At, Skip, Then, Assign, Clear, Branch, Repeat, Exit, Called, Guard, Delay, ReadClock, Stop}
use Rattle.flow_relations.specs.Equation.{names_of, names_of_actuals, no_calls}
use Rattle.flow_facts.specs.Flow.{Flow, IsBarrier, IsSame, branch, changing, clearing, flow, guarding, loop, moving, nowhere, reading, reads_of, reads_of_all, reads_of_spot, seq, setting, unrolling}
use Rattle.flow_relations.specs.Framing.{IsInside, IsOutside, Spreads, SpreadsAll, SpreadsPairs, spread}
use Rattle.call_flow.specs.Calls.{IsCalled}
use Rattle.flow_relations.specs.CallsTold.{calls_of}
use Rattle.flow_relations.specs.Renamed.{renamed, renamed_actuals, renamed_all, renamed_barrier, renamed_code, renamed_spot}
use Rattle.flow_facts.proofs.Same.{branch_same, changing_same, loop_same, moving_same, same_through, seq_same}
use Rattle.flow_relations.proofs.Spread.{IsBounded, branch_spread, loop_spread, nowhere_spread, seq_spread}

-- What is written or related is a number

module _ (n : ℕ) where
  module _ (a b : Flow) (h : IsBounded n a) (k : IsBounded n b) where
    seq_bounded : IsBounded n (seq n a b)
    seq_bounded = record {
      writes = λ i x. elim x [ inl y ↦ h.writes i y | inr y ↦ k.writes i y.1 ];
      kept = λ o i j x. elim x [ inl y ↦ h.kept o i j y.1 | inr y ↦ k.kept o y.0 j y.1.1 ];
      dep = λ o i j x. elim x [
        | inl y ↦ h.dep o i j y.1
        | inr y ↦ (elim y [ inl z ↦ k.dep o z.0 j z.1.1 | inr z ↦ (elim z.1.1 [ inl u ↦ h.writes j u | inr u ↦ k.writes j u ]) ])
      ];
    }

    branch_bounded : (test : ℕ → Type 0) → IsBounded n (branch test a b)
    branch_bounded test = record {
      writes = λ i x. elim x [ inl y ↦ h.writes i y | inr y ↦ k.writes i y ];
      kept = λ o i j x. elim x [ inl y ↦ h.kept o i j y | inr y ↦ k.kept o i j y ];
      dep = λ o i j x. elim x [
        | inl y ↦ (elim y [ inl z ↦ h.dep o i j z | inr z ↦ k.dep o i j z ])
        | inr y ↦ (elim y.1.1 [ inl u ↦ h.writes j u | inr u ↦ k.writes j u ])
      ];
    }

  nowhere_bounded : IsBounded n nowhere
  nowhere_bounded = record { writes = λ i x. absurd x; kept = λ o i j x. absurd x; dep = λ o i j x. absurd x }

  rounds_bounded : (a : Flow) → IsBounded n a → (k : ℕ) → IsBounded n (unrolling n a k)
  rounds_bounded a h zero = nowhere_bounded
  rounds_bounded a h (suc k) = seq_bounded a (unrolling n a k) h (rounds_bounded a h k)

  loop_bounded : (a : Flow) → IsBounded n a → IsBounded n (loop n a)
  loop_bounded a h = record {
    writes = λ i x. (rounds_bounded a h x.0).writes i x.1;
    kept = λ o i j x. (rounds_bounded a h x.0).kept _ i j x.1;
    dep = λ o i j x. (rounds_bounded a h x.0).dep _ i j x.1;
  }

  reading_bounded : (out : Outcome) (from : ℕ → Type 0) → IsBounded n (reading n out from)
  reading_bounded out from = record {
    writes = λ i x. absurd x;
    kept = λ o i j x. (let e = x.1.1 in let l = x.1.0 in omega arith);
    dep = λ o i j x. (let e = x.1.1 in let l = x.1.0 in omega arith);
  }

  module _ (x : ℕ) (m : x < n) where
    pub moving_bounded : (from : ℕ → Type 0) → IsBounded n (moving n x from)
    moving_bounded from = record {
      writes = λ i e. omega arith;
      kept = λ o i j h. (let e = h.1.1 in let l = h.1.0 in omega arith);
      dep = λ o i j h. elim h.1 [ inl y ↦ (let e = y.1 in let l = y.0 in omega arith) | inr y ↦ (let e = y.1 in omega arith) ];
    }

    changing_bounded : (from : ℕ → Type 0) → IsBounded n (changing n x from)
    changing_bounded from = record {
      writes = λ i e. omega arith;
      kept = λ o i j h. (let e = h.1.1 in let l = h.1.0 in omega arith);
      dep = λ o i j h. elim h.1 [ inl y ↦ (let e = y.1 in let l = y.0 in omega arith) | inr y ↦ (let e = y.1 in omega arith) ];
    }

    clearing_bounded : IsBounded n (clearing n x)
    clearing_bounded = record {
      writes = λ i e. omega arith;
      kept = λ o i j h. elim h.1 [ inl y ↦ (let e = y.1 in let l = y.0 in omega arith) | inr y ↦ (let e = y.1 in omega arith) ];
      dep = λ o i j h. (let e = h.1.1 in let l = h.1.0 in omega arith);
    }

-- Leaves and their numbers: one to one
pub record IsNaming (name place : ℕ → ℕ) (n void : ℕ) : Type 0 where
  pub places : (i : ℕ) → i ≤ n → place (name i) ≡ i
  pub last : name n ≡ void
  pub below : (i : ℕ) → i < n → name i < void

module _ (name place : ℕ → ℕ) (n void : ℕ) (naming : IsNaming name place n void) where
  abbrev Inside : ℕ → Type 0
  Inside v = IsInside name place n v

  abbrev pub Told : (ℕ → Type 0) → ℕ → Type 0
  Told S = Spreads name n void S

  pub one : (i j : ℕ) → i ≤ n → j ≤ n → name i ≡ name j → i ≡ j
  one i j l m e = sym (naming.places i l) ∙ (ap place e ∙ naming.places j m)

  name_most : (i : ℕ) → i ≤ n → name i ≤ void
  name_most i l = elim (cases_lt i n) [
    | inl m ↦ (let x = naming.below i m in omega arith)
    | inr g ↦ (let e : i ≡ n = omega arith in let f : name i ≡ void = ap name e ∙ naming.last in omega arith)
  ]

  -- a number's leaf is one where the number is below the last
  name_less : (i : ℕ) → i ≤ n → name i < void → i < n
  name_less i l m = elim (cases_lt i n) [
    | inl x ↦ x
    | inr g ↦ (let z : i ≡ n = omega arith in let f : name i ≡ void = ap name z ∙ naming.last in absurd (omega arith))
  ]

  same_or_not : (i v : ℕ) → (i ≡ v) ⊎ (i ≡ v → ⊥)
  same_or_not i v = elim (cases_lt i v) [
    | inl l ↦ inr (λ e. absurd (omega arith))
    | inr g ↦ (elim (cases_lt v i) [ inl l ↦ inr (λ e. absurd (omega arith)) | inr k ↦ inl (omega arith) ])
  ]

  pub decide : (v : ℕ) → v ≤ void → ((i : ℕ) × ((i ≤ n) × (name i ≡ v))) ⊎ IsOutside name n void v
  decide v l = elim (cases_lt v void) [
    | inr g ↦ (let e : v ≡ void = omega arith in inl (n, (omega arith, naming.last ∙ sym e)))
    | inl m ↦ (elim (cases_lt n (place v)) [
      | inl g ↦ inr (record { leaf = m; unnamed = λ i k e. (let f : place v ≡ i = ap place (sym e) ∙ naming.places i k in absurd (omega arith)) })
      | inr k ↦ (elim (same_or_not (name (place v)) v) [
        | inl e ↦ inl (place v, (k, e))
        | inr d ↦ inr (record { leaf = m; unnamed = λ i k e. d (ap name (ap place (sym e) ∙ naming.places i k) ∙ e) })
      ])
    ])
  ]

  -- Sets

  pub set_spread : (S T : ℕ → Type 0) → ((i : ℕ) → i ≤ n → S i ↔ T (name i)) → ((v : ℕ) → T v → (i : ℕ) × ((i ≤ n) × (name i ≡ v))) → (v : ℕ) → Told S v ↔ T v
  set_spread S T numbers within v = (
    λ h. subst T h.1.1 ((numbers h.0 h.1.0).0 h.1.2),
    λ t. (let w = within v t in (w.0, (w.1.0, w.1.1, (numbers w.0 w.1.0).1 (subst T (sym w.1.1) t)))),
  )

  pub leaf_spread : (x : ℕ) → Inside x → (v : ℕ) → Told (λ i. i ≡ place x) v ↔ (v ≡ x)
  leaf_spread x k v = (
    λ h. sym h.1.1 ∙ (ap name h.1.2 ∙ k.leaf),
    λ e. (let l = k.number in (place x, (omega arith, k.leaf ∙ sym e, refl))),
  )

  either_spread : (S T A B : ℕ → Type 0) (v : ℕ) → (Told S v ↔ A v) → (Told T v ↔ B v) → Told (λ i. S i ⊎ T i) v ↔ (A v ⊎ B v)
  either_spread S T A B v s t = (
    λ h. elim h.1.2 [ inl x ↦ inl (s.0 (h.0, (h.1.0, h.1.1, x))) | inr x ↦ inr (t.0 (h.0, (h.1.0, h.1.1, x))) ],
    λ h. elim h [
      | inl a ↦ (let x = s.1 a in (x.0, (x.1.0, x.1.1, inl x.1.2)))
      | inr b ↦ (let x = t.1 b in (x.0, (x.1.0, x.1.1, inr x.1.2)))
    ],
  )

  pub none_spread : (v : ℕ) → Told (λ i. ⊥) v ↔ ⊥
  none_spread v = (λ h. h.1.2, λ h. absurd h)

  mutual
    pub reads_spread : (e : Expr) → ((v : ℕ) → reads_of e v → Inside v) → (v : ℕ) → Told (reads_of (renamed place e)) v ↔ reads_of e v
    reads_spread (Constant c) h v = none_spread v
    reads_spread (Load spot at) h v = spot_spread spot h v
    reads_spread (Operation op args) h v = all_spread args h v
    reads_spread (Choice test a b) h v =
        either_spread (reads_of (renamed place test)) (λ i. reads_of (renamed place a) i ⊎ reads_of (renamed place b) i) (reads_of test) (λ u. reads_of a u ⊎ reads_of b u) v
        (reads_spread test (λ u x. h u (inl x)) v)
        (either_spread (reads_of (renamed place a)) (reads_of (renamed place b)) (reads_of a) (reads_of b) v (reads_spread a (λ u x. h u (inr (inl x))) v) (reads_spread b (λ u x. h u (inr (inr x))) v))
    reads_spread (Listed parts) h v = all_spread parts h v
    reads_spread (Checked e low high) h v = reads_spread e h v

    pub all_spread : (es : Exprs) → ((v : ℕ) → reads_of_all es v → Inside v) → (v : ℕ) → Told (reads_of_all (renamed_all place es)) v ↔ reads_of_all es v
    all_spread Nothing h v = none_spread v
    all_spread (And e es) h v =
        either_spread (reads_of (renamed place e)) (reads_of_all (renamed_all place es)) (reads_of e) (reads_of_all es) v (reads_spread e (λ u x. h u (inl x)) v) (all_spread es (λ u x. h u (inr x)) v)

    pub spot_spread : (spot : Spot) → ((v : ℕ) → reads_of_spot spot v → Inside v) → (v : ℕ) → Told (reads_of_spot (renamed_spot place spot)) v ↔ reads_of_spot spot v
    spot_spread (At leaf part whole cells) h v =
        either_spread (λ i. i ≡ place leaf) (reads_of_all (renamed_all place part)) (λ u. u ≡ leaf) (reads_of_all part) v (leaf_spread leaf (h leaf (inl refl)) v) (all_spread part (λ u x. h u (inr x)) v)

  -- Relations

  module _ (R T : ℕ → ℕ → Type 0) (c : Type 0) where
    pub pairs_spread : ((i j : ℕ) → i ≤ n → j ≤ n → R i j ↔ T (name i) (name j))
        → ((v w : ℕ) → T v w → (v ≤ void) × (w ≤ void))
        → ((v w : ℕ) → IsOutside name n void v → (c × (v ≡ w)) ↔ T v w)
        → ((v w : ℕ) → IsOutside name n void w → T v w → v ≡ w)
        → (v w : ℕ) → SpreadsAll name n void R c v w ↔ T v w
    pairs_spread numbers within outer inner v w = (there, back)
      where
        there : SpreadsAll name n void R c v w → T v w
        there (inl (i, (j, h))) = subst (λ u. T v u) h.3 (subst (λ u. T u (name j)) h.2 ((numbers i j h.0 h.1).0 h.4))
        there (inr h) = (outer v w h.0).0 (h.1, h.2)

        back : T v w → SpreadsAll name n void R c v w
        back t = elim (decide v (within v w t).0) [
          | inr out ↦ (let x = (outer v w out).1 t in inr (out, x.0, x.1))
          | inl a ↦ (elim (decide w (within v w t).1) [
            | inl b ↦ inl (a.0, (b.0, (a.1.0, b.1.0, a.1.1, b.1.1, (numbers a.0 b.0 a.1.0 b.1.0).1 (subst (λ u. T u (name b.0)) (sym a.1.1) (subst (λ u. T v u) (sym b.1.1) t)))))
            | inr out ↦ absurd (out.unnamed a.0 a.1.0 (a.1.1 ∙ inner v w out t))
          ])
        ]

  -- One statement

  module _ (out : Outcome) (from : ℕ → Type 0) where
    pub reading_spread : IsSame (spread name n void (reading n out from)) (reading void out (Told from))
    reading_spread = record {
      reads = λ v. (λ h. h, λ h. h);
      writes = none_spread;
      decides = none_spread;
      can = λ o. (λ x. x, λ x. x);
      kept = λ o. pairs_spread (λ i j. (o ≡ out) × ((i ≤ n) × (i ≡ j))) (λ v w. (o ≡ out) × ((v ≤ void) × (v ≡ w))) (o ≡ out)
          (λ i j l m. (λ h. (h.0, (name_most i l, ap name h.1.1)), λ h. (h.0, (l, one i j l m h.1.1))))
          (λ v w h. (h.1.0, subst (λ u. u ≤ void) h.1.1 h.1.0))
          (λ v w x. (λ h. (h.0, (let l = x.leaf in omega arith, h.1)), λ h. (h.0, h.1.1)))
          (λ v w x h. h.1.1);
      dep = λ o. pairs_spread (λ i j. (o ≡ out) × ((i < n) × (i ≡ j))) (λ v w. (o ≡ out) × ((v < void) × (v ≡ w))) (o ≡ out)
          (λ i j l m. (λ h. (h.0, (naming.below i h.1.0, ap name h.1.1)), λ h. (h.0, (name_less i l h.1.0, one i j l m h.1.1))))
          (λ v w h. (let x = h.1.0 in omega arith, subst (λ u. u ≤ void) h.1.1 (let x = h.1.0 in omega arith)))
          (λ v w x. (λ h. (h.0, (x.leaf, h.1)), λ h. (h.0, h.1.1)))
          (λ v w x h. h.1.1);
    }

  module _ (x : ℕ) (inside : Inside x) where
    -- another number than that of the leaf, and another leaf
    other_leaf : (i : ℕ) → i ≤ n → i ≢ place x → name i ≢ x
    other_leaf i l d e = d (sym (naming.places i l) ∙ ap place e)

    other_number : (i : ℕ) → name i ≢ x → i ≢ place x
    other_number i d e = d (ap name e ∙ inside.leaf)

    outside_other : (v : ℕ) → IsOutside name n void v → v ≢ x
    outside_other v out e = (let l = inside.number in out.unnamed (place x) (omega arith) (inside.leaf ∙ sym e))

    leaf_most : x < void
    leaf_most = (let l = naming.below (place x) inside.number in let e = inside.leaf in omega arith)

    number_is : (j : ℕ) → j ≤ n → name j ≡ x → j ≡ place x
    number_is j l e = sym (naming.places j l) ∙ ap place e

    -- what is decided: a leaf by itself, and the leaf by what is read
    module _ (from : ℕ → Type 0) where
      into_there : (c : Type 0) (v w : ℕ) → Spreads name n void from v → w ≡ x → SpreadsPairs name n void (λ i j. from i × (j ≡ place x)) v w
      into_there c v w h e = (let l = inside.number in (h.0, (place x, (h.1.0, omega arith, h.1.1, inside.leaf ∙ sym e, (h.1.2, refl)))))

      into_back : (v w : ℕ) → SpreadsPairs name n void (λ i j. from i × (j ≡ place x)) v w → Told from v × (w ≡ x)
      into_back v w (i, (j, h)) = ((i, (h.0, h.2, h.4.0)), sym h.3 ∙ (ap name h.4.1 ∙ inside.leaf))

    module _ (P Q : ℕ → ℕ → Type 0) (from : ℕ → Type 0) (c : Type 0) (itself : c → (v w : ℕ) → SpreadsAll name n void P c v w ↔ Q v w) where
      dep_spread : (v w : ℕ) → SpreadsAll name n void (λ i j. c × (P i j ⊎ (from i × (j ≡ place x)))) c v w ↔ (c × (Q v w ⊎ (Told from v × (w ≡ x))))
      dep_spread v w = (there, back)
        where
          there : SpreadsAll name n void (λ i j. c × (P i j ⊎ (from i × (j ≡ place x)))) c v w → (c × (Q v w ⊎ (Told from v × (w ≡ x))))
          there (inl (i, (j, (l, m, e, f, (y, inl p))))) = (y, inl ((itself y v w).0 (inl (i, (j, (l, m, e, f, p))))))
          there (inl (i, (j, (l, m, e, f, (y, inr p))))) = (y, inr (into_back from v w (i, (j, (l, m, e, f, p)))))
          there (inr (out, y, e)) = (y, inl ((itself y v w).0 (inr (out, y, e))))

          mixed : c → SpreadsAll name n void P c v w → SpreadsAll name n void (λ i j. c × (P i j ⊎ (from i × (j ≡ place x)))) c v w
          mixed y (inl (i, (j, (l, m, e, f, p)))) = inl (i, (j, (l, m, e, f, (y, inl p))))
          mixed y (inr h) = inr h

          crossed : c → SpreadsPairs name n void (λ i j. from i × (j ≡ place x)) v w → SpreadsAll name n void (λ i j. c × (P i j ⊎ (from i × (j ≡ place x)))) c v w
          crossed y (i, (j, (l, m, e, f, p))) = inl (i, (j, (l, m, e, f, (y, inr p))))

          back : (c × (Q v w ⊎ (Told from v × (w ≡ x)))) → SpreadsAll name n void (λ i j. c × (P i j ⊎ (from i × (j ≡ place x)))) c v w
          back (y, inl q) = mixed y ((itself y v w).1 q)
          back (y, inr q) = crossed y (into_there from c v w q.0 q.1)

    pub moving_spread : (from : ℕ → Type 0) → IsSame (spread name n void (moving n (place x) from)) (moving void x (Told from))
    moving_spread from = record {
      reads = λ v. (λ h. h, λ h. h);
      writes = leaf_spread x inside;
      decides = none_spread;
      can = λ o. (λ y. y, λ y. y);
      kept = λ o. pairs_spread (λ i j. (o ≡ Next) × ((i ≤ n) × (i ≡ j) × (i ≢ place x))) (λ v w. (o ≡ Next) × ((v ≤ void) × (v ≡ w) × (v ≢ x))) (o ≡ Next)
          (λ i j l m. (λ h. (h.0, (name_most i l, ap name h.1.1, other_leaf i l h.1.2)), λ h. (h.0, (l, one i j l m h.1.1, other_number i h.1.2))))
          (λ v w h. (h.1.0, subst (λ u. u ≤ void) h.1.1 h.1.0))
          (λ v w z. (λ h. (h.0, (let l = z.leaf in omega arith, h.1, outside_other v z)), λ h. (h.0, h.1.1)))
          (λ v w z h. h.1.1);
      dep = λ o. dep_spread (λ i j. (i < n) × (i ≡ j) × (i ≢ place x)) (λ v w. (v < void) × (v ≡ w) × (v ≢ x)) from (o ≡ Next) (λ y. itself_but (o ≡ Next) y);
    }
      where
        itself_but : (c : Type 0) → c → (v w : ℕ) → SpreadsAll name n void (λ i j. (i < n) × (i ≡ j) × (i ≢ place x)) c v w ↔ ((v < void) × (v ≡ w) × (v ≢ x))
        itself_but c y = pairs_spread (λ i j. (i < n) × (i ≡ j) × (i ≢ place x)) (λ v w. (v < void) × (v ≡ w) × (v ≢ x)) c
            (λ i j l m. (λ h. (naming.below i h.0, ap name h.1, other_leaf i l h.2), λ h. (name_less i l h.0, one i j l m h.1, other_number i h.2)))
            (λ v w h. (let z = h.0 in omega arith, subst (λ u. u ≤ void) h.1 (let z = h.0 in omega arith)))
            (λ v w z. (λ h. (z.leaf, h.1, outside_other v z), λ h. (y, h.1)))
            (λ v w z h. h.1)

    pub changing_spread : (from : ℕ → Type 0) → IsSame (spread name n void (changing n (place x) from)) (changing void x (Told from))
    changing_spread from = record {
      reads = λ v. (λ h. h, λ h. h);
      writes = leaf_spread x inside;
      decides = none_spread;
      can = λ o. (λ y. y, λ y. y);
      kept = (reading_spread Next from).kept;
      dep = λ o. dep_spread (λ i j. (i < n) × (i ≡ j)) (λ v w. (v < void) × (v ≡ w)) from (o ≡ Next) (λ y. itself_all (o ≡ Next) y);
    }
      where
        itself_all : (c : Type 0) → c → (v w : ℕ) → SpreadsAll name n void (λ i j. (i < n) × (i ≡ j)) c v w ↔ ((v < void) × (v ≡ w))
        itself_all c y = pairs_spread (λ i j. (i < n) × (i ≡ j)) (λ v w. (v < void) × (v ≡ w)) c
            (λ i j l m. (λ h. (naming.below i h.0, ap name h.1), λ h. (name_less i l h.0, one i j l m h.1)))
            (λ v w h. (let z = h.0 in omega arith, subst (λ u. u ≤ void) h.1 (let z = h.0 in omega arith)))
            (λ v w z. (λ h. (z.leaf, h.1), λ h. (y, h.1)))
            (λ v w z h. h.1)

    pub clearing_spread : IsSame (spread name n void (clearing n (place x))) (clearing void x)
    clearing_spread = record {
      reads = none_spread;
      writes = leaf_spread x inside;
      decides = none_spread;
      can = λ o. (λ y. y, λ y. y);
      kept = λ o. pairs_spread (λ i j. (o ≡ Next) × (((i ≤ n) × (i ≡ j) × (i ≢ place x)) ⊎ ((i ≡ n) × (j ≡ place x)))) (λ v w. (o ≡ Next) × (((v ≤ void) × (v ≡ w) × (v ≢ x)) ⊎ ((v ≡ void) × (w ≡ x)))) (o ≡ Next)
          (λ i j l m. (
            λ h. (
              h.0,
              elim h.1 [
                | inl y ↦ inl (name_most i l, ap name y.1, other_leaf i l y.2)
                | inr y ↦ inr (ap name y.0 ∙ naming.last, ap name y.1 ∙ inside.leaf)
              ],
            ),
            λ h. (
              h.0,
              elim h.1 [
                | inl y ↦ inl (l, one i j l m y.1, other_number i y.2)
                | inr y ↦ inr (one i n l (omega arith) (y.0 ∙ sym naming.last), number_is j m y.1)
              ],
            ),
          ))
          (λ v w h. elim h.1 [
            | inl y ↦ (y.0, subst (λ u. u ≤ void) y.1 y.0)
            | inr y ↦ ((let e = y.0 in omega arith), (let e = y.1 in let l = leaf_most in omega arith))
          ])
          (λ v w z. (
            λ h. (h.0, inl (let l = z.leaf in omega arith, h.1, outside_other v z)),
            λ h. (h.0, elim h.1 [ inl y ↦ y.1 | inr y ↦ (let l = z.leaf in let e = y.0 in absurd (omega arith)) ]),
          ))
          (λ v w z h. elim h.1 [ inl y ↦ y.1 | inr y ↦ absurd (outside_other w z y.1) ]);
      dep = λ o. pairs_spread (λ i j. (o ≡ Next) × ((i < n) × (i ≡ j) × (i ≢ place x))) (λ v w. (o ≡ Next) × ((v < void) × (v ≡ w) × (v ≢ x))) (o ≡ Next)
          (λ i j l m. (λ h. (h.0, (naming.below i h.1.0, ap name h.1.1, other_leaf i l h.1.2)), λ h. (h.0, (name_less i l h.1.0, one i j l m h.1.1, other_number i h.1.2))))
          (λ v w h. (let z = h.1.0 in omega arith, subst (λ u. u ≤ void) h.1.1 (let z = h.1.0 in omega arith)))
          (λ v w z. (λ h. (h.0, (z.leaf, h.1, outside_other v z)), λ h. (h.0, h.1.1)))
          (λ v w z h. h.1.1);
    }

  -- Code

  -- what an expression reads is inside, and so is the place that is set
  pub setting_spread : (to : Spot) (from : ℕ → Type 0) (S : ℕ → Type 0) → ((v : ℕ) → reads_of_spot to v → Inside v) → ((v : ℕ) → Told from v ↔ S v)
      → IsSame (spread name n void (setting n (renamed_spot place to) from)) (setting void to S)
  setting_spread (At leaf part true cells) from S h s =
      same_through _ _ _ (moving_spread leaf (h leaf (inl refl)) _)
      (moving_same void leaf _ _ (λ v. either_spread from (reads_of_all (renamed_all place part)) S (reads_of_all part) v (s v) (all_spread part (λ u y. h u (inr y)) v)))
  setting_spread (At leaf part false cells) from S h s =
      same_through _ _ _ (changing_spread leaf (h leaf (inl refl)) _)
      (changing_same void leaf _ _ (λ v. either_spread from (reads_of_all (renamed_all place part)) S (reads_of_all part) v (s v) (all_spread part (λ u y. h u (inr y)) v)))

  pub setting_bounded : (to : Spot) (from : ℕ → Type 0) → ((v : ℕ) → reads_of_spot to v → Inside v) → IsBounded n (setting n (renamed_spot place to) from)
  setting_bounded (At leaf part true cells) from h = moving_bounded n (place leaf) (h leaf (inl refl)).number _
  setting_bounded (At leaf part false cells) from h = changing_bounded n (place leaf) (h leaf (inl refl)).number _

  pub reading_same : (out : Outcome) (S T : ℕ → Type 0) → ((v : ℕ) → S v ↔ T v) → IsSame (reading void out S) (reading void out T)
  reading_same out S T t = record {
    reads = t;
    writes = λ v. (λ y. y, λ y. y);
    decides = λ v. (λ y. y, λ y. y);
    can = λ o. (λ y. y, λ y. y);
    kept = λ o v w. (λ y. y, λ y. y);
    dep = λ o v w. (λ y. y, λ y. y);
  }

  barrier_spread : (b : Option LeafNo) → ((v : ℕ) → IsBarrier b v → Inside v) → (v : ℕ) → Told (IsBarrier (renamed_barrier place b)) v ↔ IsBarrier b v
  barrier_spread None h v = none_spread v
  barrier_spread (Some leaf) h v = leaf_spread leaf.0 (h leaf.0 refl) v

  guarding_spread : (b : Option LeafNo) (f g : Flow) → ((v : ℕ) → IsBarrier b v → Inside v) → IsSame (spread name n void f) g
      → IsSame (spread name n void (guarding (renamed_barrier place b) f)) (guarding b g)
  guarding_spread b f g h s = record {
    reads = λ v. either_spread (IsBarrier (renamed_barrier place b)) f.reads (IsBarrier b) g.reads v (barrier_spread b h v) (s.reads v);
    writes = s.writes;
    decides = s.decides;
    can = s.can;
    kept = s.kept;
    dep = s.dep;
  }

  -- a call by numbers tells that by leaves
  pub record IsCallTold (by_number by_leaf : BodyNo → Actuals → Flow) (b : BodyNo) (actuals : Actuals) : Type 0 where
    pub bounded : IsBounded n (by_number b (renamed_actuals place actuals))
    pub same : IsSame (spread name n void (by_number b (renamed_actuals place actuals))) (by_leaf b actuals)

  module _ (clock : ℕ) (by_number by_leaf : BodyNo → Actuals → Flow) where
    -- where the actuals are inside, the calls of code by numbers tell those by leaves
    abbrev pub AreCallsTold : Code → Type 0
    AreCallsTold a = (b : BodyNo) (actuals : Actuals) → IsCalled b.0 a → ((v : ℕ) → names_of_actuals actuals v → Inside v) → IsCallTold by_number by_leaf b actuals

    -- the flow of code by numbers
    abbrev pub numbered : Code → Flow
    numbered a = flow n (place clock) by_number (renamed_code place a)

    numbered_bounded : (a : Code) → ((v : ℕ) → names_of clock a v → Inside v) → AreCallsTold a → IsBounded n (numbered a)
    numbered_bounded Skip h t = reading_bounded n Next (λ v. ⊥)
    numbered_bounded (Then a b) h t =
        seq_bounded n (numbered a) (numbered b) (numbered_bounded a (λ v x. h v (inl x)) (λ c x k. t c x (inl k))) (numbered_bounded b (λ v x. h v (inr x)) (λ c x k. t c x (inr k)))
    numbered_bounded (Assign to e at) h t = setting_bounded to _ (λ v x. h v (inl x))
    numbered_bounded (Clear leaf) h t = clearing_bounded n (place leaf) (h leaf refl).number
    numbered_bounded (Branch e a b) h t =
        branch_bounded n (numbered a) (numbered b) (numbered_bounded a (λ v x. h v (inr (inl x))) (λ c x k. t c x (inl k))) (numbered_bounded b (λ v x. h v (inr (inr x))) (λ c x k. t c x (inr k))) _
    numbered_bounded (Repeat a) h t = loop_bounded n (numbered a) (numbered_bounded a h t)
    numbered_bounded (Exit o) h t = reading_bounded n o (λ v. ⊥)
    numbered_bounded (Called b actuals at) h t = (t b actuals refl h).bounded
    numbered_bounded (Guard o barrier c) h t = let s = numbered_bounded c (λ v x. h v (inr x)) t in record { writes = s.writes; kept = s.kept; dep = s.dep }
    numbered_bounded (Delay e) h t = reading_bounded n Next _
    numbered_bounded (ReadClock to) h t = setting_bounded to _ (λ v x. h v (inl x))
    numbered_bounded Stop h t = nowhere_bounded n

    -- names that are inside: the flow by numbers is that of the code
    pub code_spread : (a : Code) → ((v : ℕ) → names_of clock a v → Inside v) → AreCallsTold a → IsSame (spread name n void (numbered a)) (flow void clock by_leaf a)
    code_spread Skip h t = same_through _ _ _ (reading_spread Next (λ v. ⊥)) (reading_same Next _ _ none_spread)
    code_spread (Then a b) h t =
        let x = numbered_bounded a (λ v x. h v (inl x)) (λ c x k. t c x (inl k)) in
        same_through _ _ _ (seq_spread name place n void naming.places naming.last (numbered a) (numbered b) x)
        (seq_same _ _ _ _ (code_spread a (λ v x. h v (inl x)) (λ c x k. t c x (inl k))) (code_spread b (λ v x. h v (inr x)) (λ c x k. t c x (inr k))) void)
    code_spread (Assign to e at) h t = setting_spread to (reads_of (renamed place e)) (reads_of e) (λ v x. h v (inl x)) (reads_spread e (λ v x. h v (inr x)))
    code_spread (Clear leaf) h t = clearing_spread leaf (h leaf refl)
    code_spread (Branch e a b) h t =
        same_through _ _ _ (branch_spread name place n void naming.places naming.last (reads_of (renamed place e)) (numbered a) (numbered b))
        (branch_same _ _ _ _ (code_spread a (λ v x. h v (inr (inl x))) (λ c x k. t c x (inl k))) (code_spread b (λ v x. h v (inr (inr x))) (λ c x k. t c x (inr k))) _ _ (reads_spread e (λ v x. h v (inl x))))
    code_spread (Repeat a) h t = same_through _ _ _ (loop_spread name place n void naming.places naming.last (numbered a) (numbered_bounded a h t)) (loop_same void _ _ (code_spread a h t))
    code_spread (Exit o) h t = same_through _ _ _ (reading_spread o (λ v. ⊥)) (reading_same o _ _ none_spread)
    code_spread (Called b actuals at) h t = (t b actuals refl h).same
    code_spread (Guard o barrier c) h t = guarding_spread barrier (numbered c) _ (λ v x. h v (inl x)) (code_spread c (λ v x. h v (inr x)) t)
    code_spread (Delay e) h t = same_through _ _ _ (reading_spread Next (reads_of (renamed place e))) (reading_same Next _ _ (reads_spread e h))
    code_spread (ReadClock to) h t = setting_spread to (λ i. i ≡ place clock) (λ v. v ≡ clock) (λ v x. h v (inl x)) (leaf_spread clock (h clock (inr refl)))
    code_spread Stop h t = nowhere_spread name place n void naming.places naming.last

  -- of no call anything is known
  pub no_calls_told : (clock : ℕ) (a : Code) → AreCallsTold clock (calls_of n []) no_calls a
  no_calls_told clock a b actuals k inside = record { bounded = nowhere_bounded n; same = nowhere_spread name place n void naming.places naming.last }
