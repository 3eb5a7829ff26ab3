-- The flow of a call by numbers tells that of the call by leaves: its own names stand behind the numbers as they stand behind the leaves.
use Rattle.std.proofs.Common.{◌≡◌, ℕ, zero, suc, ◌+◌, ◌-◌, ◌<◌, ◌≤◌, ◌⊎◌, ◌↔◌, inl, inr, Bool, true, false, cond, List, [], ◌∷◌, length, nat_eq, refl, sym, ap, subst, ◌∙◌, arith}
use Rattle.std.proofs.Math.Dec.{ltb}
use Rattle.std.proofs.lemmas.Bool.{cases_lt, lt-ltb, le-ltb}
use Rattle.std.proofs.lemmas.Bool.Decides.{nat_tests}
use Rattle.spark_base.specs.declared.numbers.LeafNo.{LeafNo}
use Rattle.core_form.specs.Code.{Next, Expr, Exprs, Nothing, And, Spot, Spots, NoSpot, AndSpot, Actuals, NoActual, AndActual}
use Rattle.flow_facts.specs.Flow.{Flow, IsSame, Summary, leaving, moving, reads_of, reads_of_all, reads_of_spot, setting}
use Rattle.flow_facts.proofs.Same.{moving_same, same_through, seq_same}
use Rattle.call_flow.specs.declared.signatures.Signature.{Signature}
use Rattle.call_flow.specs.Calls.{IsAside, Standing, StandingPairs, actuals_in, actuals_out, calling, dropped, knowing, passing_at, spots_out, stands, up, values_in}
use Rattle.flow_relations.specs.Equation.{names_of_actuals, names_of_spots}
use Rattle.flow_relations.specs.Framing.{IsInside, IsOutside, Spreads, SpreadsAll, spread}
use Rattle.flow_relations.specs.Renamed.{renamed, renamed_actuals, renamed_all, renamed_spot, renamed_spots}
use Rattle.flow_relations.proofs.Alike.{expr_alike, spot_alike}
use Rattle.flow_relations.proofs.Chains.{dropped_same}
use Rattle.flow_relations.proofs.Framed.{IsNaming, leaf_spread, moving_bounded, moving_spread, none_spread, pairs_spread, reading_same, reading_spread, reads_spread, setting_bounded, setting_spread}
use Rattle.flow_relations.proofs.Spread.{IsBounded, seq_spread}

-- the first so many by a function, and those behind one after another from another number on
abbrev extended : (ℕ → ℕ) → ℕ → ℕ → ℕ → ℕ
extended f n m i = cond (ltb i n) (f i) (m + (i - n))

extended_front : (f : ℕ → ℕ) (n m i : ℕ) → i < n → extended f n m i ≡ f i
extended_front f n m i l = rw (lt-ltb i n l) refl

extended_behind : (f : ℕ → ℕ) (n m j : ℕ) → extended f n m (n + j) ≡ m + j
extended_behind f n m j =
    let past : n ≤ n + j = omega arith in
    let e : (n + j) - n ≡ j = omega arith in
    rw (le-ltb (n + j) n past, e) refl

pub up_last : (void big : ℕ) → up void big void ≡ big
up_last void big = let e : nat_eq void void ≡ true = grind (arith, nat_tests) in rw e refl

pub up_front : (void big v : ℕ) → v < void → up void big v ≡ v
up_front void big v l = let e : nat_eq v void ≡ false = grind (arith, nat_tests) in rw e refl

module _ (name place : ℕ → ℕ) (n void own : ℕ) (naming : IsNaming name place n void) where
  -- the names of a call, and their places
  abbrev called_name : ℕ → ℕ
  called_name i = extended name n void i

  abbrev called_place : ℕ → ℕ
  called_place v = extended place void n v

  abbrev Called : Flow → Flow
  Called f = spread called_name (n + own) (void + own) f

  -- a number is one of the frame, or of the call's own
  front_or_own : (i : ℕ) → (i < n) ⊎ ((j : ℕ) × (i ≡ n + j))
  front_or_own i = elim (cases_lt i n) [ inl l ↦ inl l | inr g ↦ inr (i - n, (let e : i ≡ n + (i - n) = omega arith in e)) ]

  behind_name : (j : ℕ) → called_name (n + j) ≡ void + j
  behind_name j = extended_behind name n void j

  behind_place : (j : ℕ) → called_place (void + j) ≡ n + j
  behind_place j = extended_behind place void n j

  -- the name of a number that is below those of the call's own is that of the frame
  below_own : (i : ℕ) → called_name i < void → i < n
  below_own i b = elim (front_or_own i) [
    | inl l ↦ l
    | inr p ↦ (let e : called_name i ≡ void + p.0 = ap (λ k. called_name k) p.1 ∙ behind_name p.0 in absurd (omega (arith, e, b)))
  ]

  called_places : (i : ℕ) → i ≤ n + own → called_place (called_name i) ≡ i
  called_places i l = elim (front_or_own i) [
    | inl m ↦ ap (λ v. called_place v) (extended_front name n void i m) ∙ (extended_front place void n (name i) (naming.below i m) ∙ naming.places i (let x = m in omega arith))
    | inr p ↦ ap (λ k. called_place (called_name k)) p.1 ∙ (ap (λ v. called_place v) (behind_name p.0) ∙ (behind_place p.0 ∙ sym p.1))
  ]

  called_naming : IsNaming called_name called_place (n + own) (void + own)
  called_naming = record { places = called_places; last = behind_name own; below = below }
    where
      below : (i : ℕ) → i < n + own → called_name i < void + own
      below i l = elim (front_or_own i) [
        | inl m ↦ (let e : called_name i ≡ name i = extended_front name n void i m in let b = naming.below i m in omega (arith, e, b))
        | inr p ↦ (let e : called_name i ≡ void + p.0 = ap (λ k. called_name k) p.1 ∙ behind_name p.0 in let q = p.1 in omega (arith, e, q, l))
      ]

  called_one : (i j : ℕ) → i ≤ n + own → j ≤ n + own → called_name i ≡ called_name j → i ≡ j
  called_one i j l m e = sym (called_places i l) ∙ (ap (λ v. called_place v) e ∙ called_places j m)

  -- What is inside

  abbrev Inside : ℕ → Type 0
  Inside v = IsInside name place n v

  abbrev CalledInside : ℕ → Type 0
  CalledInside v = IsInside called_name called_place (n + own) v

  inside_below : (v : ℕ) → Inside v → v < void
  inside_below v h = subst (λ u. u < void) h.leaf (naming.below (place v) h.number)

  front_place : (v : ℕ) → Inside v → called_place v ≡ place v
  front_place v h = extended_front place void n v (inside_below v h)

  front_inside : (v : ℕ) → Inside v → CalledInside v
  front_inside v h =
      let e = front_place v h in
      let l = h.number in
      record {
        number = subst (λ k. k < n + own) (sym e) (let m : place v < n + own = omega (arith, l) in m);
        leaf = ap (λ k. called_name k) e ∙ (extended_front name n void (place v) l ∙ h.leaf);
      }

  own_inside : (j : ℕ) → j < own → CalledInside (void + j)
  own_inside j l = record {
    number = subst (λ k. k < n + own) (sym (behind_place j)) (let m : n + j < n + own = omega (arith, l) in m);
    leaf = ap (λ k. called_name k) (behind_place j) ∙ behind_name j;
  }

  called_below : (v : ℕ) → CalledInside v → v < void + own
  called_below v h = subst (λ u. u < void + own) h.leaf (called_naming.below (called_place v) h.number)

  -- The first part

  value_spread : (j x y : ℕ) (e : Expr) → x ≡ n + j → y ≡ void + j → j < own → ((v : ℕ) → reads_of e v → Inside v)
      → IsSame (Called (moving (n + own) x (reads_of (renamed place e)))) (moving (void + own) y (reads_of e))
  value_spread j x y e f g l h =
      let from = reads_of (renamed place e) in
      let into = moving_spread called_name called_place (n + own) (void + own) called_naming (void + j) (own_inside j l) from in
      let here = subst (λ k. IsSame (Called (moving (n + own) k from)) (moving (void + own) (void + j) (Spreads called_name (n + own) (void + own) from))) (behind_place j ∙ sym f) into in
      let there = subst (λ u. IsSame (Called (moving (n + own) x from)) (moving (void + own) u (Spreads called_name (n + own) (void + own) from))) (sym g) here in
      let same = expr_alike (λ v. called_place v) place e (λ v r. front_place v (h v r)) in
      let read = subst (λ z. (v : ℕ) → Spreads called_name (n + own) (void + own) (reads_of z) v ↔ reads_of e v) same
      (reads_spread called_name called_place (n + own) (void + own) called_naming e (λ v r. front_inside v (h v r))) in
      same_through _ _ _ there (moving_same (void + own) y _ _ read)

  values_spread : (j k x y : ℕ) (es : Exprs) (a b : Flow) → x ≡ n + j → y ≡ void + j → j + k ≤ own → ((v : ℕ) → reads_of_all es v → Inside v) → IsSame (Called a) b
      → IsSame (Called (values_in (n + own) x k (renamed_all place es) a)) (values_in (void + own) y k es b)
  values_spread j zero x y es a b f g l h s = s
  values_spread j (suc k) x y Nothing a b f g l h s = s
  values_spread j (suc k) x y (And e es) a b f g l h s =
      let at : j < own = omega (arith, l) in
      let big : x < n + own = omega (arith, f, at) in
      let rest = values_spread (suc j) k (suc x) (suc y) es a b (omega (arith, f)) (omega (arith, g)) (omega (arith, l)) (λ v r. h v (inr r)) s in
      same_through _ _ _
      (seq_spread called_name called_place (n + own) (void + own) called_places (behind_name own) (moving (n + own) x (reads_of (renamed place e)))
      (values_in (n + own) (suc x) k (renamed_all place es) a) (moving_bounded (n + own) x big (reads_of (renamed place e))))
      (seq_same _ _ _ _ (value_spread j x y e f g at (λ v r. h v (inl r))) rest (void + own))

  ins_spread : (s : Signature) → ((k : ℕ) → (passing_at s k).first + (passing_at s k).ins ≤ own) → (list : Actuals) (a b : Flow) → ((v : ℕ) → names_of_actuals list v → Inside v)
      → IsSame (Called a) b → IsSame (Called (actuals_in n (n + own) s (renamed_actuals place list) a)) (actuals_in void (void + own) s list b)
  ins_spread s within NoActual a b h e = e
  ins_spread s within (AndActual formal values spots at more) a b h e =
      values_spread (passing_at s formal).first (passing_at s formal).ins (n + (passing_at s formal).first) (void + (passing_at s formal).first) values
      (actuals_in n (n + own) s (renamed_actuals place more) a) (actuals_in void (void + own) s more b) refl refl (within formal) (λ v r. h v (inl r))
      (ins_spread s within more a b (λ v r. h v (inr (inr r))) e)

  -- The third part

  spot_spread : (j x y : ℕ) (spot : Spot) → x ≡ n + j → y ≡ void + j → j < own → ((v : ℕ) → reads_of_spot spot v → Inside v)
      → IsSame (Called (setting (n + own) (renamed_spot place spot) (λ u. u ≡ x))) (setting (void + own) spot (λ u. u ≡ y))
  spot_spread j x y spot f g l h =
      let same = spot_alike (λ v. called_place v) place spot (λ v r. front_place v (h v r)) in
      let read = subst (λ u. (v : ℕ) → Spreads called_name (n + own) (void + own) (λ i. i ≡ x) v ↔ (v ≡ u)) (sym g)
      (subst (λ k. (v : ℕ) → Spreads called_name (n + own) (void + own) (λ i. i ≡ k) v ↔ (v ≡ void + j)) (behind_place j ∙ sym f)
      (leaf_spread called_name called_place (n + own) (void + own) called_naming (void + j) (own_inside j l))) in
      subst (λ z. IsSame (Called (setting (n + own) z (λ u. u ≡ x))) (setting (void + own) spot (λ u. u ≡ y))) same
      (setting_spread called_name called_place (n + own) (void + own) called_naming spot (λ u. u ≡ x) (λ u. u ≡ y) (λ v r. front_inside v (h v r)) read)

  spot_bounded : (x : ℕ) (spot : Spot) → ((v : ℕ) → reads_of_spot spot v → Inside v) → IsBounded (n + own) (setting (n + own) (renamed_spot place spot) (λ u. u ≡ x))
  spot_bounded x spot h =
      let same = spot_alike (λ v. called_place v) place spot (λ v r. front_place v (h v r)) in
      subst (λ z. IsBounded (n + own) (setting (n + own) z (λ u. u ≡ x))) same
      (setting_bounded called_name called_place (n + own) (void + own) called_naming spot (λ u. u ≡ x) (λ v r. front_inside v (h v r)))

  spots_spread : (j k x y : ℕ) (spots : Spots) (a b : Flow) → x ≡ n + j → y ≡ void + j → j + k ≤ own → ((v : ℕ) → names_of_spots spots v → Inside v) → IsSame (Called a) b
      → IsSame (Called (spots_out (n + own) x k (renamed_spots place spots) a)) (spots_out (void + own) y k spots b)
  spots_spread j zero x y spots a b f g l h s = s
  spots_spread j (suc k) x y NoSpot a b f g l h s = s
  spots_spread j (suc k) x y (AndSpot spot spots) a b f g l h s =
      let at : j < own = omega (arith, l) in
      let rest = spots_spread (suc j) k (suc x) (suc y) spots a b (omega (arith, f)) (omega (arith, g)) (omega (arith, l)) (λ v r. h v (inr r)) s in
      same_through _ _ _
      (seq_spread called_name called_place (n + own) (void + own) called_places (behind_name own) (setting (n + own) (renamed_spot place spot) (λ u. u ≡ x))
      (spots_out (n + own) (suc x) k (renamed_spots place spots) a) (spot_bounded x spot (λ v r. h v (inl r))))
      (seq_same _ _ _ _ (spot_spread j x y spot f g at (λ v r. h v (inl r))) rest (void + own))

  outs_spread : (s : Signature) → ((k : ℕ) → (passing_at s k).first + (passing_at s k).backs ≤ own) → (list : Actuals) (a b : Flow) → ((v : ℕ) → names_of_actuals list v → Inside v)
      → IsSame (Called a) b → IsSame (Called (actuals_out n (n + own) s (renamed_actuals place list) a)) (actuals_out void (void + own) s list b)
  outs_spread s within NoActual a b h e = e
  outs_spread s within (AndActual formal values spots at more) a b h e =
      spots_spread (passing_at s formal).first (passing_at s formal).backs (n + (passing_at s formal).first) (void + (passing_at s formal).first) spots
      (actuals_out n (n + own) s (renamed_actuals place more) a) (actuals_out void (void + own) s more b) refl refl (within formal) (λ v r. h v (inr (inl r)))
      (outs_spread s within more a b (λ v r. h v (inr (inr r))) e)

  leaving_spread : IsSame (Called (leaving (n + own) Next)) (leaving (void + own) Next)
  leaving_spread = same_through _ _ _ (reading_spread called_name called_place (n + own) (void + own) called_naming Next (λ v. ⊥))
      (reading_same called_name called_place (n + own) (void + own) called_naming Next _ _ (none_spread called_name called_place (n + own) (void + own) called_naming))

  -- The second part: of what is known, each leaf that is not passed is inside

  module _ (leaves : List LeafNo) (k : Summary) where
    abbrev number : ℕ → ℕ
    number f = stands place n leaves f

    abbrev leaf : ℕ → ℕ
    leaf f = stands (λ v. v) void leaves f

    module _ (fits : length leaves ≤ own) (inside : (f : ℕ) → k.leaves f → leaf f ≡ f → Inside f) where
      -- the names of a leaf, where the first of these has the numbers a and b
      abbrev IsPassedOrNot : List LeafNo → ℕ → ℕ → ℕ → Type 0
      IsPassedOrNot xs a b f =
          ((j : ℕ) × ((j < own) × ((stands place a xs f ≡ n + j) × (stands (λ v. v) b xs f ≡ void + j)))) ⊎ ((stands place a xs f ≡ place f) × (stands (λ v. v) b xs f ≡ f))

      passed_or_not : (xs : List LeafNo) (i a b f : ℕ) → a ≡ n + i → b ≡ void + i → i + length xs ≤ own → IsPassedOrNot xs a b f
      passed_or_not [] i a b f p q l = inr (refl, refl)
      passed_or_not (x ∷ xs) i a b f p q l =
          let m : suc i + length xs ≤ own = omega (arith, l) in
          let s : suc a ≡ n + suc i = omega (arith, p) in
          let t : suc b ≡ void + suc i = omega (arith, q) in
          cases (nat_eq x.0 f) refl (passed_or_not xs (suc i) (suc a) (suc b) f s t m)
        where
          cases : (c : Bool) → nat_eq x.0 f ≡ c → IsPassedOrNot xs (suc a) (suc b) f → IsPassedOrNot (x ∷ xs) a b f
          cases true e h = inl (
            i,
            (
              (let m : i < own = omega (arith, l) in m),
              (ap (λ c. cond c a (stands place (suc a) xs f)) e ∙ p, ap (λ c. cond c b (stands (λ v. v) (suc b) xs f)) e ∙ q),
            ),
          )
          cases false e h =
              let first = ap (λ c. cond c a (stands place (suc a) xs f)) e in
              let second = ap (λ c. cond c b (stands (λ v. v) (suc b) xs f)) e in
              elim h [
                | inl y ↦ inl (y.0, (y.1.0, (first ∙ y.1.1.0, second ∙ y.1.1.1)))
                | inr y ↦ inr (first ∙ y.0, second ∙ y.1)
              ]

      known : (f : ℕ) → k.leaves f → CalledInside (leaf f) × (called_place (leaf f) ≡ number f)
      known f m =
          let zn : n ≡ n + 0 = omega arith in
          let zv : void ≡ void + 0 = omega arith in
          let all : 0 + length leaves ≤ own = omega (arith, fits) in
          elim (passed_or_not leaves 0 n void f zn zv all) [
            | inl p ↦ (subst CalledInside (sym p.1.1.1) (own_inside p.0 p.1.0), ap (λ v. called_place v) p.1.1.1 ∙ (behind_place p.0 ∙ sym p.1.1.0))
            | inr q ↦ (let i = inside f m q.1 in (subst CalledInside (sym q.1) (front_inside f i), ap (λ v. called_place v) q.1 ∙ (front_place f i ∙ sym q.0)))
          ]

      named : (f : ℕ) → k.leaves f → called_name (number f) ≡ leaf f
      named f m = ap (λ i. called_name i) (sym (known f m).1) ∙ (known f m).0.leaf

      numbered : (f : ℕ) → k.leaves f → number f < n + own
      numbered f m = subst (λ i. i < n + own) (known f m).1 (known f m).0.number

      numbered_most : (f : ℕ) → k.leaves f → number f ≤ n + own
      numbered_most f m = let l = numbered f m in omega (arith, l)

      module _ (S : ℕ → Type 0) (of : (f : ℕ) → S f → k.leaves f) where
        standing_spread : (v : ℕ) → Spreads called_name (n + own) (void + own) (Standing number S) v ↔ Standing leaf S v
        standing_spread v = (
          λ h. let f = h.1.2.0 in (f, (sym (named f (of f h.1.2.1.1)) ∙ (ap (λ i. called_name i) h.1.2.1.0 ∙ h.1.1), h.1.2.1.1)),
          λ t. let f = t.0 in (number f, (numbered_most f (of f t.1.1), named f (of f t.1.1) ∙ t.1.0, (f, (refl, t.1.1)))),
        )

        standing_at : (i : ℕ) → i ≤ n + own → Standing number S i ↔ Standing leaf S (called_name i)
        standing_at i l = (
          λ h. let f = h.0 in (f, (sym (named f (of f h.1.1)) ∙ ap (λ j. called_name j) h.1.0, h.1.1)),
          λ h. let f = h.0 in (f, (sym (known f (of f h.1.1)).1 ∙ (ap (λ v. called_place v) h.1.0 ∙ called_places i l), h.1.1)),
        )

      aside_at : (i : ℕ) → i ≤ n + own → IsAside number k i ↔ IsAside leaf k (called_name i)
      aside_at i l = let s = standing_at k.leaves (λ f m. m) i l in (λ a h. a (s.1 h), λ a h. a (s.0 h))

      -- of a name without a number it does not speak
      outside_aside : (v : ℕ) → IsOutside called_name (n + own) (void + own) v → IsAside leaf k v
      outside_aside v out h = out.unnamed (number h.0) (numbered_most h.0 h.1.1) (named h.0 h.1.1 ∙ h.1.0)

      module _ (reads : (f : ℕ) → k.reads f → k.leaves f) (writes : (f : ℕ) → k.writes f → k.leaves f) (keeps : (f : ℕ) → k.keeps f → k.leaves f)
          (depends : (f g : ℕ) → k.depends f g → k.leaves f × k.leaves g) where
        pairs_at : (i j : ℕ) → i ≤ n + own → j ≤ n + own → StandingPairs number k.depends i j ↔ StandingPairs leaf k.depends (called_name i) (called_name j)
        pairs_at i j l m = (
          λ h.
              let f = h.0 in
              let g = h.1.0 in
              let b = depends f g h.1.1.1.1 in
              (f, (g, (sym (named f b.0) ∙ ap (λ x. called_name x) h.1.1.0, (sym (named g b.1) ∙ ap (λ x. called_name x) h.1.1.1.0, h.1.1.1.1)))),
          λ h.
              let f = h.0 in
              let g = h.1.0 in
              let b = depends f g h.1.1.1.1 in
              (f, (g, (sym (known f b.0).1 ∙ (ap (λ v. called_place v) h.1.1.0 ∙ called_places i l), (sym (known g b.1).1 ∙ (ap (λ v. called_place v) h.1.1.1.0 ∙ called_places j m), h.1.1.1.1)))),
        )

        abbrev ByNumber : ℕ → ℕ → Type 0
        ByNumber i j = StandingPairs number k.depends i j ⊎ ((i < n + own) × ((i ≡ j) × IsAside number k i))

        abbrev ByLeaf : ℕ → ℕ → Type 0
        ByLeaf v w = StandingPairs leaf k.depends v w ⊎ ((v < void + own) × ((v ≡ w) × IsAside leaf k v))

        knowing_spread : IsSame (Called (knowing (n + own) (λ f. number f) k)) (knowing (void + own) (λ f. leaf f) k)
        knowing_spread = record {
          reads = standing_spread k.reads reads;
          writes = standing_spread k.writes writes;
          decides = none_spread called_name called_place (n + own) (void + own) called_naming;
          can = λ o. (λ x. x, λ x. x);
          kept = λ o. pairs_spread called_name called_place (n + own) (void + own) called_naming ((knowing (n + own) (λ f. number f) k).kept o) ((knowing (void + own) (λ f. leaf f) k).kept o) ((o ≡ Next) × k.returns)
              (λ i j l m. (
                λ h. (h.0, (h.1.0, ((called_most i l), (ap (λ x. called_name x) h.1.1.1.0, kept_there i l h.1.1.1.1)))),
                λ h. (h.0, (h.1.0, (l, (called_one i j l m h.1.1.1.0, kept_back i l h.1.1.1.1)))),
              ))
              (λ v w h. (h.1.1.0, subst (λ u. u ≤ void + own) h.1.1.1.0 h.1.1.0))
              (λ v w out. (
                λ h. (h.0.0, (h.0.1, ((let l = out.leaf in let m : v ≤ void + own = omega (arith, l) in m), (h.1, inr (outside_aside v out))))),
                λ h. ((h.0, h.1.0), h.1.1.1.0),
              ))
              (λ v w out h. h.1.1.1.0);
          dep = λ o. pairs_spread called_name called_place (n + own) (void + own) called_naming ((knowing (n + own) (λ f. number f) k).dep o) ((knowing (void + own) (λ f. leaf f) k).dep o) ((o ≡ Next) × k.returns)
              (λ i j l m. (
                λ h. (h.0, (h.1.0, dep_there i j l m h.1.1)),
                λ h. (h.0, (h.1.0, dep_back i j l m h.1.1)),
              ))
              (λ v w h. dep_within v w h.1.1)
              (λ v w out. (
                λ h. (h.0.0, (h.0.1, inr (out.leaf, (h.1, outside_aside v out)))),
                λ h. ((h.0, h.1.0), dep_outer v w out h.1.1),
              ))
              (λ v w out h. dep_inner v w out h.1.1);
        }
          where
            called_most : (i : ℕ) → i ≤ n + own → called_name i ≤ void + own
            called_most i l = elim (cases_lt i (n + own)) [
              | inl m ↦ (let b = called_naming.below i m in let c : called_name i ≤ void + own = omega (arith, b) in c)
              | inr g ↦ (let e : i ≡ n + own = omega (arith, l, g) in let f : called_name i ≡ void + own = ap (λ x. called_name x) e ∙ behind_name own in let c : called_name i ≤ void + own = omega (arith, f) in c)
            ]

            called_less : (i : ℕ) → i ≤ n + own → called_name i < void + own → i < n + own
            called_less i l b = elim (cases_lt i (n + own)) [
              | inl m ↦ m
              | inr g ↦ (let e : i ≡ n + own = omega (arith, l, g) in let f : called_name i ≡ void + own = ap (λ x. called_name x) e ∙ behind_name own in absurd (omega (arith, f, b)))
            ]

            kept_there : (i : ℕ) → i ≤ n + own → Standing number k.keeps i ⊎ IsAside number k i → Standing leaf k.keeps (called_name i) ⊎ IsAside leaf k (called_name i)
            kept_there i l (inl s) = inl ((standing_at k.keeps keeps i l).0 s)
            kept_there i l (inr a) = inr ((aside_at i l).0 a)

            kept_back : (i : ℕ) → i ≤ n + own → Standing leaf k.keeps (called_name i) ⊎ IsAside leaf k (called_name i) → Standing number k.keeps i ⊎ IsAside number k i
            kept_back i l (inl s) = inl ((standing_at k.keeps keeps i l).1 s)
            kept_back i l (inr a) = inr ((aside_at i l).1 a)

            dep_there : (i j : ℕ) → i ≤ n + own → j ≤ n + own → ByNumber i j → ByLeaf (called_name i) (called_name j)
            dep_there i j l m (inl p) = inl ((pairs_at i j l m).0 p)
            dep_there i j l m (inr q) = inr (called_naming.below i q.0, (ap (λ x. called_name x) q.1.0, (aside_at i l).0 q.1.1))

            dep_back : (i j : ℕ) → i ≤ n + own → j ≤ n + own → ByLeaf (called_name i) (called_name j) → ByNumber i j
            dep_back i j l m (inl p) = inl ((pairs_at i j l m).1 p)
            dep_back i j l m (inr q) = inr (called_less i l q.0, (called_one i j l m q.1.0, (aside_at i l).1 q.1.1))

            leaf_most : (f v : ℕ) → k.leaves f → leaf f ≡ v → v ≤ void + own
            leaf_most f v m e = let b = subst (λ u. u < void + own) e (called_below (leaf f) (known f m).0) in omega (arith, b)

            dep_within : (v w : ℕ) → ByLeaf v w → (v ≤ void + own) × (w ≤ void + own)
            dep_within v w (inl p) = let b = depends p.0 p.1.0 p.1.1.1.1 in (leaf_most p.0 v b.0 p.1.1.0, leaf_most p.1.0 w b.1 p.1.1.1.0)
            dep_within v w (inr q) = let l : v ≤ void + own = omega (arith, q.0) in (l, subst (λ u. u ≤ void + own) q.1.0 l)

            dep_outer : (v w : ℕ) → IsOutside called_name (n + own) (void + own) v → ByLeaf v w → v ≡ w
            dep_outer v w out (inl p) = absurd (outside_aside v out (p.0, (p.1.1.0, (depends p.0 p.1.0 p.1.1.1.1).0)))
            dep_outer v w out (inr q) = q.1.0

            dep_inner : (v w : ℕ) → IsOutside called_name (n + own) (void + own) w → ByLeaf v w → v ≡ w
            dep_inner v w out (inl p) = absurd (outside_aside w out (p.1.0, (p.1.1.1.0, (depends p.0 p.1.0 p.1.1.1.1).1)))
            dep_inner v w out (inr q) = q.1.0

        knowing_bounded : IsBounded (n + own) (knowing (n + own) (λ f. number f) k)
        knowing_bounded = record {
          writes = λ i h. most h.0 i (writes h.0 h.1.1) h.1.0;
          kept = λ o i j h. subst (λ x. x ≤ n + own) h.1.1.1.0 h.1.1.0;
          dep = λ o i j h. pairs i j h.1.1;
        }
          where
            most : (f i : ℕ) → k.leaves f → number f ≡ i → i ≤ n + own
            most f i m e = subst (λ x. x ≤ n + own) e (numbered_most f m)

            pairs : (i j : ℕ) → StandingPairs number k.depends i j ⊎ ((i < n + own) × ((i ≡ j) × IsAside number k i)) → j ≤ n + own
            pairs i j (inl p) = most p.1.0 j (depends p.0 p.1.0 p.1.1.1.1).1 p.1.1.1.0
            pairs i j (inr q) = let l : i ≤ n + own = omega (arith, q.0) in subst (λ x. x ≤ n + own) q.1.0 l

  -- Without the names of the call's own

  most : (i : ℕ) → i ≤ n → name i ≤ void
  most i l = elim (cases_lt i n) [
    | inl m ↦ (let b = naming.below i m in let c : name i ≤ void = omega (arith, b) in c)
    | inr g ↦ (let e : i ≡ n = omega (arith, l, g) in let z : name i ≡ void = ap name e ∙ naming.last in let c : name i ≤ void = omega (arith, z) in c)
  ]

  less : (i : ℕ) → i ≤ n → name i < void → i < n
  less i l b = elim (cases_lt i n) [
    | inl m ↦ m
    | inr g ↦ (let e : i ≡ n = omega (arith, l, g) in let z : name i ≡ void = ap name e ∙ naming.last in absurd (omega (arith, z, b)))
  ]

  -- the number that a number of the frame has in the call
  up_most : (i : ℕ) → i ≤ n → up n (n + own) i ≤ n + own
  up_most i l = elim (cases_lt i n) [
    | inl m ↦ (let e = up_front n (n + own) i m in subst (λ x. x ≤ n + own) (sym e) (let c : i ≤ n + own = omega (arith, m) in c))
    | inr g ↦ (let e : i ≡ n = omega (arith, l, g) in subst (λ x. up n (n + own) x ≤ n + own) (sym e) (subst (λ x. x ≤ n + own) (sym (up_last n (n + own))) (let c : n + own ≤ n + own = omega arith in c)))
  ]

  up_name : (i : ℕ) → i ≤ n → called_name (up n (n + own) i) ≡ up void (void + own) (name i)
  up_name i l = elim (cases_lt i n) [
    | inl m ↦ ap (λ x. called_name x) (up_front n (n + own) i m) ∙ (extended_front name n void i m ∙ sym (up_front void (void + own) (name i) (naming.below i m)))
    | inr g ↦ (let e : i ≡ n = omega (arith, l, g) in
        ap (λ x. called_name (up n (n + own) x)) e ∙ (ap (λ x. called_name x) (up_last n (n + own)) ∙ (behind_name own ∙ (sym (up_last void (void + own)) ∙ ap (λ x. up void (void + own) x) (sym (ap name e ∙ naming.last))))))
  ]

  -- and back
  down : (v i : ℕ) → v ≤ void → i ≤ n + own → called_name i ≡ up void (void + own) v → (a : ℕ) × ((a ≤ n) × ((name a ≡ v) × (up n (n + own) a ≡ i)))
  down v i b l e = elim (cases_lt v void) [
    | inl c ↦ (let f : called_name i ≡ v = e ∙ up_front void (void + own) v c in
        let m : i < n = below_own i (subst (λ x. x < void) (sym f) c) in
        (i, ((let z : i ≤ n = omega (arith, m) in z), (sym (extended_front name n void i m) ∙ f, up_front n (n + own) i m))))
    | inr g ↦ (let z : v ≡ void = omega (arith, b, g) in
        let f : called_name i ≡ called_name (n + own) = e ∙ (ap (λ x. up void (void + own) x) z ∙ (up_last void (void + own) ∙ sym (behind_name own))) in
        let h : i ≡ n + own = called_one i (n + own) l (let c : n + own ≤ n + own = omega arith in c) f in
        (n, ((let c : n ≤ n = omega arith in c), (naming.last ∙ sym z, up_last n (n + own) ∙ sym h))))
  ]

  outside_up : (v : ℕ) → IsOutside name n void v → IsOutside called_name (n + own) (void + own) v
  outside_up v out = record {
    leaf = (let l = out.leaf in let c : v < void + own = omega (arith, l) in c);
    unnamed = λ i l e.
        let m : i < n = below_own i (subst (λ x. x < void) (sym e) out.leaf) in
        out.unnamed i (let c : i ≤ n = omega (arith, m) in c) (sym (extended_front name n void i m) ∙ e);
  }

  outside_down : (v : ℕ) → v < void → IsOutside called_name (n + own) (void + own) v → IsOutside name n void v
  outside_down v b out = record {
    leaf = b;
    unnamed = λ i l e.
        let m : i < n = less i l (subst (λ x. x < void) (sym e) b) in
        out.unnamed i (let c : i ≤ n + own = omega (arith, m) in c) (extended_front name n void i m ∙ e);
  }

  set_dropped : (S : ℕ → Type 0) (v : ℕ) → Spreads name n void (λ i. (i < n) × S i) v ↔ ((v < void) × Spreads called_name (n + own) (void + own) S v)
  set_dropped S v = (
    λ h. (
      subst (λ x. x < void) h.1.1 (naming.below h.0 h.1.2.0),
      (h.0, ((let m = h.1.2.0 in let c : h.0 ≤ n + own = omega (arith, m) in c), extended_front name n void h.0 h.1.2.0 ∙ h.1.1, h.1.2.1)),
    ),
    λ h.
        let m : h.1.0 < n = below_own h.1.0 (subst (λ x. x < void) (sym h.1.1.1) h.0) in
        (h.1.0, ((let c : h.1.0 ≤ n = omega (arith, m) in c), sym (extended_front name n void h.1.0 m) ∙ h.1.1.1, (m, h.1.1.2))),
  )

  module _ (R : ℕ → ℕ → Type 0) (c : Type 0) (v w : ℕ) where
    kept_there : SpreadsAll name n void (λ i j. ((i ≤ n) × (j ≤ n)) × R (up n (n + own) i) (up n (n + own) j)) c v w
        → ((v ≤ void) × (w ≤ void)) × SpreadsAll called_name (n + own) (void + own) R c (up void (void + own) v) (up void (void + own) w)
    kept_there (inl (i, (j, h))) = (
      (subst (λ x. x ≤ void) h.2 (most i h.0), subst (λ x. x ≤ void) h.3 (most j h.1)),
      inl (
        up n (n + own) i,
        (
          up n (n + own) j,
          (
            up_most i h.0,
            up_most j h.1,
            up_name i h.0 ∙ ap (λ x. up void (void + own) x) h.2,
            up_name j h.1 ∙ ap (λ x. up void (void + own) x) h.3,
            h.4.1,
          ),
        ),
      ),
    )
    kept_there (inr h) =
        let l : v ≤ void = (let b = h.0.leaf in let z : v ≤ void = omega (arith, b) in z) in (
          (l, subst (λ x. x ≤ void) h.2 l),
          inr (subst (λ x. IsOutside called_name (n + own) (void + own) x) (sym (up_front void (void + own) v h.0.leaf)) (outside_up v h.0), h.1, ap (λ x. up void (void + own) x) h.2),
        )

    kept_back : ((v ≤ void) × (w ≤ void)) × SpreadsAll called_name (n + own) (void + own) R c (up void (void + own) v) (up void (void + own) w)
        → SpreadsAll name n void (λ i j. ((i ≤ n) × (j ≤ n)) × R (up n (n + own) i) (up n (n + own) j)) c v w
    kept_back (b, inl (i, (j, h))) =
        let x = down v i b.0 h.0 h.2 in
        let y = down w j b.1 h.1 h.3 in
        inl (x.0, (y.0, (x.1.0, y.1.0, x.1.1.0, y.1.1.0, ((x.1.0, y.1.0), subst (λ z. R (up n (n + own) x.0) z) (sym y.1.1.1) (subst (λ z. R z j) (sym x.1.1.1) h.4)))))
    kept_back (b, inr h) = elim (cases_lt v void) [
      | inr g ↦ (let e : v ≡ void = omega (arith, b.0, g) in
          let z : up void (void + own) v ≡ void + own = ap (λ x. up void (void + own) x) e ∙ up_last void (void + own) in
          let l = h.0.leaf in absurd (omega (arith, z, l)))
      | inl l ↦ (elim (cases_lt w void) [
        | inl m ↦ inr (outside_down v l (subst (λ x. IsOutside called_name (n + own) (void + own) x) (up_front void (void + own) v l) h.0), h.1, sym (up_front void (void + own) v l) ∙ (h.2 ∙ up_front void (void + own) w m))
        | inr g ↦ (let e : w ≡ void = omega (arith, b.1, g) in
            let z : void + own ≡ v = sym (h.2 ∙ (ap (λ x. up void (void + own) x) e ∙ up_last void (void + own))) ∙ up_front void (void + own) v l in absurd (omega (arith, z, l)))
      ])
    ]

    dep_there : SpreadsAll name n void (λ i j. ((i < n) × (j < n)) × R i j) c v w → ((v < void) × (w < void)) × SpreadsAll called_name (n + own) (void + own) R c v w
    dep_there (inl (i, (j, h))) = (
      (subst (λ x. x < void) h.2 (naming.below i h.4.0.0), subst (λ x. x < void) h.3 (naming.below j h.4.0.1)),
      inl (
        i,
        (
          j,
          (
            (let m = h.4.0.0 in let z : i ≤ n + own = omega (arith, m) in z),
            (let m = h.4.0.1 in let z : j ≤ n + own = omega (arith, m) in z),
            extended_front name n void i h.4.0.0 ∙ h.2,
            extended_front name n void j h.4.0.1 ∙ h.3,
            h.4.1,
          ),
        ),
      ),
    )
    dep_there (inr h) = ((h.0.leaf, subst (λ x. x < void) h.2 h.0.leaf), inr (outside_up v h.0, h.1, h.2))

    dep_back : ((v < void) × (w < void)) × SpreadsAll called_name (n + own) (void + own) R c v w → SpreadsAll name n void (λ i j. ((i < n) × (j < n)) × R i j) c v w
    dep_back (b, inl (i, (j, h))) =
        let l : i < n = below_own i (subst (λ x. x < void) (sym h.2) b.0) in
        let m : j < n = below_own j (subst (λ x. x < void) (sym h.3) b.1) in
        inl (
          i,
          (
            j,
            (
              (let z : i ≤ n = omega (arith, l) in z),
              (let z : j ≤ n = omega (arith, m) in z),
              sym (extended_front name n void i l) ∙ h.2,
              sym (extended_front name n void j m) ∙ h.3,
              ((l, m), h.4),
            ),
          ),
        )
    dep_back (b, inr h) = inr (outside_down v b.0 h.0, h.1, h.2)

  dropped_spread : (f : Flow) → IsSame (spread name n void (dropped n (n + own) f)) (dropped void (void + own) (Called f))
  dropped_spread f = record {
    reads = set_dropped f.reads;
    writes = set_dropped f.writes;
    decides = set_dropped f.decides;
    can = λ o. (λ x. x, λ x. x);
    kept = λ o v w. (kept_there (f.kept o) (f.can o) v w, kept_back (f.kept o) (f.can o) v w);
    dep = λ o v w. (dep_there (f.dep o) (f.can o) v w, dep_back (f.dep o) (f.can o) v w);
  }

-- the whole call
pub calling_spread : (name place : ℕ → ℕ) (n void : ℕ) → IsNaming name place n void → (s : Signature)
    → ((k : ℕ) → (passing_at s k).first + (passing_at s k).ins ≤ length s.leaves) → ((k : ℕ) → (passing_at s k).first + (passing_at s k).backs ≤ length s.leaves)
    → (k : Summary) → ((f : ℕ) → k.reads f → k.leaves f) → ((f : ℕ) → k.writes f → k.leaves f) → ((f : ℕ) → k.keeps f → k.leaves f) → ((f g : ℕ) → k.depends f g → k.leaves f × k.leaves g)
    → ((f : ℕ) → k.leaves f → stands (λ v. v) void s.leaves f ≡ f → IsInside name place n f)
    → (list : Actuals) → ((v : ℕ) → names_of_actuals list v → IsInside name place n v)
    → IsSame (spread name n void (calling n place s k (renamed_actuals place list))) (calling void (λ v. v) s k list)
calling_spread name place n void naming s ins backs k reads writes keeps depends inside list names =
    let own = length s.leaves in
    let first = knowing (n + own) (stands place n s.leaves) k in
    let out = outs_spread name place n void own naming s backs list (leaving (n + own) Next) (leaving (void + own) Next) names (leaving_spread name place n void own naming) in
    let same : length s.leaves ≤ own = omega arith in
    let known = knowing_spread name place n void own naming s.leaves k same inside reads writes keeps depends in
    let bounded = knowing_bounded name place n void own naming s.leaves k same inside reads writes keeps depends in
    let rest = actuals_out n (n + own) s (renamed_actuals place list) (leaving (n + own) Next) in
    let both = same_through _ _ _
    (seq_spread (extended name n void) (extended place void n) (n + own) (void + own) (called_places name place n void own naming) (behind_name name place n void own naming own) first rest bounded)
    (seq_same _ _ _ _ known out (void + own)) in
    let parts = ins_spread name place n void own naming s ins list _ _ names both in
    same_through _ _ _ (dropped_spread name place n void own naming _) (dropped_same void (void + own) _ _ parts)
