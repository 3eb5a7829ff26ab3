-- From what holds at each outcome behind any number of rounds to the flow of a loop.
use Rattle.std.proofs.Common.{◌≡◌, ℕ, zero, suc, ◌+◌, ◌<◌, ◌⊎◌, ◌↔◌, inl, inr, Bool, true, false, List, [], length, refl, sym, subst, arith, add-one}
use Rattle.std.specs.Prelude.{IsTrue, slice_index_or}
use Rattle.core_form.specs.Code.{Outcome, Next, Leaves, Returns}
use Rattle.flow_facts.specs.declared.facts.Facts.{Facts}
use Rattle.flow_facts.specs.declared.sides.Side.{Side}
use Rattle.flow_facts.specs.Flow.{Flow, IsNarrow, IsSame, Splits, inside, loop}
use Rattle.flow_bits.specs.Sets.{Has, Relates, Steps}
use Rattle.flow_facts.specs.Told.{IsRound, IsSideSized, AreSized, AtEach, no_side, side_at, side_of, told, told_by}
use Rattle.flow_facts.proofs.Within.{has_within, row_within}
use Rattle.flow_facts.proofs.Loops.{closed, loop_closed}
use Rattle.flow_facts.proofs.Same.{same_through}
use Rattle.flow_facts.proofs.Outcomes.{each_sized, splits_same}

-- a pair of a side begins below the size
side_within : (n : ℕ) (s : Side) → IsSideSized n s → (v w : ℕ) → Relates s.dep v w → v < n
side_within n s h v w r = cases s.reached refl
  where
    cases : (b : Bool) → s.reached ≡ b → v < n
    cases true e = omega (arith, h.dep e, row_within s.dep v w r)
    cases false e = absurd (nothing (subst (λ rows. Relates rows v w) (h.no_dep e) r))
      where
        nothing : Relates [] v w → ⊥
        nothing x = absurd (omega (arith, row_within [] v w x))

-- the star read over its numbers alone
pub star_back : (n : ℕ) (R star S : ℕ → ℕ → Type 0) → ((v w : ℕ) → star v w ↔ ((v < n) × ((k : ℕ) × Steps R k v w))) → ((v w : ℕ) → R v w → v < n) → ((u w : ℕ) → S u w → u < n) → (v w : ℕ)
    → ((u : ℕ) × (star v u × S u w)) ↔ ((k : ℕ) × ((u : ℕ) × (Steps R k v u × S u w)))
star_back n R star S is below start v w = (
  λ x. (let s = (is v x.0).0 x.1.0 in (s.1.0, (x.0, (s.1.1, x.1.1)))),
  λ x. (x.1.0, ((is v x.1.0).1 (begins x.0 x.1.0 x.1.1.0 x.1.1.1, (x.0, x.1.1.0)), x.1.1.1)),
)
  where
    begins : (k u : ℕ) → Steps R k v u → S u w → v < n
    begins zero u e s = subst (λ z. z < n) (sym e) (start u w s)
    begins (suc k) u t s = below v t.0 t.1.0

module _ (void n : ℕ) (old : Facts) (new_decides : List Bool) (new_next new_back : Side) (new_leaves : List Side) (sized : AreSized n old) (star : List (List Bool))
    (star_is : (v w : ℕ) → Relates star v w ↔ ((v < n) × ((k : ℕ) × Steps (Relates old.next.dep) k v w)))
    (mid : List Side) (each : AtEach (IsRound old.next star old.decides old.writes) old.leaves.items mid)
    (first : new_next ≡ slice_index_or mid 0 no_side) (others : (i : ℕ) → slice_index_or new_leaves i no_side ≡ slice_index_or mid (i + 1) no_side)
    (back : IsRound old.next star old.decides old.writes old.back new_back) where
  abbrev new : Flow
  new = told_by old.reads old.writes new_decides new_next new_back new_leaves

  abbrev Round : Side → Side → Type 0
  Round a b = IsRound old.next star old.decides old.writes a b

  rounds : (o : Outcome) → Round (side_at old (inside o)) (side_of new_next new_back new_leaves o)
  rounds Next = subst (λ s. Round (slice_index_or old.leaves.items 0 no_side) s) (sym first) (each 0)
  rounds (Leaves i) = subst (λ s. Round (slice_index_or old.leaves.items (suc i) no_side) s) (sym (others i)) (rw add-one (each (suc i)))
  rounds Returns = back

  alike : (o : Outcome) → new.can o ↔ (closed (told old)).can o
  alike o = (λ x. subst (λ (b : Bool). IsTrue b) (rounds o).reached x, λ x. subst (λ (b : Bool). IsTrue b) (sym (rounds o).reached) x)

  abbrev Last : Outcome → ℕ → ℕ → Type 0
  Last o u w = Relates (side_at old (inside o)).dep u w ⊎ ((IsTrue old.next.reached × IsTrue (side_at old (inside o)).reached) × (Has old.decides u × Has old.writes w))

  side_sized : (o : Outcome) → IsSideSized n (side_at old o)
  side_sized Next = sized.next
  side_sized Returns = sized.back
  side_sized (Leaves i) = each_sized n old.leaves.items sized.leaves i

  last_within : (o : Outcome) (u w : ℕ) → Last o u w → u < n
  last_within o u w (inl r) = side_within n (side_at old (inside o)) (side_sized (inside o)) u w r
  last_within o u w (inr x) = omega (arith, sized.decides, has_within old.decides u x.1.0)

  pub round_same : (D : ℕ → Type 0) → IsNarrow void (told old)
      → ((v : ℕ) → D v ↔ ((u : ℕ) × (Relates star v u × Has old.decides u))) → ((v : ℕ) → Has new_decides v ↔ (Splits new.can × D v))
      → IsSame new (loop void (told old))
  round_same D narrow d decides = same_through _ _ _ (record {
    reads = λ v. (λ x. x, λ x. x);
    writes = λ v. (λ x. x, λ x. x);
    decides = λ v.
        let back = star_back n (Relates old.next.dep) (Relates star) (λ u w. Has old.decides u) star_is (side_within n old.next sized.next) (λ u w h. omega (arith, sized.decides, has_within old.decides u h)) v 0 in
        let split = splits_same new.can (closed (told old)).can alike in (
          λ x. (let y = (decides v).0 x in (split.0 y.0, back.0 ((d v).0 y.1))),
          λ x. (decides v).1 (split.1 x.0, (d v).1 (back.1 x.1)),
        );
    can = alike;
    kept = λ o v w. (rounds o).kept v w;
    dep = λ o v w.
        let back = star_back n (Relates old.next.dep) (Relates star) (Last o) star_is (side_within n old.next sized.next) (last_within o) v w in
        let r = (rounds o).dep v w in
        (λ x. back.0 (r.0 x), λ x. r.1 (back.1 x));
  }) (loop_closed void (told old) narrow)

-- the same steps
pub steps_same : (R S : ℕ → ℕ → Type 0) → ((v w : ℕ) → R v w ↔ S v w) → (n v w : ℕ) → Steps R n v w ↔ Steps S n v w
steps_same R S h zero v w = (λ e. e, λ e. e)
steps_same R S h (suc n) v w = (λ x. (x.0, ((h v x.0).0 x.1.0, (steps_same R S h n x.0 w).0 x.1.1)), λ x. (x.0, ((h v x.0).1 x.1.0, (steps_same R S h n x.0 w).1 x.1.1)))
