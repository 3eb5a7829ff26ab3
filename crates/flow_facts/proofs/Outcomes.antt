-- From what holds at each outcome to the flow of a statement.
use Rattle.std.proofs.Common.{◌≡◌, ◌≢◌, ℕ, zero, suc, ◌+◌, ◌<◌, ◌≤◌, ◌∙◌, ◌⊎◌, ◌↔◌, inl, inr, Bool, true, false, List, [], ◌∷◌, ◌++◌, length, refl, sym, ap, subst, arith}
use Rattle.std.specs.Prelude.{All, IsTrue, slice_index_or, slice_set}
use Rattle.core_form.specs.Code.{Outcome, Next, Leaves, Returns}
use Rattle.flow_facts.specs.declared.facts.Facts.{Facts}
use Rattle.flow_facts.specs.declared.sides.Side.{Side}
use Rattle.flow_facts.specs.Flow.{Flow, IsExit, IsSame, Splits, branch, branch_can, changing, clearing, moving, seq, seq_can}
use Rattle.flow_bits.specs.Sets.{Has, Relates}
use Rattle.flow_facts.specs.Told.{IsBehind, IsThen, IsEither, IsRound, IsSideSized, AtEach, can_of, no_side, side_of, side_at, told, told_by}
use Rattle.std.proofs.lemmas.Bool.{cases_lt}
use Rattle.std.proofs.lemmas.List.{get_or_append_left, get_or_past, get_or_push, get_or-set_same, get_or-set_other, length_push}
use Rattle.std.proofs.lemmas.List.Elements.{All-get_or, All-from_get_or, All-set}
use Rattle.flow_facts.proofs.Within.{row_within}

pub by_outcome : (P : Outcome → Type 0) → P Next → P Returns → ((n : ℕ) → P (Leaves n)) → (o : Outcome) → P o
by_outcome P next back leaves Next = next
by_outcome P next back leaves (Leaves n) = leaves n
by_outcome P next back leaves Returns = back

-- outcomes that are reached alike are two alike
pub splits_same : (can more : Outcome → Type 0) → ((o : Outcome) → can o ↔ more o) → Splits can ↔ Splits more
splits_same can more h = (
  λ s. (s.0, s.1, s.2, (h s.0).0 s.3, (h s.1).0 s.4),
  λ s. (s.0, s.1, s.2, (h s.0).1 s.3, (h s.1).1 s.4),
)

-- which two outcomes are reached
pub splits_is : (next back : Side) (leaves : List Side)
    → ((IsTrue next.reached × IsTrue back.reached)
    ⊎ ((IsTrue next.reached × ((n : ℕ) × IsTrue (slice_index_or leaves n no_side).reached))
    ⊎ ((IsTrue back.reached × ((n : ℕ) × IsTrue (slice_index_or leaves n no_side).reached))
    ⊎ ((n : ℕ) × ((m : ℕ) × ((n ≢ m) × (IsTrue (slice_index_or leaves n no_side).reached × IsTrue (slice_index_or leaves m no_side).reached)))))))
    ↔ Splits (can_of next back leaves)
splits_is next back leaves = (there, back')
  where
    there : ((IsTrue next.reached × IsTrue back.reached)
        ⊎ ((IsTrue next.reached × ((n : ℕ) × IsTrue (slice_index_or leaves n no_side).reached))
        ⊎ ((IsTrue back.reached × ((n : ℕ) × IsTrue (slice_index_or leaves n no_side).reached))
        ⊎ ((n : ℕ) × ((m : ℕ) × ((n ≢ m) × (IsTrue (slice_index_or leaves n no_side).reached × IsTrue (slice_index_or leaves m no_side).reached))))))) → Splits (can_of next back leaves)
    there (inl (a, b)) = (Next, Returns, (λ e. cc), a, b)
    there (inr (inl (a, (n, b)))) = (Next, Leaves n, (λ e. cc), a, b)
    there (inr (inr (inl (a, (n, b))))) = (Returns, Leaves n, (λ e. cc), a, b)
    there (inr (inr (inr (n, (m, (d, (a, b))))))) = (Leaves n, Leaves m, (λ e. let z : n ≡ m = cc in d z), a, b)

    pairs : (o q : Outcome) → (o ≢ q) → can_of next back leaves o → can_of next back leaves q → (IsTrue next.reached × IsTrue back.reached)
        ⊎ ((IsTrue next.reached × ((n : ℕ) × IsTrue (slice_index_or leaves n no_side).reached))
        ⊎ ((IsTrue back.reached × ((n : ℕ) × IsTrue (slice_index_or leaves n no_side).reached))
        ⊎ ((n : ℕ) × ((m : ℕ) × ((n ≢ m) × (IsTrue (slice_index_or leaves n no_side).reached × IsTrue (slice_index_or leaves m no_side).reached))))))
    pairs Next Next d a b = absurd (d refl)
    pairs Next (Leaves n) d a b = inr (inl (a, (n, b)))
    pairs Next Returns d a b = inl (a, b)
    pairs (Leaves n) Next d a b = inr (inl (b, (n, a)))
    pairs (Leaves n) (Leaves m) d a b = inr (inr (inr (n, (m, ((λ e. d (ap Leaves e)), (a, b))))))
    pairs (Leaves n) Returns d a b = inr (inr (inl (b, (n, a))))
    pairs Returns Next d a b = inl (b, a)
    pairs Returns (Leaves n) d a b = inr (inr (inl (a, (n, b))))
    pairs Returns Returns d a b = absurd (d refl)

    back' : Splits (can_of next back leaves) → (IsTrue next.reached × IsTrue back.reached)
        ⊎ ((IsTrue next.reached × ((n : ℕ) × IsTrue (slice_index_or leaves n no_side).reached))
        ⊎ ((IsTrue back.reached × ((n : ℕ) × IsTrue (slice_index_or leaves n no_side).reached))
        ⊎ ((n : ℕ) × ((m : ℕ) × ((n ≢ m) × (IsTrue (slice_index_or leaves n no_side).reached × IsTrue (slice_index_or leaves m no_side).reached))))))
    back' s = pairs s.0 s.1 s.2 s.3 s.4

-- Lists of sides

-- one more that is not reached
pub pushed_none : (sides : List Side) (k : ℕ) → slice_index_or (sides ++ no_side ∷ []) k no_side ≡ slice_index_or sides k no_side
pushed_none [] zero = refl
pushed_none [] (suc k) = refl
pushed_none (s ∷ ss) zero = refl
pushed_none (s ∷ ss) (suc k) = pushed_none ss k

none_sized : (n : ℕ) → IsSideSized n no_side
none_sized n = record { kept = λ e. let z : false ≡ true = e in absurd (cc); dep = λ e. let z : false ≡ true = e in absurd (cc); no_kept = λ e. refl; no_dep = λ e. refl }

pub each_sized : (n : ℕ) (sides : List Side) → All (IsSideSized n) sides → (i : ℕ) → IsSideSized n (slice_index_or sides i no_side)
each_sized n sides h i = elim (cases_lt i (length sides)) [
  | inl l ↦ All-get_or (IsSideSized n) sides i no_side l h
  | inr g ↦ rw (get_or_past sides i no_side g) (none_sized n)
]

pub pushed_sized : (n : ℕ) (sides : List Side) → All (IsSideSized n) sides → All (IsSideSized n) (sides ++ no_side ∷ [])
pushed_sized n sides h = All-from_get_or (IsSideSized n) (sides ++ no_side ∷ []) no_side (λ i l. rw (pushed_none sides i) (each_sized n sides h i))

-- no pair is in no relation
pub no_pair : (v w : ℕ) → Relates [] v w → ⊥
no_pair v w r = absurd (omega (arith, row_within [] v w r))

-- behind so many that are not reached
pub last_only : (P : Side → Type 0) → (P no_side → ⊥) → (sides : List Side) (s : Side) (count : ℕ) → length sides ≡ count → ((k : ℕ) → slice_index_or sides k no_side ≡ no_side) → (n : ℕ) → P (slice_index_or (sides ++ s ∷ []) n no_side) ↔ ((n ≡ count) × P s)
last_only P none sides s count size all n = elim (cases_lt n count) [
  | inl l ↦ (
    λ h. absurd (none (subst P (get_or_append_left sides (s ∷ []) no_side n (omega arith) ∙ all n) h)),
    λ h. absurd (omega (arith, h.0)),
  )
  | inr g ↦ (elim (cases_lt count n) [
    | inl l ↦ (
      λ h. absurd (none (subst P (get_or_past (sides ++ s ∷ []) n no_side (let e = length_push sides s in omega arith)) h)),
      λ h. absurd (omega (arith, h.0)),
    )
    | inr m ↦ (let e : n ≡ count = omega arith in let at = get_or_push sides s no_side n (size ∙ sym e) in (λ h. (e, subst P at h), λ h. subst P (sym at) h.1))
  ])
]

-- what is told at an outcome is told where it is reached
pub reached_kept : (n : ℕ) (s : Side) → IsSideSized n s → (v w : ℕ) → Relates s.kept v w → IsTrue s.reached
reached_kept n s h v w r = cases s.reached refl
  where
    cases : (b : Bool) → s.reached ≡ b → IsTrue s.reached
    cases true e = e
    cases false e = absurd (no_pair v w (subst (λ rows. Relates rows v w) (h.no_kept e) r))

pub reached_dep : (n : ℕ) (s : Side) → IsSideSized n s → (v w : ℕ) → Relates s.dep v w → IsTrue s.reached
reached_dep n s h v w r = cases s.reached refl
  where
    cases : (b : Bool) → s.reached ≡ b → IsTrue s.reached
    cases true e = e
    cases false e = absurd (no_pair v w (subst (λ rows. Relates rows v w) (h.no_dep e) r))

-- one more place of a list is done
pub more_done : (R : ℕ → Side → Side → Type 0) (first old : List Side) (n : ℕ) (new : Side) → n < length old → ((k : ℕ) → k < n → R k (slice_index_or first k no_side) (slice_index_or old k no_side))
    → R n (slice_index_or first n no_side) new → (k : ℕ) → k < n + 1 → R k (slice_index_or first k no_side) (slice_index_or (slice_set old n new) k no_side)
more_done R first old n new within done here k l = elim (cases_lt k n) [
  | inl m ↦ rw (get_or-set_other old n k new no_side (λ e. let z : n < n = rw e at m in absurd (omega arith))) (done k m)
  | inr g ↦ (let e : k ≡ n = omega arith in rw e (rw (get_or-set_same old n new no_side within) here))
]

pub more_others : (first old : List Side) (n : ℕ) (new : Side) → ((k : ℕ) → n ≤ k → slice_index_or old k no_side ≡ slice_index_or first k no_side) → (k : ℕ) → n + 1 ≤ k → slice_index_or (slice_set old n new) k no_side ≡ slice_index_or first k no_side
more_others first old n new h k l = get_or-set_other old n k new no_side (λ e. absurd (omega arith)) ∙ h k (omega arith)

pub more_sized : (size : ℕ) (old : List Side) (n : ℕ) (new : Side) → All (IsSideSized size) old → IsSideSized size new → All (IsSideSized size) (slice_set old n new)
more_sized size old n new h s = All-set (IsSideSized size) old n new s h

-- what holds up to the end of a list holds of every place
pub at_each : (R : ℕ → Side → Side → Type 0) (old new : List Side) → length new ≡ length old → ((i : ℕ) → length old ≤ i → R i no_side no_side) → ((i : ℕ) → i < length old → R i (slice_index_or old i no_side) (slice_index_or new i no_side))
    → (i : ℕ) → R i (slice_index_or old i no_side) (slice_index_or new i no_side)
at_each R old new e past done i = elim (cases_lt i (length old)) [
  | inl l ↦ done i l
  | inr g ↦ (let m : length new ≤ i = omega arith in rw (get_or_past old i no_side g, get_or_past new i no_side m) (past i g))
]

pub behind_none : (first : Flow) → IsBehind first no_side no_side
behind_none first = record {
  reached = refl;
  kept = λ v w. (λ r. absurd (no_pair v w r), λ r. absurd (no_pair r.0 w r.1.1));
  dep = λ v w. (λ r. absurd (no_pair v w r), λ r. absurd (no_pair r.0 w r.1.1));
}

pub then_none : (next : Side) (decides writes : List Bool) → IsThen no_side next decides writes no_side no_side
then_none next decides writes = record {
  reached = (λ r. inl r, λ r. elim r [ inl x ↦ x | inr x ↦ x.1 ]);
  kept = λ v w. (λ r. inl r, λ r. elim r [ inl x ↦ x | inr x ↦ absurd (no_pair x.0 w x.1.1) ]);
  dep = λ v w. (λ r. inl r, λ r. elim r [ inl x ↦ x | inr x ↦ (elim x [ inl y ↦ absurd (no_pair y.0 w y.1.1) | inr y ↦ (let z : false ≡ true = y.0.0 in absurd (cc)) ]) ]);
}

pub either_none : (test writes : List Bool) → IsEither no_side test writes no_side no_side
either_none test writes = record {
  reached = (λ r. inl r, λ r. elim r [ inl x ↦ x | inr x ↦ x ]);
  kept = λ v w. (λ r. inl r, λ r. elim r [ inl x ↦ x | inr x ↦ x ]);
  dep = λ v w. (λ r. inl (inl r), λ r. elim r [ inl x ↦ (elim x [ inl y ↦ y | inr y ↦ y ]) | inr x ↦ (elim x.0 [ inl y ↦ (let z : false ≡ true = y in absurd (cc)) | inr y ↦ (let z : false ≡ true = y in absurd (cc)) ]) ]);
}

pub round_none : (next : Side) (star : List (List Bool)) (decides writes : List Bool) → IsRound next star decides writes no_side no_side
round_none next star decides writes = record {
  reached = refl;
  kept = λ v w. (λ r. inl r, λ r. elim r [ inl x ↦ x | inr x ↦ absurd (no_pair x.0 w x.1.1) ]);
  dep = λ v w. (λ r. absurd (no_pair v w r), λ r. elim r.1.1 [ inl x ↦ absurd (no_pair r.0 w x) | inr x ↦ (let z : false ≡ true = x.0.1 in absurd (cc)) ]);
}

-- One statement, and then another

module _ (void : ℕ) (a rest : Facts) (writes new_reads new_decides : List Bool) (new_next new_back : Side) (new_leaves : List Side)
    (next : IsThen no_side a.next a.decides writes rest.next new_next)
    (back : IsThen a.back a.next a.decides writes rest.back new_back)
    (leaves : (n : ℕ) → IsThen (slice_index_or a.leaves.items n no_side) a.next a.decides writes (slice_index_or rest.leaves.items n no_side) (slice_index_or new_leaves n no_side))
    (told_writes : (v : ℕ) → Has writes v ↔ (seq void (told a) (told rest)).writes v) where
  abbrev new : Flow
  new = told_by new_reads writes new_decides new_next new_back new_leaves

  pub then_can : (o : Outcome) → new.can o ↔ seq_can (told a) (told rest) o
  then_can Next = grind (arith, next.reached)
  then_can (Leaves n) = grind (arith, (leaves n).reached)
  then_can Returns = grind (arith, back.reached)

  pub then_kept : (o : Outcome) (v w : ℕ) → new.kept o v w ↔ (seq void (told a) (told rest)).kept o v w
  then_kept Next v w = grind (arith, next.kept v w)
  then_kept (Leaves n) v w = grind (arith, (leaves n).kept v w)
  then_kept Returns v w = grind (arith, back.kept v w)

  pub then_dep : (o : Outcome) (v w : ℕ) → new.dep o v w ↔ (seq void (told a) (told rest)).dep o v w
  then_dep Next v w = grind (arith, next.dep v w, told_writes w)
  then_dep (Leaves n) v w = grind (arith, (leaves n).dep v w, told_writes w)
  then_dep Returns v w = grind (arith, back.dep v w, told_writes w)

  pub then_same : ((v : ℕ) → Has new_reads v ↔ (seq void (told a) (told rest)).reads v)
      → (D : ℕ → Type 0) → ((v : ℕ) → D v ↔ (Has a.decides v ⊎ ((w : ℕ) × (Relates a.next.dep v w × Has rest.decides w)))) → ((v : ℕ) → Has new_decides v ↔ (Splits new.can × D v))
      → IsSame new (seq void (told a) (told rest))
  then_same reads D d decides = record {
    reads = reads;
    writes = told_writes;
    decides = λ v.
        let split = splits_same new.can (seq_can (told a) (told rest)) then_can in
        (λ x. (let y = (decides v).0 x in (split.0 y.0, (d v).0 y.1)), λ x. (decides v).1 (split.1 x.0, (d v).1 x.1));
    can = then_can;
    kept = then_kept;
    dep = then_dep;
  }

-- One branch or another

module _ (a b : Facts) (test writes new_reads new_decides : List Bool) (new_next new_back : Side) (new_leaves : List Side)
    (next : IsEither b.next test writes a.next new_next)
    (back : IsEither b.back test writes a.back new_back)
    (leaves : (n : ℕ) → IsEither (slice_index_or b.leaves.items n no_side) test writes (slice_index_or a.leaves.items n no_side) (slice_index_or new_leaves n no_side))
    (told_writes : (v : ℕ) → Has writes v ↔ (Has a.writes v ⊎ Has b.writes v)) where
  abbrev branched : Flow
  branched = told_by new_reads writes new_decides new_next new_back new_leaves

  pub either_can : (o : Outcome) → branched.can o ↔ branch_can (told a) (told b) o
  either_can Next = grind (arith, next.reached)
  either_can (Leaves n) = grind (arith, (leaves n).reached)
  either_can Returns = grind (arith, back.reached)

  pub either_kept : (o : Outcome) (v w : ℕ) → branched.kept o v w ↔ (branch (Has test) (told a) (told b)).kept o v w
  either_kept Next v w = grind (arith, next.kept v w)
  either_kept (Leaves n) v w = grind (arith, (leaves n).kept v w)
  either_kept Returns v w = grind (arith, back.kept v w)

  pub either_dep : (o : Outcome) (v w : ℕ) → branched.dep o v w ↔ (branch (Has test) (told a) (told b)).dep o v w
  either_dep Next v w = grind (arith, next.dep v w, told_writes w)
  either_dep (Leaves n) v w = grind (arith, (leaves n).dep v w, told_writes w)
  either_dep Returns v w = grind (arith, back.dep v w, told_writes w)

  pub either_same : ((v : ℕ) → Has new_reads v ↔ (branch (Has test) (told a) (told b)).reads v)
      → (D : ℕ → Type 0) → ((v : ℕ) → D v ↔ (Has test v ⊎ (Has a.decides v ⊎ Has b.decides v))) → ((v : ℕ) → Has new_decides v ↔ (Splits branched.can × D v))
      → IsSame branched (branch (Has test) (told a) (told b))
  either_same reads D d decides = record {
    reads = reads;
    writes = told_writes;
    decides = λ v.
        let split = splits_same branched.can (branch_can (told a) (told b)) either_can in
        (λ x. (let y = (decides v).0 x in (split.0 y.0, (d v).0 y.1)), λ x. (decides v).1 (split.1 x.0, (d v).1 x.1));
    can = either_can;
    kept = either_kept;
    dep = either_dep;
  }

-- A statement that goes on alone

pub record GoesOn (first : Flow) : Type 0 where
  pub next : first.can Next
  pub can : (o : Outcome) → first.can o → o ≡ Next
  pub kept : (o : Outcome) (v w : ℕ) → first.kept o v w → o ≡ Next
  pub dep : (o : Outcome) (v w : ℕ) → first.dep o v w → o ≡ Next
  pub decides : (v : ℕ) → first.decides v → ⊥

no_exit : (o : Outcome) → o ≡ Next → IsExit o → ⊥
no_exit o e x = rw e at x

module _ (void : ℕ) (first : Flow) (g : GoesOn first) (old : Facts) (new_reads new_writes new_decides : List Bool) (new_next new_back : Side) (new_leaves : List Side) (h : (o : Outcome) → IsBehind first (side_at old o) (side_of new_next new_back new_leaves o)) where
  abbrev stepped : Flow
  stepped = told_by new_reads new_writes new_decides new_next new_back new_leaves

  pub step_can : (o : Outcome) → stepped.can o ↔ seq_can first (told old) o
  step_can o = (
    λ x. inr (g.next, subst (λ (b : Bool). IsTrue b) (h o).reached x),
    λ x. elim x [ inl y ↦ absurd (no_exit o (g.can o y.1) y.0) | inr y ↦ subst (λ (b : Bool). IsTrue b) (sym (h o).reached) y.1 ],
  )

  pub step_kept : (o : Outcome) (v w : ℕ) → stepped.kept o v w ↔ (seq void first (told old)).kept o v w
  step_kept o v w = (
    λ x. inr (((h o).kept v w).0 x),
    λ x. elim x [ inl y ↦ absurd (no_exit o (g.kept o v w y.1) y.0) | inr y ↦ ((h o).kept v w).1 y ],
  )

  pub step_dep : (o : Outcome) (v w : ℕ) → stepped.dep o v w ↔ (seq void first (told old)).dep o v w
  step_dep o v w = (
    λ x. inr (inl (((h o).dep v w).0 x)),
    λ x. elim x [
      | inl y ↦ absurd (no_exit o (g.dep o v w y.1) y.0)
      | inr y ↦ (elim y [ inl z ↦ ((h o).dep v w).1 z | inr z ↦ absurd (g.decides v z.1.0) ])
    ],
  )

  -- what decides behind it
  pub step_decides : (D : ℕ → Type 0) → ((v : ℕ) → D v ↔ ((w : ℕ) × (first.dep Next v w × (Splits (told old).can × Has old.decides w)))) → (v : ℕ) → D v ↔ (seq void first (told old)).decides v
  step_decides D d v = (
    λ x. (let y = (d v).0 x in ((splits_same stepped.can (seq_can first (told old)) step_can).0 ((splits_same (told old).can stepped.can alike).0 y.1.1.0), inr (y.0, (y.1.0, y.1.1.1)))),
    λ x. elim x.1 [
      | inl y ↦ absurd (g.decides v y)
      | inr y ↦ (d v).1 (y.0, (y.1.0, ((splits_same (told old).can stepped.can alike).1 ((splits_same stepped.can (seq_can first (told old)) step_can).1 x.0), y.1.1)))
    ],
  )
    where
      alike : (o : Outcome) → (told old).can o ↔ stepped.can o
      alike o = (λ x. subst (λ (b : Bool). IsTrue b) (sym (h o).reached) x, λ x. subst (λ (b : Bool). IsTrue b) (h o).reached x)

  pub prepend_same : ((v : ℕ) → Has new_reads v ↔ (seq void first (told old)).reads v) → ((v : ℕ) → Has new_writes v ↔ (seq void first (told old)).writes v)
      → (chosen : ℕ → Type 0) → ((v : ℕ) → chosen v ↔ (Splits (told old).can × Has old.decides v)) → ((v : ℕ) → Has new_decides v ↔ ((w : ℕ) × (first.dep Next v w × chosen w)))
      → IsSame stepped (seq void first (told old))
  prepend_same reads writes chosen c d = record {
    reads = reads;
    writes = writes;
    decides = λ v. step_decides (λ u. Has new_decides u) (λ u. (λ x. (let y = (d u).0 x in (y.0, (y.1.0, (c y.0).0 y.1.1))), λ x. (d u).1 (x.0, (x.1.0, (c x.0).1 x.1.1)))) v;
    can = step_can;
    kept = step_kept;
    dep = step_dep;
  }

pub moving_goes : (void x : ℕ) (from : ℕ → Type 0) → GoesOn (moving void x from)
moving_goes void x from = record { next = refl; can = λ o e. e; kept = λ o v w k. k.0; dep = λ o v w d. d.0; decides = λ v d. d }

pub changing_goes : (void x : ℕ) (from : ℕ → Type 0) → GoesOn (changing void x from)
changing_goes void x from = record { next = refl; can = λ o e. e; kept = λ o v w k. k.0; dep = λ o v w d. d.0; decides = λ v d. d }

pub clearing_goes : (void x : ℕ) → GoesOn (clearing void x)
clearing_goes void x = record { next = refl; can = λ o e. e; kept = λ o v w k. k.0; dep = λ o v w d. d.0; decides = λ v d. d }
