-- The union of all rounds of a loop in closed form.
use Rattle.std.proofs.Common.{◌≡◌, ◌≢◌, ℕ, zero, suc, ◌⊎◌, ◌↔◌, inl, inr, refl, sym, ap, subst, arith}
use Rattle.core_form.specs.Code.{Outcome, Next, Leaves, Returns}
use Rattle.flow_facts.specs.Flow.{Flow, IsExit, IsNarrow, Splits, seq_can, inside, nowhere, seq, unrolling, loop, loop_can, IsSame}
use Rattle.flow_bits.specs.Sets.{Steps}

exit_inside : (o : Outcome) → IsExit (inside o)
exit_inside Next = tt
exit_inside (Leaves n) = tt
exit_inside Returns = tt

inside_one : (o p : Outcome) → inside o ≡ inside p → o ≡ p
inside_one Next Next e = refl
inside_one Next (Leaves n) e = cc
inside_one Next Returns e = cc
inside_one (Leaves n) Next e = cc
inside_one (Leaves n) (Leaves m) e = let z : n ≡ m = cc in ap Leaves z
inside_one (Leaves n) Returns e = cc
inside_one Returns Next e = cc
inside_one Returns (Leaves n) e = cc
inside_one Returns Returns e = refl

-- what the last round adds to what decides
abbrev pub LastDep : Flow → Outcome → ℕ → ℕ → Type 0
LastDep a o u w = a.dep (inside o) u w ⊎ ((a.can Next × a.can (inside o)) × (a.decides u × a.writes w))

-- all rounds at once
abbrev pub closed : Flow → Flow
closed a = record {
  reads = a.reads;
  writes = a.writes;
  decides = λ v. Splits (λ o. a.can (inside o)) × ((k : ℕ) × ((u : ℕ) × (Steps (a.dep Next) k v u × a.decides u)));
  can = λ o. a.can (inside o);
  kept = λ o v w. a.kept (inside o) v w ⊎ ((u : ℕ) × (a.kept Next v u × a.kept (inside o) u w));
  dep = λ o v w. (k : ℕ) × ((u : ℕ) × (Steps (a.dep Next) k v u × LastDep a o u w));
}

module _ (void : ℕ) (a : Flow) (h : IsNarrow void a) where
  rounds_can : (n : ℕ) (p : Outcome) → (unrolling void a n).can p → a.can p
  rounds_can zero p c = absurd c
  rounds_can (suc n) p (inl c) = c.1
  rounds_can (suc n) p (inr c) = rounds_can n p c.1

  rounds_writes : (n w : ℕ) → (unrolling void a n).writes w → a.writes w
  rounds_writes zero w c = absurd c
  rounds_writes (suc n) w (inl c) = c
  rounds_writes (suc n) w (inr c) = rounds_writes n w c.1

  rounds_reads : (n v : ℕ) → (unrolling void a n).reads v → a.reads v
  rounds_reads zero v c = absurd c
  rounds_reads (suc n) v (inl c) = c
  rounds_reads (suc n) v (inr (l, (w, (x, r)))) = elim (h Next v w x) [
    | inl e ↦ subst (λ z. a.reads z) (sym e) (rounds_reads n w r)
    | inr e ↦ absurd (l e)
  ]

  abbrev Kept : Outcome → ℕ → ℕ → Type 0
  Kept p v w = a.kept p v w ⊎ ((u : ℕ) × (a.kept Next v u × a.kept p u w))

  rounds_kept : (n : ℕ) (p : Outcome) (v w : ℕ) → (unrolling void a n).kept p v w → Kept p v w
  rounds_kept zero p v w c = absurd c
  rounds_kept (suc n) p v w (inl c) = inl c.1
  rounds_kept (suc n) p v w (inr (u, (x, c))) = behind (rounds_kept n p u w c)
    where
      again : (t : ℕ) → a.kept Next u t → a.kept p t w → (v ≡ u) ⊎ (v ≡ void) → (u ≡ t) ⊎ (u ≡ void) → Kept p v w
      again t y z (inl e) f = inr (t, (subst (λ s. a.kept Next s t) (sym e) y, z))
      again t y z (inr e) (inl f) = inr (u, (x, subst (λ s. a.kept p s w) (sym f) z))
      again t y z (inr e) (inr f) = inr (t, (subst (λ s. a.kept Next s t) (rw (e, f) refl) y, z))

      behind : Kept p u w → Kept p v w
      behind (inl z) = inr (u, (x, z))
      behind (inr (t, (y, z))) = again t y z (h Next v u x) (h Next u t y)

  abbrev Dep : Outcome → ℕ → ℕ → Type 0
  Dep o v w = (k : ℕ) × ((u : ℕ) × (Steps (a.dep Next) k v u × LastDep a o u w))

  rounds_dep : (n : ℕ) (o : Outcome) (v w : ℕ) → (unrolling void a n).dep (inside o) v w → Dep o v w
  rounds_dep zero o v w d = absurd d
  rounds_dep (suc n) o v w (inl d) = (zero, (v, (refl, inl d.1)))
  rounds_dep (suc n) o v w (inr (inl (m, (r, d)))) = let i = rounds_dep n o m w d in (suc i.0, (i.1.0, ((m, (r, i.1.1.0)), i.1.1.1)))
  rounds_dep (suc n) o v w (inr (inr (e, (x, y)))) = (zero, (v, (refl, inr ((e.2, e.1), (x, writes y)))))
    where
      writes : a.writes w ⊎ (unrolling void a n).writes w → a.writes w
      writes (inl c) = c
      writes (inr c) = rounds_writes n w c

  dep_rounds : (k : ℕ) (o : Outcome) (v u w : ℕ) → Steps (a.dep Next) k v u → LastDep a o u w → (n : ℕ) × (unrolling void a n).dep (inside o) v w
  dep_rounds zero o v u w e (inl d) = (suc zero, inl (exit_inside o, subst (λ x. a.dep (inside o) x w) (sym e) d))
  dep_rounds zero o v u w e (inr (c, (d, x))) =
      (suc (suc zero), inr (inr ((exit_inside o, c.1, c.0, inl (exit_inside o, c.1)), (subst (λ y. a.decides y) (sym e) d, inl x))))
  dep_rounds (suc k) o v u w (m, (r, s)) l = let i = dep_rounds k o m u w s l in (suc i.0, inr (inl (m, (r, i.1))))

  abbrev Decides : ℕ → Type 0
  Decides v = (k : ℕ) × ((u : ℕ) × (Steps (a.dep Next) k v u × a.decides u))

  rounds_decide : (n v : ℕ) → (unrolling void a n).decides v → Decides v
  rounds_decide zero v c = absurd c
  rounds_decide (suc n) v (s, inl c) = (zero, (v, (refl, c)))
  rounds_decide (suc n) v (s, inr (m, (r, c))) = let i = rounds_decide n m c in (suc i.0, (i.1.0, ((m, (r, i.1.1.0)), i.1.1.1)))

  abbrev SplitsInside : Type 0
  SplitsInside = Splits (λ o. a.can (inside o))

  -- two exits of the body are two outcomes of each round but none
  rounds_split : (n : ℕ) → SplitsInside → Splits (seq_can a (unrolling void a n))
  rounds_split n (o, p, e, c, d) = (inside o, inside p, λ i. e (inside_one o p i), inl (exit_inside o, c), inl (exit_inside p, d))

  decide_rounds : SplitsInside → (k v u : ℕ) → Steps (a.dep Next) k v u → a.decides u → (unrolling void a (suc k)).decides v
  decide_rounds s zero v u e c = (rounds_split zero s, inl (subst (λ x. a.decides x) (sym e) c))
  decide_rounds s (suc k) v u (m, (r, t)) c = (rounds_split (suc k) s, inr (m, (r, decide_rounds s k m u t c)))

  split_inside : Splits (loop_can void a) → SplitsInside
  split_inside (o, p, e, c, d) = (o, p, e, rounds_can c.0 (inside o) c.1, rounds_can d.0 (inside p) d.1)

  can_loop : (o : Outcome) → a.can (inside o) → loop_can void a o
  can_loop o c = (suc zero, inl (exit_inside o, c))

  split_loop : SplitsInside → Splits (loop_can void a)
  split_loop (o, p, e, c, d) = (o, p, e, can_loop o c, can_loop p d)

  kept_loop : (o : Outcome) (v w : ℕ) → Kept (inside o) v w → (n : ℕ) × (unrolling void a n).kept (inside o) v w
  kept_loop o v w (inl c) = (suc zero, inl (exit_inside o, c))
  kept_loop o v w (inr (u, (x, c))) = (suc (suc zero), inr (u, (x, inl (exit_inside o, c))))

  pub loop_closed : IsSame (closed a) (loop void a)
  loop_closed = record {
    reads = λ v. (λ c. (suc zero, inl c), λ c. rounds_reads c.0 v c.1);
    writes = λ v. (λ c. (suc zero, inl c), λ c. rounds_writes c.0 v c.1);
    decides = λ v. (λ c. (split_loop c.0, (suc c.1.0, decide_rounds c.0 c.1.0 v c.1.1.0 c.1.1.1.0 c.1.1.1.1)), λ c. (split_inside c.0, rounds_decide c.1.0 v c.1.1));
    can = λ o. (can_loop o, λ c. rounds_can c.0 (inside o) c.1);
    kept = λ o v w. (kept_loop o v w, λ c. rounds_kept c.0 (inside o) v w c.1);
    dep = λ o v w. (λ c. dep_rounds c.0 o v c.1.0 w c.1.1.0 c.1.1.1, λ c. rounds_dep c.0 o v w c.1);
  }
