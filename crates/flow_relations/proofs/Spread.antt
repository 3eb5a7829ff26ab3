-- A flow of numbers as one of names: one to one, this goes with each rule.
use Rattle.std.proofs.Common.{◌≡◌, ℕ, zero, suc, ◌≤◌, ◌⊎◌, ◌↔◌, inl, inr, refl, sym, ap, subst, ◌∙◌, arith}
use Rattle.core_form.specs.Code.{Outcome, Next}
use Rattle.flow_facts.specs.Flow.{Flow, IsSame, Splits, loop_can, inside, nowhere, seq, branch, unrolling, loop}
use Rattle.flow_relations.specs.Framing.{Spreads, SpreadsAll, spread}
use Rattle.flow_facts.proofs.Same.{same_itself, same_through, seq_same}

-- what is written or related is a number
pub record IsBounded (n : ℕ) (f : Flow) : Type 0 where
  pub writes : (i : ℕ) → f.writes i → i ≤ n
  pub kept : (o : Outcome) (i j : ℕ) → f.kept o i j → j ≤ n
  pub dep : (o : Outcome) (i j : ℕ) → f.dep o i j → j ≤ n

module _ (name place : ℕ → ℕ) (n void : ℕ) (places : (i : ℕ) → i ≤ n → place (name i) ≡ i) (last : name n ≡ void) where
  one : (i j : ℕ) → i ≤ n → j ≤ n → name i ≡ name j → i ≡ j
  one i j l m e = sym (places i l) ∙ (ap place e ∙ places j m)

  -- Relations one after another

  module _ (R S : ℕ → ℕ → Type 0) (c d : Type 0) (bounded : (i j : ℕ) → R i j → j ≤ n) (v w : ℕ) where
    abbrev Through : ℕ → ℕ → Type 0
    Through i j = (u : ℕ) × (R i u × S u j)

    through_all : ((x : ℕ) × (SpreadsAll name n void R c v x × SpreadsAll name n void S d x w)) → SpreadsAll name n void Through (c × d) v w
    through_all (x, (inl a, inl b)) =
        let e : a.1.0 ≡ b.0 = one a.1.0 b.0 a.1.1.1 b.1.1.0 (a.1.1.3 ∙ sym b.1.1.2) in
        inl (a.0, (b.1.0, (a.1.1.0, b.1.1.1, a.1.1.2, b.1.1.3, (a.1.0, (a.1.1.4, subst (λ u. S u b.1.0) (sym e) b.1.1.4)))))
    through_all (x, (inl a, inr b)) = absurd (b.0.unnamed a.1.0 a.1.1.1 a.1.1.3)
    through_all (x, (inr a, inl b)) = absurd (a.0.unnamed b.0 b.1.1.0 (b.1.1.2 ∙ sym a.2))
    through_all (x, (inr a, inr b)) = inr (a.0, (a.1, b.1), a.2 ∙ b.2)

    all_through : SpreadsAll name n void Through (c × d) v w → (x : ℕ) × (SpreadsAll name n void R c v x × SpreadsAll name n void S d x w)
    all_through (inl (i, (j, h))) =
        let u = h.4.0 in
        let l = bounded i u h.4.1.0 in
        (name u, (inl (i, (u, (h.0, l, h.2, refl, h.4.1.0))), inl (u, (j, (l, h.1, refl, h.3, h.4.1.1)))))
    all_through (inr h) = (v, (inr (h.0, h.1.0, refl), inr (h.0, h.1.1, h.2)))

  -- what leads to a set
  module _ (R : ℕ → ℕ → Type 0) (S : ℕ → Type 0) (c : Type 0) (bounded : (i j : ℕ) → R i j → j ≤ n) (v : ℕ) where
    abbrev LeadsTo : ℕ → Type 0
    LeadsTo i = (u : ℕ) × (R i u × S u)

    leads_all : ((x : ℕ) × (SpreadsAll name n void R c v x × Spreads name n void S x)) → Spreads name n void LeadsTo v
    leads_all (x, (inl a, b)) =
        let e : a.1.0 ≡ b.0 = one a.1.0 b.0 a.1.1.1 b.1.0 (a.1.1.3 ∙ sym b.1.1) in
        (a.0, (a.1.1.0, a.1.1.2, (a.1.0, (a.1.1.4, subst S (sym e) b.1.2))))
    leads_all (x, (inr a, b)) = absurd (a.0.unnamed b.0 b.1.0 (b.1.1 ∙ sym a.2))

    all_leads : Spreads name n void LeadsTo v → (x : ℕ) × (SpreadsAll name n void R c v x × Spreads name n void S x)
    all_leads (i, h) =
        let u = h.2.0 in
        let l = bounded i u h.2.1.0 in
        (name u, (inl (i, (u, (h.0, l, h.1, refl, h.2.1.0))), (u, (l, refl, h.2.1.1))))

  -- One statement, and then another

  module _ (a b : Flow) (bounded : IsBounded n a) where
    seq_reads : (v : ℕ) → (spread name n void (seq n a b)).reads v ↔ (seq void (spread name n void a) (spread name n void b)).reads v
    seq_reads v = (there, back)
      where
        there : (spread name n void (seq n a b)).reads v → (seq void (spread name n void a) (spread name n void b)).reads v
        there (i, (l, e, inl r)) = inl (i, (l, e, r))
        there (i, (l, e, inr r)) = inr (
          (λ z. r.0 (one i n l (omega arith) (e ∙ (z ∙ sym last)))),
          all_leads (a.kept Next) b.reads (a.can Next) (bounded.kept Next) v (i, (l, e, r.1)),
        )

        back : (seq void (spread name n void a) (spread name n void b)).reads v → (spread name n void (seq n a b)).reads v
        back (inl r) = (r.0, (r.1.0, r.1.1, inl r.1.2))
        back (inr r) =
            let s = leads_all (a.kept Next) b.reads (a.can Next) (bounded.kept Next) v r.1 in
            (s.0, (s.1.0, s.1.1, inr ((λ z. r.0 (sym s.1.1 ∙ (ap name z ∙ last))), s.1.2)))

    seq_writes : (v : ℕ) → (spread name n void (seq n a b)).writes v ↔ (seq void (spread name n void a) (spread name n void b)).writes v
    seq_writes v = (
      λ h. elim h.1.2 [ inl r ↦ inl (h.0, (h.1.0, h.1.1, r)) | inr r ↦ inr (r.0, (h.0, (h.1.0, h.1.1, r.1))) ],
      λ h. elim h [ inl r ↦ (r.0, (r.1.0, r.1.1, inl r.1.2)) | inr r ↦ (r.1.0, (r.1.1.0, r.1.1.1, inr (r.0, r.1.1.2))) ],
    )

    seq_decides : (v : ℕ) → (spread name n void (seq n a b)).decides v ↔ (seq void (spread name n void a) (spread name n void b)).decides v
    seq_decides v = (there, back)
      where
        there : (spread name n void (seq n a b)).decides v → (seq void (spread name n void a) (spread name n void b)).decides v
        there (i, (l, e, (s, inl r))) = (s, inl (i, (l, e, r)))
        there (i, (l, e, (s, inr r))) = (s, inr (all_leads (a.dep Next) b.decides (a.can Next) (bounded.dep Next) v (i, (l, e, r))))

        back : (seq void (spread name n void a) (spread name n void b)).decides v → (spread name n void (seq n a b)).decides v
        back (s, inl r) = (r.0, (r.1.0, r.1.1, (s, inl r.1.2)))
        back (s, inr r) = let t = leads_all (a.dep Next) b.decides (a.can Next) (bounded.dep Next) v r in (t.0, (t.1.0, t.1.1, (s, inr t.1.2)))

    seq_kept : (o : Outcome) (v w : ℕ) → (spread name n void (seq n a b)).kept o v w ↔ (seq void (spread name n void a) (spread name n void b)).kept o v w
    seq_kept o v w = (there, back)
      where
        there : (spread name n void (seq n a b)).kept o v w → (seq void (spread name n void a) (spread name n void b)).kept o v w
        there (inl (i, (j, (l, m, e, f, inl r)))) = inl (r.0, inl (i, (j, (l, m, e, f, r.1))))
        there (inl (i, (j, (l, m, e, f, inr r)))) = inr (all_through (a.kept Next) (b.kept o) (a.can Next) (b.can o) (bounded.kept Next) v w (inl (i, (j, (l, m, e, f, r)))))
        there (inr (out, inl c, e)) = inl (c.0, inr (out, c.1, e))
        there (inr (out, inr c, e)) = inr (all_through (a.kept Next) (b.kept o) (a.can Next) (b.can o) (bounded.kept Next) v w (inr (out, c, e)))

        behind : SpreadsAll name n void (λ i j. (u : ℕ) × (a.kept Next i u × b.kept o u j)) (a.can Next × b.can o) v w → (spread name n void (seq n a b)).kept o v w
        behind (inl (i, (j, h))) = inl (i, (j, (h.0, h.1, h.2, h.3, inr h.4)))
        behind (inr h) = inr (h.0, inr h.1, h.2)

        back : (seq void (spread name n void a) (spread name n void b)).kept o v w → (spread name n void (seq n a b)).kept o v w
        back (inl (x, inl (i, (j, h)))) = inl (i, (j, (h.0, h.1, h.2, h.3, inl (x, h.4))))
        back (inl (x, inr h)) = inr (h.0, inl (x, h.1), h.2)
        back (inr r) = behind (through_all (a.kept Next) (b.kept o) (a.can Next) (b.can o) (bounded.kept Next) v w r)

    seq_dep : (o : Outcome) (v w : ℕ) → (spread name n void (seq n a b)).dep o v w ↔ (seq void (spread name n void a) (spread name n void b)).dep o v w
    seq_dep o v w = (there, back)
      where
        there : (spread name n void (seq n a b)).dep o v w → (seq void (spread name n void a) (spread name n void b)).dep o v w
        there (inl (i, (j, (l, m, e, f, inl r)))) = inl (r.0, inl (i, (j, (l, m, e, f, r.1))))
        there (inl (i, (j, (l, m, e, f, inr (inl r))))) = inr (inl (all_through (a.dep Next) (b.dep o) (a.can Next) (b.can o) (bounded.dep Next) v w (inl (i, (j, (l, m, e, f, r))))))
        there (inl (i, (j, (l, m, e, f, inr (inr (c, (x, inl y))))))) = inr (inr (c, ((i, (l, e, x)), inl (j, (m, f, y)))))
        there (inl (i, (j, (l, m, e, f, inr (inr (c, (x, inr y))))))) = inr (inr (c, ((i, (l, e, x)), inr (j, (m, f, y)))))
        there (inr (out, inl c, e)) = inl (c.0, inr (out, c.1, e))
        there (inr (out, inr c, e)) = inr (inl (all_through (a.dep Next) (b.dep o) (a.can Next) (b.can o) (bounded.dep Next) v w (inr (out, c, e))))

        behind : SpreadsAll name n void (λ i j. (u : ℕ) × (a.dep Next i u × b.dep o u j)) (a.can Next × b.can o) v w → (spread name n void (seq n a b)).dep o v w
        behind (inl (i, (j, h))) = inl (i, (j, (h.0, h.1, h.2, h.3, inr (inl h.4))))
        behind (inr h) = inr (h.0, inr h.1, h.2)

        back : (seq void (spread name n void a) (spread name n void b)).dep o v w → (spread name n void (seq n a b)).dep o v w
        back (inl (x, inl (i, (j, h)))) = inl (i, (j, (h.0, h.1, h.2, h.3, inl (x, h.4))))
        back (inl (x, inr h)) = inr (h.0, inl (x, h.1), h.2)
        back (inr (inl r)) = behind (through_all (a.dep Next) (b.dep o) (a.can Next) (b.can o) (bounded.dep Next) v w r)
        back (inr (inr (c, (x, inl y)))) = inl (x.0, (y.0, (x.1.0, y.1.0, x.1.1, y.1.1, inr (inr (c, (x.1.2, inl y.1.2))))))
        back (inr (inr (c, (x, inr y)))) = inl (x.0, (y.0, (x.1.0, y.1.0, x.1.1, y.1.1, inr (inr (c, (x.1.2, inr y.1.2))))))

    pub seq_spread : IsSame (spread name n void (seq n a b)) (seq void (spread name n void a) (spread name n void b))
    seq_spread = record {
      reads = seq_reads;
      writes = seq_writes;
      decides = seq_decides;
      can = λ o. (λ x. x, λ x. x);
      kept = seq_kept;
      dep = seq_dep;
    }

  -- One statement or another

  module _ (test : ℕ → Type 0) (a b : Flow) where
    pub branch_spread : IsSame (spread name n void (branch test a b)) (branch (Spreads name n void test) (spread name n void a) (spread name n void b))
    branch_spread = record {
      reads = λ v. (
        λ h. elim h.1.2 [
          | inl r ↦ inl (h.0, (h.1.0, h.1.1, r))
          | inr r ↦ (elim r [ inl s ↦ inr (inl (h.0, (h.1.0, h.1.1, s))) | inr s ↦ inr (inr (h.0, (h.1.0, h.1.1, s))) ])
        ],
        λ h. elim h [
          | inl r ↦ (r.0, (r.1.0, r.1.1, inl r.1.2))
          | inr r ↦ (elim r [ inl s ↦ (s.0, (s.1.0, s.1.1, inr (inl s.1.2))) | inr s ↦ (s.0, (s.1.0, s.1.1, inr (inr s.1.2))) ])
        ],
      );
      writes = λ v. (
        λ h. elim h.1.2 [ inl r ↦ inl (h.0, (h.1.0, h.1.1, r)) | inr r ↦ inr (h.0, (h.1.0, h.1.1, r)) ],
        λ h. elim h [ inl r ↦ (r.0, (r.1.0, r.1.1, inl r.1.2)) | inr r ↦ (r.0, (r.1.0, r.1.1, inr r.1.2)) ],
      );
      decides = λ v. (
        λ h. (
          h.1.2.0,
          elim h.1.2.1 [
            | inl r ↦ inl (h.0, (h.1.0, h.1.1, r))
            | inr r ↦ (elim r [ inl s ↦ inr (inl (h.0, (h.1.0, h.1.1, s))) | inr s ↦ inr (inr (h.0, (h.1.0, h.1.1, s))) ])
          ],
        ),
        λ h. elim h.1 [
          | inl r ↦ (r.0, (r.1.0, r.1.1, (h.0, inl r.1.2)))
          | inr r ↦ (elim r [ inl s ↦ (s.0, (s.1.0, s.1.1, (h.0, inr (inl s.1.2)))) | inr s ↦ (s.0, (s.1.0, s.1.1, (h.0, inr (inr s.1.2)))) ])
        ],
      );
      can = λ o. (λ x. x, λ x. x);
      kept = λ o v w. (kept_there o v w, kept_back o v w);
      dep = λ o v w. (dep_there o v w, dep_back o v w);
    }
      where
        kept_there : (o : Outcome) (v w : ℕ) → (spread name n void (branch test a b)).kept o v w → (spread name n void a).kept o v w ⊎ (spread name n void b).kept o v w
        kept_there o v w (inl (i, (j, (l, m, e, f, inl r)))) = inl (inl (i, (j, (l, m, e, f, r))))
        kept_there o v w (inl (i, (j, (l, m, e, f, inr r)))) = inr (inl (i, (j, (l, m, e, f, r))))
        kept_there o v w (inr (out, inl c, e)) = inl (inr (out, c, e))
        kept_there o v w (inr (out, inr c, e)) = inr (inr (out, c, e))

        kept_back : (o : Outcome) (v w : ℕ) → (spread name n void a).kept o v w ⊎ (spread name n void b).kept o v w → (spread name n void (branch test a b)).kept o v w
        kept_back o v w (inl (inl (i, (j, h)))) = inl (i, (j, (h.0, h.1, h.2, h.3, inl h.4)))
        kept_back o v w (inl (inr h)) = inr (h.0, inl h.1, h.2)
        kept_back o v w (inr (inl (i, (j, h)))) = inl (i, (j, (h.0, h.1, h.2, h.3, inr h.4)))
        kept_back o v w (inr (inr h)) = inr (h.0, inr h.1, h.2)

        dep_there : (o : Outcome) (v w : ℕ) → (spread name n void (branch test a b)).dep o v w → (branch (Spreads name n void test) (spread name n void a) (spread name n void b)).dep o v w
        dep_there o v w (inl (i, (j, (l, m, e, f, inl (inl r))))) = inl (inl (inl (i, (j, (l, m, e, f, r)))))
        dep_there o v w (inl (i, (j, (l, m, e, f, inl (inr r))))) = inl (inr (inl (i, (j, (l, m, e, f, r)))))
        dep_there o v w (inl (i, (j, (l, m, e, f, inr (c, (x, inl y)))))) = inr (c, ((i, (l, e, x)), inl (j, (m, f, y))))
        dep_there o v w (inl (i, (j, (l, m, e, f, inr (c, (x, inr y)))))) = inr (c, ((i, (l, e, x)), inr (j, (m, f, y))))
        dep_there o v w (inr (out, inl c, e)) = inl (inl (inr (out, c, e)))
        dep_there o v w (inr (out, inr c, e)) = inl (inr (inr (out, c, e)))

        dep_back : (o : Outcome) (v w : ℕ) → (branch (Spreads name n void test) (spread name n void a) (spread name n void b)).dep o v w → (spread name n void (branch test a b)).dep o v w
        dep_back o v w (inl (inl (inl (i, (j, h))))) = inl (i, (j, (h.0, h.1, h.2, h.3, inl (inl h.4))))
        dep_back o v w (inl (inl (inr h))) = inr (h.0, inl h.1, h.2)
        dep_back o v w (inl (inr (inl (i, (j, h))))) = inl (i, (j, (h.0, h.1, h.2, h.3, inl (inr h.4))))
        dep_back o v w (inl (inr (inr h))) = inr (h.0, inr h.1, h.2)
        dep_back o v w (inr (c, (x, inl y))) = inl (x.0, (y.0, (x.1.0, y.1.0, x.1.1, y.1.1, inr (c, (x.1.2, inl y.1.2)))))
        dep_back o v w (inr (c, (x, inr y))) = inl (x.0, (y.0, (x.1.0, y.1.0, x.1.1, y.1.1, inr (c, (x.1.2, inr y.1.2)))))

  -- Any number of rounds

  pub nowhere_spread : IsSame (spread name n void nowhere) nowhere
  nowhere_spread = record {
    reads = λ v. (λ h. h.1.2, λ h. absurd h);
    writes = λ v. (λ h. h.1.2, λ h. absurd h);
    decides = λ v. (λ h. h.1.2, λ h. absurd h);
    can = λ o. (λ x. x, λ x. x);
    kept = λ o v w. (λ h. elim h [ inl r ↦ r.1.1.4 | inr r ↦ r.1 ], λ h. absurd h);
    dep = λ o v w. (λ h. elim h [ inl r ↦ r.1.1.4 | inr r ↦ r.1 ], λ h. absurd h);
  }

  module _ (a : Flow) (bounded : IsBounded n a) where
    rounds_spread : (k : ℕ) → IsSame (spread name n void (unrolling n a k)) (unrolling void (spread name n void a) k)
    rounds_spread zero = nowhere_spread
    rounds_spread (suc k) = same_through _ _ _ (seq_spread a (unrolling n a k) bounded)
        (seq_same (spread name n void a) (spread name n void a) (spread name n void (unrolling n a k)) (unrolling void (spread name n void a) k) (same_itself _) (rounds_spread k) void)

    splits_there : Splits (loop_can n a) → Splits (loop_can void (spread name n void a))
    splits_there s = (s.0, s.1, s.2, (s.3.0, ((rounds_spread s.3.0).can (inside s.0)).0 s.3.1), (s.4.0, ((rounds_spread s.4.0).can (inside s.1)).0 s.4.1))

    splits_back : Splits (loop_can void (spread name n void a)) → Splits (loop_can n a)
    splits_back s = (s.0, s.1, s.2, (s.3.0, ((rounds_spread s.3.0).can (inside s.0)).1 s.3.1), (s.4.0, ((rounds_spread s.4.0).can (inside s.1)).1 s.4.1))

    kept_rounds : (o : Outcome) (v w : ℕ) → (spread name n void (loop n a)).kept o v w → (loop void (spread name n void a)).kept o v w
    kept_rounds o v w (inl (i, (j, (l, m, e, f, (k, r))))) = (k, ((rounds_spread k).kept (inside o) v w).0 (inl (i, (j, (l, m, e, f, r)))))
    kept_rounds o v w (inr (out, (k, c), e)) = (k, ((rounds_spread k).kept (inside o) v w).0 (inr (out, c, e)))

    rounds_kept : (o : Outcome) (v w k : ℕ) → (spread name n void (unrolling n a k)).kept (inside o) v w → (spread name n void (loop n a)).kept o v w
    rounds_kept o v w k (inl (i, (j, (l, m, e, f, r)))) = inl (i, (j, (l, m, e, f, (k, r))))
    rounds_kept o v w k (inr (out, c, e)) = inr (out, (k, c), e)

    dep_rounds : (o : Outcome) (v w : ℕ) → (spread name n void (loop n a)).dep o v w → (loop void (spread name n void a)).dep o v w
    dep_rounds o v w (inl (i, (j, (l, m, e, f, (k, r))))) = (k, ((rounds_spread k).dep (inside o) v w).0 (inl (i, (j, (l, m, e, f, r)))))
    dep_rounds o v w (inr (out, (k, c), e)) = (k, ((rounds_spread k).dep (inside o) v w).0 (inr (out, c, e)))

    rounds_dep : (o : Outcome) (v w k : ℕ) → (spread name n void (unrolling n a k)).dep (inside o) v w → (spread name n void (loop n a)).dep o v w
    rounds_dep o v w k (inl (i, (j, (l, m, e, f, r)))) = inl (i, (j, (l, m, e, f, (k, r))))
    rounds_dep o v w k (inr (out, c, e)) = inr (out, (k, c), e)

    pub loop_spread : IsSame (spread name n void (loop n a)) (loop void (spread name n void a))
    loop_spread = record {
      reads = λ v. (
        λ h. (h.1.2.0, ((rounds_spread h.1.2.0).reads v).0 (h.0, (h.1.0, h.1.1, h.1.2.1))),
        λ h. let s = ((rounds_spread h.0).reads v).1 h.1 in (s.0, (s.1.0, s.1.1, (h.0, s.1.2))),
      );
      writes = λ v. (
        λ h. (h.1.2.0, ((rounds_spread h.1.2.0).writes v).0 (h.0, (h.1.0, h.1.1, h.1.2.1))),
        λ h. let s = ((rounds_spread h.0).writes v).1 h.1 in (s.0, (s.1.0, s.1.1, (h.0, s.1.2))),
      );
      decides = λ v. (
        λ h. (splits_there h.1.2.0, (h.1.2.1.0, ((rounds_spread h.1.2.1.0).decides v).0 (h.0, (h.1.0, h.1.1, h.1.2.1.1)))),
        λ h. let s = ((rounds_spread h.1.0).decides v).1 h.1.1 in (s.0, (s.1.0, s.1.1, (splits_back h.0, (h.1.0, s.1.2)))),
      );
      can = λ o. (
        λ h. (h.0, ((rounds_spread h.0).can (inside o)).0 h.1),
        λ h. (h.0, ((rounds_spread h.0).can (inside o)).1 h.1),
      );
      kept = λ o v w. (kept_rounds o v w, λ h. rounds_kept o v w h.0 (((rounds_spread h.0).kept (inside o) v w).1 h.1));
      dep = λ o v w. (dep_rounds o v w, λ h. rounds_dep o v w h.0 (((rounds_spread h.0).dep (inside o) v w).1 h.1));
    }
