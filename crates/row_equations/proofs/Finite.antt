-- Each fact of a flow comes of finitely many facts that are known of callees; and where more is known, there are more.
use Rattle.std.proofs.Common.{◌≡◌, ◌≢◌, ℕ, zero, suc, ◌+◌, ◌<◌, ◌≤◌, ◌⊎◌, List, [], ◌∷◌, ◌++◌, Option, inl, inr, refl, sym, subst}
use Rattle.spark_base.specs.declared.numbers.BodyNo.{BodyNo}
use Rattle.spark_base.specs.declared.numbers.LeafNo.{LeafNo}
use Rattle.core_form.specs.Code.{Exprs, Nothing, And, Actuals, NoActual, AndActual, Outcome, Next, Returns}
use Rattle.core_form.specs.Code.{Code, Skip, Then, Assign, Clear, Branch, Repeat, Exit, Called, Guard, Delay, ReadClock, Stop}
use Rattle.flow_facts.specs.Flow.{Flow, Summary, IsExit, IsBarrier, row_of, moving, nowhere, reading, leaving, setting, clearing, seq, seq_can, either_way, Splits, branch, branch_can, unrolling, loop, loop_can, inside, guarding, flow, reads_of}
use Rattle.least_solution.specs.Least.{Among}
use Rattle.least_solution.proofs.Members.{among_left, among_right, among_split}
use Rattle.call_flow.specs.declared.signatures.Signature.{Signature}
use Rattle.call_flow.specs.Calls.{stands, Standing, IsAside, knowing, values_in, actuals_in, actuals_out, dropped, call_parts, calling, last_name, passing_at}

module _ {Fact : Type 0} where
  -- it holds by few of the facts
  abbrev pub Few : ((Fact → Type 0) → Type 0) → (Fact → Type 0) → Type 0
  Few P R = (few : List Fact) × (((g : Fact) → Among g few → R g) × P (λ g. Among g few))

  pub record Good (P : (Fact → Type 0) → Type 0) : Type 1 where
    pub more : (R S : Fact → Type 0) → ((g : Fact) → R g → S g) → P R → P S
    pub few : (R : Fact → Type 0) → P R → Few P R

  pub always : (X : Type 0) → Good (λ R. X)
  always X = record { more = λ R S h x. x; few = λ R x. ([], ((λ g a. absurd a), x)) }

  pub fact : (f : Fact) → Good (λ R. R f)
  fact f = record { more = λ R S h x. h f x; few = λ R x. (f ∷ [], ((λ g a. elim a [ inl e ↦ subst R (sym e) x | inr n ↦ absurd n ]), inl refl)) }

  pub good_and : (P Q : (Fact → Type 0) → Type 0) → Good P → Good Q → Good (λ R. P R × Q R)
  good_and P Q p q = record {
    more = λ R S h x. (p.more R S h x.0, q.more R S h x.1);
    few = λ R x.
        let a = p.few R x.0 in
        let b = q.few R x.1 in (
          a.0 ++ b.0,
          (
            (λ g m. elim (among_split g a.0 b.0 m) [ inl l ↦ a.1.0 g l | inr r ↦ b.1.0 g r ]),
            (p.more _ _ (λ g. among_left g a.0 b.0) a.1.1, q.more _ _ (λ g. among_right g a.0 b.0) b.1.1),
          ),
        );
  }

  pub good_or : (P Q : (Fact → Type 0) → Type 0) → Good P → Good Q → Good (λ R. P R ⊎ Q R)
  good_or P Q p q = record {
    more = λ R S h x. elim x [ inl a ↦ inl (p.more R S h a) | inr b ↦ inr (q.more R S h b) ];
    few = λ R x. elim x [
      | inl a ↦ (let s = p.few R a in (s.0, (s.1.0, inl s.1.1)))
      | inr b ↦ (let s = q.few R b in (s.0, (s.1.0, inr s.1.1)))
    ];
  }

  pub good_some : {A : Type 0} (P : A → (Fact → Type 0) → Type 0) → ((u : A) → Good (P u)) → Good (λ R. (u : A) × P u R)
  good_some P p = record {
    more = λ R S h x. (x.0, (p x.0).more R S h x.1);
    few = λ R x. (let s = (p x.0).few R x.1 in (s.0, (s.1.0, (x.0, s.1.1))));
  }

  -- the same by another form of the words
  pub good_as : (P Q : (Fact → Type 0) → Type 0) → ((R : Fact → Type 0) → P R → Q R) → ((R : Fact → Type 0) → Q R → P R) → Good P → Good Q
  good_as P Q to from p = record {
    more = λ R S h x. to S (p.more R S h (from R x));
    few = λ R x. (let s = p.few R (from R x) in (s.0, (s.1.0, to _ s.1.1)));
  }

  -- a flow that depends on facts
  pub record IsGood (A : (Fact → Type 0) → Flow) : Type 1 where
    pub reads : (v : ℕ) → Good (λ R. (A R).reads v)
    pub writes : (v : ℕ) → Good (λ R. (A R).writes v)
    pub decides : (v : ℕ) → Good (λ R. (A R).decides v)
    pub can : (o : Outcome) → Good (λ R. (A R).can o)
    pub kept : (o : Outcome) (v w : ℕ) → Good (λ R. (A R).kept o v w)
    pub dep : (o : Outcome) (v w : ℕ) → Good (λ R. (A R).dep o v w)

  pub fixed : (f : Flow) → IsGood (λ R. f)
  fixed f = record {
    reads = λ v. always (f.reads v);
    writes = λ v. always (f.writes v);
    decides = λ v. always (f.decides v);
    can = λ o. always (f.can o);
    kept = λ o v w. always (f.kept o v w);
    dep = λ o v w. always (f.dep o v w);
  }

  splits_good : (can : (Fact → Type 0) → Outcome → Type 0) → ((o : Outcome) → Good (λ R. can R o)) → Good (λ R. Splits (can R))
  splits_good can c = good_as _ _
      (λ R x. (x.0, x.1.0, x.1.1.0, x.1.1.1.0, x.1.1.1.1))
      (λ R x. (x.0, (x.1, (x.2, (x.3, x.4)))))
      (good_some (λ (o : Outcome) R. (p : Outcome) × ((o ≢ p) × (can R o × can R p)))
      (λ o. good_some (λ (p : Outcome) R. (o ≢ p) × (can R o × can R p)) (λ p. good_and _ _ (always (o ≢ p)) (good_and _ _ (c o) (c p)))))

  module _ (void : ℕ) (A B : (Fact → Type 0) → Flow) (a : IsGood A) (b : IsGood B) where
    seq_can_good : (o : Outcome) → Good (λ R. seq_can (A R) (B R) o)
    seq_can_good o = good_or _ _ (good_and _ _ (always (IsExit o)) (a.can o)) (good_and _ _ (a.can Next) (b.can o))

    pub seq_good : IsGood (λ R. seq void (A R) (B R))
    seq_good = record {
      reads = λ v. good_or _ _ (a.reads v) (good_and _ _ (always (v ≢ void)) (good_some (λ (w : ℕ) R. (A R).kept Next v w × (B R).reads w) (λ w. good_and _ _ (a.kept Next v w) (b.reads w))));
      writes = λ v. good_or _ _ (a.writes v) (good_and _ _ (a.can Next) (b.writes v));
      decides = λ v. good_and _ _ (splits_good (λ R o. seq_can (A R) (B R) o) seq_can_good)
          (good_or _ _ (a.decides v) (good_some (λ (w : ℕ) R. (A R).dep Next v w × (B R).decides w) (λ w. good_and _ _ (a.dep Next v w) (b.decides w))));
      can = seq_can_good;
      kept = λ o v w. good_or _ _ (good_and _ _ (always (IsExit o)) (a.kept o v w)) (good_some (λ (u : ℕ) R. (A R).kept Next v u × (B R).kept o u w) (λ u. good_and _ _ (a.kept Next v u) (b.kept o u w)));
      dep = λ o v w. good_or _ _ (good_and _ _ (always (IsExit o)) (a.dep o v w))
          (good_or _ _ (good_some (λ (u : ℕ) R. (A R).dep Next v u × (B R).dep o u w) (λ u. good_and _ _ (a.dep Next v u) (b.dep o u w)))
          (good_and _ _ (good_as (λ R. IsExit o × ((A R).can o × ((A R).can Next × (B R).can o))) (λ R. either_way (A R) (B R) o) (λ R x. (x.0, x.1.0, x.1.1.0, x.1.1.1)) (λ R x. (x.0, (x.1, (x.2, x.3))))
          (good_and _ _ (always (IsExit o)) (good_and _ _ (a.can o) (good_and _ _ (a.can Next) (b.can o)))))
          (good_and _ _ (a.decides v) (good_or _ _ (a.writes w) (b.writes w)))));
    }

    branch_can_good : (o : Outcome) → Good (λ R. branch_can (A R) (B R) o)
    branch_can_good o = good_or _ _ (a.can o) (b.can o)

    pub branch_good : (test : ℕ → Type 0) → IsGood (λ R. branch test (A R) (B R))
    branch_good test = record {
      reads = λ v. good_or _ _ (always (test v)) (good_or _ _ (a.reads v) (b.reads v));
      writes = λ v. good_or _ _ (a.writes v) (b.writes v);
      decides = λ v. good_and _ _ (splits_good (λ R o. branch_can (A R) (B R) o) branch_can_good) (good_or _ _ (always (test v)) (good_or _ _ (a.decides v) (b.decides v)));
      can = branch_can_good;
      kept = λ o v w. good_or _ _ (a.kept o v w) (b.kept o v w);
      dep = λ o v w. good_or _ _ (good_or _ _ (a.dep o v w) (b.dep o v w)) (good_and _ _ (branch_can_good o) (good_and _ _ (always (test v)) (good_or _ _ (a.writes w) (b.writes w))));
    }

  unrolling_good : (void : ℕ) (A : (Fact → Type 0) → Flow) → IsGood A → (n : ℕ) → IsGood (λ R. unrolling void (A R) n)
  unrolling_good void A a zero = fixed nowhere
  unrolling_good void A a (suc n) = seq_good void A (λ R. unrolling void (A R) n) a (unrolling_good void A a n)

  loop_good : (void : ℕ) (A : (Fact → Type 0) → Flow) → IsGood A → IsGood (λ R. loop void (A R))
  loop_good void A a =
      let u = unrolling_good void A a in
      let can = λ (o : Outcome). good_some (λ (n : ℕ) R. (unrolling void (A R) n).can (inside o)) (λ n. (u n).can (inside o)) in
      record {
        reads = λ v. good_some (λ (n : ℕ) R. (unrolling void (A R) n).reads v) (λ n. (u n).reads v);
        writes = λ v. good_some (λ (n : ℕ) R. (unrolling void (A R) n).writes v) (λ n. (u n).writes v);
        decides = λ v. good_and _ _ (splits_good (λ R o. loop_can void (A R) o) can) (good_some (λ (n : ℕ) R. (unrolling void (A R) n).decides v) (λ n. (u n).decides v));
        can = can;
        kept = λ o v w. good_some (λ (n : ℕ) R. (unrolling void (A R) n).kept (inside o) v w) (λ n. (u n).kept (inside o) v w);
        dep = λ o v w. good_some (λ (n : ℕ) R. (unrolling void (A R) n).dep (inside o) v w) (λ n. (u n).dep (inside o) v w);
      }

  guarding_good : (barrier : Option LeafNo) (A : (Fact → Type 0) → Flow) → IsGood A → IsGood (λ R. guarding barrier (A R))
  guarding_good barrier A a = record {
    reads = λ v. good_or _ _ (always (IsBarrier barrier v)) (a.reads v);
    writes = a.writes;
    decides = a.decides;
    can = a.can;
    kept = a.kept;
    dep = a.dep;
  }

  pub flow_good : (void clock : ℕ) (call : (Fact → Type 0) → BodyNo → Actuals → Flow) → ((b : BodyNo) (x : Actuals) → IsGood (λ R. call R b x)) → (c : Code)
      → IsGood (λ R. flow void clock (call R) c)
  flow_good void clock s h Skip = fixed (leaving void Next)
  flow_good void clock s h (Then a b) = seq_good void (λ R. flow void clock (s R) a) (λ R. flow void clock (s R) b) (flow_good void clock s h a) (flow_good void clock s h b)
  flow_good void clock s h (Assign to e at) = fixed (setting void to (reads_of e))
  flow_good void clock s h (Clear x) = fixed (clearing void x)
  flow_good void clock s h (Branch e a b) =
      branch_good void (λ R. flow void clock (s R) a) (λ R. flow void clock (s R) b) (flow_good void clock s h a) (flow_good void clock s h b) (reads_of e)
  flow_good void clock s h (Repeat a) = loop_good void (λ R. flow void clock (s R) a) (flow_good void clock s h a)
  flow_good void clock s h (Exit o) = fixed (leaving void o)
  flow_good void clock s h (Called b x at) = h b x
  flow_good void clock s h (Guard o barrier c) = guarding_good barrier (λ R. flow void clock (s R) c) (flow_good void clock s h c)
  flow_good void clock s h (Delay e) = fixed (reading void Next (reads_of e))
  flow_good void clock s h (ReadClock to) = fixed (setting void to (λ v. v ≡ clock))
  flow_good void clock s h Stop = fixed nowhere

  -- a summary that depends on facts, but for the leaves of which it speaks
  pub record IsGoodSummary (K : (Fact → Type 0) → Summary) : Type 1 where
    pub leaves : (R S : Fact → Type 0) (v : ℕ) → (K R).leaves v → (K S).leaves v
    pub returns : Good (λ R. (K R).returns)
    pub reads : (v : ℕ) → Good (λ R. (K R).reads v)
    pub writes : (v : ℕ) → Good (λ R. (K R).writes v)
    pub keeps : (v : ℕ) → Good (λ R. (K R).keeps v)
    pub depends : (v w : ℕ) → Good (λ R. (K R).depends v w)

  pub fixed_summary : (k : Summary) → IsGoodSummary (λ R. k)
  fixed_summary k = record {
    leaves = λ R S v x. x;
    returns = always k.returns;
    reads = λ v. always (k.reads v);
    writes = λ v. always (k.writes v);
    keeps = λ v. always (k.keeps v);
    depends = λ v w. always (k.depends v w);
  }

  aside_good : (name : ℕ → ℕ) (K : (Fact → Type 0) → Summary) → IsGoodSummary K → (x : ℕ) → Good (λ R. IsAside name (K R) x)
  aside_good name K k x = record {
    more = λ R S h n s. n (s.0, (s.1.0, k.leaves S R s.0 s.1.1));
    few = λ R n. ([], ((λ g a. absurd a), λ s. n (s.0, (s.1.0, k.leaves _ R s.0 s.1.1))));
  }

  standing_good : (name : ℕ → ℕ) (P : (Fact → Type 0) → ℕ → Type 0) → ((v : ℕ) → Good (λ R. P R v)) → (x : ℕ) → Good (λ R. Standing name (P R) x)
  standing_good name P p x = good_some (λ (f : ℕ) R. (name f ≡ x) × P R f) (λ f. good_and _ _ (always (name f ≡ x)) (p f))

  knowing_good : (void : ℕ) (name : ℕ → ℕ) (K : (Fact → Type 0) → Summary) → IsGoodSummary K → IsGood (λ R. knowing void name (K R))
  knowing_good void name K k =
      let aside = λ (v : ℕ). aside_good name K k v in
      record {
        reads = standing_good name (λ R. (K R).reads) k.reads;
        writes = standing_good name (λ R. (K R).writes) k.writes;
        decides = λ v. always ⊥;
        can = λ o. good_and _ _ (always (o ≡ Next)) k.returns;
        kept = λ o v w. good_and _ _ (always (o ≡ Next)) (good_and _ _ k.returns (good_and _ _ (always (v ≤ void)) (good_and _ _ (always (v ≡ w))
            (good_or _ _ (standing_good name (λ R. (K R).keeps) k.keeps v) (aside v)))));
        dep = λ o v w. good_and _ _ (always (o ≡ Next)) (good_and _ _ k.returns (good_or _ _
            (good_some (λ (f : ℕ) R. (g : ℕ) × ((name f ≡ v) × ((name g ≡ w) × (K R).depends f g))) (λ f.
            good_some (λ (g : ℕ) R. (name f ≡ v) × ((name g ≡ w) × (K R).depends f g)) (λ g. good_and _ _ (always (name f ≡ v)) (good_and _ _ (always (name g ≡ w)) (k.depends f g)))))
            (good_and _ _ (always (v < void)) (good_and _ _ (always (v ≡ w)) (aside v)))));
      }

  values_in_good : (void : ℕ) (A : (Fact → Type 0) → Flow) → IsGood A → (x n : ℕ) (es : Exprs) → IsGood (λ R. values_in void x n es (A R))
  values_in_good void A a x zero es = a
  values_in_good void A a x (suc n) Nothing = a
  values_in_good void A a x (suc n) (And e es) = seq_good void (λ R. moving void x (reads_of e)) (λ R. values_in void (suc x) n es (A R)) (fixed (moving void x (reads_of e))) (values_in_good void A a (suc x) n es)

  actuals_in_good : (void big : ℕ) (s : Signature) (A : (Fact → Type 0) → Flow) → IsGood A → (x : Actuals) → IsGood (λ R. actuals_in void big s x (A R))
  actuals_in_good void big s A a NoActual = a
  actuals_in_good void big s A a (AndActual formal values spots at more) =
      values_in_good big (λ R. actuals_in void big s more (A R)) (actuals_in_good void big s A a more) (void + (passing_at s formal).first) (passing_at s formal).ins values

  dropped_good : (void big : ℕ) (A : (Fact → Type 0) → Flow) → IsGood A → IsGood (λ R. dropped void big (A R))
  dropped_good void big A a = record {
    reads = λ v. good_and _ _ (always (v < void)) (a.reads v);
    writes = λ v. good_and _ _ (always (v < void)) (a.writes v);
    decides = λ v. good_and _ _ (always (v < void)) (a.decides v);
    can = a.can;
    kept = λ o v w. good_and _ _ (always ((v ≤ void) × (w ≤ void))) (a.kept o _ _);
    dep = λ o v w. good_and _ _ (always ((v < void) × (w < void))) (a.dep o v w);
  }

  pub calling_good : (void : ℕ) (own : ℕ → ℕ) (s : Signature) (K : (Fact → Type 0) → Summary) → IsGoodSummary K → (x : Actuals) → IsGood (λ R. calling void own s (K R) x)
  calling_good void own s K k x =
      let big = last_name void s in
      let name = stands own void s.leaves in
      let out = actuals_out void big s x (leaving big Next) in
      dropped_good void big (λ R. call_parts void big own s (K R) x)
      (actuals_in_good void big s (λ R. seq big (knowing big name (K R)) out)
      (seq_good big (λ R. knowing big name (K R)) (λ R. out) (knowing_good big name K k) (fixed out)) x)

  pub row_good : (named : ℕ → Type 0) (A : (Fact → Type 0) → Flow) → IsGood A → IsGoodSummary (λ R. row_of named (A R))
  row_good named A a = record {
    leaves = λ R S v x. x;
    returns = good_or _ _ (a.can Next) (a.can Returns);
    reads = λ v. good_and _ _ (always (named v)) (a.reads v);
    writes = λ v. good_and _ _ (always (named v)) (a.writes v);
    keeps = λ v. good_and _ _ (always (named v)) (good_or _ _ (a.kept Next v v) (a.kept Returns v v));
    depends = λ v w. good_and _ _ (always (named v × named w)) (good_or _ _ (a.dep Next v w) (good_or _ _ (a.dep Returns v w)
        (good_as (λ R. (A R).can Next × ((A R).can Returns × ((A R).decides v × (A R).writes w))) _ (λ R x. (x.0, x.1.0, x.1.1.0, x.1.1.1)) (λ R x. (x.0, (x.1, (x.2, x.3))))
        (good_and _ _ (a.can Next) (good_and _ _ (a.can Returns) (good_and _ _ (a.decides v) (a.writes w)))))));
  }
