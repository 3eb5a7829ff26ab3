-- A worklist reaches the least solution, whatever its order. Of the equation it is known only that its facts are of
-- the list, and that it looks at the facts of callees alone and is monotone in them.
use Rattle.std.proofs.Common.{◌≡◌, ℕ, suc, ◌<◌, ◌≤◌, ◌⊎◌, ◌↔◌, Bool, true, false, cond, List, [], ◌∷◌, length, refl, inl, inr, arith, sym, subst, ◌∙◌}
use Rattle.std.proofs.lemmas.Bool.{cases_Bool}
use Rattle.least_solution.specs.Least.{applied, least, Among, IsListed, SeesCallees, Grows, tally, Passes, IsReached, IsMet}
use Rattle.least_solution.proofs.Applied.{applied_up, applied_within}
use Rattle.least_solution.specs.Worklist.{Worklist, IsVisit, Visits, Joins, opening}

pub tally_most : {A : Type 0} (t : A → Bool) (xs : List A) → tally t xs ≤ length xs
tally_most t [] = omega arith
tally_most t (x ∷ xs) = let h = tally_most t xs in elim (cases_Bool (t x)) [ inl e ↦ rw e (omega arith) | inr e ↦ rw e (omega arith) ]

at_least : {A : Type 0} (t s : A → Bool) (x : A) → (t x ≡ true → s x ≡ true) → cond (t x) 1 0 ≤ cond (s x) 1 0
at_least t s x h = elim (cases_Bool (t x)) [ inl e ↦ rw (e, h e) (omega arith) | inr e ↦ rw e (omega arith) ]

tally_least : {A : Type 0} (t s : A → Bool) → ((x : A) → t x ≡ true → s x ≡ true) → (xs : List A) → tally t xs ≤ tally s xs
tally_least t s h [] = omega arith
tally_least t s h (x ∷ xs) = let a = at_least t s x (h x) in let b = tally_least t s h xs in omega arith

pub tally_more : {A : Type 0} (t s : A → Bool) → ((x : A) → t x ≡ true → s x ≡ true) → (y : A) → t y ≡ false → s y ≡ true → (xs : List A) → Among y xs → tally t xs < tally s xs
tally_more t s h y n m [] a = absurd a
tally_more t s h y n m (x ∷ xs) (inl e) =
    let b = tally_least t s h xs in
    let tx : t x ≡ false = subst (λ z. t z ≡ false) e n in
    let sx : s x ≡ true = subst (λ z. s z ≡ true) e m in
    rw (tx, sx) (omega arith)
tally_more t s h y n m (x ∷ xs) (inr a) = let k = at_least t s x (h x) in let b = tally_more t s h y n m xs a in omega arith

module _ {Fact : Type 0} (owner : Fact → ℕ) (all : List Fact) (calls : ℕ → ℕ → Type 0) (F : (Fact → Type 0) → Fact → Type 0)
    (listed : IsListed all F) (sees : SeesCallees owner calls F) where
  pub grows : Grows F
  grows R S f h x = sees R S f (λ g _. h g) x

  pub reached_none : (t : Fact → Bool) → ((f : Fact) → t f ≡ false) → IsReached all F t
  reached_none t h f x = absurd (let e = h f in cc)

  pub reached_within : (t : Fact → Bool) → IsReached all F t → (f : Fact) → t f ≡ true → least all F f
  reached_within t h f x = applied_up F grows (tally t all) (length all) (tally_most t all) f (h f x)

  -- one evaluation, by which something grew
  pub reached_joined : (t s : Fact → Bool) (b : ℕ) → Joins owner F t b s → IsReached all F t → (g : Fact) → t g ≡ false → s g ≡ true → IsReached all F s
  reached_joined t s b j h g n m f x =
      let above : tally t all < tally s all = tally_more t s (λ y z. (j y).1 (inl z)) g n m all (elim ((j g).0 m) [ inl z ↦ absurd (let e = n in cc) | inr p ↦ listed (Passes t) g p.1 ]) in
      let le : tally t all ≤ tally s all = omega arith in
      let lt : suc (tally t all) ≤ tally s all = omega arith in
      elim ((j f).0 x) [
        | inl z ↦ applied_up F grows (tally t all) (tally s all) le f (h f z)
        | inr p ↦ applied_up F grows (suc (tally t all)) (tally s all) lt f (grows (Passes t) (applied F (tally t all)) f h p.1)
      ]

  -- behind it the equations hold of all that is not dirty: a caller of the body is
  pub met_joined : (t s : Fact → Bool) (b c : ℕ) → Joins owner F t b s → (calls c b → ⊥) → (c ≡ b) ⊎ IsMet owner F t c → IsMet owner F s c
  met_joined t s b c j n h f o x =
      let y : F (Passes t) f = sees (Passes s) (Passes t) f
      (λ g k z. elim ((j g).0 z) [ inl w ↦ w | inr p ↦ absurd (n (subst (λ i. calls i b) o (subst (λ i. calls (owner f) i) p.0 k))) ]) x in
      elim h [
        | inl e ↦ (j f).1 (inr (o ∙ e, y))
        | inr m ↦ (j f).1 (inl (m f o y))
      ]

  -- the body itself, where nothing grew
  pub met_same : (t s : Fact → Bool) (b : ℕ) → Joins owner F t b s → ((f : Fact) → s f ≡ t f) → IsMet owner F t b
  met_same t s b j e f o x = sym (e f) ∙ (j f).1 (inr (o, x))

  -- where every equation holds, the facts are the least solution
  pub met_is_least : (t : Fact → Bool) → IsReached all F t → ((b : ℕ) → IsMet owner F t b) → (f : Fact) → (t f ≡ true) ↔ least all F f
  met_is_least t r h f = (reached_within t r f, applied_within F grows (Passes t) (λ g x. h (owner g) g refl x) (length all) f)

  -- For several workers: what is joined comes of what was read, at whatever moments, within what is there.

  pub reached_from : (t s r : Fact → Bool) → ((f : Fact) → r f ≡ true → t f ≡ true) → ((f : Fact) → t f ≡ true → s f ≡ true)
      → ((f : Fact) → s f ≡ true → (t f ≡ true) ⊎ F (Passes r) f) → IsReached all F t → (g : Fact) → t g ≡ false → s g ≡ true → IsReached all F s
  reached_from t s r w k j h g n m f x =
      let above : tally t all < tally s all = tally_more t s k g n m all (elim (j g m) [ inl z ↦ absurd (let e = n in cc) | inr p ↦ listed (Passes r) g p ]) in
      let le : tally t all ≤ tally s all = omega arith in
      let lt : suc (tally t all) ≤ tally s all = omega arith in
      elim (j f x) [
        | inl z ↦ applied_up F grows (tally t all) (tally s all) le f (h f z)
        | inr p ↦ applied_up F grows (suc (tally t all)) (tally s all) lt f (grows (Passes r) (applied F (tally t all)) f (λ y z. h y (w y z)) p)
      ]

  -- a body that does not call b keeps its equation where facts of b alone come in
  pub met_kept : (t s : Fact → Bool) (b c : ℕ) → ((f : Fact) → t f ≡ true → s f ≡ true) → ((f : Fact) → s f ≡ true → (t f ≡ true) ⊎ (owner f ≡ b))
      → (calls c b → ⊥) → IsMet owner F t c → IsMet owner F s c
  met_kept t s b c k j n h f o x = k f (h f o (sees (Passes s) (Passes t) f
      (λ g d z. elim (j g z) [ inl w ↦ w | inr p ↦ absurd (n (subst (λ i. calls i b) o (subst (λ i. calls (owner f) i) p d))) ]) x))

  -- where what was read of the callees is what is there, and all of the equation over it was joined, the equation holds
  pub met_released : (t r : Fact → Bool) (b : ℕ) → ((g : Fact) → calls b (owner g) → t g ≡ true → r g ≡ true)
      → ((f : Fact) → owner f ≡ b → F (Passes r) f → t f ≡ true) → IsMet owner F t b
  met_released t r b w j f o x = j f o (sees (Passes t) (Passes r) f (λ g d z. w g (subst (λ i. calls i (owner g)) o d) z) x)

  -- what holds between visits
  pub record IsGoing (now : Worklist Fact) : Type 0 where
    pub reached : IsReached all F now.told
    pub met : (b : ℕ) → now.dirty b ≡ false → IsMet owner F now.told b

  opens : IsGoing opening
  opens = record { reached = reached_none (λ f. false) (λ f. refl); met = λ b d. absurd (let e : true ≡ false = d in cc) }

  visited : (b : ℕ) (old new : Worklist Fact) → IsVisit owner calls F b old new → IsGoing old → IsGoing new
  visited b old new v h = elim v.wakes [
    | inl same ↦ (
        let told : new.told ≡ old.told = λ i f. same f i in
        record {
          reached = subst (λ t. IsReached all F t) (sym told) h.reached;
          met = λ c d. subst (λ t. IsMet owner F t c) (sym told) (elim (v.cleans c d) [
            | inl e ↦ subst (λ k. IsMet owner F old.told k) (sym e) (met_same old.told new.told b v.joins same)
            | inr q ↦ h.met c q
          ]);
        })
    | inr gain ↦ record {
      reached = reached_joined old.told new.told b v.joins h.reached gain.0.0 gain.0.1 gain.0.2;
      met = λ c d. met_joined old.told new.told b c v.joins (gain.1 c d) (elim (v.cleans c d) [ inl e ↦ inl e | inr q ↦ inr (h.met c q) ]);
    }
  ]

  all_visited : (bs : List ℕ) (old new : Worklist Fact) → Visits owner calls F bs old new → IsGoing old → IsGoing new
  all_visited [] old new v h = subst (λ w. IsGoing w) (sym v) h
  all_visited (b ∷ bs) old new v h = all_visited bs v.0 new v.1.1 (visited b old v.0 v.1.0 h)

  -- visits in whatever order reach the least solution, where they leave nothing dirty
  pub worklist_is_least : (bs : List ℕ) (end : Worklist Fact) → Visits owner calls F bs opening end → ((b : ℕ) → end.dirty b ≡ false)
      → (f : Fact) → (end.told f ≡ true) ↔ least all F f
  worklist_is_least bs end v clean =
      let h = all_visited bs opening end v opens in
      met_is_least end.told h.reached (λ b. h.met b (clean b))
