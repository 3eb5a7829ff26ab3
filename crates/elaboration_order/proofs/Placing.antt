-- What stands when an item was seen to.
use Rattle.std.proofs.Common.{◌≡◌, ℕ, ◌<◌, ◌≤◌, Bool, true, false, List, [], length, take, set, get_or, slice_get, Option, Some, None, ap, sym, ◌∙◌, subst, arith, ⊎_elim, inl, inr, ◌⊎◌}
use Rattle.std.specs.List.{Contains}
use Rattle.std.specs.Option.{IfSome, IfNone}
use Rattle.std.proofs.lemmas.Bool.{cases_eq}
use Rattle.std.proofs.lemmas.List.{get_or-set_same, get_or-set_other}
use Rattle.elaboration_order.specs.declared.rules.Rule.{Rule}
use Rattle.elaboration_order.specs.declared.queue.Queue.{Queue}
use Rattle.elaboration_order.specs.Order.{are_done}
use Rattle.elaboration_order.specs.Queue.{has, needs, needs_by, musts_by, Settled, Begun}

-- what a set has behind the call that may add this number to it
pub record Adds (old new : ℕ → Bool) (number place passed : ℕ) : Type 0 where
  pub with : place ≤ passed → new number ≡ true
  pub only : (i : ℕ) → new i ≡ true → (old i ≡ true) ⊎ ((i ≡ number) × (place ≤ passed))
  pub keeps : (i : ℕ) → old i ≡ true → new i ≡ true

module _ (rules : List Rule) (q new : Queue) (item k : ℕ) (r : Rule) (is : slice_get rules item ≡ Some r) (l : item < length q.passed.items)
    (done : new.done.items ≡ q.done.items) (passed : new.passed.items ≡ set q.passed.items item k)
    (possible : Adds (has q.possible) (has new.possible) item (length r.follows) k)
    (preferred : Adds (has q.preferred) (has new.preferred) item (length (needs r)) k)
    (keeps : (n x : ℕ) → Contains (get_or q.waiting.items n []) x → Contains (get_or new.waiting.items n []) x) where
  module _ (i : ℕ) (ne : i ≡ item → ⊥) where
    same_passed : get_or new.passed.items i 0 ≡ get_or q.passed.items i 0
    same_passed = ap (λ xs. get_or xs i 0) passed ∙ get_or-set_other q.passed.items item i k 0 ne

    from_old : (old now : ℕ → Bool) (place : ℕ) → Adds old now item place k → now i ≡ true → old i ≡ true
    from_old old now place a h = ⊎_elim (λ e. e) (λ e. absurd (ne e.0)) (a.only i h)

    pub begun_beside : Begun rules q i → Begun rules new i
    begun_beside b = record {
      within = subst (λ k. k ≤ length (needs_by (slice_get rules i))) (sym same_passed) b.within;
      passed = subst (λ k. are_done new.done.items (take k (needs_by (slice_get rules i))) ≡ true) (sym same_passed)
          (subst (λ ds. are_done ds (take (get_or q.passed.items i 0) (needs_by (slice_get rules i))) ≡ true) (sym done) b.passed);
      possible = λ h. let p = b.possible (from_old (has q.possible) (has new.possible) (length r.follows) possible h) in
          (p.0, subst (λ ds. get_or ds i false ≡ false) (sym done) p.1, subst (λ k. musts_by (slice_get rules i) ≤ k) (sym same_passed) p.2);
      preferred = λ h. let p = b.preferred (from_old (has q.preferred) (has new.preferred) (length (needs r)) preferred h) in
          (p.0, subst (λ ds. get_or ds i false ≡ false) (sym done) p.1, subst (λ k. length (needs_by (slice_get rules i)) ≤ k) (sym same_passed) p.2);
    }

    pub settled_beside : Settled rules q i → Settled rules new i
    settled_beside s = record {
      begun = begun_beside s.begun;
      seen = λ w d. let u = s.seen w (subst (λ ds. get_or ds i false ≡ false) done d) in record {
        possible = λ h. possible.keeps i (u.possible (subst (λ k. musts_by (slice_get rules i) ≤ k) same_passed h));
        preferred = λ h. preferred.keeps i (u.preferred (subst (λ k. length (needs_by (slice_get rules i)) ≤ k) same_passed h));
        blocked = λ h. let g = subst (λ k. k < length (needs_by (slice_get rules i))) same_passed h in
            subst (λ k. get_or new.done.items (get_or (needs_by (slice_get rules i)) k 0) false ≡ false) (sym same_passed)
            (subst (λ ds. get_or ds (get_or (needs_by (slice_get rules i)) (get_or q.passed.items i 0) 0) false ≡ false) (sym done) (u.blocked g));
        listed = λ h v. let g = subst (λ k. k < length (needs_by (slice_get rules i))) same_passed h in
            let w = subst (λ k. get_or (needs_by (slice_get rules i)) k 0 < length rules) same_passed v in
            subst (λ k. Contains (get_or new.waiting.items (get_or (needs_by (slice_get rules i)) k 0) []) i) (sym same_passed)
            (keeps (get_or (needs_by (slice_get rules i)) (get_or q.passed.items i 0) 0) i (u.listed g w));
      };
    }

  module _ (n : length q.waiting.items ≡ length rules)
      (lists : k < length (needs r) → get_or (needs r) k 0 < length q.waiting.items → Contains (get_or new.waiting.items (get_or (needs r) k 0) []) item)
      (goes_on : get_or q.passed.items item 0 ≤ k) (within : k ≤ length (needs r)) (all : are_done q.done.items (take k (needs r)) ≡ true)
      (stops : k < length (needs r) → get_or q.done.items (get_or (needs r) k 0) false ≡ false)
      (room : item < length rules) (fresh : get_or q.done.items item false ≡ false) (b : Begun rules q item) where
    names : needs_by (slice_get rules item) ≡ needs r
    names = ap needs_by is

    musts : musts_by (slice_get rules item) ≡ length r.follows
    musts = ap musts_by is

    now_passed : get_or new.passed.items item 0 ≡ k
    now_passed = ap (λ xs. get_or xs item 0) passed ∙ get_or-set_same q.passed.items item k 0 l

    still : get_or new.done.items item false ≡ false
    still = ap (λ ds. get_or ds item false) done ∙ fresh

    -- by the rule itself, and by how far it has passed
    pub settled_placed : Settled rules new item
    settled_placed = record {
      begun = record {
        within = subst (λ m. m ≤ length (needs_by (slice_get rules item))) (sym now_passed) (subst (λ xs. k ≤ length xs) (sym names) within);
        passed = subst (λ m. are_done new.done.items (take m (needs_by (slice_get rules item))) ≡ true) (sym now_passed)
            (subst (λ xs. are_done new.done.items (take k xs) ≡ true) (sym names) (subst (λ ds. are_done ds (take k (needs r)) ≡ true) (sym done) all));
        possible = λ h. (
          room,
          still,
          ⊎_elim
              (λ e. let p = (b.possible e).2 in let m = now_passed in omega (arith, p, m, goes_on))
              (λ e. let p = e.1 in let m = now_passed in let u = musts in omega (arith, p, m, u))
              (possible.only item h),
        );
        preferred = λ h. (
          room,
          still,
          ⊎_elim
              (λ e. let p = (b.preferred e).2 in let m = now_passed in omega (arith, p, m, goes_on))
              (λ e. let p = e.1 in let m = now_passed in let u = ap length names in omega (arith, p, m, u))
              (preferred.only item h),
        );
      };
      seen = λ w d. record {
        possible = λ h. possible.with (let m = now_passed in let u = musts in omega (arith, h, m, u));
        preferred = λ h. preferred.with (let m = now_passed in let u = ap length names in omega (arith, h, m, u));
        blocked = λ h. let g : k < length (needs r) = (let m = now_passed in let u = ap length names in omega (arith, h, m, u)) in
            subst (λ m. get_or new.done.items (get_or (needs_by (slice_get rules item)) m 0) false ≡ false) (sym now_passed)
            (subst (λ xs. get_or new.done.items (get_or xs k 0) false ≡ false) (sym names)
            (subst (λ ds. get_or ds (get_or (needs r) k 0) false ≡ false) (sym done) (stops g)));
        listed = λ h v. let g : k < length (needs r) = (let m = now_passed in let u = ap length names in omega (arith, h, m, u)) in
            let at : get_or (needs r) k 0 < length q.waiting.items =
            subst (λ c. get_or (needs r) k 0 < c) (sym n)
            (subst (λ xs. get_or xs k 0 < length rules) names (subst (λ m. get_or (needs_by (slice_get rules item)) m 0 < length rules) now_passed v)) in
            subst (λ m. Contains (get_or new.waiting.items (get_or (needs_by (slice_get rules item)) m 0) []) item) (sym now_passed)
            (subst (λ xs. Contains (get_or new.waiting.items (get_or xs k 0) []) item) (sym names) (lists g at));
      };
    }

    pub begun_all : (i : ℕ) → Begun rules q i → Begun rules new i
    begun_all i h = ⊎_elim (λ e. subst (λ m. Begun rules new m) (sym e) settled_placed.begun) (λ ne. begun_beside i ne h) (cases_eq i item)

    pub settled_all : (i : ℕ) → Settled rules q i → Settled rules new i
    settled_all i h = ⊎_elim (λ e. subst (λ m. Settled rules new m) (sym e) settled_placed) (λ ne. settled_beside i ne h) (cases_eq i item)

pub adds : (old new : ℕ → Bool) (number place passed p : ℕ) → p ≡ place → (p ≤ passed → new number ≡ true)
    → ((i : ℕ) → new i ≡ true → (old i ≡ true) ⊎ ((i ≡ number) × (p ≤ passed))) → ((i : ℕ) → old i ≡ true → new i ≡ true)
    → Adds old new number place passed
adds old new number place passed p e w o k = record {
  with = λ l. w (subst (λ m. m ≤ passed) (sym e) l);
  only = λ i h. ⊎_elim (λ x. inl x) (λ x. inr (x.0, subst (λ m. m ≤ passed) e x.1)) (o i h);
  keeps = k;
}

-- the item at a place that was found to be there
pub needed : (o : Option ℕ) (xs : List ℕ) (k : ℕ) → IfNone o (length xs ≤ k) → IfSome o (λ n. get_or xs k 0 ≡ n) → k < length xs → o ≡ Some (get_or xs k 0)
needed None xs k none value l = absurd (omega (arith, none, l))
needed (Some n) xs k none value l = ap (λ m. Some m) (sym value)
