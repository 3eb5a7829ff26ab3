-- What stands when an item has come, and when one was seen to.
use Rattle.std.proofs.Common.{◌≡◌, ℕ, ◌<◌, ◌≤◌, nat_eq, Bool, true, false, List, [], ◌∷◌, length, take, set, get_or, slice_get, Some, refl, ap, sym, ◌∙◌, subst, arith, ⊎_elim, inl, inr, ◌⊎◌}
use Rattle.std.specs.List.{Contains}
use Rattle.std.proofs.lemmas.Bool.{cases_eq, cases_lt, false≢true, true≢false, eq-eqb, ne_eqb}
use Rattle.std.proofs.lemmas.List.{get_or-set_same, get_or-set_other, length-set}
use Rattle.elaboration_order.specs.declared.rules.Rule.{Rule}
use Rattle.elaboration_order.specs.declared.queue.Queue.{Queue}
use Rattle.elaboration_order.specs.Order.{are_done}
use Rattle.elaboration_order.specs.Queue.{has, needs_by, musts_by, without, Settled, Begun, Seen, HasRoom}
use Rattle.elaboration_order.proofs.Reading.{and_left, and_right, and_both}

-- an item that has come stays so
pub more_done : (done more : List Bool) → ((i : ℕ) → get_or done i false ≡ true → get_or more i false ≡ true) → (xs : List ℕ)
    → are_done done xs ≡ true → are_done more xs ≡ true
more_done done more grows [] e = refl
more_done done more grows (x ∷ xs) e =
    and_both (get_or more x false) (are_done more xs) (grows x (and_left (get_or done x false) (are_done done xs) e))
    (more_done done more grows xs (and_right (get_or done x false) (are_done done xs) e))

-- an item that is not there needs not to be seen to
pub settled_outside : (rules : List Rule) (q : Queue) (i : ℕ) → length rules ≤ i → Begun rules q i → Settled rules q i
settled_outside rules q i l b = record { begun = b; seen = λ w. absurd (omega (arith, l, w)) }

pub settled_done : (rules : List Rule) (q : Queue) (i : ℕ) → get_or q.done.items i false ≡ true → Begun rules q i → Settled rules q i
settled_done rules q i d b = record { begun = b; seen = λ w n. absurd (true≢false (sym d ∙ n)) }

by_flag : (b : Bool) → (b ≡ true) ⊎ (b ≡ false)
by_flag true = inl refl
by_flag false = inr refl

module _ (rules : List Rule) (q new : Queue) (item : ℕ) (l : item < length q.done.items)
    (done : new.done.items ≡ set q.done.items item true) (passed : new.passed.items ≡ q.passed.items) (waiting : new.waiting.items ≡ q.waiting.items)
    (possible : (i : ℕ) → has new.possible i ≡ without (Some item) (has q.possible i) i)
    (preferred : (i : ℕ) → has new.preferred i ≡ without (Some item) (has q.preferred i) i) (i : ℕ) where
  came : get_or new.done.items item false ≡ true
  came = ap (λ xs. get_or xs item false) done ∙ get_or-set_same q.done.items item true false l

  other : (n : ℕ) → (n ≡ item → ⊥) → get_or new.done.items n false ≡ get_or q.done.items n false
  other n ne = ap (λ xs. get_or xs n false) done ∙ get_or-set_other q.done.items item n true false ne

  grows : (n : ℕ) → get_or q.done.items n false ≡ true → get_or new.done.items n false ≡ true
  grows n e = ⊎_elim (λ same. ap (λ m. get_or new.done.items m false) same ∙ came) (λ ne. other n ne ∙ e) (cases_eq n item)

  not_come : get_or new.done.items i false ≡ false → i ≡ item → ⊥
  not_come n e = true≢false (sym (ap (λ m. get_or new.done.items m false) e ∙ came) ∙ n)

  same_passed : get_or new.passed.items i 0 ≡ get_or q.passed.items i 0
  same_passed = ap (λ xs. get_or xs i 0) passed

  kept : (b : Bool) → without (Some item) b i ≡ true → (i ≡ item → ⊥) × (b ≡ true)
  kept b e = ⊎_elim
      (λ (same : i ≡ item). let t : nat_eq item i ≡ true = eq-eqb item i (sym same) in
      let f : without (Some item) b i ≡ false = rw t refl in absurd (false≢true (sym f ∙ e)))
      (λ (ne : i ≡ item → ⊥). let t : nat_eq item i ≡ false = ne_eqb item i (λ x. ne (sym x)) in
      let f : without (Some item) b i ≡ b = rw t refl in (ne, sym f ∙ e))
      (cases_eq i item)

  stays : (b : Bool) → (i ≡ item → ⊥) → b ≡ true → without (Some item) b i ≡ true
  stays b ne e = let t : nat_eq item i ≡ false = ne_eqb item i (λ x. ne (sym x)) in rw t e

  pub begun_behind : Begun rules q i → Begun rules new i
  begun_behind b = record {
    within = subst (λ k. k ≤ length (needs_by (slice_get rules i))) (sym same_passed) b.within;
    passed = subst (λ k. are_done new.done.items (take k (needs_by (slice_get rules i))) ≡ true) (sym same_passed)
        (more_done q.done.items new.done.items grows (take (get_or q.passed.items i 0) (needs_by (slice_get rules i))) b.passed);
    possible = λ h. let k = kept (has q.possible i) (sym (possible i) ∙ h) in let p = b.possible k.1 in
        (p.0, other i k.0 ∙ p.1, subst (λ k. musts_by (slice_get rules i) ≤ k) (sym same_passed) p.2);
    preferred = λ h. let k = kept (has q.preferred i) (sym (preferred i) ∙ h) in let p = b.preferred k.1 in
        (p.0, other i k.0 ∙ p.1, subst (λ k. length (needs_by (slice_get rules i)) ≤ k) (sym same_passed) p.2);
  }

  seen_behind : (i ≡ item → ⊥) → Seen rules q i
      → (get_or q.passed.items i 0 < length (needs_by (slice_get rules i)) → get_or (needs_by (slice_get rules i)) (get_or q.passed.items i 0) 0 ≡ item → ⊥)
      → Seen rules new i
  seen_behind ne s free = record {
    possible = λ h. possible i ∙ stays (has q.possible i) ne (s.possible (subst (λ k. musts_by (slice_get rules i) ≤ k) same_passed h));
    preferred = λ h. preferred i ∙ stays (has q.preferred i) ne (s.preferred (subst (λ k. length (needs_by (slice_get rules i)) ≤ k) same_passed h));
    blocked = λ h. let g = subst (λ k. k < length (needs_by (slice_get rules i))) same_passed h in
        subst (λ k. get_or new.done.items (get_or (needs_by (slice_get rules i)) k 0) false ≡ false) (sym same_passed)
        (other (get_or (needs_by (slice_get rules i)) (get_or q.passed.items i 0) 0) (free g) ∙ s.blocked g);
    listed = λ h w. let g = subst (λ k. k < length (needs_by (slice_get rules i))) same_passed h in
        let v = subst (λ k. get_or (needs_by (slice_get rules i)) k 0 < length rules) same_passed w in
        let c = s.listed g v in
        subst (λ k. Contains (get_or new.waiting.items (get_or (needs_by (slice_get rules i)) k 0) []) i) (sym same_passed)
        (subst (λ ws. Contains (get_or ws (get_or (needs_by (slice_get rules i)) (get_or q.passed.items i 0) 0) []) i) (sym waiting) c);
  }

  pub settled_behind : length q.done.items ≡ length rules → Settled rules q i → Settled rules new i ⊎ Contains (get_or new.waiting.items item []) i
  settled_behind n s = ⊎_elim
      (λ d. inl (settled_done rules new i d (begun_behind s.begun)))
      (λ d. let ne : i ≡ item → ⊥ = not_come d in let o : get_or q.done.items i false ≡ false = sym (other i ne) ∙ d in ⊎_elim
      (λ w. let u = s.seen w o in ⊎_elim
      (λ b. ⊎_elim
      (λ e. let at : get_or (needs_by (slice_get rules i)) (get_or q.passed.items i 0) 0 < length rules = subst (λ m. m < length rules) (sym e) (subst (λ m. item < m) n l) in
      inr (subst (λ ws. Contains (get_or ws item []) i) (sym waiting) (subst (λ m. Contains (get_or q.waiting.items m []) i) e (u.listed b at))))
      (λ free. inl (record { begun = begun_behind s.begun; seen = λ _ _. seen_behind ne u (λ _ e. free e) }))
      (cases_eq (get_or (needs_by (slice_get rules i)) (get_or q.passed.items i 0) 0) item))
      (λ past. inl (record { begun = begun_behind s.begun; seen = λ _ _. seen_behind ne u (λ b. absurd (omega (arith, b, past))) }))
      (cases_lt (get_or q.passed.items i 0) (length (needs_by (slice_get rules i)))))
      (λ out. inl (settled_outside rules new i out (begun_behind s.begun)))
      (cases_lt i (length rules)))
      (by_flag (get_or new.done.items i false))

  pub room_behind : HasRoom rules q → HasRoom rules new
  room_behind r = record { done = ap length done ∙ length-set q.done.items item true ∙ r.done; passed = ap length passed ∙ r.passed; waiting = ap length waiting ∙ r.waiting }
