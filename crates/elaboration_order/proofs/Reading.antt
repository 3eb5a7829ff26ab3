-- What the sets say of the items that may come.
use Rattle.std.proofs.Common.{◌≡◌, ℕ, zero, suc, ◌<◌, ◌≤◌, Bool, true, false, not, ◌&&◌, ◌||◌, List, [], ◌∷◌, ◌++◌, length, take, get_or, slice_get, Option, Some, None, refl, ap, sym, ◌∙◌, subst, arith, ⊎_elim, length-append, append-nil}
use Rattle.std.proofs.Math.ListN.{get_or-append}
use Rattle.std.proofs.lemmas.Bool.{cases_lt, false≢true, true≢false}
use Rattle.std.proofs.lemmas.List.Folds.{list_all-append, list_all_at}
use Rattle.std.proofs.lemmas.Option.{slice_get_within, slice_get-get_or}
use Rattle.elaboration_order.specs.declared.rules.Rule.{Rule}
use Rattle.elaboration_order.specs.declared.queue.Queue.{Queue}
use Rattle.elaboration_order.specs.Order.{are_done, may_come, may_come_by}
use Rattle.elaboration_order.specs.Queue.{has, needs, needs_by, musts_by, Settled}

pub same_truth : (a b : Bool) → (a ≡ true → b ≡ true) → (b ≡ true → a ≡ true) → a ≡ b
same_truth true b f g = sym (f refl)
same_truth false true f g = g refl
same_truth false false f g = refl

pub and_left : (a b : Bool) → (a && b) ≡ true → a ≡ true
and_left true b e = refl
and_left false b e = absurd (false≢true e)

pub and_right : (a b : Bool) → (a && b) ≡ true → b ≡ true
and_right true b e = e
and_right false b e = absurd (false≢true e)

pub and_both : (a b : Bool) → a ≡ true → b ≡ true → (a && b) ≡ true
and_both a b e f = rw (e, f) refl

not_true : (d : Bool) → not d ≡ true → d ≡ false
not_true true e = absurd (false≢true e)
not_true false e = refl

-- a front of items that have come
front_done : (done : List Bool) (fs ps : List ℕ) (k : ℕ) → length fs ≤ k → are_done done (take k (fs ++ ps)) ≡ true → are_done done fs ≡ true
front_done done [] ps k l e = refl
front_done done (f ∷ fs) ps zero l e = absurd (omega (arith, l))
front_done done (f ∷ fs) ps (suc k) l e =
    and_both (get_or done f false) (are_done done fs) (and_left (get_or done f false) (are_done done (take k (fs ++ ps))) e)
    (front_done done fs ps k (omega (arith, l)) (and_right (get_or done f false) (are_done done (take k (fs ++ ps))) e))

one_done : (done : List Bool) (xs : List ℕ) (k : ℕ) → k < length xs → are_done done xs ≡ true → get_or done (get_or xs k 0) false ≡ false → ⊥
one_done done xs k l e f = true≢false (sym e ∙ list_all_at (λ i. get_or done i false) xs k 0 l f)

no_rule : Rule
no_rule = record { follows = []; prefers = [] }

some_is : (o : Option Rule) (r : Rule) → o ≡ Some r → o ≡ None → ⊥
some_is None r e f = cc
some_is (Some x) r e f = cc

there : (rules : List Rule) (i : ℕ) → i < length rules → slice_get rules i ≡ None → ⊥
there rules i l e = some_is (slice_get rules i) (get_or rules i no_rule) (slice_get-get_or rules i no_rule l) e

module _ (done : List Bool) (fs ps : List ℕ) (k : ℕ) (d h : Bool) (front : are_done done (take k (fs ++ ps)) ≡ true)
    (blocked : d ≡ false → k < length (fs ++ ps) → get_or done (get_or (fs ++ ps) k 0) false ≡ false) where
  pub plain_possible : (h ≡ true → (d ≡ false) × (length fs ≤ k)) → (d ≡ false → length fs ≤ k → h ≡ true)
      → h ≡ (not d && (are_done done fs && (not false || are_done done ps)))
  plain_possible only too = same_truth h (not d && (are_done done fs && (not false || are_done done ps)))
      (λ e. let o = only e in let n : d ≡ false = o.0 in let f : are_done done fs ≡ true = front_done done fs ps k o.1 front in rw (n, f) refl)
      (λ e. let n : d ≡ false = not_true d (and_left (not d) (are_done done fs && true) e) in
      let f : are_done done fs ≡ true = and_left (are_done done fs) true (and_right (not d) (are_done done fs && true) e) in
      ⊎_elim
      (λ l. let b : get_or done (get_or (fs ++ ps) k 0) false ≡ false = blocked n (let a = length-append fs ps in omega (arith, l, a)) in
      absurd (one_done done fs k l f (ap (λ i. get_or done i false) (sym (get_or-append fs ps 0 k l)) ∙ b)))
      (λ l. too n l)
      (cases_lt k (length fs)))

  pub plain_preferred : (h ≡ true → (d ≡ false) × (length (fs ++ ps) ≤ k)) → (d ≡ false → length (fs ++ ps) ≤ k → h ≡ true)
      → h ≡ (not d && (are_done done fs && (not true || are_done done ps)))
  plain_preferred only too = same_truth h (not d && (are_done done fs && (not true || are_done done ps)))
      (λ e. let o = only e in let n : d ≡ false = o.0 in
      let all : are_done done (fs ++ ps) ≡ true = front_done done (fs ++ ps) [] k o.1 (let z : (fs ++ ps) ++ [] ≡ fs ++ ps = append-nil (fs ++ ps) in rw z front) in
      let two : (are_done done fs && are_done done ps) ≡ true = sym (list_all-append (λ i. get_or done i false) fs ps) ∙ all in
      let f : are_done done fs ≡ true = and_left (are_done done fs) (are_done done ps) two in
      let g : are_done done ps ≡ true = and_right (are_done done fs) (are_done done ps) two in
      rw (n, f, g) refl)
      (λ e. let n : d ≡ false = not_true d (and_left (not d) (are_done done fs && are_done done ps) e) in
      let two : (are_done done fs && are_done done ps) ≡ true = and_right (not d) (are_done done fs && are_done done ps) e in
      let all : are_done done (fs ++ ps) ≡ true = list_all-append (λ i. get_or done i false) fs ps ∙ two in
      ⊎_elim
      (λ l. absurd (one_done done (fs ++ ps) k l all (blocked n l)))
      (λ l. too n l)
      (cases_lt k (length (fs ++ ps))))

module _ (rules : List Rule) (q : Queue) (i : ℕ) (s : Settled rules q i) where
  of_rule : (o : Option Rule) → slice_get rules i ≡ o → has q.possible i ≡ may_come_by q.done.items false i o
  of_rule None e = same_truth (has q.possible i) false (λ h. let l = (s.begun.possible h).0 in absurd (there rules i l e)) (λ h. absurd (false≢true h))
  of_rule (Some r) e =
      let n : needs_by (slice_get rules i) ≡ needs r = ap needs_by e in
      let m : musts_by (slice_get rules i) ≡ length r.follows = ap musts_by e in
      let w : i < length rules = slice_get_within rules i r e in
      let k = get_or q.passed.items i 0 in
      plain_possible q.done.items r.follows r.prefers k (get_or q.done.items i false) (has q.possible i)
      (subst (λ xs. are_done q.done.items (take k xs) ≡ true) n s.begun.passed)
      (λ d l. subst (λ xs. get_or q.done.items (get_or xs k 0) false ≡ false) n ((s.seen w d).blocked (subst (λ xs. k < length xs) (sym n) l)))
      (λ h. let b = s.begun.possible h in (b.1, subst (λ c. c ≤ k) m b.2))
      (λ d l. (s.seen w d).possible (subst (λ c. c ≤ k) (sym m) l))

  pub settled_possible : has q.possible i ≡ may_come rules q.done.items false i
  settled_possible = of_rule (slice_get rules i) refl

  of_rule_preferred : (o : Option Rule) → slice_get rules i ≡ o → has q.preferred i ≡ may_come_by q.done.items true i o
  of_rule_preferred None e = same_truth (has q.preferred i) false (λ h. let l = (s.begun.preferred h).0 in absurd (there rules i l e)) (λ h. absurd (false≢true h))
  of_rule_preferred (Some r) e =
      let n : needs_by (slice_get rules i) ≡ needs r = ap needs_by e in
      let w : i < length rules = slice_get_within rules i r e in
      let k = get_or q.passed.items i 0 in
      plain_preferred q.done.items r.follows r.prefers k (get_or q.done.items i false) (has q.preferred i)
      (subst (λ xs. are_done q.done.items (take k xs) ≡ true) n s.begun.passed)
      (λ d l. subst (λ xs. get_or q.done.items (get_or xs k 0) false ≡ false) n ((s.seen w d).blocked (subst (λ xs. k < length xs) (sym n) l)))
      (λ h. let b = s.begun.preferred h in (b.1, subst (λ xs. length xs ≤ k) n b.2))
      (λ d l. (s.seen w d).preferred (subst (λ xs. length xs ≤ k) (sym n) l))

  pub settled_preferred : has q.preferred i ≡ may_come rules q.done.items true i
  settled_preferred = of_rule_preferred (slice_get rules i) refl

  pub possible_within : may_come rules q.done.items false i ≡ true → i < length rules
  possible_within e = (s.begun.possible (settled_possible ∙ e)).0

  pub preferred_within : may_come rules q.done.items true i ≡ true → i < length rules
  preferred_within e = (s.begun.preferred (settled_preferred ∙ e)).0
