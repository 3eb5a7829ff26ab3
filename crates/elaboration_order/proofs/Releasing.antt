-- The items that waited for one that has come, one after the other.
use Rattle.std.proofs.Common.{◌≡◌, ℕ, ◌+◌, ◌<◌, ◌≤◌, true, false, List, [], ◌∷◌, ◌++◌, length, take, drop, set, get_or, slice_get, ap, sym, ◌∙◌, subst, arith, ⊎_elim, inl, inr, ◌⊎◌, length-drop}
use Rattle.std.specs.List.{Contains}
use Rattle.std.proofs.lemmas.Bool.{true≢false}
use Rattle.std.proofs.lemmas.List.{get_or-set_other, length-set, drop_more}
use Rattle.std.proofs.lemmas.List.Elements.{Contains-append_cases, Contains-push_cases}
use Rattle.elaboration_order.specs.declared.rules.Rule.{Rule}
use Rattle.elaboration_order.specs.declared.queue.Queue.{Queue}
use Rattle.elaboration_order.specs.Order.{are_done}
use Rattle.elaboration_order.specs.Queue.{has, needs_by, musts_by, Settled, Begun, HasRoom}

-- the list of an item that has come is emptied
module _ (rules : List Rule) (q new : Queue) (item : ℕ) (l : item < length q.waiting.items)
    (done : new.done.items ≡ q.done.items) (passed : new.passed.items ≡ q.passed.items)
    (possible : (i : ℕ) → has new.possible i ≡ has q.possible i) (preferred : (i : ℕ) → has new.preferred i ≡ has q.preferred i)
    (waiting : new.waiting.items ≡ set q.waiting.items item []) where
  pub emptied_room : HasRoom rules q → HasRoom rules new
  emptied_room r = record { done = ap length done ∙ r.done; passed = ap length passed ∙ r.passed; waiting = ap length waiting ∙ length-set q.waiting.items item [] ∙ r.waiting }

  module _ (i : ℕ) where
    same : get_or new.passed.items i 0 ≡ get_or q.passed.items i 0
    same = ap (λ xs. get_or xs i 0) passed

    pub emptied_begun : Begun rules q i → Begun rules new i
    emptied_begun b = record {
      within = subst (λ k. k ≤ length (needs_by (slice_get rules i))) (sym same) b.within;
      passed = subst (λ k. are_done new.done.items (take k (needs_by (slice_get rules i))) ≡ true) (sym same)
          (subst (λ ds. are_done ds (take (get_or q.passed.items i 0) (needs_by (slice_get rules i))) ≡ true) (sym done) b.passed);
      possible = λ h. let p = b.possible (sym (possible i) ∙ h) in
          (p.0, ap (λ ds. get_or ds i false) done ∙ p.1, subst (λ k. musts_by (slice_get rules i) ≤ k) (sym same) p.2);
      preferred = λ h. let p = b.preferred (sym (preferred i) ∙ h) in
          (p.0, ap (λ ds. get_or ds i false) done ∙ p.1, subst (λ k. length (needs_by (slice_get rules i)) ≤ k) (sym same) p.2);
    }

    pub emptied_settled : get_or q.done.items item false ≡ true → Settled rules q i → Settled rules new i
    emptied_settled came s = record {
      begun = emptied_begun s.begun;
      seen = λ w d. let u = s.seen w (sym (ap (λ ds. get_or ds i false) done) ∙ d) in record {
        possible = λ h. possible i ∙ u.possible (subst (λ k. musts_by (slice_get rules i) ≤ k) same h);
        preferred = λ h. preferred i ∙ u.preferred (subst (λ k. length (needs_by (slice_get rules i)) ≤ k) same h);
        blocked = λ h. let g = subst (λ k. k < length (needs_by (slice_get rules i))) same h in
            subst (λ k. get_or new.done.items (get_or (needs_by (slice_get rules i)) k 0) false ≡ false) (sym same)
            (ap (λ ds. get_or ds (get_or (needs_by (slice_get rules i)) (get_or q.passed.items i 0) 0) false) done ∙ u.blocked g);
        listed = λ h v. let g = subst (λ k. k < length (needs_by (slice_get rules i))) same h in
            let w = subst (λ k. get_or (needs_by (slice_get rules i)) k 0 < length rules) same v in
            let need = get_or (needs_by (slice_get rules i)) (get_or q.passed.items i 0) 0 in
            let ne : need ≡ item → ⊥ = (λ e. true≢false (sym came ∙ ap (λ n. get_or q.done.items n false) (sym e) ∙ u.blocked g)) in
            let t : get_or new.waiting.items need [] ≡ get_or q.waiting.items need [] = ap (λ xs. get_or xs need []) waiting ∙ get_or-set_other q.waiting.items item need [] [] ne in
            subst (λ k. Contains (get_or new.waiting.items (get_or (needs_by (slice_get rules i)) k 0) []) i) (sym same)
            (subst (λ xs. Contains xs i) (sym t) (u.listed g w));
      };
    }

-- the first of those that are left, or another
pub left_cases : (xs : List ℕ) (at i : ℕ) → at < length xs → Contains (drop at xs) i → (i ≡ get_or xs at 0) ⊎ Contains (drop (at + 1) xs) i
left_cases xs at i l h =
    let x = get_or xs at 0 in
    let rest = drop (at + 1) xs in
    let c : Contains ((x ∷ []) ++ rest) i = subst (λ ys. Contains ys i) (drop_more xs at 0 l) h in
    ⊎_elim
    (λ one. ⊎_elim (λ none. absurd (omega (arith, none.1))) (λ e. inl (sym e)) (Contains-push_cases [] x i one))
    (λ other. inr other)
    (Contains-append_cases (x ∷ []) rest i c)

pub none_left : (xs : List ℕ) (at i : ℕ) → length xs ≤ at → Contains (drop at xs) i → ⊥
none_left xs at i l h = let n = length-drop at xs in let k = h.1 in omega (arith, n, k, l)
