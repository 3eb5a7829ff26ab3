-- What a declaration more, at the end, shows and hides.
use Rattle.std.proofs.Common.{◌≡◌, ℕ, ◌<◌, nat_eq, true, false, if◌then◌else◌, List, [], ◌∷◌, ◌++◌, length, set, get_or, Option, Some, None, refl, ap, sym, ◌∙◌, arith, ⊎_elim}
use Rattle.std.proofs.lemmas.Bool.{cases_eq, cases_lt, eq-eqb, ne_eqb}
use Rattle.std.proofs.lemmas.List.{append-nil, append_assoc, get_or_past, get_or-set_same, get_or-set_other}
use Rattle.scope_table.specs.declared.table.Open.{Open}
use Rattle.scope_table.specs.Scopes.{latest_from, latest, hides_from, hides}

module _ {T : Type 0} where
  pub latest_push_from : (k : ℕ) (found : Option T) (os : List (Open T)) (o : Open T)
      → latest_from k found (os ++ o ∷ []) ≡ (if nat_eq o.key k then Some o.shown else latest_from k found os)
  latest_push_from k found [] o = refl
  latest_push_from k found (x ∷ os) o = latest_push_from k (if nat_eq x.key k then Some x.shown else found) os o

  pub latest_push : (k : ℕ) (os : List (Open T)) (o : Open T)
      → latest k (os ++ o ∷ []) ≡ (if nat_eq o.key k then Some o.shown else latest k os)
  latest_push k os o = latest_push_from k None os o

  pub hides_push_from : (before os : List (Open T)) (o : Open T)
      → hides_from before (os ++ o ∷ []) ≡ hides_from before os ++ latest o.key (before ++ os) ∷ []
  hides_push_from before [] o = ap (λ bs. latest o.key bs ∷ []) (sym (append-nil before))
  hides_push_from before (x ∷ os) o =
      ap (λ hs. latest x.key before ∷ hs)
      (hides_push_from (before ++ x ∷ []) os o
      ∙ ap (λ bs. hides_from (before ++ x ∷ []) os ++ latest o.key bs ∷ []) (append_assoc before (x ∷ []) os))

  pub hides_push : (os : List (Open T)) (o : Open T) → hides (os ++ o ∷ []) ≡ hides os ++ latest o.key os ∷ []
  hides_push os o = hides_push_from [] os o

  -- what is found stands within the list
  pub is_within : (heads : List (Option T)) (k : ℕ) (x : T) → get_or heads k None ≡ Some x → k < length heads
  is_within heads k x e = ⊎_elim (λ l. l) (λ l. let p : get_or heads k None ≡ None = get_or_past heads k None l in grind arith) (cases_lt k (length heads))

  -- heads that tell what each name denotes, after a declaration more, and after it is taken away
  pub heads_declare : (heads : List (Option T)) (os : List (Open T)) (o : Open T) → o.key < length heads
      → ((k : ℕ) → get_or heads k None ≡ latest k os) → (k : ℕ) → get_or (set heads o.key (Some o.shown)) k None ≡ latest k (os ++ o ∷ [])
  heads_declare heads os o l told k =
      let p : latest k (os ++ o ∷ []) ≡ (if nat_eq o.key k then Some o.shown else latest k os) = latest_push k os o in
      ⊎_elim
      (λ e. let q : get_or (set heads o.key (Some o.shown)) o.key None ≡ Some o.shown = get_or-set_same heads o.key (Some o.shown) None l in let t : nat_eq o.key k ≡ true = eq-eqb o.key k (sym e) in rw (p, t, e) q)
      (λ n. let q = get_or-set_other heads o.key k (Some o.shown) None n in let t : nat_eq o.key k ≡ false = ne_eqb o.key k (λ e. n (sym e)) in rw (p, t, q) (told k))
      (cases_eq k o.key)

  pub heads_forget : (heads : List (Option T)) (os : List (Open T)) (o : Open T) (hidden : Option T) → o.key < length heads
      → ((k : ℕ) → get_or heads k None ≡ latest k (os ++ o ∷ [])) → hidden ≡ latest o.key os
      → (k : ℕ) → get_or (set heads o.key hidden) k None ≡ latest k os
  heads_forget heads os o hidden l told h k =
      let p : latest k (os ++ o ∷ []) ≡ (if nat_eq o.key k then Some o.shown else latest k os) = latest_push k os o in
      ⊎_elim
      (λ e. let q : get_or (set heads o.key hidden) o.key None ≡ hidden = get_or-set_same heads o.key hidden None l in rw e (q ∙ h))
      (λ n. let q = get_or-set_other heads o.key k hidden None n in let t : nat_eq o.key k ≡ false = ne_eqb o.key k (λ e. n (sym e)) in rw q (told k ∙ (rw (p, t) refl)))
      (cases_eq k o.key)
