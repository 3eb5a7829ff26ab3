-- Lists of items that wait.
use Rattle.std.proofs.Common.{◌≡◌, ℕ, ◌<◌, List, [], ◌∷◌, ◌++◌, length, set, get_or, ap, sym, ◌∙◌, subst, ⊎_elim}
use Rattle.std.specs.List.{Contains}
use Rattle.std.proofs.lemmas.Bool.{cases_eq}
use Rattle.std.proofs.lemmas.List.{get_or-set_same, get_or-set_other}
use Rattle.std.proofs.lemmas.List.Elements.{Contains-append_left, Contains-push}

module _ (old new : List (List ℕ)) (at item : ℕ) (l : at < length old) (is : new ≡ set old at (get_or old at [] ++ item ∷ [])) where
  there : get_or new at [] ≡ get_or old at [] ++ item ∷ []
  there = ap (λ xs. get_or xs at []) is ∙ get_or-set_same old at (get_or old at [] ++ item ∷ []) [] l

  pub pushed_has : Contains (get_or new at []) item
  pushed_has = subst (λ xs. Contains xs item) (sym there) (Contains-push (get_or old at []) item)

  pub pushed_keeps : (k x : ℕ) → Contains (get_or old k []) x → Contains (get_or new k []) x
  pushed_keeps k x h = ⊎_elim
      (λ e. let t : get_or new k [] ≡ get_or old at [] ++ item ∷ [] = ap (λ n. get_or new n []) e ∙ there in
      let g : Contains (get_or old at []) x = subst (λ n. Contains (get_or old n []) x) e h in
      subst (λ xs. Contains xs x) (sym t) (Contains-append_left (get_or old at []) (item ∷ []) x g))
      (λ n. let t : get_or new k [] ≡ get_or old k [] = ap (λ xs. get_or xs k []) is ∙ get_or-set_other old at k (get_or old at [] ++ item ∷ []) [] n in
      subst (λ xs. Contains xs x) (sym t) h)
      (cases_eq k at)
