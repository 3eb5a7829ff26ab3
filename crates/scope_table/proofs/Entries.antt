-- The entries of a table, when the last is taken away.
use Rattle.std.proofs.Common.{◌≡◌, ℕ, ◌<◌, List, [], ◌∷◌, ◌++◌, length, set, get_or, map, Option, Some, None, refl, ap, sym, ◌∙◌}
use Rattle.std.proofs.lemmas.Bool.{eq-eqb}
use Rattle.std.proofs.lemmas.List.{map-append, same_from_push, get_or_read}
use Rattle.scope_table.specs.declared.table.Open.{Open}
use Rattle.scope_table.specs.declared.table.Entry.{Entry}
use Rattle.scope_table.specs.Scopes.{latest, hides}
use Rattle.scope_table.proofs.Latest.{latest_push, hides_push, is_within, heads_forget, heads_declare}

module _ {T : Type 0} where
  abbrev opens : List (Entry T) → List (Open T)
  opens es = map (λ (e : Entry T). e.opened) es

  abbrev hiddens : List (Entry T) → List (Option T)
  hiddens es = map (λ (e : Entry T). e.hidden) es

  abbrev Tells : List (Option T) → List (Entry T) → Type 0
  Tells heads es = (k : ℕ) → get_or heads k None ≡ latest k (opens es)

  opens_push : (es : List (Entry T)) (e : Entry T) → opens (es ++ e ∷ []) ≡ opens es ++ e.opened ∷ []
  opens_push es e = map-append (λ (e : Entry T). e.opened) es (e ∷ [])

  hiddens_push : (es : List (Entry T)) (e : Entry T) → hiddens (es ++ e ∷ []) ≡ hiddens es ++ e.hidden ∷ []
  hiddens_push es e = map-append (λ (e : Entry T). e.hidden) es (e ∷ [])

  module _ (heads : List (Option T)) (all es : List (Entry T)) (e : Entry T) (is : all ≡ es ++ e ∷ []) (told : Tells heads all) (hide : hiddens all ≡ hides (opens all)) where
    opens_all : opens all ≡ opens es ++ e.opened ∷ []
    opens_all = ap opens is ∙ opens_push es e

    told_all : (k : ℕ) → get_or heads k None ≡ latest k (opens es ++ e.opened ∷ [])
    told_all k = told k ∙ ap (latest k) opens_all

    pub popped_within : e.opened.key < length heads
    popped_within =
        let p = told_all e.opened.key ∙ latest_push e.opened.key (opens es) e.opened in
        is_within heads e.opened.key e.opened.shown (p ∙ (rw (eq-eqb e.opened.key e.opened.key refl) refl))

    both : hiddens es ++ e.hidden ∷ [] ≡ hides (opens es) ++ latest e.opened.key (opens es) ∷ []
    both = sym (hiddens_push es e) ∙ ap hiddens (sym is) ∙ hide ∙ ap hides opens_all ∙ hides_push (opens es) e.opened

    pub popped_told : Tells (set heads e.opened.key e.hidden) es
    popped_told = heads_forget heads (opens es) e.opened e.hidden popped_within told_all (same_from_push (hiddens es) (hides (opens es)) e.hidden (latest e.opened.key (opens es)) both).1

    pub popped_hides : hiddens es ≡ hides (opens es)
    popped_hides = (same_from_push (hiddens es) (hides (opens es)) e.hidden (latest e.opened.key (opens es)) both).0

  -- and when one is added
  module _ (old heads : List (Option T)) (all es : List (Entry T)) (e : Entry T) (is : all ≡ es ++ e ∷ []) (room : e.opened.key < length heads)
      (same : (k : ℕ) → get_or heads k None ≡ get_or old k None) (read : e.hidden ≡ get_or heads e.opened.key e.hidden)
      (told : Tells old es) (hide : hiddens es ≡ hides (opens es)) where
    pub pushed_told : Tells (set heads e.opened.key (Some e.opened.shown)) all
    pushed_told k =
        heads_declare heads (opens es) e.opened room (λ k. same k ∙ told k) k
        ∙ ap (latest k) (sym (opens_push es e) ∙ ap opens (sym is))

    hidden_is : e.hidden ≡ latest e.opened.key (opens es)
    hidden_is = get_or_read heads e.opened.key e.hidden room read None ∙ same e.opened.key ∙ told e.opened.key

    pub pushed_hides : hiddens all ≡ hides (opens all)
    pushed_hides =
        ap hiddens is ∙ hiddens_push es e ∙ ap (λ hs. hs ++ e.hidden ∷ []) hide ∙ ap (λ h. hides (opens es) ++ h ∷ []) hidden_is
        ∙ sym (hides_push (opens es) e.opened) ∙ ap hides (sym (opens_push es e) ∙ ap opens (sym is))
