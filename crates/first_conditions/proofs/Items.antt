-- The items of lists one behind the other.
use Rattle.std.proofs.Common.{◌≡◌, ℕ, ◌+◌, ◌<◌, Bool, true, false, ◌&&◌, List, [], ◌∷◌, ◌++◌, length, get_or, drop, map, refl, sym, ap, ◌∙◌, arith}
use Rattle.std.proofs.lemmas.List.{append_assoc, append-nil, drop_more}
use Rattle.std.specs.List.{flat_map}
use Rattle.first_path.specs.declared.source.Entry.{Entry}
use Rattle.first_path.specs.declared.source.Word.{Word}
use Rattle.first_conditions.specs.Checks.{are_items}
use Rattle.first_conditions.specs.Conditions.{key, words_of}

-- the later ones are new to the earlier ones
pub items_append : (known seen : List (List ℕ)) (xs ys : List Word)
    → are_items known seen (xs ++ ys) ≡ (are_items known seen xs && are_items known (seen ++ map key xs) ys)
items_append known seen [] ys = rw append-nil refl
items_append known seen (x ∷ xs) ys =
    let h = items_append known (seen ++ key x ∷ []) xs ys in
    let e = append_assoc seen (key x ∷ []) (map key xs) in
    grind (arith, h, e)

-- the items of the entries from a place on: those of the entry there, and then those of the others
pub items_step : (known seen : List (List ℕ)) (es : List Entry) (i : ℕ) (e : Entry) → i < length es → e ≡ get_or es i e
    → are_items known seen (flat_map (λ (x : Entry). words_of x.names) (drop i es))
    ≡ (are_items known seen (words_of e.names) && are_items known (seen ++ map key (words_of e.names)) (flat_map (λ (x : Entry). words_of x.names) (drop (i + 1) es)))
items_step known seen es i e l at =
    let left : drop i es ≡ e ∷ drop (i + 1) es = drop_more es i e l ∙ ap (λ (x : Entry). x ∷ drop (i + 1) es) (sym at) in
    ap (λ ts. are_items known seen (flat_map (λ (x : Entry). words_of x.names) ts)) left
    ∙ items_append known seen (words_of e.names) (flat_map (λ (x : Entry). words_of x.names) (drop (i + 1) es))

-- where the first part fails, all fail
pub stops : (b a r left whole : Bool) → left ≡ (a && r) → b ≡ a → b ≡ false → left ≡ whole → false ≡ whole
stops b a r left whole s f n i = let a-no : a ≡ false = sym f ∙ n in sym (s ∙ ap (λ x. x && r) a-no) ∙ i

-- where it passes, the others decide
pub goes_on : (b a r left whole : Bool) → left ≡ (a && r) → b ≡ a → b ≡ true → left ≡ whole → r ≡ whole
goes_on b a r left whole s f y i = let a-yes : a ≡ true = sym f ∙ y in sym (s ∙ ap (λ x. x && r) a-yes) ∙ i
