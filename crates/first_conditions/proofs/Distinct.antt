-- Keys that are new one after another are distinct.
use Rattle.std.proofs.Common.{◌≡◌, ℕ, true, false, ◌&&◌, ◌||◌, List, [], ◌∷◌, ◌++◌, map, refl, ◌∙◌, arith}
use Rattle.std.proofs.lemmas.List.Folds.{list_any-append}
use Rattle.std.specs.Cmp.Lexicographic.{nat_list_eq_equiv}
use Rattle.std.specs.Str.{bytes_eq}
use Rattle.first_path.specs.declared.source.Word.{Word}
use Rattle.first_conditions.specs.Checks.{are_items, are_known, are_new}
use Rattle.first_conditions.specs.Conditions.{AreDistinct, is_known, key}

-- two keys are the same in either order
turned : (a b : List ℕ) → bytes_eq a b ≡ false → bytes_eq b a ≡ false
turned a b h = nat_list_eq_equiv.symm b a ∙ h

-- none of these is among those seen
Fresh : List (List ℕ) → List (List ℕ) → Type 0
Fresh seen [] = Unit {0}
Fresh seen (k ∷ ks) = (is_known seen k ≡ false) × Fresh seen ks

known_more : (seen : List (List ℕ)) (k x : List ℕ) → is_known (seen ++ k ∷ []) x ≡ (is_known seen x || (bytes_eq x k || false))
known_more seen k x = list_any-append (bytes_eq x) seen (k ∷ [])

-- with one more seen
fresh_less : (seen : List (List ℕ)) (k : List ℕ) (ks : List (List ℕ)) → Fresh (seen ++ k ∷ []) ks → Fresh seen ks × (is_known ks k ≡ false)
unfolding Fresh
fresh_less seen k [] h = (tt, refl)
fresh_less seen k (x ∷ xs) h =
    let e = known_more seen k x in
    let old : is_known seen x ≡ false = grind (arith, e, h.0) in
    let other : bytes_eq x k ≡ false = grind (arith, e, h.0) in
    let rest = fresh_less seen k xs h.1 in
    ((old, rest.0), grind (arith, turned x k other, rest.1))

fresh_more : (seen : List (List ℕ)) (k : List ℕ) (ks : List (List ℕ)) → Fresh seen ks → is_known ks k ≡ false → Fresh (seen ++ k ∷ []) ks
unfolding Fresh
fresh_more seen k [] h n = tt
fresh_more seen k (x ∷ xs) h n =
    let e = known_more seen k x in
    let other : bytes_eq k x ≡ false = grind (arith, n) in
    let rest : is_known xs k ≡ false = grind (arith, n) in
    (grind (arith, e, h.0, turned k x other), fresh_more seen k xs h.1 rest)

apart : (seen ks : List (List ℕ)) → are_new seen ks ≡ true → Fresh seen ks × AreDistinct ks
unfolding Fresh
apart seen [] h = (tt, tt)
apart seen (k ∷ ks) h =
    let new : is_known seen k ≡ false = grind (arith, h) in
    let later : are_new (seen ++ k ∷ []) ks ≡ true = grind (arith, h) in
    let rest = apart (seen ++ k ∷ []) ks later in
    let less = fresh_less seen k ks rest.0 in
    ((new, less.0), (less.1, rest.1))

new_when : (seen ks : List (List ℕ)) → Fresh seen ks → AreDistinct ks → are_new seen ks ≡ true
unfolding Fresh
new_when seen [] f d = refl
new_when seen (k ∷ ks) f d =
    let later = new_when (seen ++ k ∷ []) ks (fresh_more seen k ks f.1 d.0) d.1 in
    grind (arith, f.0, later)

none_seen : (ks : List (List ℕ)) → Fresh [] ks
unfolding Fresh
none_seen [] = tt
none_seen (k ∷ ks) = (refl, none_seen ks)

-- each new in turn, they are distinct, and the other way round
pub distinct_when_new : (ks : List (List ℕ)) → are_new [] ks ≡ true → AreDistinct ks
distinct_when_new ks h = (apart [] ks h).1

pub new_when_distinct : (ks : List (List ℕ)) → AreDistinct ks → are_new [] ks ≡ true
new_when_distinct ks d = new_when [] ks (none_seen ks) d

-- items are known, and new in turn
pub items_parts : (known seen : List (List ℕ)) (ws : List Word) → are_items known seen ws ≡ (are_known known ws && are_new seen (map key ws))
items_parts known seen [] = refl
items_parts known seen (w ∷ ws) = let rest = items_parts known (seen ++ key w ∷ []) ws in grind (arith, rest)
