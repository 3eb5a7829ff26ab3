-- One unit more.
use Rattle.std.proofs.Common.{◌≡◌, ℕ, suc, ◌+◌, ◌<◌, Bool, cond, List, [], ◌∷◌, ◌++◌, length, take, drop, get_or, Some, ap, refl, sym, ◌∙◌, drop-cons, add-one}
use Rattle.std.specs.Prelude.{codes, reverse}
use Rattle.std.proofs.lemmas.List.{append_assoc, drop_more, reverse-append, take_more}
use Rattle.ada_tree.specs.declared.units.Unit.{Unit as TheUnit}
use Rattle.ada_forms.specs.Forms.{Expr, listed}
use Rattle.unit_order.specs.Withs.{exprs_in}
use Rattle.unit_names.specs.declared.heads.Head.{Head}
use Rattle.unit_order.specs.Heads.{added, key_of, spec_added, with_all, with_specs}
use Rattle.unit_order.specs.Packages.{place_from}

pub next_take : {A : Type 0} (xs : List A) (n : ℕ) (x : A) → n < length xs → x ≡ get_or xs n x → take (n + 1) xs ≡ take n xs ++ x ∷ []
next_take xs n x l is = take_more xs n x l ∙ ap (λ y. take n xs ++ y ∷ []) (sym is)

pub exprs_listed : (ts : List Expr) → exprs_in (listed ts) ≡ ts
exprs_listed [] = refl
exprs_listed (t ∷ ts) = ap (λ es. t ∷ es) (exprs_listed ts)

pub one_spec : (keys : List (List ℕ)) (xs : List TheUnit) (x : TheUnit) → with_specs keys (xs ++ x ∷ []) ≡ spec_added (with_specs keys xs) x
one_spec keys [] x = refl
one_spec keys (y ∷ xs) x = one_spec (spec_added keys y) xs x

pub one_name : (keys : List (List ℕ)) (xs : List TheUnit) (x : TheUnit) → with_all keys (xs ++ x ∷ []) ≡ added (with_all keys xs) (key_of x)
one_name keys [] x = refl
one_name keys (y ∷ xs) x = one_name (added keys (key_of y)) xs x

-- the unit before those that were looked at
pub one_place : (is : Head → Bool) (heads : List Head) (n : ℕ) (h : Head) → n < length heads → h ≡ get_or heads n h
    → place_from is n (drop n heads) ≡ cond (is h) (Some n) (place_from is (n + 1) (drop (n + 1) heads))
one_place is heads n h l e =
    let d : drop n heads ≡ h ∷ drop (n + 1) heads = rw (add-one n) (drop-cons heads n h l ∙ ap (λ g. g ∷ drop (suc n) heads) (sym e)) in
    ap (place_from is n) d

-- a letter before those that were added back to front
pub one_letter : (word text new first : List ℕ) (n i : ℕ) → n < length word → n + 1 ≡ i → new ≡ text ++ get_or word n 0 ∷ []
    → reverse text ≡ drop i word ++ first → reverse new ≡ drop n word ++ first
one_letter word text new first n i within next e h =
    ap reverse e ∙ reverse-append text (get_or word n 0 ∷ []) ∙ ap (λ (r : List ℕ). get_or word n 0 ∷ r) (h ∙ ap (λ k. drop k word ++ first) (sym next))
    ∙ ap (λ w. w ++ first) (sym (drop_more word n 0 within))

-- an identifier before what was read of a name back to front
pub one_piece : (whole piece old new all rest : List ℕ) → all ≡ rest ++ codes "." ++ piece → new ≡ codes "." ++ piece ++ old
    → whole ≡ all ++ old → whole ≡ rest ++ new
one_piece whole piece old new all rest a n w =
    w ∙ ap (λ x. x ++ old) a ∙ ap (λ x. x ++ old) (append_assoc rest (codes ".") piece) ∙ append_assoc rest (codes "." ++ piece) old ∙ ap (λ x. rest ++ x) (sym n)
