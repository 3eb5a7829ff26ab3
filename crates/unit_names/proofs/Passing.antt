-- One unit more of a pass.
use Rattle.std.proofs.Common.{◌≡◌, ℕ, suc, ◌+◌, ◌<◌, ◌≤◌, Bool, true, false, cond, List, [], ◌∷◌, ◌++◌, length, take, drop, get_or, Option, Some, None, ap, refl, sym, ◌∙◌, arith, drop-cons, add-one}
use Rattle.std.specs.Prelude.{is_some}
use Rattle.std.specs.Option.{option_or}
use Rattle.std.proofs.lemmas.Bool.{false≢true, true≢false}
use Rattle.std.proofs.lemmas.List.{take_more, length-take-le, drop_all}
use Rattle.unit_names.specs.declared.heads.Head.{Head}
use Rattle.unit_names.specs.declared.heads.Withed.{Withed}
use Rattle.unit_names.specs.declared.passes.UnitFault.{UnitFault}
use Rattle.unit_names.specs.declared.passes.UnitFault.TheVariants as faults
use Rattle.unit_names.specs.Names.{first_from, first, absent_from, is_there, unseen_from, unseen_in, first_absent}

pub next_drop : {A : Type 0} (xs : List A) (n : ℕ) (x : A) → n < length xs → x ≡ get_or xs n x → drop n xs ≡ x ∷ drop (n + 1) xs
next_drop xs n x l is = rw (add-one n) (drop-cons xs n x l ∙ ap (λ y. y ∷ drop (suc n) xs) (sym is))

pub next_take : {A : Type 0} (xs : List A) (n : ℕ) (x : A) → n < length xs → x ≡ get_or xs n x → take (n + 1) xs ≡ take n xs ++ x ∷ []
next_take xs n x l is = take_more xs n x l ∙ ap (λ y. take n xs ++ y ∷ []) (sym is)

module _ (fails : List Head → Head → Bool) (units : List Head) (n : ℕ) (h : Head) (l : n < length units) (is : h ≡ get_or units n h) where
  opens : first_from fails (take n units) (drop n units)
      ≡ cond (fails (take n units) h) (Some (length (take n units))) (first_from fails (take n units ++ h ∷ []) (drop (n + 1) units))
  opens = ap (first_from fails (take n units)) (next_drop units n h l is)

  -- it does not fail
  pub passes : fails (take n units) h ≡ false → first_from fails (take n units) (drop n units) ≡ first_from fails (take (n + 1) units) (drop (n + 1) units)
  passes f = opens ∙ ap (λ b. cond b (Some (length (take n units))) (first_from fails (take n units ++ h ∷ []) (drop (n + 1) units))) f
      ∙ ap (λ xs. first_from fails xs (drop (n + 1) units)) (sym (next_take units n h l is))

  -- it fails
  pub stops : fails (take n units) h ≡ true → first_from fails (take n units) (drop n units) ≡ Some n
  stops t = opens ∙ ap (λ b. cond b (Some (length (take n units))) (first_from fails (take n units ++ h ∷ []) (drop (n + 1) units))) t
      ∙ ap (λ k. Some k) (let e : length (take n units) ≡ n = length-take-le n units (omega (arith, l)) in e)

-- no unit is left
pub ends : (fails : List Head → Head → Bool) (units : List Head) (n : ℕ) → length units ≤ n → first_from fails (take n units) (drop n units) ≡ None
ends fails units n l = ap (first_from fails (take n units)) (drop_all n units l)

module _ (units : List Head) (withs : List Withed) (n : ℕ) (w : Withed) (l : n < length withs) (is : w ≡ get_or withs n w) where
  opens_with : absent_from units n (drop n withs) ≡ cond (is_there units w) (absent_from units (n + 1) (drop (n + 1) withs)) (Some n)
  opens_with = ap (absent_from units n) (next_drop withs n w l is)

  pub there_passes : is_there units w ≡ true → absent_from units n (drop n withs) ≡ absent_from units (n + 1) (drop (n + 1) withs)
  there_passes t = opens_with ∙ ap (λ b. cond b (absent_from units (n + 1) (drop (n + 1) withs)) (Some n)) t

  pub absent_stops : is_there units w ≡ false → absent_from units n (drop n withs) ≡ Some n
  absent_stops f = opens_with ∙ ap (λ b. cond b (absent_from units (n + 1) (drop (n + 1) withs)) (Some n)) f

pub no_with : (units : List Head) (withs : List Withed) (n : ℕ) → length withs ≤ n → absent_from units n (drop n withs) ≡ None
no_with units withs n l = ap (absent_from units n) (drop_all n withs l)

some_is : (o rest : Option UnitFault) → is_some o ≡ true → option_or o rest ≡ o
some_is None rest t = absurd (false≢true t)
some_is (Some f) rest t = refl

none_is : (o rest : Option UnitFault) → is_some o ≡ false → option_or o rest ≡ rest
none_is None rest t = refl
none_is (Some f) rest t = absurd (true≢false t)

module _ (units : List Head) (n : ℕ) (h : Head) (l : n < length units) (is : h ≡ get_or units n h) where
  pub unit_passes : is_some (unseen_in units n h) ≡ false → unseen_from units n (drop n units) ≡ unseen_from units (n + 1) (drop (n + 1) units)
  unit_passes e = ap (unseen_from units n) (next_drop units n h l is) ∙ none_is (unseen_in units n h) (unseen_from units (n + 1) (drop (n + 1) units)) e

  pub unit_stops : is_some (unseen_in units n h) ≡ true → unseen_from units n (drop n units) ≡ unseen_in units n h
  unit_stops e = ap (unseen_from units n) (next_drop units n h l is) ∙ some_is (unseen_in units n h) (unseen_from units (n + 1) (drop (n + 1) units)) e

pub no_unit : (units : List Head) (n : ℕ) → length units ≤ n → unseen_from units n (drop n units) ≡ None
no_unit units n l = ap (unseen_from units n) (drop_all n units l)
