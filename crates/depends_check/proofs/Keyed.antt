-- Items have keys of their own, by which a set finds them.
use Rattle.std.proofs.Common.{◌≡◌, ℕ, ◌+◌, ◌↔◌, inl, inr, Bool, true, false, List, [], ◌∷◌, ◌++◌, Option, Some, None, length, take, refl, ◌∙◌, sym, ap, subst, nat_eq, length-append, true≢false, arith}
use Rattle.std.specs.Prelude.{IsSome, IsTrue, if◌then◌else◌}
use Rattle.std.specs.Option.{option_to_list}
use Rattle.std.specs.List.{Contains, list_any}
use Rattle.std.proofs.lemmas.Bool.Decides.{Decides-eqb}
use Rattle.std.proofs.lemmas.Cmp.{nat_eq_equiv}
use Rattle.std.proofs.lemmas.List.Elements.{Contains-append_left, Contains-push, Contains-push_cases}
use Rattle.std.proofs.Math.Seq.{take-append_seam}
use Rattle.std.proofs.lemmas.Map.Views.{Contains-from_any, list_any-from_Contains}
use Rattle.indexmap.specs.IndexSet.{insert_key}
use Rattle.core_form.specs.declared.program.Item.{Item}
use Rattle.depends_check.specs.ItemSets.{AreKeysOf, item_key}

key_once : (i j : Item) → item_key i ≡ item_key j → i ≡ j
key_once (Item.Whole a) (Item.Whole b) h = let e : a.0 ≡ b.0 = omega (arith, h) in ap (λ (n : ℕ). Item.Whole (record { 0 = n })) e
key_once (Item.Whole a) (Item.State b) h = absurd (omega (arith, h))
key_once (Item.Whole a) (Item.Guard b) h = absurd (omega (arith, h))
key_once (Item.State a) (Item.Whole b) h = absurd (omega (arith, h))
key_once (Item.State a) (Item.State b) h = let e : a ≡ b = omega (arith, h) in ap (λ (n : ℕ). Item.State n) e
key_once (Item.State a) (Item.Guard b) h = absurd (omega (arith, h))
key_once (Item.Guard a) (Item.Whole b) h = absurd (omega (arith, h))
key_once (Item.Guard a) (Item.State b) h = absurd (omega (arith, h))
key_once (Item.Guard a) (Item.Guard b) h = let e : a.0 ≡ b.0 = omega (arith, h) in ap (λ (n : ℕ). Item.Guard (record { 0 = n })) e

module _ (keys : List ℕ) where
  finds : (k : ℕ) → (list_any (nat_eq k) keys ≡ true) ↔ Contains keys k
  finds k = (Contains-from_any (λ x y. (Decides-eqb x y).0) k keys, list_any-from_Contains nat_eq_equiv k keys)

  goes_last : (k : ℕ) → (Contains keys k → ⊥) → insert_key nat_eq keys k ≡ keys ++ k ∷ []
  goes_last k none = by (list_any (nat_eq k) keys) refl
    where
      by : (b : Bool) → list_any (nat_eq k) keys ≡ b → insert_key nat_eq keys k ≡ keys ++ k ∷ []
      by true e = absurd (none ((finds k).0 e))
      by false e = ap (λ b. if b then keys else keys ++ k ∷ []) e

module _ (keys : List ℕ) (items : List Item) (are : AreKeysOf keys items) where
  pub tells : (i : Item) → (list_any (nat_eq (item_key i)) keys ≡ true) ↔ Contains items i
  tells i = (λ h. (are i).0 ((finds keys (item_key i)).0 h), λ h. (finds keys (item_key i)).1 ((are i).1 h))

  pushed : (j : Item) → AreKeysOf (keys ++ item_key j ∷ []) (items ++ j ∷ [])
  pushed j i = (
    λ h. elim (Contains-push_cases keys (item_key j) (item_key i) h) [
      | inl o ↦ Contains-append_left items (j ∷ []) i ((are i).0 o)
      | inr e ↦ subst (λ z. Contains (items ++ j ∷ []) z) (key_once j i e) (Contains-push items j)
    ],
    λ h. elim (Contains-push_cases items j i h) [
      | inl o ↦ Contains-append_left keys (item_key j ∷ []) (item_key i) ((are i).1 o)
      | inr e ↦ subst (λ z. Contains (keys ++ item_key j ∷ []) (item_key z)) e (Contains-push keys (item_key j))
    ],
  )

  -- one that is not there is added to both
  pub grown : (j : Item) → (Contains items j → ⊥) → AreKeysOf (insert_key nat_eq keys (item_key j)) (items ++ j ∷ [])
  grown j none = subst (λ ks. AreKeysOf ks (items ++ j ∷ [])) (sym (goes_last keys (item_key j) (λ h. none ((are j).0 h)))) (pushed j)

-- an answer of the keys is one of the items
pub answers : (b : Bool) (keys : List ℕ) (items : List Item) → AreKeysOf keys items → (i : Item) → b ≡ list_any (nat_eq (item_key i))
    keys → IsTrue b ↔ Contains items i
answers b keys items are i e = (
  λ h. (tells keys items are i).0 (sym e ∙ h),
  λ h. e ∙ (tells keys items are i).1 h,
)

-- what was pushed last is taken away again
pub popped : (xs ys : List Item) (x : Item) (r : Option Item) → IsSome r → xs ++ x ∷ [] ≡ ys ++ option_to_list r → xs ≡ ys
popped xs ys x None s e = absurd (true≢false (sym s))
popped xs ys x (Some y) s e =
    let l : length xs + 1 ≡ length ys + 1 = sym (length-append xs (x ∷ [])) ∙ ap length e ∙ length-append ys (y ∷ []) in
    let k : length xs ≡ length ys = omega (arith, l) in
    sym (take-append_seam xs (x ∷ [])) ∙ ap (λ zs. take (length xs) zs) e ∙ ap (λ n. take n (ys ++ y ∷ [])) k ∙ take-append_seam ys (y ∷
    [])
