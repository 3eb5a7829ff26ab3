-- The predefined types are a table.
use Rattle.std.proofs.Common.{◌≡◌, ℕ, zero, suc, List, ◌∷◌, Some, refl, sym, ap, ◌∙◌, subst, arith}
use Rattle.std.specs.Prelude.{slice_get}
use Rattle.std.proofs.lemmas.Option.{none-some, same_Some}
use Rattle.spark_base.specs.declared.numbers.TypeNo.{TypeNo}
use Rattle.types_objects.specs.declared.types.TypeDef.{TypeDef}
use Rattle.types_objects.specs.Counts.{capped, count, count_at, count_of_form, count_within}
use Rattle.types_objects.specs.Predefined.{defs, opening}
use Rattle.types_objects.specs.Table.{IsTable}
use Rattle.types_objects.specs.Types.{IsFormed}

pub cons_same : {A : Type 0} {x y : A} {xs ys : List A} → x ≡ y → xs ≡ ys → x ∷ xs ≡ y ∷ ys
cons_same {A} {x} {y} {xs} {ys} h t = ap (λ z. z ∷ xs) h ∙ ap (λ zs. y ∷ zs) t

-- one leaf, made of nothing
abbrev IsScalar : ℕ → TypeDef → Type 0
IsScalar n x = IsFormed n x.form × ((x.leaves ≡ 1) × ((go : TypeNo → ℕ) → count_of_form go x.form ≡ 1))

scalars : (n : ℕ) (x : TypeDef) → slice_get defs n ≡ Some x → IsScalar n x
scalars zero x is = subst (IsScalar 0) (same_Some _ x is) (tt, (refl, λ go. refl))
scalars (suc zero) x is = subst (IsScalar 1) (same_Some _ x is) (tt, (refl, λ go. refl))
scalars (suc (suc zero)) x is = subst (IsScalar 2) (same_Some _ x is) (tt, (refl, λ go. refl))
scalars (suc (suc (suc zero))) x is = subst (IsScalar 3) (same_Some _ x is) (tt, (refl, λ go. refl))
scalars (suc (suc (suc (suc zero)))) x is = subst (IsScalar 4) (same_Some _ x is) (tt, (refl, λ go. refl))
scalars (suc (suc (suc (suc (suc zero))))) x is = subst (IsScalar 5) (same_Some _ x is) (tt, (refl, λ go. refl))
scalars (suc (suc (suc (suc (suc (suc n)))))) x is = absurd (none-some x is)

count_here : (list : List TypeDef) (t : TypeNo) (x : TypeDef) → slice_get list t.0 ≡ Some x → count list t ≡ count_of_form (count_within list t.0) x.form
unfolding count
count_here list t x is = ap (count_at (count_within list t.0)) is

counted : (t : TypeNo) (x : TypeDef) → slice_get defs t.0 ≡ Some x → x.leaves ≡ capped (count defs t)
counted t x is =
    let s = scalars t.0 x is in
    let one : count defs t ≡ 1 = count_here defs t x is ∙ s.1.1 (count_within defs t.0) in
    s.1.0 ∙ sym (ap capped one)

pub opening_table : IsTable opening
opening_table = record {
  some = omega arith;
  firsts = refl;
  ranked = record { below = λ n x is. (scalars n x is).0 };
  counted = record { counts = counted };
}
