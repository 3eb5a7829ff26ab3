-- What is made of a declaration leaves a table of types behind it.
use Rattle.std.proofs.Common.{◌≡◌, ℕ, zero, suc, ◌+◌, ◌<◌, List, [], ◌∷◌, ◌++◌, Option, Some, None, length, refl, sym, ap, ◌∙◌, subst, arith, length-append}
use Rattle.std.specs.Prelude.{slice_get, All}
use Rattle.std.proofs.lemmas.Option.{none-some, same_Some, slice_get_within}
use Rattle.std.proofs.lemmas.List.Elements.{All-head, All-tail}
use Rattle.spark_base.specs.declared.numbers.TypeNo.{TypeNo}
use Rattle.ada_tree.proofs.Ordered.{Place, before, behind, place}
use Rattle.types_objects.specs.declared.made.NewType.{NewType}
use Rattle.types_objects.specs.declared.types.FieldDef.{FieldDef}
use Rattle.types_objects.specs.declared.types.TypeDef.{TypeDef}
use Rattle.types_objects.specs.declared.types.TypeForm.{TypeForm}
use Rattle.types_objects.specs.declared.types.TypeForm.TheVariants as forms
use Rattle.types_objects.specs.declared.types.Types.{Types}
use Rattle.types_objects.specs.Adding.{appended}
use Rattle.types_objects.specs.Counts.{capped, count, count_at, count_of_fields, count_of_form, count_within, AreCounted}
use Rattle.types_objects.specs.Table.{IsTable}
use Rattle.types_objects.specs.Types.{IsFormed, IsRanked}

-- Counts of leaves are those of what a type is made of

fields_same : (go to : TypeNo → ℕ) (n : ℕ) → ((t : TypeNo) → t.0 < n → go t ≡ to t) → (fs : List FieldDef) → All (λ (f : FieldDef). f.of.0 < n) fs
    → count_of_fields go fs ≡ count_of_fields to fs
fields_same go to n same [] b = refl
fields_same go to n same (f ∷ fs) b =
    let h = same f.of (All-head (λ (x : FieldDef). x.of.0 < n) f fs b) in
    let t = fields_same go to n same fs (All-tail (λ (x : FieldDef). x.of.0 < n) f fs b) in cc

form_same : (go to : TypeNo → ℕ) (n : ℕ) → ((t : TypeNo) → t.0 < n → go t ≡ to t) → (form : TypeForm) → IsFormed n form → count_of_form go form ≡ count_of_form to form
form_same go to n same (forms.Fields fields) b = fields_same go to n same fields b
form_same go to n same (forms.Enumeration names) b = refl
form_same go to n same (forms.Signed low high) b = refl
form_same go to n same (forms.Modular m) b = refl
form_same go to n same (forms.Array index of) b = refl
form_same go to n same forms.Moment b = refl
form_same go to n same forms.Duration b = refl
form_same go to n same (forms.Protected d) b = refl
form_same go to n same (forms.Task d) b = refl

-- two lists of types that have the same at this number
at_same : (list : List TypeDef) → IsRanked list → (go to : TypeNo → ℕ) (t : TypeNo) → ((c : TypeNo) → c.0 < t.0 → go c ≡ to c) → (o : Option TypeDef)
    → slice_get list t.0 ≡ o → count_at go o ≡ count_at to o
at_same list ranked go to t same None is = refl
at_same list ranked go to t same (Some x) is = form_same go to t.0 same x.form (ranked.below t.0 x is)

stable : (list : List TypeDef) → IsRanked list → (n m : ℕ) (t : TypeNo) → t.0 < n → t.0 < m → count_within list n t ≡ count_within list m t
stable list ranked zero m t h l = absurd (omega arith)
stable list ranked (suc n) zero t h l = absurd (omega arith)
stable list ranked (suc n) (suc m) t h l =
    at_same list ranked (count_within list n) (count_within list m) t (λ c b. stable list ranked n m c (omega arith) (omega arith)) (slice_get list t.0) refl

count_unfolds : (list : List TypeDef) → IsRanked list → (t : TypeNo) (x : TypeDef) → slice_get list t.0 ≡ Some x → count list t ≡ count_of_form (count list) x.form
unfolding count
count_unfolds list ranked t x is =
    ap (count_at (count_within list t.0)) is
    ∙ at_same list ranked (count_within list t.0) (count list) t (λ c l. stable list ranked t.0 (suc c.0) c l (omega arith)) (Some x) is

-- types behind change no count
slice_front : {A : Type 0} (xs ys : List A) (n : ℕ) → n < length xs → slice_get (xs ++ ys) n ≡ slice_get xs n
slice_front [] ys n h = absurd (omega arith)
slice_front (x ∷ xs) ys zero h = refl
slice_front (x ∷ xs) ys (suc n) h = slice_front xs ys n (omega arith)

within_front : (list more : List TypeDef) → IsRanked list → (n : ℕ) (t : TypeNo) → t.0 < length list → count_within (list ++ more) n t ≡ count_within list n t
within_front list more ranked zero t h = refl
within_front list more ranked (suc n) t h =
    ap (count_at (count_within (list ++ more) n)) (slice_front list more t.0 h)
    ∙ at_same list ranked (count_within (list ++ more) n) (count_within list n) t (λ c l. within_front list more ranked n c (omega arith)) (slice_get list t.0) refl

count_front : (list more : List TypeDef) → IsRanked list → (t : TypeNo) → t.0 < length list → count (list ++ more) t ≡ count list t
unfolding count
count_front list more ranked t h = within_front list more ranked (suc t.0) t h

-- One type more

ranked_last : (n : ℕ) (x y : TypeDef) → IsFormed n x.form → (m : ℕ) → slice_get (x ∷ []) m ≡ Some y → IsFormed (n + m) y.form
ranked_last n x y b zero is = subst (λ k. IsFormed k y.form) (omega arith) (subst (λ (z : TypeDef). IsFormed n z.form) (same_Some x y is) b)
ranked_last n x y b (suc m) is = absurd (none-some y is)

ranked_at : (list : List TypeDef) (x : TypeDef) → IsRanked list → IsFormed (length list) x.form → (n : ℕ) (y : TypeDef) → Place list (x ∷ []) n y → IsFormed n y.form
ranked_at list x ranked b n y (before is) = ranked.below n y is
ranked_at list x ranked b n y (behind m e is) = subst (λ k. IsFormed k y.form) (sym e) (ranked_last (length list) x y b m is)

ranked_more : (list : List TypeDef) (x : TypeDef) → IsRanked list → IsFormed (length list) x.form → IsRanked (list ++ x ∷ [])
ranked_more list x ranked b = record { below = λ n y is. ranked_at list x ranked b n y (place list (x ∷ []) n y is) }

counted_last : (list : List TypeDef) (x y : TypeDef) (t : TypeNo) → IsRanked list → IsFormed (length list) x.form → x.leaves ≡ capped (count_of_form (count list) x.form)
    → (m : ℕ) → t.0 ≡ length list + m → slice_get (x ∷ []) m ≡ Some y → slice_get (list ++ x ∷ []) t.0 ≡ Some y → y.leaves ≡ capped (count (list ++ x ∷ []) t)
counted_last list x y t ranked b leaves zero e is at =
    let same : x ≡ y = same_Some x y is in
    let all : count (list ++ x ∷ []) t ≡ count_of_form (count (list ++ x ∷ [])) y.form = count_unfolds (list ++ x ∷ []) (ranked_more list x ranked b) t y at in
    let front : count_of_form (count (list ++ x ∷ [])) x.form ≡ count_of_form (count list) x.form =
    form_same (count (list ++ x ∷ [])) (count list) (length list) (λ c l. count_front list (x ∷ []) ranked c l) x.form b in
    ap (λ (z : TypeDef). z.leaves) (sym same) ∙ leaves ∙ ap capped (sym front) ∙ ap (λ (z : TypeDef). capped (count_of_form (count (list ++ x ∷ [])) z.form)) same
    ∙ ap capped (sym all)
counted_last list x y t ranked b leaves (suc m) e is at = absurd (none-some y is)

counted_at : (list : List TypeDef) (x y : TypeDef) (t : TypeNo) → IsRanked list → AreCounted list → IsFormed (length list) x.form
    → x.leaves ≡ capped (count_of_form (count list) x.form) → slice_get (list ++ x ∷ []) t.0 ≡ Some y → Place list (x ∷ []) t.0 y → y.leaves ≡ capped (count (list ++ x ∷ []) t)
counted_at list x y t ranked counted b leaves at (before is) =
    counted.counts t y is ∙ ap capped (sym (count_front list (x ∷ []) ranked t (slice_get_within list t.0 y is)))
counted_at list x y t ranked counted b leaves at (behind m e is) = counted_last list x y t ranked b leaves m e is at

pub more : (t : Types) (x : NewType) → IsTable t → IsFormed (length t.list) x.def.form → x.def.leaves ≡ capped (count_of_form (count t.list) x.def.form)
    → IsTable (appended t x)
more t x table b leaves = record {
  some = (let h = table.some in omega (arith, h, length-append t.list (x.def ∷ [])));
  firsts = length-append t.first (x.first ∷ []) ∙ ap (λ n. n + 1) table.firsts ∙ sym (length-append t.list (x.def ∷ []));
  ranked = ranked_more t.list x.def table.ranked b;
  counted = record { counts = λ n y is. counted_at t.list x.def y n table.ranked table.counted b leaves is (place t.list (x.def ∷ []) n.0 y is) };
}
