-- The paths of a type are made of those of its components.
use Rattle.std.proofs.Common.{◌≡◌, ℕ, zero, suc, ◌+◌, ◌-◌, ◌<◌, ◌≤◌, List, [], ◌∷◌, ◌++◌, Option, Some, None, length, drop, get_or, refl, sym, ap, ◌∙◌, subst, arith, append_assoc, append-nil}
use Rattle.std.specs.Prelude.{slice_get, All}
use Rattle.std.proofs.lemmas.List.{drop_more}
use Rattle.std.proofs.lemmas.List.Elements.{All-cons, All-head, All-nil, All-tail}
use Rattle.spark_base.specs.declared.numbers.DeclNo.{DeclNo}
use Rattle.spark_base.specs.declared.numbers.TypeNo.{TypeNo}
use Rattle.types_objects.specs.declared.paths.Pending.{Pending}
use Rattle.types_objects.specs.declared.paths.Search.{Search}
use Rattle.types_objects.specs.declared.types.FieldDef.{FieldDef}
use Rattle.types_objects.specs.declared.types.TypeDef.{TypeDef}
use Rattle.types_objects.specs.declared.types.TypeForm.{TypeForm}
use Rattle.types_objects.specs.declared.types.TypeForm.TheVariants as forms
use Rattle.types_objects.specs.Types.{AreThere, IsFormed, IsLooked, IsRanked, path_to, paths, paths_at, paths_of_fields, paths_of_form, paths_within, pending_of, reversed, steps, steps_at, steps_left, steps_of_fields, steps_of_form, steps_within, work}

fields_same : (go to : List ℕ → TypeNo → List (List ℕ)) (n : ℕ) → ((prefix : List ℕ) (t : TypeNo) → t.0 < n → go prefix t ≡ to prefix t)
    → (prefix : List ℕ) (fs : List FieldDef) → All (λ (f : FieldDef). f.of.0 < n) fs → paths_of_fields go prefix fs ≡ paths_of_fields to prefix fs
fields_same go to n same prefix [] b = refl
fields_same go to n same prefix (f ∷ fs) b =
    let h = same (path_to prefix f) f.of (All-head (λ (x : FieldDef). x.of.0 < n) f fs b) in
    let t = fields_same go to n same prefix fs (All-tail (λ (x : FieldDef). x.of.0 < n) f fs b) in cc

form_same : (go to : List ℕ → TypeNo → List (List ℕ)) (n : ℕ) → ((prefix : List ℕ) (t : TypeNo) → t.0 < n → go prefix t ≡ to prefix t)
    → (prefix : List ℕ) (form : TypeForm) → IsFormed n form → paths_of_form go prefix form ≡ paths_of_form to prefix form
form_same go to n same prefix (forms.Fields fields) b = fields_same go to n same prefix fields b
form_same go to n same prefix (forms.Enumeration names) b = refl
form_same go to n same prefix (forms.Signed low high) b = refl
form_same go to n same prefix (forms.Modular m) b = refl
form_same go to n same prefix (forms.Array index of) b = refl
form_same go to n same prefix forms.Moment b = refl
form_same go to n same prefix forms.Duration b = refl
form_same go to n same prefix (forms.Protected d) b = refl
form_same go to n same prefix (forms.Task d) b = refl

steps_fields_same : (go to : TypeNo → ℕ) (n : ℕ) → ((t : TypeNo) → t.0 < n → go t ≡ to t) → (fs : List FieldDef) → All (λ (f : FieldDef). f.of.0 < n) fs → steps_of_fields go fs ≡ steps_of_fields to fs
steps_fields_same go to n same [] b = refl
steps_fields_same go to n same (f ∷ fs) b =
    let h = same f.of (All-head (λ (x : FieldDef). x.of.0 < n) f fs b) in
    let t = steps_fields_same go to n same fs (All-tail (λ (x : FieldDef). x.of.0 < n) f fs b) in cc

steps_form_same : (go to : TypeNo → ℕ) (n : ℕ) → ((t : TypeNo) → t.0 < n → go t ≡ to t) → (form : TypeForm) → IsFormed n form → steps_of_form go form ≡ steps_of_form to form
steps_form_same go to n same (forms.Fields fields) b = steps_fields_same go to n same fields b
steps_form_same go to n same (forms.Enumeration names) b = refl
steps_form_same go to n same (forms.Signed low high) b = refl
steps_form_same go to n same (forms.Modular m) b = refl
steps_form_same go to n same (forms.Array index of) b = refl
steps_form_same go to n same forms.Moment b = refl
steps_form_same go to n same forms.Duration b = refl
steps_form_same go to n same (forms.Protected d) b = refl
steps_form_same go to n same (forms.Task d) b = refl

module _ (list : List TypeDef) (ranked : IsRanked list) where
  at_same : (go to : List ℕ → TypeNo → List (List ℕ)) (t : TypeNo) → ((prefix : List ℕ) (c : TypeNo) → c.0 < t.0 → go prefix c ≡ to prefix c)
      → (prefix : List ℕ) (o : Option TypeDef) → slice_get list t.0 ≡ o → paths_at go prefix o ≡ paths_at to prefix o
  at_same go to t same prefix None is = refl
  at_same go to t same prefix (Some x) is = form_same go to t.0 same prefix x.form (ranked.below t.0 x is)

  stable : (n m : ℕ) (prefix : List ℕ) (t : TypeNo) → t.0 < n → t.0 < m → paths_within list n prefix t ≡ paths_within list m prefix t
  stable zero m prefix t h l = absurd (omega arith)
  stable (suc n) zero prefix t h l = absurd (omega arith)
  stable (suc n) (suc m) prefix t h l =
      at_same (paths_within list n) (paths_within list m) t (λ q c b. stable n m q c (omega arith) (omega arith)) prefix (slice_get list t.0) refl

  pub paths_unfold : (prefix : List ℕ) (t : TypeNo) (x : TypeDef) → slice_get list t.0 ≡ Some x → paths list prefix t ≡ paths_of_form (paths list) prefix x.form
  unfolding paths
  paths_unfold prefix t x is =
      ap (paths_at (paths_within list t.0) prefix) is
      ∙ at_same (paths_within list t.0) (paths list) t (λ q c b. stable t.0 (suc c.0) q c b (omega arith)) prefix (Some x) is

  steps_same : (go to : TypeNo → ℕ) (t : TypeNo) → ((c : TypeNo) → c.0 < t.0 → go c ≡ to c) → (o : Option TypeDef) → slice_get list t.0 ≡ o → steps_at go o ≡ steps_at to o
  steps_same go to t same None is = refl
  steps_same go to t same (Some x) is = steps_form_same go to t.0 same x.form (ranked.below t.0 x is)

  steps_stable : (n m : ℕ) (t : TypeNo) → t.0 < n → t.0 < m → steps_within list n t ≡ steps_within list m t
  steps_stable zero m t h l = absurd (omega arith)
  steps_stable (suc n) zero t h l = absurd (omega arith)
  steps_stable (suc n) (suc m) t h l =
      ap (λ k. 1 + k) (steps_same (steps_within list n) (steps_within list m) t (λ c b. steps_stable n m c (omega arith) (omega arith)) (slice_get list t.0) refl)

  pub steps_unfold : (t : TypeNo) (x : TypeDef) → slice_get list t.0 ≡ Some x → steps list t ≡ 1 + steps_of_form (steps list) x.form
  unfolding steps
  steps_unfold t x is =
      ap (λ o. 1 + steps_at (steps_within list t.0) o) is
      ∙ ap (λ k. 1 + k) (steps_same (steps_within list t.0) (steps list) t (λ c b. steps_stable t.0 (suc c.0) c b (omega arith)) (Some x) is)

pub work_fields : (list : List TypeDef) (prefix : List ℕ) (fs : List FieldDef) (rest : List Pending) → work list (pending_of prefix fs ++ rest) ≡ paths_of_fields (paths list) prefix fs ++ work list rest
work_fields list prefix [] rest = refl
work_fields list prefix (f ∷ fs) rest =
    ap (λ ps. paths list (path_to prefix f) f.of ++ ps) (work_fields list prefix fs rest)
    ∙ sym (append_assoc (paths list (path_to prefix f) f.of) (paths_of_fields (paths list) prefix fs) (work list rest))

pub steps_fields : (list : List TypeDef) (prefix : List ℕ) (fs : List FieldDef) (rest : List Pending) → steps_left list (pending_of prefix fs ++ rest) ≡ steps_of_fields (steps list) fs + steps_left list rest
steps_fields list prefix [] rest = omega arith
steps_fields list prefix (f ∷ fs) rest = let h = steps_fields list prefix fs rest in omega (arith, h)

pub there_fields : (list : List TypeDef) (n : ℕ) (prefix : List ℕ) (fs : List FieldDef) (rest : List Pending) → n < length list → All (λ (f : FieldDef). f.of.0 < n) fs → AreThere list rest → AreThere list (pending_of prefix fs ++ rest)
there_fields list n prefix [] rest h b r = r
there_fields list n prefix (f ∷ fs) rest h b r = let x : f.of.0 < length list = (let y = All-head (λ (x : FieldDef). x.of.0 < n) f fs b in omega (arith, y, h)) in
    let t = there_fields list n prefix fs rest h (All-tail (λ (x : FieldDef). x.of.0 < n) f fs b) r in
    All-cons (λ (p : Pending). p.of.0 < length list) (record { of = f.of; prefix = path_to prefix f }) (pending_of prefix fs ++ rest) x t

-- a record that was looked at
pub looked_record : (list : List TypeDef) (ranked : IsRanked list) (next : Pending) (x : TypeDef) (fields : List FieldDef) (old new : Search)
    → slice_get list next.of.0 ≡ Some x → next.of.0 < length list → x.form ≡ forms.Fields fields → AreThere list (reversed old.stack.items) → new.found.items ≡ old.found.items
    → reversed new.stack.items ≡ pending_of next.prefix fields ++ reversed old.stack.items → IsLooked list next old new
looked_record list ranked next x fields old new is inside form there found pushed =
    let here : paths list next.prefix next.of ≡ paths_of_fields (paths list) next.prefix fields = paths_unfold list ranked next.prefix next.of x is ∙ ap (paths_of_form (paths list) next.prefix) form in
    let size : steps list next.of ≡ 1 + steps_of_fields (steps list) fields = steps_unfold list ranked next.of x is ∙ ap (λ f. 1 + steps_of_form (steps list) f) form in
    let left : steps_left list (reversed new.stack.items) ≡ steps_of_fields (steps list) fields + steps_left list (reversed old.stack.items)
    = ap (steps_left list) pushed ∙ steps_fields list next.prefix fields (reversed old.stack.items) in
    let below : All (λ (f : FieldDef). f.of.0 < next.of.0) fields = subst (IsFormed next.of.0) form (ranked.below next.of.0 x is) in
    record {
      told = ap (λ fs. fs ++ work list (reversed new.stack.items)) found
          ∙ ap (λ ps. old.found.items ++ ps) (ap (work list) pushed ∙ work_fields list next.prefix fields (reversed old.stack.items) ∙ ap (λ ps. ps ++ work list (reversed old.stack.items)) (sym here));
      less = omega (arith, size, left);
      there = subst (AreThere list) (sym pushed) (there_fields list next.of.0 next.prefix fields (reversed old.stack.items) inside below there);
    }

-- a type that is no record, of these leaves
pub looked_other : (list : List TypeDef) (ranked : IsRanked list) (next : Pending) (x : TypeDef) (leaves : List (List ℕ)) (old new : Search)
    → slice_get list next.of.0 ≡ Some x → paths_of_form (paths list) next.prefix x.form ≡ leaves → AreThere list (reversed old.stack.items)
    → new.found.items ≡ old.found.items ++ leaves → new.stack.items ≡ old.stack.items → IsLooked list next old new
looked_other list ranked next x leaves old new is form there found stack =
    let here : paths list next.prefix next.of ≡ leaves = paths_unfold list ranked next.prefix next.of x is ∙ form in
    let size = steps_unfold list ranked next.of x is in
    let left : steps_left list (reversed new.stack.items) ≡ steps_left list (reversed old.stack.items) = ap (λ s. steps_left list (reversed s)) stack in
    record {
      told = ap (λ s. new.found.items ++ work list (reversed s)) stack ∙ ap (λ fs. fs ++ work list (reversed old.stack.items)) found
          ∙ append_assoc old.found.items leaves (work list (reversed old.stack.items)) ∙ ap (λ ps. old.found.items ++ (ps ++ work list (reversed old.stack.items))) (sym here);
      less = omega (arith, size, left);
      there = subst (λ s. AreThere list (reversed s)) (sym stack) there;
    }

pub reversed_snoc : {A : Type 0} (xs : List A) (x : A) → reversed (xs ++ x ∷ []) ≡ x ∷ reversed xs
reversed_snoc [] x = refl
reversed_snoc (y ∷ xs) x = ap (λ ys. ys ++ y ∷ []) (reversed_snoc xs x)

-- one more on top
pub pushed_on : (list : List Pending) (p : Pending) (new : List Pending) (a rest : List Pending) → new ≡ list ++ p ∷ [] → reversed list ≡ a ++ rest → reversed new ≡ (p ∷ a) ++ rest
pushed_on list p new a rest is h = ap reversed is ∙ reversed_snoc list p ∙ ap (λ ps. p ∷ ps) h

-- the one on top is taken
pub taken : (list : List TypeDef) (all rest : List Pending) (p : Pending) → all ≡ rest ++ p ∷ [] → work list (reversed all) ≡ paths list p.prefix p.of ++ work list (reversed rest)
taken list all rest p is = ap (λ ps. work list (reversed ps)) is ∙ ap (work list) (reversed_snoc rest p)

pub taken_steps : (list : List TypeDef) (all rest : List Pending) (p : Pending) → all ≡ rest ++ p ∷ [] → steps_left list (reversed all) ≡ steps list p.of + steps_left list (reversed rest)
taken_steps list all rest p is = ap (λ ps. steps_left list (reversed ps)) is ∙ ap (steps_left list) (reversed_snoc rest p)

pub taken_there : (list : List TypeDef) (all rest : List Pending) (p : Pending) → all ≡ rest ++ p ∷ [] → AreThere list (reversed all) → (p.of.0 < length list) × AreThere list (reversed rest)
taken_there list all rest p is there =
    let h : AreThere list (p ∷ reversed rest) = subst (AreThere list) (ap reversed is ∙ reversed_snoc rest p) there in
    (All-head (λ (q : Pending). q.of.0 < length list) p (reversed rest) h, All-tail (λ (q : Pending). q.of.0 < length list) p (reversed rest) h)

-- what is neither a record nor without leaves is a leaf
pub leaf_form : (go : List ℕ → TypeNo → List (List ℕ)) (prefix : List ℕ) (form : TypeForm) → ((fs : List FieldDef) → form ≡ forms.Fields fs → ⊥) → ((d : DeclNo) → form ≡ forms.Protected d → ⊥) → ((d : DeclNo) → form ≡ forms.Task d → ⊥)
    → paths_of_form go prefix form ≡ prefix ∷ []
leaf_form go prefix (forms.Fields fields) a b c = absurd (a fields refl)
leaf_form go prefix (forms.Protected d) a b c = absurd (b d refl)
leaf_form go prefix (forms.Task d) a b c = absurd (c d refl)
leaf_form go prefix (forms.Enumeration names) a b c = refl
leaf_form go prefix (forms.Signed low high) a b c = refl
leaf_form go prefix (forms.Modular m) a b c = refl
leaf_form go prefix (forms.Array index of) a b c = refl
leaf_form go prefix forms.Moment a b c = refl
leaf_form go prefix forms.Duration a b c = refl

-- at first there is one type to look at
pub first_work : (list : List TypeDef) (stack : List Pending) (of : TypeNo) (prefix : List ℕ) → stack ≡ record { of = of; prefix = prefix } ∷ [] → prefix ≡ [] → work list (reversed stack) ≡ paths list [] of
first_work list stack of prefix is empty = ap (λ ps. work list (reversed ps)) is ∙ append-nil (paths list prefix of) ∙ ap (λ q. paths list q of) empty

pub first_there : (list : List TypeDef) (stack : List Pending) (of : TypeNo) (prefix : List ℕ) → stack ≡ record { of = of; prefix = prefix } ∷ [] → of.0 < length list → AreThere list (reversed stack)
first_there list stack of prefix is h = subst (λ ps. AreThere list (reversed ps)) (sym is) (All-cons (λ (p : Pending). p.of.0 < length list) (record { of = of; prefix = prefix }) [] h (All-nil (λ (p : Pending). p.of.0 < length list)))

-- in the end there is nothing left
pub last_work : (list : List TypeDef) (found all : List (List ℕ)) (stack : List Pending) → stack ≡ [] → found ++ work list (reversed stack) ≡ all → found ≡ all
last_work list found all stack is h = sym (append-nil found) ∙ ap (λ ps. found ++ work list (reversed ps)) (sym is) ∙ h

-- one component more on top, from the last to the first
pub pushed_field : (prefix : List ℕ) (fields : List FieldDef) (i : ℕ) (f : FieldDef) (path : List ℕ) (old new start : List Pending) → 0 < i → i ≤ length fields → f ≡ get_or fields (i - 1) f → path ≡ path_to prefix f
    → reversed old ≡ pending_of prefix (drop i fields) ++ reversed start → new ≡ old ++ record { of = f.of; prefix = path } ∷ [] → reversed new ≡ pending_of prefix (drop (i - 1) fields) ++ reversed start
pushed_field prefix fields i f path old new start some most is there before push =
    let step : drop (i - 1) fields ≡ f ∷ drop i fields =
    drop_more fields (i - 1) f (omega arith) ∙ ap (λ g. g ∷ drop (i - 1 + 1) fields) (sym is) ∙ ap (λ k. f ∷ drop k fields) (omega arith) in
    pushed_on old (record { of = f.of; prefix = path }) new (pending_of prefix (drop i fields)) (reversed start) push before
    ∙ ap (λ q. (record { of = f.of; prefix = q } ∷ pending_of prefix (drop i fields)) ++ reversed start) there
    ∙ sym (ap (λ fs. pending_of prefix fs ++ reversed start) step)
