-- Lists of cells, and of the statements that remain.
use Rattle.std.proofs.Common.{◌≡◌, ℕ, zero, suc, ◌+◌, ◌-◌, ◌<◌, Bool, true, false, cond, List, [], ◌∷◌, ◌++◌, length, get_or, set, take, drop, Option, Some, None, refl, sym, ap, ◌∙◌, arith, add-one, length-append, ℤ, pos}
use Rattle.std.specs.Prelude.{slice_get, slice_index_or, IsSome, IsTrue, All}
use Rattle.std.specs.Option.{option_to_list}
use Rattle.core_form.proofs.Grown.{slice_get-last}
use Rattle.std.proofs.lemmas.List.{length-replicate, length-map}
use Rattle.std.proofs.Math.Seq.{drop-cons}
use Rattle.std.proofs.Math.ListN.{length-set}
use Rattle.spark_base.specs.declared.numbers.StmtNo.{StmtNo}
use Rattle.spark_base.specs.declared.numbers.ExprNo.{ExprNo}
use Rattle.core_form.specs.declared.code.CoreStmt.{CoreStmt}
use Rattle.core_form.specs.Code.{Expr, Leaves, Returns, Code, Skip, Then, Assign, Clear, Branch, Repeat, Exit, Called, Guard, Delay, ReadClock, Stop, code_of, code_at, codes_at}
use Rattle.std.proofs.lemmas.List.Elements.{All-append}
use Rattle.core_form.specs.Proper.{cells_of}
use Rattle.core_form.specs.declared.program.Leaf.{Leaf}
use Rattle.core_form.specs.declared.program.Program.{Program}
use Rattle.core_form.specs.declared.program.Sharing.{Sharing}
use Rattle.core_form.specs.declared.program.Var.{Var}
use Rattle.run_model.specs.declared.state.Rest.{Rest}
use Rattle.run_model.specs.declared.state.Rest.TheVariants as rest
use Rattle.run_model.specs.Held.{AreRests, IsPlain, IsRest, do_of, held_left, held_rest, is_begun, left_after, rest_weight, size, weight, weight_of}
use Rattle.run_model.specs.Machine.{Remaining, Do, Again, bare, bare_leaves, cells_seen, is_library, opening_cells, opening_leaf, opening_leaves, push, resume}
use Rattle.run_model.specs.Runs.{IsSized}
use Rattle.run_model.specs.Values.{number_in, numbers_from, written}

-- one number more
pub numbers_next : (cells : List (Option ℤ)) (i n : ℕ) → i < n → numbers_from cells i (n - i) ≡ number_in (get_or cells i None) ∷ numbers_from cells (i + 1) (n - (i + 1))
numbers_next cells i n h = let e : n - i ≡ suc (n - (i + 1)) = omega arith in rw e refl

-- one value more
pub written_next : (cells : List (Option ℤ)) (first i : ℕ) (values : List ℤ) (d : ℤ) → i < length values
    → written cells (first + i) (drop i values) ≡ written (set cells (first + i) (Some (get_or values i d))) (first + i + 1) (drop (i + 1) values)
written_next cells first i values d h = rw (drop-cons values i d, add-one i) refl

-- the cells keep their count
pub written_length : (cells : List (Option ℤ)) (first : ℕ) (values : List ℤ) → length (written cells first values) ≡ length cells
written_length cells first [] = refl
written_length cells first (v ∷ vs) = written_length (set cells first (Some v)) (first + 1) vs ∙ length-set cells first (Some v)

-- each leaf has its cells
bare_length : (leaves : List Leaf) (n : ℕ) → length (slice_index_or (bare_leaves leaves) n []) ≡ elim (slice_get leaves n) [ None ↦ 0 | Some l ↦ l.cells ]
bare_length [] n = refl
bare_length (l ∷ ls) zero = length-replicate l.cells None
bare_length (l ∷ ls) (suc n) = bare_length ls n

pub bare_sized : (p : Program) → IsSized p (bare_leaves p.leaves)
bare_sized p = record { leaves = length-map p.leaves (λ (l : Leaf). bare l.cells); cells = λ n. bare_length p.leaves n }

-- as they are before the first step
opening_cells_length : (s : Sharing) (n : ℕ) → length (opening_cells s n) ≡ n
opening_cells_length Sharing.Plain n = length-replicate n None
opening_cells_length Sharing.Atomic n = length-replicate n None
opening_cells_length (Sharing.Component o) n = length-replicate n None
opening_cells_length Sharing.ClockTime n = length-replicate n (Some (pos 0))

opening_leaf_length : (p : Program) (l : Leaf) → length (opening_leaf p l) ≡ l.cells
opening_leaf_length p l = cases (slice_get p.vars l.var.0)
  where
    cases : (o : Option Var) → length {A = Option ℤ} (elim o [ None ↦ bare l.cells | Some v ↦ opening_cells v.sharing l.cells ]) ≡ l.cells
    cases None = length-replicate l.cells None
    cases (Some v) = opening_cells_length v.sharing l.cells

opening_length : (p : Program) (leaves : List Leaf) (n : ℕ) → length (slice_index_or (opening_leaves p leaves) n []) ≡ elim (slice_get leaves n) [ None ↦ 0 | Some l ↦ l.cells ]
opening_length p [] n = refl
opening_length p (l ∷ ls) zero = opening_leaf_length p l
opening_length p (l ∷ ls) (suc n) = opening_length p ls n

pub opening_sized : (p : Program) → IsSized p (opening_leaves p p.leaves)
opening_sized p = record { leaves = length-map p.leaves (opening_leaf p); cells = λ n. opening_length p p.leaves n }

-- one more, before those that remain
pub held_more : (p : Program) (rs : List Rest) (r : Rest) (k : List Remaining) → held_left p (rs ++ r ∷ []) k ≡ held_rest p r (held_left p rs k)
held_more p [] r k = refl
held_more p (t ∷ rs) r k = held_more p rs r (held_rest p t k)

pub weight_more : (p : Program) (rs : List Rest) (r : Rest) → rest_weight p (rs ++ r ∷ []) ≡ rest_weight p rs + weight_of p r
weight_more p [] r = omega arith
weight_more p (t ∷ rs) r = let e = weight_more p rs r in omega arith

pub codes_weigh : (p : Program) (ss : List StmtNo) → weight p ss < size (codes_at (code_of p.exprs p.stmts) ss)
codes_weigh p [] = omega arith
codes_weigh p (s ∷ ss) = let e = codes_weigh p ss in omega arith

All-one : {X : Type 0} (P : X → Type 0) → (x : X) → P x → All P (x ∷ [])
All-one P x i zero d l = i
All-one P x i (suc k) d l = absurd (omega arith)

pub All-more_last : {X : Type 0} (P : X → Type 0) → (xs : List X) (x : X) → All P xs → P x → All P (xs ++ x ∷ [])
All-more_last P xs x h i = All-append P xs (x ∷ []) h (All-one P x i)

pub rests_more : (p : Program) (rs : List Rest) (r : Rest) → AreRests p rs → IsRest p r → AreRests p (rs ++ r ∷ [])
rests_more p rs r h i = All-more_last (IsRest p) rs r h i

-- leaving passes what a sequence was opened to
pub resume_push : (a : Code) (k : List Remaining) (n : ℕ) → resume (push a k) (Leaves n) ≡ resume k (Leaves n)
resume_push Skip k n = refl
resume_push (Then a b) k n = resume_push a (push b k) n ∙ resume_push b k n
resume_push (Assign to e at) k n = refl
resume_push (Clear leaf) k n = refl
resume_push (Branch e a b) k n = refl
resume_push (Repeat a) k n = refl
resume_push (Exit o) k n = refl
resume_push (Called b actuals at) k n = refl
resume_push (Guard o barrier c) k n = refl
resume_push (Delay e) k n = refl
resume_push (ReadClock to) k n = refl
resume_push Stop k n = refl

-- a statement that is no sequence, before what remains
pub push_plain : (a : Code) (k : List Remaining) → IsPlain a → push a k ≡ Do a ∷ k
push_plain Skip k h = absurd h
push_plain (Then a b) k h = absurd h
push_plain (Assign to e at) k h = refl
push_plain (Clear leaf) k h = refl
push_plain (Branch e a b) k h = refl
push_plain (Repeat a) k h = refl
push_plain (Exit o) k h = refl
push_plain (Called b actuals at) k h = refl
push_plain (Guard o barrier c) k h = refl
push_plain (Delay e) k h = refl
push_plain (ReadClock to) k h = refl
push_plain Stop k h = refl

pub plain_node : (expr : ExprNo → Expr) (code : StmtNo → Code) (node : CoreStmt) → ((list : List StmtNo) → node ≡ CoreStmt.Seq list → ⊥) → IsPlain (code_at expr code (Some node))
plain_node expr code (CoreStmt.Move to e at) h = tt
plain_node expr code (CoreStmt.Fresh leaf) h = tt
plain_node expr code (CoreStmt.If test a b) h = tt
plain_node expr code (CoreStmt.Loop body) h = tt
plain_node expr code (CoreStmt.Leave n) h = tt
plain_node expr code CoreStmt.Back h = tt
plain_node expr code (CoreStmt.Call callee actuals at) h = tt
plain_node expr code (CoreStmt.Guarded object barrier call) h = tt
plain_node expr code (CoreStmt.DelayUntil e) h = tt
plain_node expr code (CoreStmt.Clock to) h = tt
plain_node expr code CoreStmt.Fail h = tt
plain_node expr code (CoreStmt.Seq list) h = absurd (h list refl)

-- the last, behind the others
pub split_last : {X : Type 0} → (items : List X) (x : X) → slice_get items (length items - 1) ≡ Some x → items ≡ take (length items - 1) items ++ x ∷ []
split_last {X} [] x h = let n : Option X = None in let z : n ≡ Some x = h in cc
split_last (y ∷ []) x h = let z : Some y ≡ Some x = h in let i : y ≡ x = cc in ap (λ w. w ∷ []) i
split_last (y ∷ z ∷ zs) x h =
    let at : length (y ∷ z ∷ zs) - 1 ≡ suc (length (z ∷ zs) - 1) = omega arith in
    let g : slice_get (z ∷ zs) (length (z ∷ zs) - 1) ≡ Some x = sym (ap (slice_get (y ∷ z ∷ zs)) at) ∙ h in
    rw at (ap (λ w. y ∷ w) (split_last (z ∷ zs) x g))

-- another in the place of the last
pub set_last : {X : Type 0} → (items : List X) (x y : X) → slice_get items (length items - 1) ≡ Some x → set items (length items - 1) y ≡ take (length items - 1) items ++ y ∷ []
set_last {X} [] x y h = let n : Option X = None in let z : n ≡ Some x = h in cc
set_last (w ∷ []) x y h = refl
set_last (w ∷ z ∷ zs) x y h =
    let at : length (w ∷ z ∷ zs) - 1 ≡ suc (length (z ∷ zs) - 1) = omega arith in
    let g : slice_get (z ∷ zs) (length (z ∷ zs) - 1) ≡ Some x = sym (ap (slice_get (w ∷ z ∷ zs)) at) ∙ h in
    rw at (ap (λ l. w ∷ l) (set_last (z ∷ zs) x y g))

-- what was taken from the end
pub taken_last : {X : Type 0} → (items front : List X) (o : Option X) (x : X) → items ≡ front ++ option_to_list o → IsSome o → slice_get items (length items - 1) ≡ Some x → items ≡ front ++ x ∷ []
taken_last items front None x e some h = absurd (let z : false ≡ true = some in cc)
taken_last items front (Some y) x e some h =
    let size : length items ≡ length front + 1 = ap length e ∙ length-append front (y ∷ []) in
    let at : length items - 1 ≡ length front = omega arith in
    let same : Some y ≡ Some x = sym (slice_get-last front y) ∙ (sym (ap (λ l. slice_get l (length front)) e) ∙ (sym (ap (slice_get items) at) ∙ h)) in
    let is : y ≡ x = cc in
    e ∙ ap (λ z. front ++ z ∷ []) is

-- the cells that a frame sees have the leaf's count
pub seen_sized : (p : Program) (library own : List (List (Option ℤ))) (leaf : ℕ) → IsSized p library → IsSized p own → length (cells_seen p library own leaf) ≡ cells_of p leaf
seen_sized p library own leaf h k = cases (is_library p leaf)
  where
    cases : (b : Bool) → length (cond b (slice_index_or library leaf []) (slice_index_or own leaf [])) ≡ cells_of p leaf
    cases true = h.cells leaf
    cases false = k.cells leaf

-- the next statement is the last of what remains
pub do_is : (o : Option Rest) (s : StmtNo) → do_of o ≡ Some s → o ≡ Some (rest.Do s)
do_is None s h = let n : Option StmtNo = None in let z : n ≡ Some s = h in absurd (cc)
do_is (Some (rest.Do t)) s h = let z : Some t ≡ Some s = h in let i : t ≡ s = cc in ap (λ (x : StmtNo). Some (rest.Do x)) i
do_is (Some (rest.Again t)) s h = let n : Option StmtNo = None in let z : n ≡ Some s = h in absurd (cc)

-- what is left behind the last of what remains
pub left_step : (p : Program) (front : List Rest) (last : Rest) (n : ℕ) → (IsTrue (is_begun last) → n ≡ 0 → ⊥) → resume (held_left p (front ++ last ∷ []) []) (Leaves n) ≡ resume (held_left p front []) (Leaves (left_after last n))
left_step p front (rest.Do s) n h = ap (λ k. resume k (Leaves n)) (held_more p front (rest.Do s) []) ∙ resume_push (code_of p.exprs p.stmts s) (held_left p front []) n
left_step p front (rest.Again s) zero h = absurd (h refl refl)
left_step p front (rest.Again s) (suc n) h = let e : suc n - 1 ≡ n = omega arith in ap (λ k. resume k (Leaves (suc n))) (held_more p front (rest.Again s) []) ∙ ap (λ m. resume (held_left p front []) (Leaves m)) (sym e)

pub left_here : (p : Program) (front : List Rest) (last : Rest) → IsTrue (is_begun last) → resume (held_left p (front ++ last ∷ []) []) (Leaves zero) ≡ held_left p front []
left_here p front (rest.Do s) h = let z : false ≡ true = h in absurd (cc)
left_here p front (rest.Again s) h = ap (λ k. resume k (Leaves zero)) (held_more p front (rest.Again s) [])

-- a return takes all away
pub resume_back : (k : List Remaining) → resume k Returns ≡ []
resume_back [] = refl
resume_back (Do a ∷ k) = refl
resume_back (Again a ∷ k) = refl

-- another in the place of the last but one
set_before : {X : Type 0} → (front : List X) (x y z : X) → set ((front ++ x ∷ []) ++ y ∷ []) (length front) z ≡ front ++ z ∷ y ∷ []
set_before [] x y z = refl
set_before (w ∷ ws) x y z = ap (λ l. w ∷ l) (set_before ws x y z)

held_two : (p : Program) (front : List Rest) (x y : Rest) (k : List Remaining) → held_left p (front ++ x ∷ y ∷ []) k ≡ held_rest p y (held_rest p x (held_left p front k))
held_two p [] x y k = refl
held_two p (t ∷ rs) x y k = held_two p rs x y (held_rest p t k)

-- a round begins: the loop is marked, and its body stands before it
pub round_left : (p : Program) (items front more : List Rest) (s body : StmtNo) (n : ℕ) → items ≡ front ++ rest.Do s ∷ [] → more ≡ items ++ rest.Do body ∷ [] → n ≡ length front
    → held_left p (set more n (rest.Again body)) [] ≡ push (code_of p.exprs p.stmts body) (Again (code_of p.exprs p.stmts body) ∷ held_left p front [])
round_left p items front more s body n split pushed at =
    ap (λ m. held_left p (set m n (rest.Again body)) []) (pushed ∙ ap (λ l. l ++ rest.Do body ∷ []) split)
    ∙ (ap (λ m. held_left p (set ((front ++ rest.Do s ∷ []) ++ rest.Do body ∷ []) m (rest.Again body)) []) at
    ∙ (ap (λ l. held_left p l []) (set_before front (rest.Do s) (rest.Do body) (rest.Again body))
    ∙ held_two p front (rest.Again body) (rest.Do body) []))
