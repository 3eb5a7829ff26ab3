-- Nodes that are added behind their children keep the order.
use Rattle.std.proofs.Common.{◌≡◌, ℕ, zero, suc, ◌+◌, ◌≤◌, List, [], ◌∷◌, ◌++◌, Some, length, sym, ap, subst, arith, length-append}
use Rattle.std.specs.Prelude.{slice_get}
use Rattle.std.proofs.lemmas.Option.{none-some, same_Some}
use Rattle.spark_base.specs.declared.numbers.AspectNo.{AspectNo}
use Rattle.spark_base.specs.declared.numbers.DeclNo.{DeclNo}
use Rattle.spark_base.specs.declared.numbers.ExprNo.{ExprNo}
use Rattle.spark_base.specs.declared.numbers.StmtNo.{StmtNo}
use Rattle.ada_tree.specs.declared.aspects.AspectNode.{AspectNode}
use Rattle.ada_tree.specs.declared.declarations.DeclNode.{DeclNode}
use Rattle.ada_tree.specs.declared.expressions.ExprNode.{ExprNode}
use Rattle.ada_tree.specs.declared.statements.StmtNode.{StmtNode}
use Rattle.ada_tree.specs.declared.units.Unit.{Unit as TheUnit}
use Rattle.ada_tree.specs.declared.units.Units.{Units}
use Rattle.ada_tree.specs.Tree.{Bounds, counts, AreBelow, IsOrdered}

-- what holds of each element with its place
abbrev pub Each : {A : Type 0} → (ℕ → A → Type 0) → List A → Type 0
Each {A} P xs = (n : ℕ) (x : A) → slice_get xs n ≡ Some x → P n x

-- where an element of two lists stands
pub data Place {A : Type 0} (xs ys : List A) (n : ℕ) (y : A) : Type 0 where
  before : slice_get xs n ≡ Some y → Place xs ys n y
  behind : (m : ℕ) → n ≡ length xs + m → slice_get ys m ≡ Some y → Place xs ys n y

place_on : {A : Type 0} (x : A) (xs ys : List A) (n : ℕ) (y : A) → Place xs ys n y → Place (x ∷ xs) ys (suc n) y
place_on x xs ys n y (before e) = before e
place_on x xs ys n y (behind m e g) = behind m (omega (arith, e)) g

pub place : {A : Type 0} (xs ys : List A) (n : ℕ) (y : A) → slice_get (xs ++ ys) n ≡ Some y → Place xs ys n y
place [] ys n y e = behind n (omega arith) e
place (x ∷ xs) ys zero y e = before e
place (x ∷ xs) ys (suc n) y e = place_on x xs ys n y (place xs ys n y e)

-- what holds of each of two lists holds of both together
each_place : {A : Type 0} (Q : ℕ → A → Type 0) (xs ys : List A) (n : ℕ) (y : A) → Each Q xs → Each (λ m x. Q (length xs + m) x) ys → Place xs ys n y → Q n y
each_place Q xs ys n y old new (before e) = old n y e
each_place Q xs ys n y old new (behind m e g) = subst (λ (z : ℕ). Q z y) (sym e) (new m y g)

pub each_behind : {A : Type 0} (Q : ℕ → A → Type 0) (xs ys : List A) → Each Q xs → Each (λ m x. Q (length xs + m) x) ys → Each Q (xs ++ ys)
each_behind Q xs ys old new n y e = each_place Q xs ys n y old new (place xs ys n y e)

each_one : {A : Type 0} (Q : ℕ → A → Type 0) (k : ℕ) (x : A) → Q k x → Each (λ m y. Q (k + m) y) (x ∷ [])
each_one Q k x h zero y e = subst (λ (z : ℕ). Q z y) (omega arith) (subst (λ z. Q k z) (same_Some x y e) h)
each_one Q k x h (suc m) y e = absurd (none-some y e)

each_added : {A : Type 0} (Q : ℕ → A → Type 0) (xs : List A) (x : A) → Each Q xs → Q (length xs) x → Each Q (xs ++ x ∷ [])
each_added Q xs x old h = each_behind Q xs (x ∷ []) old (each_one Q (length xs) x h)

-- larger bounds
pub record AtMost (a b : Bounds) : Type 0 where
  pub exprs : a.exprs ≤ b.exprs
  pub stmts : a.stmts ≤ b.stmts
  pub decls : a.decls ≤ b.decls
  pub aspects : a.aspects ≤ b.aspects

pub below_wider : {a b : Bounds} {exprs : List ExprNo} {stmts : List StmtNo} {decls : List DeclNo} {aspects : List AspectNo} → AtMost a b → AreBelow a exprs stmts decls aspects → AreBelow b exprs stmts decls aspects
below_wider {a} {b} w h = record {
  exprs_below = λ k d i. let g = h.exprs_below k d i in omega (arith, w.exprs, g);
  stmts_below = λ k d i. let g = h.stmts_below k d i in omega (arith, w.stmts, g);
  decls_below = λ k d i. let g = h.decls_below k d i in omega (arith, w.decls, g);
  aspects_below = λ k d i. let g = h.aspects_below k d i in omega (arith, w.aspects, g);
}

more_exprs : (b : Bounds) {n m : ℕ} → n ≤ m → AtMost (record b { exprs = n }) (record b { exprs = m })
more_exprs b h = record { exprs = h; stmts = omega arith; decls = omega arith; aspects = omega arith }

more_stmts : (b : Bounds) {n m : ℕ} → n ≤ m → AtMost (record b { stmts = n }) (record b { stmts = m })
more_stmts b h = record { exprs = omega arith; stmts = h; decls = omega arith; aspects = omega arith }

more_decls : (b : Bounds) {n m : ℕ} → n ≤ m → AtMost (record b { decls = n }) (record b { decls = m })
more_decls b h = record { exprs = omega arith; stmts = omega arith; decls = h; aspects = omega arith }

more_aspects : (b : Bounds) {n m : ℕ} → n ≤ m → AtMost (record b { aspects = n }) (record b { aspects = m })
more_aspects b h = record { exprs = omega arith; stmts = omega arith; decls = omega arith; aspects = h }

longer : {A : Type 0} (xs : List A) {ys : List A} (zs : List A) → ys ≡ xs ++ zs → length xs ≤ length ys
longer {A} xs {ys} zs e = omega (arith, length-append xs zs, ap (λ (z : List A). length z) e)

as_joined : {A : Type 0} {xs ys : List A} (Q : ℕ → A → Type 0) → ys ≡ xs → Each Q xs → Each Q ys
as_joined {A} {xs} {ys} Q e h = subst (λ (z : List A). Each Q z) (sym e) h

-- A node more, whose children are there

pub unit_ordered : {u : Units} {list : List TheUnit} (x : TheUnit) → list ≡ u.units ++ x ∷ [] → IsOrdered u → AreBelow (counts u) x.exprs x.stmts x.decls x.aspects → IsOrdered (record u { units = list })
unit_ordered {u} {list} x e h below = record {
  units = as_joined (λ n y. AreBelow (counts u) y.exprs y.stmts y.decls y.aspects) e (each_added _ u.units x h.units below);
  decls = h.decls;
  stmts = h.stmts;
  exprs = h.exprs;
  aspects = h.aspects;
}

pub decl_ordered : {u : Units} {list : List DeclNode} (x : DeclNode) → list ≡ u.decls ++ x ∷ [] → IsOrdered u → AreBelow (counts u) x.exprs x.stmts x.decls x.aspects → IsOrdered (record u { decls = list })
decl_ordered {u} {list} x e h below = record {
  units = λ n y g. below_wider (more_decls (counts u) (longer u.decls (x ∷ []) e)) (h.units n y g);
  decls = as_joined (λ n y. AreBelow (record (counts u) { decls = n }) y.exprs y.stmts y.decls y.aspects) e (each_added _ u.decls x h.decls below);
  stmts = λ n y g. below_wider (more_decls (record (counts u) { stmts = n }) (longer u.decls (x ∷ []) e)) (h.stmts n y g);
  exprs = λ n y g. below_wider (more_decls (record (counts u) { exprs = n }) (longer u.decls (x ∷ []) e)) (h.exprs n y g);
  aspects = λ n y g. below_wider (more_decls (record (counts u) { aspects = n }) (longer u.decls (x ∷ []) e)) (h.aspects n y g);
}

pub stmt_ordered : {u : Units} {list : List StmtNode} (x : StmtNode) → list ≡ u.stmts ++ x ∷ [] → IsOrdered u → AreBelow (counts u) x.exprs x.stmts x.decls x.aspects → IsOrdered (record u { stmts = list })
stmt_ordered {u} {list} x e h below = record {
  units = λ n y g. below_wider (more_stmts (counts u) (longer u.stmts (x ∷ []) e)) (h.units n y g);
  decls = λ n y g. below_wider (more_stmts (record (counts u) { decls = n }) (longer u.stmts (x ∷ []) e)) (h.decls n y g);
  stmts = as_joined (λ n y. AreBelow (record (counts u) { stmts = n }) y.exprs y.stmts y.decls y.aspects) e (each_added _ u.stmts x h.stmts below);
  exprs = λ n y g. below_wider (more_stmts (record (counts u) { exprs = n }) (longer u.stmts (x ∷ []) e)) (h.exprs n y g);
  aspects = λ n y g. below_wider (more_stmts (record (counts u) { aspects = n }) (longer u.stmts (x ∷ []) e)) (h.aspects n y g);
}

pub aspect_ordered : {u : Units} {list : List AspectNode} (x : AspectNode) → list ≡ u.aspects ++ x ∷ [] → IsOrdered u → AreBelow (counts u) x.exprs x.stmts x.decls x.aspects → IsOrdered (record u { aspects = list })
aspect_ordered {u} {list} x e h below = record {
  units = λ n y g. below_wider (more_aspects (counts u) (longer u.aspects (x ∷ []) e)) (h.units n y g);
  decls = λ n y g. below_wider (more_aspects (record (counts u) { decls = n }) (longer u.aspects (x ∷ []) e)) (h.decls n y g);
  stmts = λ n y g. below_wider (more_aspects (record (counts u) { stmts = n }) (longer u.aspects (x ∷ []) e)) (h.stmts n y g);
  exprs = λ n y g. below_wider (more_aspects (record (counts u) { exprs = n }) (longer u.aspects (x ∷ []) e)) (h.exprs n y g);
  aspects = as_joined (λ n y. AreBelow (record (counts u) { aspects = n }) y.exprs y.stmts y.decls y.aspects) e (each_added _ u.aspects x h.aspects below);
}

-- expressions more, each behind its children
pub exprs_ordered : {u : Units} {list : List ExprNode} (further : List ExprNode) → list ≡ u.exprs ++ further → IsOrdered u
    → Each (λ m y. AreBelow (record (counts u) { exprs = length u.exprs + m }) y.exprs [] [] []) further → IsOrdered (record u { exprs = list })
exprs_ordered {u} {list} further e h below = record {
  units = λ n y g. below_wider (more_exprs (counts u) (longer u.exprs further e)) (h.units n y g);
  decls = λ n y g. below_wider (more_exprs (record (counts u) { decls = n }) (longer u.exprs further e)) (h.decls n y g);
  stmts = λ n y g. below_wider (more_exprs (record (counts u) { stmts = n }) (longer u.exprs further e)) (h.stmts n y g);
  exprs = as_joined (λ n y. AreBelow (record (counts u) { exprs = n }) y.exprs [] [] []) e (each_behind _ u.exprs further h.exprs below);
  aspects = λ n y g. below_wider (more_exprs (record (counts u) { aspects = n }) (longer u.exprs further e)) (h.aspects n y g);
}

-- no trees
none : {A : Type 0} {xs : List A} (P : ℕ → A → Type 0) → xs ≡ [] → Each P xs
none {A} {xs} P e n x g = absurd (none-some x (subst (λ (z : List A). slice_get z n ≡ Some x) e g))

pub no_trees : (u : Units) → u.units ≡ [] → u.decls ≡ [] → u.stmts ≡ [] → u.exprs ≡ [] → u.aspects ≡ [] → IsOrdered u
no_trees u a b c d e = record { units = none _ a; decls = none _ b; stmts = none _ c; exprs = none _ d; aspects = none _ e }
