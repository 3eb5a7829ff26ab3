-- What the code of a well-formed and proper program names.
use Rattle.std.proofs.Common.{◌≡◌, ℕ, zero, suc, ◌<◌, List, [], ◌∷◌, length, Option, Some, None, refl, sym, subst, arith}
use Rattle.std.specs.Prelude.{slice_get, All, IfSome}
use Rattle.std.proofs.lemmas.List.Elements.{All-head, All-tail}
use Rattle.std.proofs.lemmas.Option.{get_or_from_slice_get, slice_get_within}
use Rattle.spark_base.specs.declared.numbers.ExprNo.{ExprNo}
use Rattle.spark_base.specs.declared.numbers.LeafNo.{LeafNo}
use Rattle.spark_base.specs.declared.numbers.StmtNo.{StmtNo}
use Rattle.core_form.specs.Calls.{HasNoCalls}
use Rattle.core_form.specs.declared.code.Actual.{Actual}
use Rattle.core_form.specs.declared.code.CoreExpr.{CoreExpr}
use Rattle.core_form.specs.declared.code.CoreStmt.{CoreStmt}
use Rattle.core_form.specs.Code.{Expr, At, Actuals, actuals_at, spots_at, Code, Skip, Then, Assign, Clear, Branch, Repeat, Exit, Called, Guard, Delay, ReadClock, Stop, exprs_at, spot_at, expr_at, codes_at, code_at, expr_of, code_of}
use Rattle.core_form.specs.Exits.{ExitsIn}
use Rattle.core_form.specs.Fine.{ActualBelow, ActualsIn, CodeIn, NamesIn, AllNamesIn, SpotIn, SpotsIn, ExprsBelow, StmtsBelow, PlaceBelow, IsFineExpr, IsFineStmt, AreFineExprs, AreFineStmts, IsFineBody, IsSeenIn, IsWellFormed}
use Rattle.core_form.specs.Proper.{IsProper, IsProperCode, IsProperList, IsProperMember}
use Rattle.core_form.specs.declared.program.Body.{Body}
use Rattle.core_form.specs.declared.program.Program.{Program}
use Rattle.flow_relations.specs.Equation.{code_at_body, code_of_body}
use Rattle.run_model.specs.Machine.{body_code}
use Rattle.core_form.specs.declared.code.Place.{Place}
use Rattle.core_form.proofs.Alone.{NamesAlone, names_alone}
use Rattle.core_form.proofs.Trees.{expr_unfolds, code_unfolds}
use Rattle.run_laws.proofs.Walks.{Below, IsRight}

pub gone_within : {X : Type 0} → (xs : List X) (i : ℕ) → slice_get xs i ≡ None → i < length xs → ⊥
gone_within [] i h l = omega arith
gone_within {X} (x ∷ xs) zero h l = let n : Option X = None in let z : Some x ≡ n = h in cc
gone_within (x ∷ xs) (suc i) h l = gone_within xs i h (omega arith)

pub All_got : {X : Type 0} (P : X → Type 0) → (xs : List X) (i : ℕ) (x : X) → All P xs → slice_get xs i ≡ Some x → P x
All_got P xs i x h e = subst P (get_or_from_slice_get xs i x x e) (h i x (slice_get_within xs i x e))

module _ (P : ℕ → Type 0) (leaves : ℕ) (inside : (x : ℕ) → x < leaves → P x) where
  list_named : (f : ExprNo → Expr) (n : ℕ) → ((e : ExprNo) → e.0 < n → NamesIn P (f e)) → (es : List ExprNo) → ExprsBelow n es → AllNamesIn P (exprs_at f es)
  list_named f n h [] b = tt
  list_named f n h (e ∷ es) b = (h e (All-head (λ x. x.0 < n) e es b), list_named f n h es (All-tail (λ x. x.0 < n) e es b))

  place_named : (f : ExprNo → Expr) (n : ℕ) → ((e : ExprNo) → e.0 < n → NamesIn P (f e)) → (place : Place) → PlaceBelow leaves n place → SpotIn P (spot_at f place)
  place_named f n h place b = (inside place.leaf.0 b.0, list_named f n h place.part b.1)

  places_named : (f : ExprNo → Expr) (n : ℕ) → ((e : ExprNo) → e.0 < n → NamesIn P (f e)) → (places : List Place) → All (PlaceBelow leaves n) places → SpotsIn P (spots_at f places)
  places_named f n h [] b = tt
  places_named f n h (place ∷ places) b =
      (place_named f n h place (All-head (PlaceBelow leaves n) place places b), places_named f n h places (All-tail (PlaceBelow leaves n) place places b))

  actuals_named : (f : ExprNo → Expr) (n : ℕ) → ((e : ExprNo) → e.0 < n → NamesIn P (f e)) → (list : List Actual) → All (ActualBelow leaves n) list → ActualsIn P (actuals_at f list)
  unfolding ActualBelow
  actuals_named f n h [] b = tt
  actuals_named f n h (a ∷ list) b =
      let first = All-head (ActualBelow leaves n) a list b in
      (list_named f n h a.value first.value, places_named f n h a.back first.back, actuals_named f n h list (All-tail (ActualBelow leaves n) a list b))

  barrier_named : (barrier : Option LeafNo) → IfSome barrier (λ leaf. leaf.0 < leaves) → IfSome barrier (λ leaf. P leaf.0)
  barrier_named None b = b
  barrier_named (Some leaf) b = inside leaf.0 b

  node_named : (f : ExprNo → Expr) (n : ℕ) → ((e : ExprNo) → e.0 < n → NamesIn P (f e)) → (node : CoreExpr) → IsFineExpr leaves n node → NamesIn P (expr_at f (Some node))
  node_named f n h (CoreExpr.Value v) b = tt
  node_named f n h (CoreExpr.Read place at) b = place_named f n h place b
  node_named f n h (CoreExpr.Apply op args) b = list_named f n h args b
  node_named f n h (CoreExpr.Choose test x y) b = (h test b.0, h x b.1, h y b.2)
  node_named f n h (CoreExpr.Build parts) b = list_named f n h parts b
  node_named f n h (CoreExpr.Within x low high) b = h x b

  codes_named : (f : StmtNo → Code) (n : ℕ) → ((s : StmtNo) → s.0 < n → CodeIn P (f s)) → (ss : List StmtNo) → StmtsBelow n ss → CodeIn P (codes_at f ss)
  codes_named f n h [] b = tt
  codes_named f n h (s ∷ ss) b = (h s (All-head (λ x. x.0 < n) s ss b), codes_named f n h ss (All-tail (λ x. x.0 < n) s ss b))

  stmt_named : (count : ℕ) (f : ExprNo → Expr) → ((e : ExprNo) → e.0 < count → NamesIn P (f e)) → (g : StmtNo → Code) (n : ℕ) → ((s : StmtNo) → s.0 < n → CodeIn P (g s)) → (node : CoreStmt) → IsFineStmt leaves count n node → CodeIn P (code_at f g (Some node))
  stmt_named count f h g n k (CoreStmt.Move to e at) b = (place_named f count h to b.0, h e b.1)
  stmt_named count f h g n k (CoreStmt.Fresh leaf) b = inside leaf.0 b
  stmt_named count f h g n k (CoreStmt.If test x y) b = (h test b.0, k x b.1, k y b.2)
  stmt_named count f h g n k (CoreStmt.Loop body) b = k body b
  stmt_named count f h g n k (CoreStmt.Leave m) b = tt
  stmt_named count f h g n k CoreStmt.Back b = tt
  stmt_named count f h g n k (CoreStmt.Call callee actuals at) b = actuals_named f count h actuals b
  stmt_named count f h g n k (CoreStmt.Guarded object barrier call) b = (barrier_named barrier b.0, k call b.1)
  stmt_named count f h g n k (CoreStmt.DelayUntil e) b = absurd b
  stmt_named count f h g n k (CoreStmt.Clock to) b = absurd b
  stmt_named count f h g n k CoreStmt.Fail b = tt
  stmt_named count f h g n k (CoreStmt.Seq stmts) b = codes_named g n k stmts b

  expr_found : (exprs : List CoreExpr) → AreFineExprs leaves exprs → (e : ExprNo) → ((c : ExprNo) → c.0 < e.0 → NamesIn P (expr_of exprs c)) → (o : Option CoreExpr) → slice_get exprs e.0 ≡ o → e.0 < length exprs → NamesIn P (expr_of exprs e)
  expr_found exprs fine e h None is l = absurd (gone_within exprs e.0 is l)
  expr_found exprs fine e h (Some node) is l = subst (NamesIn P) (sym (expr_unfolds leaves exprs fine e node is)) (node_named (expr_of exprs) e.0 h node (fine e.0 node is))

  exprs_named : (exprs : List CoreExpr) → AreFineExprs leaves exprs → (n : ℕ) (e : ExprNo) → e.0 < n → e.0 < length exprs → NamesIn P (expr_of exprs e)
  exprs_named exprs fine zero e h k = absurd (omega arith)
  exprs_named exprs fine (suc n) e h k = expr_found exprs fine e (λ c l. exprs_named exprs fine n c (omega arith) (omega arith)) (slice_get exprs e.0) refl k

  stmt_found : (exprs : List CoreExpr) (stmts : List CoreStmt) → AreFineExprs leaves exprs → AreFineStmts leaves (length exprs) stmts → (s : StmtNo) → ((c : StmtNo) → c.0 < s.0 → CodeIn P (code_of exprs stmts c)) → (o : Option CoreStmt) → slice_get stmts s.0 ≡ o → s.0 < length stmts → CodeIn P (code_of exprs stmts s)
  stmt_found exprs stmts fine fine' s h None is l = absurd (gone_within stmts s.0 is l)
  stmt_found exprs stmts fine fine' s h (Some node) is l =
      subst (CodeIn P) (sym (code_unfolds leaves (length exprs) stmts fine' exprs s node is))
      (stmt_named (length exprs) (expr_of exprs) (λ e k. exprs_named exprs fine (suc e.0) e (omega arith) k) (code_of exprs stmts) s.0 h node (fine' s.0 node is))

  pub stmts_named : (exprs : List CoreExpr) (stmts : List CoreStmt) → AreFineExprs leaves exprs → AreFineStmts leaves (length exprs) stmts → (n : ℕ) (s : StmtNo) → s.0 < n → s.0 < length stmts → CodeIn P (code_of exprs stmts s)
  stmts_named exprs stmts fine fine' zero s h k = absurd (omega arith)
  stmts_named exprs stmts fine fine' (suc n) s h k = stmt_found exprs stmts fine fine' s (λ c l. stmts_named exprs stmts fine fine' n c (omega arith) (omega arith)) (slice_get stmts s.0) refl k

-- places of proper code are right
right_code : (p : Program) (body : Body) (a : Code) → IsProperCode p body a → IsRight p a
right_code p body Skip h = tt
right_code p body (Then a b) h = (right_code p body a h.0, right_code p body b h.1)
right_code p body (Assign (At leaf part whole count) e at) h = h.1.0
right_code p body (Clear leaf) h = tt
right_code p body (Branch e a b) h = (right_code p body a h.1, right_code p body b h.2)
right_code p body (Repeat a) h = right_code p body a h
right_code p body (Exit o) h = tt
right_code p body (Called b actuals at) h = tt
right_code p body (Guard o barrier c) h = tt
right_code p body (Delay e) h = absurd h
right_code p body (ReadClock to) h = absurd h
right_code p body Stop h = tt

right_member : (p : Program) (body : Body) (a : Code) → IsProperMember p body a → IsRight p a
right_member p body (Clear leaf) h = tt
right_member p body a h = right_code p body a h

right_list : (p : Program) (body : Body) (a : Code) → IsProperList p body a → IsRight p a
right_list p body (Then a b) h = (right_member p body a h.0, right_list p body b h.1)
right_list p body a h = right_member p body a h

-- the code of a body calls nothing, and names what is there, and its own leaves and those of the library; its places are right
pub record IsSound (p : Program) (b : ℕ) (a : Code) : Type 0 where
  pub below : NamesAlone (Below p) a
  pub seen : NamesAlone (IsSeenIn p b) a
  pub right : IsRight p a
  pub exits : ExitsIn 0 a

pub sound_body : (p : Program) → IsWellFormed p → IsProper p → HasNoCalls p → (b : ℕ) → IsSound p b (code_of_body p b)
sound_body p fine proper plain b = cases (slice_get p.bodies b) refl
  where
    cases : (o : Option Body) → slice_get p.bodies b ≡ o → IsSound p b (code_at_body p o)
    cases None e = record { below = tt; seen = tt; right = tt; exits = tt }
    cases (Some body) e =
        let is : IsFineBody p body = All_got (IsFineBody p) p.bodies b body fine.bodies e in
        record {
          below = names_alone (Below p) (code_of p.exprs p.stmts body.code)
              (stmts_named (Below p) (length p.leaves) (λ x l. l) p.exprs p.stmts fine.nodes.exprs fine.nodes.stmts (suc body.code.0) body.code (omega arith) is.code)
              (plain b body e);
          seen = names_alone (IsSeenIn p b) (code_of p.exprs p.stmts body.code) (fine.names b body e) (plain b body e);
          right = right_list p body (code_of p.exprs p.stmts body.code) (proper.code b body e);
          exits = fine.exits b body e;
        }

-- the machine and the flow speak of the same code
pub body_code_is : (p : Program) (b : ℕ) → body_code p b ≡ code_of_body p b
body_code_is p b = cases (slice_get p.bodies b)
  where
    cases : (o : Option Body) → elim o [ None ↦ Stop | Some body ↦ code_of p.exprs p.stmts body.code ] ≡ code_at_body p o
    cases None = refl
    cases (Some body) = refl
