-- What a well-formed program is: numbers are in range, a child's number is smaller than its node's, and the code of a
-- body names no leaf of another body.
use Rattle.std.specs.Prelude.{◌≡◌, ℕ, ◌+◌, ◌^◌, ◌<◌, ◌≤◌, List, All, Option, Some, None, IfSome, slice_get, length}
use Rattle.spark_base.specs.declared.numbers.ExprNo.{ExprNo}
use Rattle.spark_base.specs.declared.numbers.StmtNo.{StmtNo}
use Rattle.core_form.specs.declared.build.Nodes.{Nodes}
use Rattle.core_form.specs.declared.code.Actual.{Actual}
use Rattle.core_form.specs.declared.code.CoreExpr.{CoreExpr}
use Rattle.core_form.specs.declared.code.CoreStmt.{CoreStmt}
use Rattle.core_form.specs.declared.code.Place.{Place}
use Rattle.core_form.specs.declared.contract.Contract.{Contract}
use Rattle.core_form.specs.declared.contract.DependsPair.{DependsPair}
use Rattle.core_form.specs.declared.program.Body.{Body}
use Rattle.core_form.specs.declared.program.Home.{Home}
use Rattle.core_form.specs.declared.program.Item.{Item}
use Rattle.core_form.specs.declared.program.PartOf.{PartOf}
use Rattle.core_form.specs.declared.program.Constituent.{Constituent}
use Rattle.core_form.specs.declared.program.Program.{Program}
use Rattle.core_form.specs.declared.program.Sharing.{Sharing}
use Rattle.core_form.specs.declared.program.StateDef.{StateDef}
use Rattle.core_form.specs.declared.program.Var.{Var}
use Rattle.core_form.specs.Calls.{CallsIn}
use Rattle.core_form.specs.Exits.{ExitsIn}
use Rattle.core_form.specs.Code.{Expr, Exprs, Spot, Spots, NoSpot, AndSpot, Actuals, NoActual, AndActual, Code, Constant, Load, Operation, Choice, Listed, Checked, Nothing, And, At, Skip, Then, Assign, Clear, Branch, Repeat, Exit, Called, Guard, Delay, ReadClock, Stop, code_of}

-- Nodes

abbrev pub ExprsBelow : ℕ → List ExprNo → Type 0
ExprsBelow n es = All (λ e. e.0 < n) es

abbrev pub StmtsBelow : ℕ → List StmtNo → Type 0
StmtsBelow n ss = All (λ s. s.0 < n) ss

-- a place in a program of so many leaves, whose expressions are below a number
abbrev pub PlaceBelow : ℕ → ℕ → Place → Type 0
PlaceBelow leaves n place = (place.leaf.0 < leaves) × ExprsBelow n place.part

abbrev pub IsFineExpr : ℕ → ℕ → CoreExpr → Type 0
IsFineExpr leaves e (CoreExpr.Value n) = Unit {0}
IsFineExpr leaves e (CoreExpr.Read place at) = PlaceBelow leaves e place
IsFineExpr leaves e (CoreExpr.Apply op args) = ExprsBelow e args
IsFineExpr leaves e (CoreExpr.Choose test a b) = (test.0 < e) × (a.0 < e) × (b.0 < e)
IsFineExpr leaves e (CoreExpr.Build parts) = ExprsBelow e parts
IsFineExpr leaves e (CoreExpr.Within x low high) = x.0 < e

-- what a call hands over for one formal: the values and places, and the leaves that they overlap
pub record HasPartsBelow (leaves exprs : ℕ) (a : Actual) : Type 0 where
  pub value : ExprsBelow exprs a.value
  pub back : All (PlaceBelow leaves exprs) a.back
  pub overlap : All (λ leaf. leaf.0 < leaves) a.overlap

unfoldable pub ActualBelow : ℕ → ℕ → Actual → Type 0
ActualBelow leaves exprs a = HasPartsBelow leaves exprs a

-- a statement of a program of so many leaves and expressions; the forms that have no meaning yet are no part of a
-- well-formed program
abbrev pub IsFineStmt : ℕ → ℕ → ℕ → CoreStmt → Type 0
IsFineStmt leaves exprs s (CoreStmt.Move to e at) = PlaceBelow leaves exprs to × (e.0 < exprs)
IsFineStmt leaves exprs s (CoreStmt.Fresh leaf) = leaf.0 < leaves
IsFineStmt leaves exprs s (CoreStmt.If test a b) = (test.0 < exprs) × (a.0 < s) × (b.0 < s)
IsFineStmt leaves exprs s (CoreStmt.Loop body) = body.0 < s
IsFineStmt leaves exprs s (CoreStmt.Leave n) = Unit {0}
IsFineStmt leaves exprs s CoreStmt.Back = Unit {0}
IsFineStmt leaves exprs s (CoreStmt.Call callee actuals at) = All (ActualBelow leaves exprs) actuals
IsFineStmt leaves exprs s (CoreStmt.Guarded object barrier call) = IfSome barrier (λ leaf. leaf.0 < leaves) × (call.0 < s)
IsFineStmt leaves exprs s (CoreStmt.DelayUntil e) = ⊥
IsFineStmt leaves exprs s (CoreStmt.Clock to) = ⊥
IsFineStmt leaves exprs s CoreStmt.Fail = Unit {0}
IsFineStmt leaves exprs s (CoreStmt.Seq stmts) = StmtsBelow s stmts

abbrev pub AreFineExprs : ℕ → List CoreExpr → Type 0
AreFineExprs leaves exprs = (e : ℕ) (node : CoreExpr) → slice_get exprs e ≡ Some node → IsFineExpr leaves e node

abbrev pub AreFineStmts : ℕ → ℕ → List CoreStmt → Type 0
AreFineStmts leaves exprs stmts = (s : ℕ) (node : CoreStmt) → slice_get stmts s ≡ Some node → IsFineStmt leaves exprs s node

-- what is asked of nodes: by it alone, the code of a number can be followed
pub record AreFineNodes (nodes : Nodes) : Type 0 where
  -- each number has its place, and a row one more for "not assigned"
  pub room : (nodes.leaves + 1 < 2 ^ 32) × (length nodes.exprs < 2 ^ 32) × (length nodes.stmts < 2 ^ 32)
  pub exprs : AreFineExprs nodes.leaves nodes.exprs
  pub stmts : AreFineStmts nodes.leaves (length nodes.exprs) nodes.stmts

abbrev pub nodes_of : Program → Nodes
nodes_of p = record { leaves = length p.leaves; exprs = p.exprs; stmts = p.stmts }

abbrev pub HasFineNodes : Program → Type 0
HasFineNodes p = AreFineNodes (nodes_of p)

-- Tables

-- a number that may be absent is in range
abbrev pub IsBelow : ℕ → Option ℕ → Type 0
IsBelow n o = IfSome o (λ i. i < n)

abbrev pub IsFineHome : Program → Home → Type 0
IsFineHome p (Home.Package k) = k.0 < length p.packages
IsFineHome p (Home.Local b) = b.0 < length p.bodies
IsFineHome p (Home.Formal b) = b.0 < length p.bodies
IsFineHome p (Home.Outcome b) = b.0 < length p.bodies
IsFineHome p (Home.Spare b) = b.0 < length p.bodies
IsFineHome p Home.Clock = Unit {0}

abbrev pub IsFineSharing : Program → Sharing → Type 0
IsFineSharing p Sharing.Plain = Unit {0}
IsFineSharing p Sharing.Atomic = Unit {0}
IsFineSharing p (Sharing.Component o) = o.0 < length p.objects
IsFineSharing p Sharing.ClockTime = Unit {0}

pub record IsFineVar (p : Program) (v : Var) : Type 0 where
  pub home : IsFineHome p v.home
  pub state : IsBelow (length p.states.list) v.state
  pub sharing : IsFineSharing p v.sharing
  pub leaves : v.«from».0 + v.count ≤ length p.leaves

abbrev pub IsFineItem : Program → Item → Type 0
IsFineItem p (Item.Whole v) = v.0 < length p.vars
IsFineItem p (Item.State s) = s < length p.states.list
IsFineItem p (Item.Guard o) = o.0 < length p.objects

pub record IsFinePair (p : Program) (pair : DependsPair) : Type 0 where
  pub output : IfSome pair.output (λ i. i.0 < length p.items)
  pub input : IfSome pair.input (λ i. i.0 < length p.items)

pub record IsFineContract (p : Program) (c : Contract) : Type 0 where
  pub globals : All (λ g. g.item.0 < length p.items) c.globals
  pub depends : IfSome c.depends (λ pairs. All (IsFinePair p) pairs)

pub record IsFineBody (p : Program) (b : Body) : Type 0 where
  pub «package» : IfSome b.package (λ k. k.0 < length p.packages)
  pub object : IfSome b.object (λ o. o.0 < length p.objects)
  pub formals : All (λ f. f.var.0 < length p.vars) b.formals
  pub code : b.code.0 < length p.stmts
  pub outer : IfSome b.outer (IsFineContract p)
  pub inner : IfSome b.inner (IsFineContract p)

pub record IsFineState (p : Program) (s : StateDef) : Type 0 where
  pub «package» : s.package.0 < length p.packages
  pub variables : All (λ v. v.0 < length p.vars) s.variables

pub record IsFinePartOf (p : Program) (x : PartOf) : Type 0 where
  pub var : x.var.0 < length p.vars
  pub state : x.state < length p.states.list

pub record IsFineConstituent (p : Program) (x : Constituent) : Type 0 where
  pub var : x.var.0 < length p.vars
  pub state : x.state < length p.states.list

-- Names

-- a variable of a package, of this body, or the clock
abbrev pub IsHomeOf : ℕ → Home → Type 0
IsHomeOf body (Home.Package k) = Unit {0}
IsHomeOf body (Home.Local b) = b.0 ≡ body
IsHomeOf body (Home.Formal b) = b.0 ≡ body
IsHomeOf body (Home.Outcome b) = b.0 ≡ body
IsHomeOf body (Home.Spare b) = b.0 ≡ body
IsHomeOf body Home.Clock = Unit {0}

-- the home of a leaf
abbrev pub home_of : Program → ℕ → Option Home
home_of p leaf = elim (slice_get p.leaves leaf) [
  | None ↦ None
  | Some l ↦ (elim (slice_get p.vars l.var.0) [ None ↦ None | Some v ↦ Some v.home ])
]

-- a library leaf, or one of this body's own
abbrev pub IsSeenIn : Program → ℕ → ℕ → Type 0
IsSeenIn p body leaf = IfSome (home_of p leaf) (IsHomeOf body)

-- each leaf that is named has this property
abbrev mutual
  pub NamesIn : (ℕ → Type 0) → Expr → Type 0
  NamesIn P (Constant n) = Unit {0}
  NamesIn P (Load spot at) = SpotIn P spot
  NamesIn P (Operation op args) = AllNamesIn P args
  NamesIn P (Choice test a b) = NamesIn P test × NamesIn P a × NamesIn P b
  NamesIn P (Listed parts) = AllNamesIn P parts
  NamesIn P (Checked e low high) = NamesIn P e

  pub AllNamesIn : (ℕ → Type 0) → Exprs → Type 0
  AllNamesIn P Nothing = Unit {0}
  AllNamesIn P (And e es) = NamesIn P e × AllNamesIn P es

  pub SpotIn : (ℕ → Type 0) → Spot → Type 0
  SpotIn P (At leaf part whole cells) = P leaf × AllNamesIn P part

abbrev pub SpotsIn : (ℕ → Type 0) → Spots → Type 0
SpotsIn P NoSpot = Unit {0}
SpotsIn P (AndSpot spot spots) = SpotIn P spot × SpotsIn P spots

abbrev pub ActualsIn : (ℕ → Type 0) → Actuals → Type 0
ActualsIn P NoActual = Unit {0}
ActualsIn P (AndActual formal values spots at rest) = AllNamesIn P values × SpotsIn P spots × ActualsIn P rest

abbrev pub CodeIn : (ℕ → Type 0) → Code → Type 0
CodeIn P Skip = Unit {0}
CodeIn P (Then a b) = CodeIn P a × CodeIn P b
CodeIn P (Assign to e at) = SpotIn P to × NamesIn P e
CodeIn P (Clear leaf) = P leaf
CodeIn P (Branch e a b) = NamesIn P e × CodeIn P a × CodeIn P b
CodeIn P (Repeat a) = CodeIn P a
CodeIn P (Exit o) = Unit {0}
CodeIn P (Called b actuals at) = ActualsIn P actuals
CodeIn P (Guard o barrier call) = IfSome barrier (λ leaf. P leaf.0) × CodeIn P call
CodeIn P (Delay e) = ⊥
CodeIn P (ReadClock to) = ⊥
CodeIn P Stop = Unit {0}

pub record IsWellFormed (p : Program) : Type 0 where
  pub nodes : HasFineNodes p
  pub leaves : All (λ l. l.var.0 < length p.vars) p.leaves
  pub vars : All (IsFineVar p) p.vars
  pub items : All (IsFineItem p) p.items
  pub bodies : All (IsFineBody p) p.bodies
  pub packages : All (λ k. IfSome k.initial (λ list. All (λ i. i.item.0 < length p.items) list)) p.packages
  pub states : All (IsFineState p) p.states.list
  pub objects : All (λ o. o.var.0 < length p.vars) p.objects
  pub tasks : All (λ t. t.body.0 < length p.bodies) p.tasks
  pub order : All (λ b. b.0 < length p.bodies) p.order
  pub main : IfSome p.main (λ b. b.0 < length p.bodies)
  pub part_of : All (IsFinePartOf p) p.part_of
  pub constituents : All (IsFineConstituent p) p.constituents
  pub names : (b : ℕ) (body : Body) → slice_get p.bodies b ≡ Some body → CodeIn (IsSeenIn p b) (code_of p.exprs p.stmts body.code)
  pub exits : (b : ℕ) (body : Body) → slice_get p.bodies b ≡ Some body → ExitsIn 0 (code_of p.exprs p.stmts body.code)
  pub calls : (b : ℕ) (body : Body) → slice_get p.bodies b ≡ Some body → CallsIn p (code_of p.exprs p.stmts body.code)
