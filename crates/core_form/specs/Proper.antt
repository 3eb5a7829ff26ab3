-- What lowering promises beside a well-formed program. Without it, laws on runs are false.
use Rattle.std.specs.Prelude.{◌≡◌, ℕ, zero, suc, ◌+◌, ◌<◌, ◌≤◌, ◌↔◌, ◌⊎◌, Bool, true, false, cond, nat_eq, List, [], ◌∷◌, All, Option, Some, None, IsSomeAnd, slice_get, length, IsTrue}
use Rattle.spark_base.specs.declared.numbers.ObjectNo.{ObjectNo}
use Rattle.spark_base.specs.declared.numbers.PackageNo.{PackageNo}
use Rattle.core_form.specs.declared.program.Body.{Body}
use Rattle.core_form.specs.declared.program.BodyKind.{BodyKind}
use Rattle.core_form.specs.declared.program.Formal.{Formal}
use Rattle.core_form.specs.declared.program.Home.{Home}
use Rattle.core_form.specs.declared.program.Leaf.{Leaf}
use Rattle.core_form.specs.declared.program.ParamMode.{ParamMode}
use Rattle.core_form.specs.declared.program.Part.{Part}
use Rattle.core_form.specs.declared.program.Program.{Program}
use Rattle.core_form.specs.declared.program.Var.{Var}
use Rattle.core_form.specs.Code.{Expr, Exprs, Spot, Spots, Actuals, Constant, Load, Operation, Choice, Listed, Checked, Nothing, And, At, NoSpot, AndSpot, NoActual, AndActual}
use Rattle.core_form.specs.Code.{Code, Skip, Then, Assign, Clear, Branch, Repeat, Exit, Called, Guard, Delay, ReadClock, Stop, code_of}
use Rattle.core_form.specs.Fine.{home_of}

-- an elaboration, a task body or a main
abbrev pub IsRoot : BodyKind → Type 0
IsRoot BodyKind.Elaboration = Unit {0}
IsRoot BodyKind.Task = Unit {0}
IsRoot BodyKind.Main = Unit {0}
IsRoot BodyKind.Procedure = ⊥
IsRoot BodyKind.Function = ⊥
IsRoot BodyKind.Entry = ⊥

-- What code makes fresh

-- wherever it stands: leaves of the body's own, and no formal, since a call begins with its out formals unassigned
abbrev pub MayClear : Option Home → Type 0
MayClear None = ⊥
MayClear (Some (Home.Package k)) = ⊥
MayClear (Some (Home.Local b)) = Unit {0}
MayClear (Some (Home.Formal b)) = ⊥
MayClear (Some (Home.Outcome b)) = Unit {0}
MayClear (Some (Home.Spare b)) = Unit {0}
MayClear (Some Home.Clock) = ⊥

-- the variables of a package are declared by the elaboration of its spec, but for the hidden ones, which that of its body declares
abbrev pub IsDeclaredIn : Part → Bool → Type 0
IsDeclaredIn Part.Visible in_spec = in_spec ≡ true
IsDeclaredIn Part.Private in_spec = in_spec ≡ true
IsDeclaredIn Part.Hidden in_spec = in_spec ≡ false
IsDeclaredIn Part.Inner in_spec = ⊥

pub record Declares (body : Body) (v : Var) : Type 0 where
  pub kind : body.kind ≡ BodyKind.Elaboration
  pub home : (k : PackageNo) × ((body.«package» ≡ Some k) × (v.home ≡ Home.Package k))
  pub part : IsDeclaredIn v.part body.in_spec

-- in its own list, an elaboration makes also the library leaves fresh that it declares
abbrev pub IsDeclared : Program → Body → ℕ → Type 0
IsDeclared p body leaf = IsSomeAnd (slice_get p.leaves leaf) (λ l. IsSomeAnd (slice_get p.vars l.var.0) (Declares body))

-- What code writes

abbrev pub leaf_at : Spot → ℕ
leaf_at (At leaf part whole cells) = leaf

-- no formal of mode in
abbrev pub MayWrite : Program → Body → ℕ → Type 0
MayWrite p body leaf = All (λ f. f.mode ≡ ParamMode.In → IsSomeAnd (slice_get p.leaves leaf) (λ l. l.var ≡ f.var) → ⊥) body.formals

-- a place is whole exactly where no part is chosen and it has all cells of its leaf
abbrev pub IsWholeRight : (ℕ → ℕ) → ℕ → Exprs → Bool → ℕ → Type 0
IsWholeRight cells leaf part whole count = IsTrue whole ↔ ((part ≡ Nothing) × (count ≡ cells leaf))

abbrev mutual
  pub PlacesRight : (ℕ → ℕ) → Expr → Type 0
  PlacesRight cells (Constant n) = Unit {0}
  PlacesRight cells (Load spot at) = PlaceRight cells spot
  PlacesRight cells (Operation op args) = AllPlacesRight cells args
  PlacesRight cells (Choice test a b) = PlacesRight cells test × PlacesRight cells a × PlacesRight cells b
  PlacesRight cells (Listed parts) = AllPlacesRight cells parts
  PlacesRight cells (Checked e low high) = PlacesRight cells e

  pub AllPlacesRight : (ℕ → ℕ) → Exprs → Type 0
  AllPlacesRight cells Nothing = Unit {0}
  AllPlacesRight cells (And e es) = PlacesRight cells e × AllPlacesRight cells es

  pub PlaceRight : (ℕ → ℕ) → Spot → Type 0
  PlaceRight cells (At leaf part whole count) = IsWholeRight cells leaf part whole count × AllPlacesRight cells part

-- how many cells a leaf has
abbrev pub cells_of : Program → ℕ → ℕ
cells_of p leaf = elim (slice_get p.leaves leaf) [ None ↦ 0 | Some l ↦ l.cells ]

-- Calls

-- an expression has so many cells, in either branch
abbrev mutual
  pub HasCells : ℕ → Expr → Type 0
  HasCells n (Constant k) = n ≡ 1
  HasCells n (Load (At leaf part whole count) at) = n ≡ count
  HasCells n (Operation op args) = n ≡ 1
  HasCells n (Choice test a b) = HasCells n a × HasCells n b
  HasCells n (Listed parts) = HaveCells n parts
  HasCells n (Checked e low high) = HasCells n e

  pub HaveCells : ℕ → Exprs → Type 0
  HaveCells n Nothing = n ≡ 0
  HaveCells n (And e es) = (k : ℕ) × ((m : ℕ) × ((n ≡ k + m) × HasCells k e × HaveCells m es))

-- there is one value for each of so many leaves from one on, with as many cells
abbrev pub AreValuesOf : Program → ℕ → ℕ → Exprs → Type 0
AreValuesOf p leaf zero Nothing = Unit {0}
AreValuesOf p leaf zero (And e es) = ⊥
AreValuesOf p leaf (suc n) Nothing = ⊥
AreValuesOf p leaf (suc n) (And e es) = (HasCells (cells_of p leaf) e × PlacesRight (cells_of p) e) × AreValuesOf p (suc leaf) n es

-- an index that is the value of a spare
abbrev pub IsSpare : Option Home → Type 0
IsSpare None = ⊥
IsSpare (Some (Home.Package k)) = ⊥
IsSpare (Some (Home.Local b)) = ⊥
IsSpare (Some (Home.Formal b)) = ⊥
IsSpare (Some (Home.Outcome b)) = ⊥
IsSpare (Some (Home.Spare b)) = Unit {0}
IsSpare (Some Home.Clock) = ⊥

-- an expression that names spares alone
abbrev mutual
  pub ReadsSpares : Program → Expr → Type 0
  ReadsSpares p (Constant n) = Unit {0}
  ReadsSpares p (Load (At leaf part whole count) at) = IsSpare (home_of p leaf) × AllReadSpares p part
  ReadsSpares p (Operation op args) = AllReadSpares p args
  ReadsSpares p (Choice test a b) = ReadsSpares p test × ReadsSpares p a × ReadsSpares p b
  ReadsSpares p (Listed parts) = AllReadSpares p parts
  ReadsSpares p (Checked e low high) = ReadsSpares p e

  pub AllReadSpares : Program → Exprs → Type 0
  AllReadSpares p Nothing = Unit {0}
  AllReadSpares p (And e es) = ReadsSpares p e × AllReadSpares p es

-- a place to which a leaf of so many cells is copied back: it takes its indices from spares alone
abbrev pub IsPlaceFor : Program → Body → ℕ → Spot → Type 0
IsPlaceFor p body cells (At leaf part whole count) =
    (count ≡ cells) × MayWrite p body leaf × IsWholeRight (cells_of p) leaf part whole count × AllReadSpares p part × AllPlacesRight (cells_of p) part

-- there is one place for each of so many leaves from one on
abbrev pub ArePlacesFor : Program → Body → ℕ → ℕ → Spots → Type 0
ArePlacesFor p body leaf zero NoSpot = Unit {0}
ArePlacesFor p body leaf zero (AndSpot spot spots) = ⊥
ArePlacesFor p body leaf (suc n) NoSpot = ⊥
ArePlacesFor p body leaf (suc n) (AndSpot spot spots) = IsPlaceFor p body (cells_of p leaf) spot × ArePlacesFor p body (suc leaf) n spots

-- the values and places of a variable that is passed by this mode
abbrev pub IsPassedBy : Program → Body → ParamMode → Var → Exprs → Spots → Type 0
IsPassedBy p body ParamMode.In v values spots = AreValuesOf p v.«from».0 v.count values × (spots ≡ NoSpot)
IsPassedBy p body ParamMode.Out v values spots = (values ≡ Nothing) × ArePlacesFor p body v.«from».0 v.count spots
IsPassedBy p body ParamMode.InOut v values spots = AreValuesOf p v.«from».0 v.count values × ArePlacesFor p body v.«from».0 v.count spots

-- the variable is the result of this body
abbrev pub is_result : ℕ → Home → Bool
is_result b (Home.Package k) = false
is_result b (Home.Local c) = false
is_result b (Home.Formal c) = false
is_result b (Home.Outcome c) = nat_eq c.0 b
is_result b (Home.Spare c) = false
is_result b Home.Clock = false

-- the first variable that is the result of this body
abbrev pub result_of : ℕ → List Var → Option Var
result_of b [] = None
result_of b (v ∷ vs) = cond (is_result b v.home) (Some v) (result_of b vs)

-- what stands behind the actuals of the formals: for a function one for its result, which is number `n`
abbrev pub IsResultActual : Program → Body → BodyKind → ℕ → ℕ → Actuals → Type 0
IsResultActual p body BodyKind.Function b n (AndActual formal values spots at NoActual) =
    (formal ≡ n) × IsSomeAnd (result_of b p.vars) (λ var. IsPassedBy p body ParamMode.Out var values spots)
IsResultActual p body BodyKind.Function b n NoActual = ⊥
IsResultActual p body BodyKind.Function b n (AndActual formal values spots at (AndActual f v s a rest)) = ⊥
IsResultActual p body kind b n actuals = actuals ≡ NoActual

-- one actual for each formal, in order, of which the first has number `n`, and one for the result
abbrev pub AreActualsOf : Program → Body → BodyKind → ℕ → ℕ → List Formal → Actuals → Type 0
AreActualsOf p body kind b n [] actuals = IsResultActual p body kind b n actuals
AreActualsOf p body kind b n (f ∷ fs) NoActual = ⊥
AreActualsOf p body kind b n (f ∷ fs) (AndActual formal values spots at rest) =
    (formal ≡ n) × IsSomeAnd (slice_get p.vars f.var.0) (λ var. IsPassedBy p body f.mode var values spots) × AreActualsOf p body kind b (suc n) fs rest

-- no elaboration, task or main is called
pub record IsProperCall (p : Program) (body : Body) (b : ℕ) (actuals : Actuals) (callee : Body) : Type 0 where
  pub root : IsRoot callee.kind → ⊥
  pub passed : AreActualsOf p body callee.kind b 0 callee.formals actuals

-- an operation of an object is called without a guard from its sisters alone
abbrev pub IsPlainCallee : Body → Body → Type 0
IsPlainCallee body callee = (callee.object ≡ None) ⊎ (callee.object ≡ body.object)

-- the code of a guard is a call of an operation of its object
abbrev pub IsGuardedCall : Program → Body → ObjectNo → Code → Type 0
IsGuardedCall p body o (Called b actuals at) = IsSomeAnd (slice_get p.bodies b.0) (λ callee. IsProperCall p body b.0 actuals callee × (callee.object ≡ Some o))
IsGuardedCall p body o code = ⊥

-- the code of a body, within its list: it makes fresh and writes what it may, and its places are right
abbrev pub IsProperCode : Program → Body → Code → Type 0
IsProperCode p body Skip = Unit {0}
IsProperCode p body (Then a b) = IsProperCode p body a × IsProperCode p body b
IsProperCode p body (Assign to e at) = MayWrite p body (leaf_at to) × PlaceRight (cells_of p) to × PlacesRight (cells_of p) e
IsProperCode p body (Clear leaf) = MayClear (home_of p leaf)
IsProperCode p body (Branch e a b) = PlacesRight (cells_of p) e × IsProperCode p body a × IsProperCode p body b
IsProperCode p body (Repeat a) = IsProperCode p body a
IsProperCode p body (Exit o) = Unit {0}
IsProperCode p body (Called b actuals at) = IsSomeAnd (slice_get p.bodies b.0) (λ callee. IsProperCall p body b.0 actuals callee × IsPlainCallee body callee)
IsProperCode p body (Guard o barrier call) = IsGuardedCall p body o call
IsProperCode p body (Delay e) = ⊥
IsProperCode p body (ReadClock to) = ⊥
IsProperCode p body Stop = Unit {0}

-- a member of the body's own list
abbrev pub IsProperMember : Program → Body → Code → Type 0
IsProperMember p body (Clear leaf) = MayClear (home_of p leaf) ⊎ IsDeclared p body leaf
IsProperMember p body a = IsProperCode p body a

-- the body's own list
abbrev pub IsProperList : Program → Body → Code → Type 0
IsProperList p body (Then a b) = IsProperMember p body a × IsProperList p body b
IsProperList p body a = IsProperMember p body a

pub record IsProper (p : Program) : Type 0 where
  -- the leaves of a variable are those that name it
  pub leaves : (leaf v : ℕ) (l : Leaf) (var : Var) → slice_get p.leaves leaf ≡ Some l → slice_get p.vars v ≡ Some var
      → (l.var.0 ≡ v) ↔ ((var.«from».0 ≤ leaf) × (leaf < var.«from».0 + var.count))
  -- an elaboration, a task body and a main have no formals
  pub roots : (b : ℕ) (body : Body) → slice_get p.bodies b ≡ Some body → IsRoot body.kind → body.formals ≡ []
  pub code : (b : ℕ) (body : Body) → slice_get p.bodies b ≡ Some body → IsProperList p body (code_of p.exprs p.stmts body.code)
