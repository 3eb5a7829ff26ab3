-- A program as its tables and nodes are put together.
use Rattle.std.specs.Prelude.{◌≡◌, ℕ, ◌<◌, true, false, List, [], ◌∷◌, None, length}
use Rattle.core_form.specs.Code.{Skip, code_of}
use Rattle.core_form.specs.declared.build.Nodes.{Nodes}
use Rattle.core_form.specs.declared.program.Body.{Body}
use Rattle.core_form.specs.declared.program.Program.{Program}
use Rattle.first_path.specs.declared.source.Source.{Source}
use Rattle.first_lower.specs.declared.program.Roots.{Roots}
use Rattle.first_lower.specs.Levels.{ends}
use Rattle.first_lower.specs.Lowered.{low_variables, low_leaf, low_var, low_item, low_package}
use Rattle.first_lower.specs.Lowered.{low_procedure, elaboration, each_from, assignments_of}

-- the nodes have the codes of the bodies
pub record HasRoots (s : Source) (keys : List (List ℕ)) (nodes : Nodes) (r : Roots) : Type 0 where
  pub spec_within : r.spec.0 < length nodes.stmts
  pub body_within : r.body.0 < length nodes.stmts
  pub procedure_within : r.procedure.0 < length nodes.stmts
  pub spec_code : code_of nodes.exprs nodes.stmts r.spec ≡ low_variables 0 s.spec.variables
  pub body_code : code_of nodes.exprs nodes.stmts r.body ≡ Skip
  pub procedure_code : code_of nodes.exprs nodes.stmts r.procedure ≡ ends keys [] [] s.body.procedure.lines

abbrev pub bodies_of : Source → List (List ℕ) → Roots → List Body
bodies_of s keys r =
    elaboration s.spec.«package» s.spec.«package» r.spec true
    ∷ elaboration s.spec.«package» s.body.«package» r.body false
    ∷ low_procedure keys s r.procedure ∷ []

pub record IsAssembled (s : Source) (keys : List (List ℕ)) (nodes : Nodes) (r : Roots) (p : Program) : Type 0 where
  pub leaves : p.leaves ≡ each_from (low_leaf s.spec.«package») 0 s.spec.variables
  pub vars : p.vars ≡ each_from (low_var s.spec.«package») 0 s.spec.variables
  pub items : p.items ≡ each_from low_item 0 s.spec.variables
  pub bodies : p.bodies ≡ bodies_of s keys r
  pub packages : p.packages ≡ low_package s.spec.«package» ∷ []
  pub states : p.states.list ≡ []
  pub objects : p.objects ≡ []
  pub tasks : p.tasks ≡ []
  pub order : p.order ≡ record { 0 = 0 } ∷ record { 0 = 1 } ∷ []
  pub main : p.main ≡ None
  pub part_of : p.part_of ≡ []
  pub constituents : p.constituents ≡ []
  pub assignments : p.assignments ≡ assignments_of s.body.procedure.lines
  pub exprs : p.exprs ≡ nodes.exprs
  pub stmts : p.stmts ≡ nodes.stmts
