-- What the trees of units with.
use Rattle.std.specs.Prelude.{ℕ, List, [], ◌∷◌, ◌++◌, codes}
use Rattle.std.specs.List.{flat_map}
use Rattle.spark_base.specs.declared.numbers.DeclNo.{DeclNo}
use Rattle.spark_base.specs.declared.numbers.Pos.{Pos}
use Rattle.ada_tree.specs.declared.units.Units.{Units}
use Rattle.ada_forms.specs.Declarations.{Decl, With, decl_of}
use Rattle.ada_forms.specs.Forms.{Expr, Exprs, End, Then, Identifier, Selected}

abbrev pub exprs_in : Exprs → List Expr
exprs_in End = []
exprs_in (Then e es) = e ∷ exprs_in es

-- the names in a with clause
abbrev pub names_in : Decl → List Expr
names_in (With d at es) = exprs_in es
names_in _ = []

-- the names in the with clauses among declarations
abbrev pub withs_of : Units → List DeclNo → List Expr
withs_of u ds = flat_map (λ (d : DeclNo). names_in (decl_of u d)) ds

-- the place of what is not there
abbrev pub nowhere : Pos
nowhere = record { line = 1; col = 1 }

-- where the first identifier of a name stands
abbrev pub begins : Expr → Pos
begins (Identifier e at name) = at
begins (Selected e at name prefix) = begins prefix
begins _ = nowhere

-- a name as it was written, with its points
abbrev pub written : Expr → List ℕ
written (Identifier e at name) = name.written
written (Selected e at name prefix) = written prefix ++ codes "." ++ name.written
written _ = []
