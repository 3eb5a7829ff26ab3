-- Where expressions stand.
use Rattle.ada_forms.specs.Forms.{Expr, Exprs, expr_of, listed}
use Rattle.std.specs.Prelude.{List, map}
use Rattle.expr_scenes.specs.declared.scene.Scene.{Scene}
use Rattle.seen_names.specs.Contexts.{Context, context}
use Rattle.spark_base.specs.declared.numbers.ExprNo.{ExprNo}

abbrev pub context_of : Scene → Context
context_of s = context s.tables.now s.place

abbrev pub tree : Scene → ExprNo → Expr
tree s = expr_of s.units.now.exprs

abbrev pub trees_of : Scene → List ExprNo → Exprs
trees_of s es = listed (map (tree s) es)
