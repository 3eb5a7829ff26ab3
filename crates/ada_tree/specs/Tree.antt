-- How the nodes of trees stand to each other.
use Rattle.std.specs.Prelude.{◌≡◌, ◌<◌, ℕ, List, [], All, Some, length, slice_get}
use Rattle.spark_base.specs.declared.numbers.AspectNo.{AspectNo}
use Rattle.spark_base.specs.declared.numbers.DeclNo.{DeclNo}
use Rattle.spark_base.specs.declared.numbers.ExprNo.{ExprNo}
use Rattle.spark_base.specs.declared.numbers.StmtNo.{StmtNo}
use Rattle.ada_tree.specs.declared.aspects.AspectNode.{AspectNode}
use Rattle.ada_tree.specs.declared.declarations.DeclNode.{DeclNode}
use Rattle.ada_tree.specs.declared.expressions.ExprNode.{ExprNode}
use Rattle.ada_tree.specs.declared.statements.StmtNode.{StmtNode}
use Rattle.ada_tree.specs.declared.units.Unit.{Unit as TheUnit}
use Rattle.ada_tree.specs.declared.units.Units.{Units}

-- a number for each of the lists that children stand in
pub record Bounds : Type 0 where
  pub exprs : ℕ
  pub stmts : ℕ
  pub decls : ℕ
  pub aspects : ℕ

-- how many nodes there are
abbrev pub counts : Units → Bounds
counts u = record { exprs = length u.exprs; stmts = length u.stmts; decls = length u.decls; aspects = length u.aspects }

-- these children have numbers below the bounds
pub record AreBelow (b : Bounds) (exprs : List ExprNo) (stmts : List StmtNo) (decls : List DeclNo) (aspects : List AspectNo) : Type 0 where
  pub exprs_below : All (λ (e : ExprNo). e.0 < b.exprs) exprs
  pub stmts_below : All (λ (s : StmtNo). s.0 < b.stmts) stmts
  pub decls_below : All (λ (d : DeclNo). d.0 < b.decls) decls
  pub aspects_below : All (λ (a : AspectNo). a.0 < b.aspects) aspects

-- each child is there, and within one list it has a number below its node's own
pub record IsOrdered (u : Units) : Type 0 where
  pub units : (n : ℕ) (x : TheUnit) → slice_get u.units n ≡ Some x → AreBelow (counts u) x.exprs x.stmts x.decls x.aspects
  pub decls : (n : ℕ) (x : DeclNode) → slice_get u.decls n ≡ Some x
      → AreBelow (record (counts u) { decls = n }) x.exprs x.stmts x.decls x.aspects
  pub stmts : (n : ℕ) (x : StmtNode) → slice_get u.stmts n ≡ Some x
      → AreBelow (record (counts u) { stmts = n }) x.exprs x.stmts x.decls x.aspects
  pub exprs : (n : ℕ) (x : ExprNode) → slice_get u.exprs n ≡ Some x → AreBelow (record (counts u) { exprs = n }) x.exprs [] [] []
  pub aspects : (n : ℕ) (x : AspectNode) → slice_get u.aspects n ≡ Some x
      → AreBelow (record (counts u) { aspects = n }) x.exprs x.stmts x.decls x.aspects
