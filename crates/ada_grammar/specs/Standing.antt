-- Which trees stand at the numbers of nodes.
use Rattle.std.specs.Prelude.{◌≡◌, ℕ, ◌<◌, ◌≤◌, length, List, [], ◌∷◌, ◌++◌, map, slice_get}
use Rattle.std.specs.Prelude.{Option, Some, None, Result, Ok, Err}
use Rattle.spark_base.specs.declared.numbers.ExprNo.{ExprNo}
use Rattle.spark_base.specs.declared.numbers.StmtNo.{StmtNo}
use Rattle.spark_base.specs.declared.numbers.DeclNo.{DeclNo}
use Rattle.spark_base.specs.declared.numbers.AspectNo.{AspectNo}
use Rattle.ada_tree.specs.declared.statements.StmtNode.{StmtNode}
use Rattle.ada_tree.specs.declared.declarations.DeclNode.{DeclNode}
use Rattle.ada_tree.specs.declared.aspects.AspectNode.{AspectNode}
use Rattle.ada_tree.specs.declared.units.Unit as declared_unit
use Rattle.ada_tree.specs.declared.units.Units.{Units}
use Rattle.ada_tree.specs.Tree.{IsOrdered}
use Rattle.ada_grammar.specs.declared.children.Children as held
use Rattle.ada_grammar.specs.declared.children.SharedChildren as shared
use Rattle.ada_grammar.specs.declared.tokens.Cursor.{Cursor}
use Rattle.ada_grammar.specs.declared.tokens.Fault.{Fault}
use Rattle.ada_grammar.specs.Lexemes.{Lexeme}
use Rattle.ada_grammar.specs.Phrases.{OfStmt, OfDecl, OfAspect, OfUnit, Head, Tree, Root, with_all, Children, with_expr, Phrase, gives}
use Rattle.ada_grammar.specs.Phrases.{blank}
use Rattle.ada_grammar.specs.Built.{trees, tree_at, written, Extends}
use Rattle.ada_grammar.specs.Parts.{Part}
use Rattle.ada_grammar.specs.Reading.{point, Reads, Fails}

-- the number of a node, of each type of node
pub data Ref : Type 0 where
  ExprRef : ExprNo → Ref
  StmtRef : StmtNo → Ref
  DeclRef : DeclNo → Ref
  AspectRef : AspectNo → Ref
  UnitRef : ℕ → Ref

-- all children of a node: first the expressions, then the statements, the declarations and the aspects
abbrev pub refs : List ExprNo → List StmtNo → List DeclNo → List AspectNo → List Ref
refs exprs stmts decls aspects = map ExprRef exprs ++ (map StmtRef stmts ++ (map DeclRef decls ++ map AspectRef aspects))

-- a node without its children, and these
abbrev pub stmt_node : Option StmtNode → Option (Head × List Ref)
stmt_node None = None
stmt_node (Some n) = Some (record { kind = OfStmt n.kind; span = n.span; name = written n.name }, refs n.exprs n.stmts n.decls n.aspects)

abbrev pub decl_node : Option DeclNode → Option (Head × List Ref)
decl_node None = None
decl_node (Some n) = Some (record { kind = OfDecl n.kind; span = n.span; name = written n.name }, refs n.exprs n.stmts n.decls n.aspects)

abbrev pub aspect_node : Option AspectNode → Option (Head × List Ref)
aspect_node None = None
aspect_node (Some n) =
    Some (record { kind = OfAspect n.kind; span = n.span; name = written n.name }, refs n.exprs n.stmts n.decls n.aspects)

abbrev pub unit_node : Option declared_unit.Unit → Option (Head × List Ref)
unit_node None = None
unit_node (Some n) = Some (record { kind = OfUnit n.kind; span = n.span; name = written n.name }, refs n.exprs n.stmts n.decls n.aspects)

-- the node with a number, if it is there and no expression
abbrev pub node_at : Units → Ref → Option (Head × List Ref)
node_at u (ExprRef n) = None
node_at u (StmtRef n) = stmt_node (slice_get u.stmts n.0)
node_at u (DeclRef n) = decl_node (slice_get u.decls n.0)
node_at u (AspectRef n) = aspect_node (slice_get u.aspects n.0)
node_at u (UnitRef n) = unit_node (slice_get u.units n)

-- where the two are of the same type, the second has the smaller number
abbrev pub IsBelow : Ref → Ref → Type 0
IsBelow (StmtRef n) (StmtRef m) = m.0 < n.0
IsBelow (DeclRef n) (DeclRef m) = m.0 < n.0
IsBelow (AspectRef n) (AspectRef m) = m.0 < n.0
IsBelow (UnitRef n) (UnitRef m) = m < n
IsBelow r s = Unit {0}

abbrev pub AreUnder : Ref → List Ref → Type 0
AreUnder r [] = Unit {0}
AreUnder r (s ∷ rs) = IsBelow r s × AreUnder r rs

-- these trees stand at these numbers
pub data Stands (u : Units) : List Ref → List Tree → Type 0 where
  nowhere : Stands u [] []
  expression : {n : ExprNo} {t : Tree} {rs : List Ref} {ts : List Tree}
      → n.0 < length (trees u.exprs) → t ≡ tree_at (trees u.exprs) n
      → Stands u rs ts → Stands u (ExprRef n ∷ rs) (t ∷ ts)
  over : {r : Ref} {t : Tree} {h : Head} {cs rs : List Ref} {under ts : List Tree}
      → node_at u r ≡ Some (h, cs) → AreUnder r cs → Stands u cs under → t ≡ with_all (Root h) under
      → Stands u rs ts → Stands u (r ∷ rs) (t ∷ ts)

-- the children that names share
abbrev pub shared_children : shared.SharedChildren → held.Children
shared_children s = record { exprs = s.exprs; stmts = s.stmts; decls = s.decls; aspects = s.aspects }

-- these trees stand at the numbers that are held, and all nodes are ordered, also those that no tree has
pub record Holds (u : Units) (r : held.Children) (d : Children) : Type 0 where
  pub ordered : IsOrdered u
  pub exprs : Stands u (map ExprRef r.exprs) d.exprs
  pub stmts : Stands u (map StmtRef r.stmts) d.stmts
  pub decls : Stands u (map DeclRef r.decls) d.decls
  pub aspects : Stands u (map AspectRef r.aspects) d.aspects

-- what is there stays, and more may stand behind it
pub record Lengthens (A : Type 0) (old new : List A) : Type 0 where
  pub further : List A
  pub joins : new ≡ old ++ further

-- one item was added, at this place
pub record Appends (A : Type 0) (old new : List A) (item : A) (at : ℕ) : Type 0 where
  pub place : at ≡ length old
  pub joins : new ≡ old ++ item ∷ []

-- the nodes that were there stay, and more may stand behind them
pub record Widens (old new : Units) : Type 0 where
  pub exprs : Extends old.exprs new.exprs
  pub stmts : Lengthens StmtNode old.stmts new.stmts
  pub decls : Lengthens DeclNode old.decls new.decls
  pub aspects : Lengthens AspectNode old.aspects new.aspects
  pub units : Lengthens declared_unit.Unit old.units new.units

-- and no unit was added
pub record Grows (old new : Units) : Type 0 where
  pub widens : Widens old new
  pub units : new.units ≡ old.units

-- the next cursor stands no earlier, and among the tokens
pub record Forth (ts : List Lexeme) (cursor next : Cursor) : Type 0 where
  pub forward : cursor.at ≤ next.at
  pub ends : next.at ≤ length ts

-- the tokens from the cursor to the next are read as the children that are held
pub record Found (part : Part) (ts : List Lexeme) (cursor : Cursor) (u : Units) (r : held.Children) (next : Cursor) : Type 0 where
  pub children : Children
  pub holds : Holds u r children
  pub forward : cursor.at ≤ next.at
  pub ends : next.at ≤ length ts
  pub reads : Reads part (point ts cursor) (point ts next) (gives children)

-- what a reader of the part answers at the cursor
abbrev pub Finds : Part → List Lexeme → Cursor → Units → held.Children → Result Cursor Fault → Type 0
Finds part ts cursor u r (Ok next) = Found part ts cursor u r next
Finds part ts cursor u r (Err e) = Fails part ts cursor e

-- the tokens from the cursor to the next are read as an expression, which is held behind those children
pub record FoundExpr (part : Part) (ts : List Lexeme) (cursor : Cursor) (u : Units) (r : held.Children) (d : Children)
    (next : Cursor) : Type 0 where
  pub phrase : Phrase
  pub holds : Holds u r (with_expr d phrase.tree)
  pub forward : cursor.at ≤ next.at
  pub ends : next.at ≤ length ts
  pub reads : Reads part (point ts cursor) (point ts next) phrase

abbrev pub FindsExpr : Part → List Lexeme → Cursor → Units → held.Children → Children → Result Cursor Fault → Type 0
FindsExpr part ts cursor u r d (Ok next) = FoundExpr part ts cursor u r d next
FindsExpr part ts cursor u r d (Err e) = Fails part ts cursor e

-- the tokens from the cursor to the next are read as something that leaves no node
pub record Skipped (part : Part) (ts : List Lexeme) (cursor next : Cursor) : Type 0 where
  pub forward : cursor.at ≤ next.at
  pub ends : next.at ≤ length ts
  pub reads : Reads part (point ts cursor) (point ts next) blank

abbrev pub Skips : Part → List Lexeme → Cursor → Result Cursor Fault → Type 0
Skips part ts cursor (Ok next) = Skipped part ts cursor next
Skips part ts cursor (Err e) = Fails part ts cursor e
