-- What numbered nodes stand for.
use Rattle.std.specs.Prelude.{◌≡◌, ℕ, ◌+◌, length, ◌<◌, List, [], ◌∷◌, ◌++◌, slice_index_or, Option, Some, None}
use Rattle.spark_base.specs.declared.name.Name.{Name}
use Rattle.spark_base.specs.declared.numbers.ExprNo.{ExprNo}
use Rattle.ada_tree.specs.declared.expressions.ExprNode.{ExprNode}
use Rattle.ada_grammar.specs.declared.nodes.Built.{Built}
use Rattle.ada_grammar.specs.Phrases.{OfExpr, Head, Tree, Root, with_all, Phrase, none, nothing}

-- the tree at a number
abbrev pub tree_at : List Tree → ExprNo → Tree
tree_at built n = slice_index_or built n.0 nothing

abbrev pub trees_at : List Tree → List ExprNo → List Tree
trees_at built [] = []
trees_at built (n ∷ ns) = tree_at built n ∷ trees_at built ns

abbrev pub written : Option Name → Option (List ℕ)
written None = None
written (Some n) = Some n.written

-- a node without its children
abbrev pub head : ExprNode → Head
head n = record { kind = OfExpr n.kind; span = n.span; name = written n.name }

-- the tree of a node, over those that were built before
abbrev pub tree_of : List Tree → ExprNode → Tree
tree_of built n = with_all (Root (head n)) (trees_at built n.exprs)

-- the trees of nodes, behind those that were built before
abbrev pub trees_from : List Tree → List ExprNode → List Tree
trees_from built [] = built
trees_from built (n ∷ ns) = trees_from (built ++ tree_of built n ∷ []) ns

unfoldable pub trees : List ExprNode → List Tree
trees nodes = trees_from [] nodes

-- the phrase of a node that was built
abbrev pub phrase : List Tree → Built → Phrase
phrase built x = record { tree = tree_at built x.node; span = x.span; form = x.form; children = none }

-- each number is below the bound
abbrev pub AreBelow : ℕ → List ExprNo → Type 0
AreBelow bound [] = Unit {0}
AreBelow bound (n ∷ ns) = (n.0 < bound) × AreBelow bound ns

-- the first of these nodes has this number, and the children of each have numbers below its own
abbrev pub AreOrdered : ℕ → List ExprNode → Type 0
AreOrdered first [] = Unit {0}
AreOrdered first (n ∷ ns) = AreBelow first n.exprs × AreOrdered (first + 1) ns

-- the nodes that were there stay, and more may stand behind them, each behind its children
pub record Extends (old new : List ExprNode) : Type 0 where
  pub further : List ExprNode
  pub joins : new ≡ old ++ further
  pub ordered : AreOrdered (length old) further

-- one node was added, with this number
pub record Adds (old new : List ExprNode) (n : ExprNode) (number : ExprNo) : Type 0 where
  pub place : number.0 ≡ length old
  pub joins : new ≡ old ++ n ∷ []
