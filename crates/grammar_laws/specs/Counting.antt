-- The operators of a tree, and what the limits know behind an expression.
use Rattle.std.specs.Prelude.{ℕ, ◌+◌, ◌≡◌, ◌≤◌, Bool, true, false, if◌then◌else◌}
use Rattle.ada_tree.specs.declared.expressions.ExprKind.{ExprKind}
use Rattle.ada_tree.specs.declared.expressions.ExprKind.TheVariants as kinds
use Rattle.ada_grammar.specs.declared.tokens.Nesting.{Nesting}
use Rattle.ada_grammar.specs.Limits.{is_end, is_parameter, most_operators}
use Rattle.ada_grammar.specs.Phrases.{NodeKind, OfExpr, Tree, Root, With}

-- whether a node is one operator; a chain of operators is a node for each
abbrev pub is_operator : ExprKind → Bool
is_operator (kinds.Logical operator place) = true
is_operator (kinds.Relation operator place) = true
is_operator (kinds.RangeMembership is_not) = true
is_operator (kinds.MarkMembership is_not) = true
is_operator (kinds.Sign operator) = true
is_operator (kinds.Sum operator place) = true
is_operator (kinds.Product operator place) = true
is_operator (kinds.Power place) = true
is_operator kinds.Absolute = true
is_operator kinds.Not = true
is_operator k = false

abbrev pub node_operators : NodeKind → ℕ
node_operators (OfExpr k) = if is_operator k then 1 else 0
node_operators k = 0

-- the operator nodes of a tree, also those in parentheses, arguments and aggregates
abbrev pub operators : Tree → ℕ
operators (Root h) = node_operators h.kind
operators (With t c) = operators t + operators c

-- where an expression may begin: nothing is skipped, nothing ends, and no loop's parameter stands before its in; two dots
-- part nothing in further parentheses
pub record MayBegin (n : Nesting) : Type 0 where
  pub skips : n.skips ≡ false
  pub last : is_end n.last ≡ false
  pub head : is_parameter n.head ≡ false
  pub parted : n.parted ≤ n.depth + 1
  pub operators : n.operators ≤ most_operators

-- from n to m a tree was read: its operators are counted, and as many are open as before
pub record IsCounted (n m : Nesting) (t : Tree) : Type 0 where
  pub operators : m.operators ≡ n.operators + operators t
  pub most : m.operators ≤ most_operators
  pub depth : m.depth ≡ n.depth
  pub compounds : m.compounds ≡ n.compounds
  pub loops : m.loops ≡ n.loops
  pub in_statements : m.in_statements ≡ n.in_statements
  pub head : m.head ≡ n.head
