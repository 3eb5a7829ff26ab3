use Rattle.ada_grammar.specs.Parts as parts
use Rattle.ada_grammar.specs.Built.{AreBelow, Extends, phrase, trees, trees_at}
use Rattle.ada_grammar.specs.Parts.{Call, Gives, Rest, mark, word}
use Rattle.ada_grammar.specs.Lexemes.{lexeme, lexemes}
use Rattle.ada_grammar.specs.Reading.{Awaits, point}
use Rattle.std.proofs.Common.{[], length, true, ◌*◌, ◌+◌, ◌-◌, ◌<◌, ◌∷◌, ◌≤◌}
use Rattle.ada_exprs.proofs.readers.+exprs.Given as goal

abbrev pub decreases-read_expr : goal.decreases-read_expr
decreases-read_expr l = 16 * (length (lexemes l.tokens.now) - l.cursor.at) + 7

abbrev pub decreases-continue_expr : goal.decreases-continue_expr
decreases-continue_expr l = 16 * (length (lexemes l.tokens.now) - l.cursor.at) + 2

abbrev pub invariant-rest_of_expr-loop-token : goal.invariant-rest_of_expr-loop-token
invariant-rest_of_expr-loop-token l = record {
  within : l.left.node.0 < length (trees l.exprs);
  forward : l.fn.cursor.at ≤ l.cursor.at;
  ends : l.cursor.at ≤ length (lexemes l.tokens);
  extends : Extends l.fn.exprs l.exprs;
  awaits : Awaits (parts.RestOfExpr (phrase (trees l.fn.exprs) l.fn.left)) (point (lexemes l.tokens) l.fn.cursor) (point (lexemes l.tokens) l.cursor) (Rest (parts.Chain l.operator (phrase (trees l.exprs) l.left)));
}

abbrev pub decreases-rest_of_expr-loop-token : goal.decreases-rest_of_expr-loop-token
decreases-rest_of_expr-loop-token l = length (lexemes l.tokens) - l.cursor.at

abbrev pub decreases-rest_of_expr : goal.decreases-rest_of_expr
decreases-rest_of_expr l = 16 * (length (lexemes l.tokens.now) - l.cursor.at) + 1

abbrev pub decreases-right_side : goal.decreases-right_side
decreases-right_side l = 16 * (length (lexemes l.tokens.now) - l.cursor.at) + 8

abbrev pub decreases-read_rel : goal.decreases-read_rel
decreases-read_rel l = 16 * (length (lexemes l.tokens.now) - l.cursor.at) + 7

abbrev pub decreases-rest_of_rel : goal.decreases-rest_of_rel
decreases-rest_of_rel l = 16 * (length (lexemes l.tokens.now) - l.cursor.at) + 1

abbrev pub decreases-read_membership : goal.decreases-read_membership
decreases-read_membership l = 16 * (length (lexemes l.tokens.now) - l.cursor.at) + 7

abbrev pub invariant-read_simple-loop-token : goal.invariant-read_simple-loop-token
invariant-read_simple-loop-token l = record {
  within : l.left.node.0 < length (trees l.exprs);
  forward : l.fn.cursor.at ≤ l.next.at;
  ends : l.next.at ≤ length (lexemes l.tokens);
  extends : Extends l.fn.exprs l.exprs;
  awaits : Awaits parts.Simple (point (lexemes l.tokens) l.fn.cursor) (point (lexemes l.tokens) l.next) (Rest (parts.Sums (phrase (trees l.exprs) l.left)));
}

abbrev pub decreases-read_simple-loop-token : goal.decreases-read_simple-loop-token
decreases-read_simple-loop-token l = length (lexemes l.tokens) - l.next.at

abbrev pub decreases-read_simple : goal.decreases-read_simple
decreases-read_simple l = 16 * (length (lexemes l.tokens.now) - l.cursor.at) + 6

abbrev pub decreases-read_signed : goal.decreases-read_signed
decreases-read_signed l = 16 * (length (lexemes l.tokens.now) - l.cursor.at) + 5

abbrev pub invariant-read_term-loop-token : goal.invariant-read_term-loop-token
invariant-read_term-loop-token l = record {
  within : l.left.node.0 < length (trees l.exprs);
  forward : l.fn.cursor.at ≤ l.next.at;
  ends : l.next.at ≤ length (lexemes l.tokens);
  extends : Extends l.fn.exprs l.exprs;
  awaits : Awaits parts.Term (point (lexemes l.tokens) l.fn.cursor) (point (lexemes l.tokens) l.next) (Rest (parts.Products (phrase (trees l.exprs) l.left)));
}

abbrev pub decreases-read_term-loop-token : goal.decreases-read_term-loop-token
decreases-read_term-loop-token l = length (lexemes l.tokens) - l.next.at

abbrev pub decreases-read_term : goal.decreases-read_term
decreases-read_term l = 16 * (length (lexemes l.tokens.now) - l.cursor.at) + 4

abbrev pub decreases-read_factor : goal.decreases-read_factor
decreases-read_factor l = 16 * (length (lexemes l.tokens.now) - l.cursor.at) + 3

abbrev pub decreases-read_power : goal.decreases-read_power
decreases-read_power l = 16 * (length (lexemes l.tokens.now) - l.cursor.at) + 2

abbrev pub decreases-read_primary : goal.decreases-read_primary
decreases-read_primary l = 16 * (length (lexemes l.tokens.now) - l.cursor.at) + 1

abbrev pub decreases-read_parens : goal.decreases-read_parens
decreases-read_parens l = 16 * (length (lexemes l.tokens.now) - l.cursor.at) + 8

abbrev pub invariant-read_conditional-loop-arms : goal.invariant-read_conditional-loop-arms
invariant-read_conditional-loop-arms l = record {
  below : AreBelow (length (trees l.exprs)) l.arms;
  forward : l.fn.cursor.at ≤ l.next.at;
  ends : l.next.at ≤ length (lexemes l.tokens);
  extends : Extends l.fn.exprs l.exprs;
  awaits : Awaits (parts.Condition (lexeme l.tokens.source l.fn.token)) (point (lexemes l.tokens) l.fn.cursor) (point (lexemes l.tokens) l.next) (Rest (parts.Arms (lexeme l.tokens.source l.fn.token) (trees_at (trees l.exprs) l.arms)));
}

abbrev pub decreases-read_conditional-loop-arms : goal.decreases-read_conditional-loop-arms
decreases-read_conditional-loop-arms l = length (lexemes l.tokens) - l.next.at

abbrev pub decreases-read_conditional : goal.decreases-read_conditional
decreases-read_conditional l = 16 * (length (lexemes l.tokens.now) - l.cursor.at) + 8

abbrev pub decreases-read_in_parens : goal.decreases-read_in_parens
decreases-read_in_parens l = 16 * (length (lexemes l.tokens.now) - l.cursor.at) + 7

abbrev pub decreases-behind_inner : goal.decreases-behind_inner
decreases-behind_inner l = 16 * (length (lexemes l.tokens.now) - l.cursor.at) + 3

abbrev pub invariant-read_items-loop-items : goal.invariant-read_items-loop-items
invariant-read_items-loop-items l = record {
  below : AreBelow (length (trees l.exprs)) l.items;
  forward : l.fn.cursor.at ≤ l.next.at;
  ends : l.next.at ≤ length (lexemes l.tokens);
  extends : Extends l.fn.exprs l.exprs;
  awaits : Awaits (parts.Items (lexeme l.tokens.source l.fn.opening) (trees_at (trees l.fn.exprs) l.fn.items)) (point (lexemes l.tokens) l.fn.cursor) (point (lexemes l.tokens) l.next) (Rest (parts.Items (lexeme l.tokens.source l.fn.opening) (trees_at (trees l.exprs) l.items)));
}

abbrev pub decreases-read_items-loop-items : goal.decreases-read_items-loop-items
decreases-read_items-loop-items l = length (lexemes l.tokens) - l.next.at

abbrev pub decreases-read_items : goal.decreases-read_items
decreases-read_items l = 16 * (length (lexemes l.tokens.now) - l.cursor.at) + 1

abbrev pub decreases-read_last_item : goal.decreases-read_last_item
decreases-read_last_item l = 16 * (length (lexemes l.tokens.now) - l.cursor.at) + 1

abbrev pub invariant-read_named_aggregate-loop-associations : goal.invariant-read_named_aggregate-loop-associations
invariant-read_named_aggregate-loop-associations l = record {
  below : AreBelow (length (trees l.exprs)) l.associations;
  forward : l.fn.cursor.at ≤ l.next.at;
  ends : l.next.at ≤ length (lexemes l.tokens);
  extends : Extends l.fn.exprs l.exprs;
  awaits : Awaits (parts.NamedFrom (lexeme l.tokens.source l.fn.opening) (phrase (trees l.fn.exprs) l.fn.choice)) (point (lexemes l.tokens) l.fn.cursor) (point (lexemes l.tokens) l.next) (Rest (parts.Associations (lexeme l.tokens.source l.fn.opening) (trees_at (trees l.exprs) l.associations)));
}

abbrev pub decreases-read_named_aggregate-loop-associations : goal.decreases-read_named_aggregate-loop-associations
decreases-read_named_aggregate-loop-associations l = length (lexemes l.tokens) - l.next.at

abbrev pub decreases-read_named_aggregate : goal.decreases-read_named_aggregate
decreases-read_named_aggregate l = 16 * (length (lexemes l.tokens.now) - l.cursor.at) + 2

abbrev pub decreases-read_association : goal.decreases-read_association
decreases-read_association l = 16 * (length (lexemes l.tokens.now) - l.cursor.at) + 8

abbrev pub invariant-rest_of_association-loop-children : goal.invariant-rest_of_association-loop-children
invariant-rest_of_association-loop-children l = record {
  below : AreBelow (length (trees l.exprs)) l.children;
  forward : l.fn.cursor.at ≤ l.next.at;
  ends : l.next.at ≤ length (lexemes l.tokens);
  extends : Extends l.fn.exprs l.exprs;
  awaits : Awaits (parts.Choices l.fn.choice.span (trees_at (trees l.fn.exprs) (l.fn.choice.node ∷ []))) (point (lexemes l.tokens) l.fn.cursor) (point (lexemes l.tokens) l.next) (Rest (parts.Choices l.fn.choice.span (trees_at (trees l.exprs) l.children)));
}

abbrev pub decreases-rest_of_association-loop-children : goal.decreases-rest_of_association-loop-children
decreases-rest_of_association-loop-children l = length (lexemes l.tokens) - l.next.at

abbrev pub decreases-rest_of_association : goal.decreases-rest_of_association
decreases-rest_of_association l = 16 * (length (lexemes l.tokens.now) - l.cursor.at) + 1

abbrev pub decreases-read_choice : goal.decreases-read_choice
decreases-read_choice l = 16 * (length (lexemes l.tokens.now) - l.cursor.at) + 7

abbrev pub invariant-read_suffixes-loop-name : goal.invariant-read_suffixes-loop-name
invariant-read_suffixes-loop-name l = record {
  within : l.left.node.0 < length (trees l.exprs);
  forward : l.fn.cursor.at ≤ l.next.at;
  ends : l.next.at ≤ length (lexemes l.tokens);
  extends : Extends l.fn.exprs l.exprs;
  awaits : Awaits (parts.Suffixes true (phrase (trees l.fn.exprs) l.fn.left)) (point (lexemes l.tokens) l.fn.cursor) (point (lexemes l.tokens) l.next) (Rest (parts.Suffixes l.may_open (phrase (trees l.exprs) l.left)));
}

abbrev pub decreases-read_suffixes-loop-name : goal.decreases-read_suffixes-loop-name
decreases-read_suffixes-loop-name l = length (lexemes l.tokens) - l.next.at

abbrev pub decreases-read_suffixes : goal.decreases-read_suffixes
decreases-read_suffixes l = 16 * (length (lexemes l.tokens.now) - l.cursor.at) + 2

abbrev pub decreases-read_suffix : goal.decreases-read_suffix
decreases-read_suffix l = 16 * (length (lexemes l.tokens.now) - l.cursor.at) + 1

abbrev pub decreases-behind_tick : goal.decreases-behind_tick
decreases-behind_tick l = 16 * (length (lexemes l.tokens.now) - l.cursor.at) + 1

abbrev pub invariant-read_values-loop-children : goal.invariant-read_values-loop-children
invariant-read_values-loop-children l = record {
  below : AreBelow (length (trees l.exprs)) l.children;
  forward : l.fn.cursor.at ≤ l.next.at;
  ends : l.next.at ≤ length (lexemes l.tokens);
  extends : Extends l.fn.exprs l.exprs;
  awaits : Awaits (parts.ValuesFrom (phrase (trees l.fn.exprs) l.fn.left) (lexeme l.tokens.source l.fn.name)) (point (lexemes l.tokens) l.fn.cursor) (point (lexemes l.tokens) l.next) (Rest (parts.Values l.fn.left.span (lexeme l.tokens.source l.fn.name) (trees_at (trees l.exprs) l.children)));
}

abbrev pub decreases-read_values-loop-children : goal.decreases-read_values-loop-children
decreases-read_values-loop-children l = length (lexemes l.tokens) - l.next.at

abbrev pub decreases-read_values : goal.decreases-read_values
decreases-read_values l = 16 * (length (lexemes l.tokens.now) - l.cursor.at) + 8

abbrev pub invariant-read_arguments-loop-children : goal.invariant-read_arguments-loop-children
invariant-read_arguments-loop-children l = record {
  below : AreBelow (length (trees l.exprs)) l.children;
  forward : l.fn.cursor.at ≤ l.next.at;
  ends : l.next.at ≤ length (lexemes l.tokens);
  extends : Extends l.fn.exprs l.exprs;
  awaits : Awaits (parts.ArgumentsFrom (phrase (trees l.fn.exprs) l.fn.left)) (point (lexemes l.tokens) l.fn.cursor) (point (lexemes l.tokens) l.next) (Rest (parts.Arguments l.fn.left.span (trees_at (trees l.exprs) l.children)));
}

abbrev pub decreases-read_arguments-loop-children : goal.decreases-read_arguments-loop-children
decreases-read_arguments-loop-children l = length (lexemes l.tokens) - l.next.at

abbrev pub decreases-read_arguments : goal.decreases-read_arguments
decreases-read_arguments l = 16 * (length (lexemes l.tokens.now) - l.cursor.at) + 9

abbrev pub decreases-read_argument : goal.decreases-read_argument
decreases-read_argument l = 16 * (length (lexemes l.tokens.now) - l.cursor.at) + 8
