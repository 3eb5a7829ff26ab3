use Rattle.std.proofs.Common.{List, ap, sym, ◌∙◌}
use Rattle.spark_base.specs.declared.numbers.ExprNo.{ExprNo}
use Rattle.ada_tree.specs.declared.expressions.ExprKind.TheVariants as kinds
use Rattle.ada_grammar.specs.declared.nodes.Form.TheVariants as forms
use Rattle.ada_grammar.specs.Lexemes.{lexeme}
use Rattle.ada_grammar.specs.Phrases.{Phrase, end_name, named}
use Rattle.ada_grammar.specs.Built.{trees, trees_at}
use Rattle.ada_grammar.proofs.Standing.{built_holds}
use Rattle.ada_grammar.proofs.children.add_end_name.Goals as goal

pub returns-clause-builds : goal.returns-clause-builds
returns-clause-builds c = λ ds h.
    let t = lexeme c.args.tokens.now.source c.args.name in
    let is = ap (λ (z : Phrase). z.tree) c.in_ok-node.ensures.builds ∙ ap (λ (z : List ExprNo). (named forms.Simple kinds.EndName t c.args.name.span (trees_at (trees c.args.units.now.exprs) z)).tree) c.new.ensures in
    let found = built_holds c.in_ok-node.node.node (end_name t) c.in_ok-node.ensures.extends c.in_ok-node.ensures.within (sym is) ds h in
    c.in_ok-add_expr.ensures _ ds (end_name t) found.0 found.1
