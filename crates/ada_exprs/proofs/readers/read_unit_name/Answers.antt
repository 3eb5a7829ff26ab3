use Rattle.std.proofs.Common.{refl, arith}
use Rattle.ada_tree.specs.declared.expressions.ExprKind.TheVariants as kinds
use Rattle.ada_grammar.specs.declared.nodes.Form.TheVariants as forms
use Rattle.ada_grammar.specs.declared.tokens.Class.TheVariants as classes
use Rattle.ada_grammar.specs.Lexemes.{lexeme, lexemes}
use Rattle.ada_grammar.specs.Parts as parts
use Rattle.ada_grammar.specs.Parts.{Rest}
use Rattle.ada_grammar.proofs.NodeTrees.{extends_on}
use Rattle.ada_grammar.proofs.Steps.{start, seen, go_as}
use Rattle.ada_grammar.proofs.Answering.{answers, misses}
use Rattle.ada_exprs.proofs.Found.{named_none}
use Rattle.ada_exprs.proofs.readers.read_unit_name.Goals as goal

pub returns-in_err-token-clause-reads : goal.returns-in_err-token-clause-reads
returns-in_err-token-clause-reads c = misses (lexemes c.args.tokens.now) c.args.cursor c.args.cursor classes.Word _ _ _ c.requires.at (start parts.UnitName _) refl (λ t. refl) c.in_err-token.ensures c.from_residual.ensures.1

pub returns-clause-extends : goal.returns-clause-extends
returns-clause-extends c = extends_on c.add_named.ensures.extends c.read_points.ensures.extends

pub returns-clause-reads : goal.returns-clause-reads
returns-clause-reads c = answers (lexemes c.args.tokens.now) c.args.cursor c.in_ok-token.next _ _ (go_as (λ z. Rest (parts.Points z)) (named_none _ forms.Identifier kinds.Identifier (lexeme c.args.tokens.now.source c.in_ok-token.token) c.in_ok-token.token.span c.in_ok-node.ensures.builds c.new.ensures) (seen (start parts.UnitName _) c.in_ok-token.ensures.takes refl)) (omega (arith, c.in_ok-token.ensures.place)) refl c.read_points.ensures.reads
