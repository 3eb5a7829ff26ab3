use Rattle.std.proofs.Common.{true, refl, arith}
use Rattle.ada_tree.specs.declared.expressions.ExprKind.TheVariants as kinds
use Rattle.ada_grammar.specs.declared.nodes.Form.TheVariants as forms
use Rattle.ada_grammar.specs.Lexemes.{lexeme, lexemes}
use Rattle.ada_grammar.specs.Parts as parts
use Rattle.ada_grammar.specs.Parts.{Rest}
use Rattle.ada_grammar.proofs.NodeTrees.{extends_on}
use Rattle.ada_grammar.proofs.Steps.{whole, go_as}
use Rattle.ada_grammar.proofs.Answering.{answers}
use Rattle.ada_exprs.proofs.Found.{named_none}
use Rattle.ada_exprs.proofs.readers.read_name_from.Goals as goal

pub returns-clause-extends : goal.returns-clause-extends
returns-clause-extends c = extends_on c.add_named.ensures.extends c.read_suffixes.ensures.extends

pub returns-clause-reads : goal.returns-clause-reads
returns-clause-reads c = answers (lexemes c.args.tokens.now) c.args.cursor c.args.cursor _ _ (go_as (λ z. Rest (parts.Suffixes true z)) (named_none _ forms.Identifier kinds.Identifier (lexeme c.args.tokens.now.source c.args.first) c.args.first.span c.in_ok-node.ensures.builds c.new.ensures) (whole _ _)) (omega arith) refl c.read_suffixes.ensures.reads
