use Rattle.std.proofs.Common.{refl, arith}
use Rattle.ada_grammar.specs.declared.tokens.Class.TheVariants as classes
use Rattle.ada_grammar.specs.Lexemes.{lexemes}
use Rattle.ada_grammar.specs.Parts as parts
use Rattle.ada_grammar.proofs.Steps.{start, seen}
use Rattle.ada_grammar.proofs.Answering.{answers, misses}
use Rattle.ada_exprs.proofs.readers.read_name.Goals as goal

pub returns-in_err-token-clause-reads : goal.returns-in_err-token-clause-reads
returns-in_err-token-clause-reads c = misses (lexemes c.args.tokens.now) c.args.cursor c.args.cursor classes.Word _ _ _ c.requires.at (start parts.Name _) refl (λ t. refl) c.in_err-token.ensures c.from_residual.ensures.1

pub returns-clause-reads : goal.returns-clause-reads
returns-clause-reads c = answers (lexemes c.args.tokens.now) c.args.cursor c.in_ok-token.next _ _ (seen (start parts.Name _) c.in_ok-token.ensures.takes refl) (omega (arith, c.in_ok-token.ensures.place)) refl c.read_name_from.ensures.reads
