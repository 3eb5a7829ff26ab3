use Rattle.std.proofs.Common.{refl}
use Rattle.ada_grammar.specs.Lexemes.{lexemes}
use Rattle.ada_grammar.specs.Parts as parts
use Rattle.ada_grammar.proofs.NodeTrees.{extends_on}
use Rattle.ada_grammar.proofs.Steps.{start, done}
use Rattle.ada_grammar.proofs.Answering.{answers, fails}
use Rattle.ada_exprs.proofs.readers.read_indication.Goals as goal

pub returns-in_err-mark-clause-reads : goal.returns-in_err-mark-clause-reads
returns-in_err-mark-clause-reads c = fails (lexemes c.args.tokens.now) c.args.cursor c.args.cursor _ _ _ (start parts.Indication _) (λ b. refl) c.in_err-mark.ensures.reads c.from_residual.ensures.1

pub returns-clause-extends : goal.returns-clause-extends
returns-clause-extends c = extends_on c.read_unit_name.ensures.extends c.rest_of_indication.ensures.extends

pub returns-clause-reads : goal.returns-clause-reads
returns-clause-reads c = answers (lexemes c.args.tokens.now) c.args.cursor c.in_ok-mark.next _ _ (done (start parts.Indication _) c.in_ok-mark.ensures.reads.reads (λ b. refl)) c.in_ok-mark.ensures.reads.forward refl c.rest_of_indication.ensures.reads
