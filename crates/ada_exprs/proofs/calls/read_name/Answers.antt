use Rattle.std.proofs.Common.{subst}
use Rattle.ada_grammar.specs.declared.tokens.Nesting.{Nesting}
use Rattle.ada_grammar.specs.Answer.{IsAnswer}
use Rattle.ada_grammar.specs.Built.{trees}
use Rattle.ada_grammar.specs.Parts as parts
use Rattle.ada_grammar.proofs.NodeTrees.{extends_ordered}
use Rattle.ada_exprs.proofs.calls.read_name.Goals as goal

pub returns-clause-reads : goal.returns-clause-reads
returns-clause-reads c =
    subst (λ (n : Nesting). IsAnswer parts.Name n c.args.tokens.now c.args.at (trees c.read_name-answer.new.exprs) c.told.result) c.new.ensures
    (c.told.ensures parts.Name (record { at = c.args.at; nesting = c.new.result }) (trees c.read_name-answer.new.exprs) c.read_name-answer.ensures.reads)

pub returns-clause-ordered : goal.returns-clause-ordered
returns-clause-ordered c = λ h. extends_ordered c.read_name-answer.ensures.extends h
