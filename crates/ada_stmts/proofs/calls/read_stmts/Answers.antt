use Rattle.std.proofs.Common.{subst}
use Rattle.ada_grammar.specs.declared.tokens.Nesting.{Nesting}
use Rattle.ada_grammar.specs.Answer.{HasSequence, IsFault}
use Rattle.ada_grammar.specs.Parts as parts
use Rattle.ada_grammar.specs.Phrases as phrases
use Rattle.ada_grammar.proofs.Telling.{has_sequence}
use Rattle.ada_stmts.proofs.Sequences.{is_first, within}
use Rattle.ada_stmts.proofs.calls.read_stmts.Goals as goal

pub returns-in-Ok-clause-reads : goal.returns-in-Ok-clause-reads
returns-in-Ok-clause-reads c =
    let f = c.in-Ok.ensures.reads phrases.none (c.new-into.ensures _ c.requires.ordered) in
    subst (λ (n : Nesting). HasSequence (parts.Statements phrases.none) n c.args.tokens.now c.args.at c.statements.new.units c.at.result.now c.in-Ok.next.at) c.in_statements.ensures
    (has_sequence c.args.tokens.now (is_first f c.at.ensures) f)

pub returns-clause-reads : goal.returns-clause-reads
returns-clause-reads c =
    subst (λ (n : Nesting). IsFault (parts.Statements phrases.none) n c.args.tokens.now c.args.at c.phase_fault.result) c.in_statements.ensures
    (c.phase_fault.ensures (parts.Statements phrases.none) (record { at = c.args.at; nesting = c.in_statements.result }) (c.in-Err.ensures.reads phrases.none (c.new-into.ensures _ c.requires.ordered)))

pub at-requires : goal.at-requires
at-requires c = within (c.in-Ok.ensures.reads phrases.none (c.new-into.ensures _ c.requires.ordered))

pub returns-in-Ok-clause-ordered : goal.returns-in-Ok-clause-ordered
returns-in-Ok-clause-ordered c = (c.in-Ok.ensures.reads phrases.none (c.new-into.ensures _ c.requires.ordered)).holds.ordered
