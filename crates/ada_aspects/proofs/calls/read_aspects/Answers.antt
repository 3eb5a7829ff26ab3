use Rattle.std.proofs.Common.{subst}
use Rattle.ada_grammar.specs.declared.tokens.Nesting.{Nesting}
use Rattle.ada_grammar.specs.Answer.{HasAspects, IsFault}
use Rattle.ada_grammar.specs.Parts as parts
use Rattle.ada_grammar.specs.Phrases as phrases
use Rattle.ada_grammar.proofs.Telling.{has_aspects}
use Rattle.ada_aspects.proofs.calls.read_aspects.Goals as goal

pub returns-in-Ok-clause-reads : goal.returns-in-Ok-clause-reads
returns-in-Ok-clause-reads c =
    subst (λ (n : Nesting). HasAspects (parts.Aspects phrases.none) n c.args.tokens.now c.args.at c.read_all.new.units c.read_all.new.into.aspects c.in-Ok.next.at) c.new.ensures
    (has_aspects c.args.tokens.now (c.in-Ok.ensures.reads phrases.none (c.new-into.ensures _ c.requires.ordered)))

pub returns-in-Err-clause-reads : goal.returns-in-Err-clause-reads
returns-in-Err-clause-reads c =
    subst (λ (n : Nesting). IsFault (parts.Aspects phrases.none) n c.args.tokens.now c.args.at c.phase_fault.result) c.new.ensures
    (c.phase_fault.ensures (parts.Aspects phrases.none) (record { at = c.args.at; nesting = c.new.result }) (c.in-Err.ensures.reads phrases.none (c.new-into.ensures _ c.requires.ordered)))

pub returns-in-Ok-clause-ordered : goal.returns-in-Ok-clause-ordered
returns-in-Ok-clause-ordered c = (c.in-Ok.ensures.reads phrases.none (c.new-into.ensures _ c.requires.ordered)).holds.ordered
