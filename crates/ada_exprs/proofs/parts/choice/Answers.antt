use Rattle.ada_grammar.specs.Lexemes.{lexemes}
use Rattle.ada_grammar.specs.Parts as parts
use Rattle.ada_grammar.proofs.Standing.{exprs_grow, holds_extended}
use Rattle.ada_exprs.proofs.parts.choice.Goals as goal

pub returns-clause-grows : goal.returns-clause-grows
returns-clause-grows c = exprs_grow c.read_choice-answer.ensures.extends

pub returns-clause-reads : goal.returns-clause-reads
returns-clause-reads c = λ ds h. c.hold.ensures.holds parts.Choice (lexemes c.args.tokens.now) c.args.cursor _ ds (holds_extended c.read_choice-answer.ensures.extends h) c.read_choice-answer.ensures.reads

pub returns-clause-goes : goal.returns-clause-goes
returns-clause-goes c = c.hold.ensures.goes parts.Choice (lexemes c.args.tokens.now) c.args.cursor _ c.read_choice-answer.ensures.reads
