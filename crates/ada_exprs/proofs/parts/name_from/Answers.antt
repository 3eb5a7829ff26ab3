use Rattle.std.proofs.Common.{true}
use Rattle.ada_grammar.specs.Lexemes.{lexeme, lexemes}
use Rattle.ada_grammar.specs.Phrases as phrases
use Rattle.ada_grammar.specs.Parts as parts
use Rattle.ada_grammar.proofs.Standing.{exprs_grow, holds_extended}
use Rattle.ada_exprs.proofs.parts.name_from.Goals as goal

pub returns-clause-grows : goal.returns-clause-grows
returns-clause-grows c = exprs_grow c.read_name_from-answer.ensures.extends

pub returns-clause-reads : goal.returns-clause-reads
returns-clause-reads c = λ ds h. c.hold.ensures.holds (parts.Suffixes true (phrases.identifier (lexeme c.args.tokens.now.source c.args.first))) (lexemes c.args.tokens.now) c.args.cursor _ ds (holds_extended c.read_name_from-answer.ensures.extends h) c.read_name_from-answer.ensures.reads

pub returns-clause-goes : goal.returns-clause-goes
returns-clause-goes c = c.hold.ensures.goes (parts.Suffixes true (phrases.identifier (lexeme c.args.tokens.now.source c.args.first))) (lexemes c.args.tokens.now) c.args.cursor _ c.read_name_from-answer.ensures.reads
