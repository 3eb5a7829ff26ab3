use Rattle.std.proofs.Common.{refl, arith}
use Rattle.ada_tree.specs.declared.token.Mark.TheVariants as marks
use Rattle.ada_grammar.specs.Lexemes.{lexeme, lexemes}
use Rattle.ada_grammar.specs.Parts as parts
use Rattle.ada_grammar.specs.Parts.{mark, word, Gives, Call, Rest}
use Rattle.ada_grammar.proofs.Steps.{start, seen, done}
use Rattle.ada_grammar.proofs.Answering.{misses_here, refuses}
use Rattle.ada_grammar.proofs.Joining.{fault_found, found}
use Rattle.ada_grammar.proofs.Standing.{grows_on, holds_on}
use Rattle.ada_aspects.proofs.readers.defined.Goals as goal

pub returns-in_err-behind_arrow-clause-reads : goal.returns-in_err-behind_arrow-clause-reads
returns-in_err-behind_arrow-clause-reads c = λ ds hd. fault_found (parts.Defined c.args.kind c.args.definition (lexeme c.args.tokens.now.source c.args.name) ds) (lexemes c.args.tokens.now) c.args.cursor _ _ _ _ (misses_here (lexemes c.args.tokens.now) c.args.cursor c.args.cursor (mark marks.Arrow) _ c.requires.at (start (parts.Defined c.args.kind c.args.definition (lexeme c.args.tokens.now.source c.args.name) ds) _) refl (λ t. refl) c.in_err-behind_arrow.ensures) c.from_residual.ensures.1

pub returns-in_err-behind_definition_of-clause-reads : goal.returns-in_err-behind_definition_of-clause-reads
returns-in_err-behind_definition_of-clause-reads c = λ ds hd. fault_found (parts.Defined c.args.kind c.args.definition (lexeme c.args.tokens.now.source c.args.name) ds) (lexemes c.args.tokens.now) c.args.cursor _ _ _ _ (refuses (lexemes c.args.tokens.now) c.args.cursor c.in_ok-behind_arrow.behind_arrow _ (seen (start (parts.Defined c.args.kind c.args.definition (lexeme c.args.tokens.now.source c.args.name) ds) _) c.in_ok-behind_arrow.ensures.takes refl) (λ b. refl) (c.in_err-behind_definition_of.ensures.reads _ (c.new-own.ensures _ hd.ordered))) c.from_residual-in_err-behind_definition_of.ensures.1

pub returns-in_err-add_named_aspect-clause-grows : goal.returns-in_err-add_named_aspect-clause-grows
returns-in_err-add_named_aspect-clause-grows c = (grows_on c.in_ok-behind_definition_of.ensures.grows c.in_err-add_named_aspect.ensures.grows)

pub returns-clause-reads : goal.returns-clause-reads
returns-clause-reads c = λ ds hd. let f1 = c.in_ok-behind_definition_of.ensures.reads _ (c.new-own.ensures _ hd.ordered) in found (lexemes c.args.tokens.now) c.args.cursor c.in_ok-behind_definition_of.behind_definition_of (c.in_ok-add_named_aspect.ensures.builds _ _ f1.holds (holds_on f1.holds.ordered c.in_ok-behind_definition_of.ensures.grows hd)) (omega (arith, c.in_ok-behind_arrow.ensures.place, c.in_ok-behind_definition_of.ensures.goes.forward)) c.in_ok-behind_definition_of.ensures.goes.ends (done (seen (start (parts.Defined c.args.kind c.args.definition (lexeme c.args.tokens.now.source c.args.name) ds) _) c.in_ok-behind_arrow.ensures.takes refl) f1.reads (λ b. refl))

pub returns-clause-goes : goal.returns-clause-goes
returns-clause-goes c = record { forward = omega (arith, c.in_ok-behind_arrow.ensures.place, c.in_ok-behind_definition_of.ensures.goes.forward); ends = c.in_ok-behind_definition_of.ensures.goes.ends }

pub returns-clause-grows : goal.returns-clause-grows
returns-clause-grows c = (grows_on c.in_ok-behind_definition_of.ensures.grows c.in_ok-add_named_aspect.ensures.grows)
