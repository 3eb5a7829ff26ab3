use Rattle.std.proofs.Common.{refl, arith}
use Rattle.ada_tree.specs.declared.token.Mark.TheVariants as marks
use Rattle.ada_grammar.specs.Lexemes.{lexemes}
use Rattle.ada_grammar.specs.Parts as parts
use Rattle.ada_grammar.specs.Parts.{mark, word, Gives, Call, Rest}
use Rattle.ada_grammar.proofs.Steps.{start, seen}
use Rattle.ada_grammar.proofs.Answering.{misses_here}
use Rattle.ada_grammar.proofs.Joining.{fault_found, finds_last, goes_on}
use Rattle.ada_aspects.proofs.readers.refined_definition.Goals as goal

pub returns-in_err-behind_opening-clause-reads : goal.returns-in_err-behind_opening-clause-reads
returns-in_err-behind_opening-clause-reads c = λ ds hd. fault_found (parts.RefinedDefinition ds) (lexemes c.args.tokens.now) c.args.cursor _ _ _ _ (misses_here (lexemes c.args.tokens.now) c.args.cursor c.args.cursor (mark marks.Open) _ c.requires.at (start (parts.RefinedDefinition ds) _) refl (λ t. refl) c.in_err-behind_opening.ensures) c.from_residual.ensures.1

pub returns-clause-reads : goal.returns-clause-reads
returns-clause-reads c = λ ds hd. finds_last (lexemes c.args.tokens.now) c.args.cursor c.in_ok-behind_opening.behind_opening _ _ _ (seen (start (parts.RefinedDefinition ds) _) c.in_ok-behind_opening.ensures.takes refl) (omega (arith, c.in_ok-behind_opening.ensures.place)) refl (c.elements.ensures.reads _ hd)

pub returns-clause-goes : goal.returns-clause-goes
returns-clause-goes c = goes_on (lexemes c.args.tokens.now) c.args.cursor c.in_ok-behind_opening.behind_opening _ (omega (arith, c.in_ok-behind_opening.ensures.place)) c.elements.ensures.goes
