use Rattle.std.proofs.Common.{refl, arith}
use Rattle.ada_tree.specs.declared.forms.Listing.TheVariants as listings
use Rattle.ada_grammar.specs.Lexemes.{lexemes}
use Rattle.ada_grammar.specs.Parts as parts
use Rattle.ada_grammar.specs.Parts.{mark, word, Gives, Call, Rest}
use Rattle.ada_grammar.proofs.Steps.{start}
use Rattle.ada_grammar.proofs.Joining.{finds_last, goes_on, of_form}
use Rattle.ada_aspects.proofs.readers.element.Goals as goal

pub returns-in-Dependencies-clause-reads : goal.returns-in-Dependencies-clause-reads
returns-in-Dependencies-clause-reads c = λ ds hd. of_form (λ z. (parts.Element z ds)) (lexemes c.args.tokens.now) c.args.cursor _ _ _ c.in-Dependencies.is (finds_last (lexemes c.args.tokens.now) c.args.cursor c.args.cursor _ _ _ (start (parts.Element listings.Dependencies ds) _) (omega arith) refl (c.dependency.ensures.reads _ hd))

pub returns-in-Dependencies-clause-goes : goal.returns-in-Dependencies-clause-goes
returns-in-Dependencies-clause-goes c = goes_on (lexemes c.args.tokens.now) c.args.cursor c.args.cursor _ (omega arith) c.dependency.ensures.goes

pub returns-in-Refinements-clause-reads : goal.returns-in-Refinements-clause-reads
returns-in-Refinements-clause-reads c = λ ds hd. of_form (λ z. (parts.Element z ds)) (lexemes c.args.tokens.now) c.args.cursor _ _ _ c.in-Refinements.is (finds_last (lexemes c.args.tokens.now) c.args.cursor c.args.cursor _ _ _ (start (parts.Element listings.Refinements ds) _) (omega arith) refl (c.refinement.ensures.reads _ hd))

pub returns-in-Refinements-clause-goes : goal.returns-in-Refinements-clause-goes
returns-in-Refinements-clause-goes c = goes_on (lexemes c.args.tokens.now) c.args.cursor c.args.cursor _ (omega arith) c.refinement.ensures.goes

pub returns-in-Initializations-clause-reads : goal.returns-in-Initializations-clause-reads
returns-in-Initializations-clause-reads c = λ ds hd. of_form (λ z. (parts.Element z ds)) (lexemes c.args.tokens.now) c.args.cursor _ _ _ c.in-Initializations.is (finds_last (lexemes c.args.tokens.now) c.args.cursor c.args.cursor _ _ _ (start (parts.Element listings.Initializations ds) _) (omega arith) refl (c.initialization.ensures.reads _ hd))

pub returns-in-Initializations-clause-goes : goal.returns-in-Initializations-clause-goes
returns-in-Initializations-clause-goes c = goes_on (lexemes c.args.tokens.now) c.args.cursor c.args.cursor _ (omega arith) c.initialization.ensures.goes
