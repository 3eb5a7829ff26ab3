use Rattle.std.proofs.Common.{refl, arith}
use Rattle.ada_tree.specs.declared.forms.Definition.TheVariants as definitions
use Rattle.ada_grammar.specs.Lexemes.{lexemes}
use Rattle.ada_grammar.specs.Parts as parts
use Rattle.ada_grammar.specs.Parts.{mark, word, Gives, Call, Rest}
use Rattle.ada_grammar.proofs.Steps.{start}
use Rattle.ada_grammar.proofs.Joining.{finds_last, goes_on, of_form}
use Rattle.ada_aspects.proofs.readers.definition_of.Goals as goal

pub returns-in-Global-clause-reads : goal.returns-in-Global-clause-reads
returns-in-Global-clause-reads c = λ ds hd. of_form (λ z. (parts.DefinitionOf z ds)) (lexemes c.args.tokens.now) c.args.cursor _ _ _ c.in-Global.is (finds_last (lexemes c.args.tokens.now) c.args.cursor c.args.cursor _ _ _ (start (parts.DefinitionOf definitions.Global ds) _) (omega arith) refl (c.global_definition.ensures.reads _ hd))

pub returns-in-Global-clause-goes : goal.returns-in-Global-clause-goes
returns-in-Global-clause-goes c = goes_on (lexemes c.args.tokens.now) c.args.cursor c.args.cursor _ (omega arith) c.global_definition.ensures.goes

pub returns-in-Depends-clause-reads : goal.returns-in-Depends-clause-reads
returns-in-Depends-clause-reads c = λ ds hd. of_form (λ z. (parts.DefinitionOf z ds)) (lexemes c.args.tokens.now) c.args.cursor _ _ _ c.in-Depends.is (finds_last (lexemes c.args.tokens.now) c.args.cursor c.args.cursor _ _ _ (start (parts.DefinitionOf definitions.Depends ds) _) (omega arith) refl (c.depends_definition.ensures.reads _ hd))

pub returns-in-Depends-clause-goes : goal.returns-in-Depends-clause-goes
returns-in-Depends-clause-goes c = goes_on (lexemes c.args.tokens.now) c.args.cursor c.args.cursor _ (omega arith) c.depends_definition.ensures.goes

pub returns-in-States-clause-reads : goal.returns-in-States-clause-reads
returns-in-States-clause-reads c = λ ds hd. of_form (λ z. (parts.DefinitionOf z ds)) (lexemes c.args.tokens.now) c.args.cursor _ _ _ c.in-States.is (finds_last (lexemes c.args.tokens.now) c.args.cursor c.args.cursor _ _ _ (start (parts.DefinitionOf definitions.States ds) _) (omega arith) refl (c.states_definition.ensures.reads _ hd))

pub returns-in-States-clause-goes : goal.returns-in-States-clause-goes
returns-in-States-clause-goes c = goes_on (lexemes c.args.tokens.now) c.args.cursor c.args.cursor _ (omega arith) c.states_definition.ensures.goes

pub returns-in-RefinedState-clause-reads : goal.returns-in-RefinedState-clause-reads
returns-in-RefinedState-clause-reads c = λ ds hd. of_form (λ z. (parts.DefinitionOf z ds)) (lexemes c.args.tokens.now) c.args.cursor _ _ _ c.in-RefinedState.is (finds_last (lexemes c.args.tokens.now) c.args.cursor c.args.cursor _ _ _ (start (parts.DefinitionOf definitions.RefinedState ds) _) (omega arith) refl (c.refined_definition.ensures.reads _ hd))

pub returns-in-RefinedState-clause-goes : goal.returns-in-RefinedState-clause-goes
returns-in-RefinedState-clause-goes c = goes_on (lexemes c.args.tokens.now) c.args.cursor c.args.cursor _ (omega arith) c.refined_definition.ensures.goes

pub returns-in-Initializes-clause-reads : goal.returns-in-Initializes-clause-reads
returns-in-Initializes-clause-reads c = λ ds hd. of_form (λ z. (parts.DefinitionOf z ds)) (lexemes c.args.tokens.now) c.args.cursor _ _ _ c.in-Initializes.is (finds_last (lexemes c.args.tokens.now) c.args.cursor c.args.cursor _ _ _ (start (parts.DefinitionOf definitions.Initializes ds) _) (omega arith) refl (c.initializes_definition.ensures.reads _ hd))

pub returns-in-Initializes-clause-goes : goal.returns-in-Initializes-clause-goes
returns-in-Initializes-clause-goes c = goes_on (lexemes c.args.tokens.now) c.args.cursor c.args.cursor _ (omega arith) c.initializes_definition.ensures.goes

pub returns-in-PartOf-clause-reads : goal.returns-in-PartOf-clause-reads
returns-in-PartOf-clause-reads c = λ ds hd. of_form (λ z. (parts.DefinitionOf z ds)) (lexemes c.args.tokens.now) c.args.cursor _ _ _ c.in-PartOf.is (finds_last (lexemes c.args.tokens.now) c.args.cursor c.args.cursor _ _ _ (start (parts.DefinitionOf definitions.PartOf ds) _) (omega arith) refl (c.part_of.ensures.reads _ hd))

pub returns-in-PartOf-clause-goes : goal.returns-in-PartOf-clause-goes
returns-in-PartOf-clause-goes c = goes_on (lexemes c.args.tokens.now) c.args.cursor c.args.cursor _ (omega arith) c.part_of.ensures.goes
