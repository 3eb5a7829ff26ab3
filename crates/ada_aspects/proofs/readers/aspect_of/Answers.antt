use Rattle.ada_tree.specs.Identifiers.{aspect_name}
use Rattle.std.proofs.Common.{refl, arith, sym, ap, ◌∙◌}
use Rattle.ada_tree.specs.declared.identifiers.AspectName.TheVariants as aspect_names
use Rattle.ada_grammar.specs.Lexemes.{lexeme, lexemes}
use Rattle.ada_grammar.specs.Parts as parts
use Rattle.ada_grammar.specs.Parts.{mark, word, Gives, Call, Rest}
use Rattle.ada_grammar.proofs.Steps.{start}
use Rattle.ada_grammar.proofs.Joining.{finds_last, goes_on, of_form}
use Rattle.ada_aspects.proofs.readers.aspect_of.Goals as goal

pub returns-in-Global-clause-reads : goal.returns-in-Global-clause-reads
returns-in-Global-clause-reads c = λ ds hd. of_form (λ z. (parts.AspectOf z (lexeme c.args.tokens.now.source c.args.name) ds)) (lexemes c.args.tokens.now) c.args.cursor _ _ _ (ap aspect_name (sym c.text.ensures) ∙ (sym c.aspect_name.ensures ∙ c.in-Global.is)) (finds_last (lexemes c.args.tokens.now) c.args.cursor c.args.cursor _ _ _ (start (parts.AspectOf aspect_names.Global (lexeme c.args.tokens.now.source c.args.name) ds) _) (omega arith) refl (c.defined.ensures.reads _ hd))

pub returns-in-Global-clause-goes : goal.returns-in-Global-clause-goes
returns-in-Global-clause-goes c = goes_on (lexemes c.args.tokens.now) c.args.cursor c.args.cursor _ (omega arith) c.defined.ensures.goes

pub returns-in-RefinedGlobal-clause-reads : goal.returns-in-RefinedGlobal-clause-reads
returns-in-RefinedGlobal-clause-reads c = λ ds hd. of_form (λ z. (parts.AspectOf z (lexeme c.args.tokens.now.source c.args.name) ds)) (lexemes c.args.tokens.now) c.args.cursor _ _ _ (ap aspect_name (sym c.text.ensures) ∙ (sym c.aspect_name.ensures ∙ c.in-RefinedGlobal.is)) (finds_last (lexemes c.args.tokens.now) c.args.cursor c.args.cursor _ _ _ (start (parts.AspectOf aspect_names.RefinedGlobal (lexeme c.args.tokens.now.source c.args.name) ds) _) (omega arith) refl (c.defined-in-RefinedGlobal.ensures.reads _ hd))

pub returns-in-RefinedGlobal-clause-goes : goal.returns-in-RefinedGlobal-clause-goes
returns-in-RefinedGlobal-clause-goes c = goes_on (lexemes c.args.tokens.now) c.args.cursor c.args.cursor _ (omega arith) c.defined-in-RefinedGlobal.ensures.goes

pub returns-in-Depends-clause-reads : goal.returns-in-Depends-clause-reads
returns-in-Depends-clause-reads c = λ ds hd. of_form (λ z. (parts.AspectOf z (lexeme c.args.tokens.now.source c.args.name) ds)) (lexemes c.args.tokens.now) c.args.cursor _ _ _ (ap aspect_name (sym c.text.ensures) ∙ (sym c.aspect_name.ensures ∙ c.in-Depends.is)) (finds_last (lexemes c.args.tokens.now) c.args.cursor c.args.cursor _ _ _ (start (parts.AspectOf aspect_names.Depends (lexeme c.args.tokens.now.source c.args.name) ds) _) (omega arith) refl (c.defined-in-Depends.ensures.reads _ hd))

pub returns-in-Depends-clause-goes : goal.returns-in-Depends-clause-goes
returns-in-Depends-clause-goes c = goes_on (lexemes c.args.tokens.now) c.args.cursor c.args.cursor _ (omega arith) c.defined-in-Depends.ensures.goes

pub returns-in-RefinedDepends-clause-reads : goal.returns-in-RefinedDepends-clause-reads
returns-in-RefinedDepends-clause-reads c = λ ds hd. of_form (λ z. (parts.AspectOf z (lexeme c.args.tokens.now.source c.args.name) ds)) (lexemes c.args.tokens.now) c.args.cursor _ _ _ (ap aspect_name (sym c.text.ensures) ∙ (sym c.aspect_name.ensures ∙ c.in-RefinedDepends.is)) (finds_last (lexemes c.args.tokens.now) c.args.cursor c.args.cursor _ _ _ (start (parts.AspectOf aspect_names.RefinedDepends (lexeme c.args.tokens.now.source c.args.name) ds) _) (omega arith) refl (c.defined-in-RefinedDepends.ensures.reads _ hd))

pub returns-in-RefinedDepends-clause-goes : goal.returns-in-RefinedDepends-clause-goes
returns-in-RefinedDepends-clause-goes c = goes_on (lexemes c.args.tokens.now) c.args.cursor c.args.cursor _ (omega arith) c.defined-in-RefinedDepends.ensures.goes

pub returns-in-AbstractState-clause-reads : goal.returns-in-AbstractState-clause-reads
returns-in-AbstractState-clause-reads c = λ ds hd. of_form (λ z. (parts.AspectOf z (lexeme c.args.tokens.now.source c.args.name) ds)) (lexemes c.args.tokens.now) c.args.cursor _ _ _ (ap aspect_name (sym c.text.ensures) ∙ (sym c.aspect_name.ensures ∙ c.in-AbstractState.is)) (finds_last (lexemes c.args.tokens.now) c.args.cursor c.args.cursor _ _ _ (start (parts.AspectOf aspect_names.AbstractState (lexeme c.args.tokens.now.source c.args.name) ds) _) (omega arith) refl (c.defined-in-AbstractState.ensures.reads _ hd))

pub returns-in-AbstractState-clause-goes : goal.returns-in-AbstractState-clause-goes
returns-in-AbstractState-clause-goes c = goes_on (lexemes c.args.tokens.now) c.args.cursor c.args.cursor _ (omega arith) c.defined-in-AbstractState.ensures.goes

pub returns-in-RefinedState-clause-reads : goal.returns-in-RefinedState-clause-reads
returns-in-RefinedState-clause-reads c = λ ds hd. of_form (λ z. (parts.AspectOf z (lexeme c.args.tokens.now.source c.args.name) ds)) (lexemes c.args.tokens.now) c.args.cursor _ _ _ (ap aspect_name (sym c.text.ensures) ∙ (sym c.aspect_name.ensures ∙ c.in-RefinedState.is)) (finds_last (lexemes c.args.tokens.now) c.args.cursor c.args.cursor _ _ _ (start (parts.AspectOf aspect_names.RefinedState (lexeme c.args.tokens.now.source c.args.name) ds) _) (omega arith) refl (c.defined-in-RefinedState.ensures.reads _ hd))

pub returns-in-RefinedState-clause-goes : goal.returns-in-RefinedState-clause-goes
returns-in-RefinedState-clause-goes c = goes_on (lexemes c.args.tokens.now) c.args.cursor c.args.cursor _ (omega arith) c.defined-in-RefinedState.ensures.goes

pub returns-in-Initializes-clause-reads : goal.returns-in-Initializes-clause-reads
returns-in-Initializes-clause-reads c = λ ds hd. of_form (λ z. (parts.AspectOf z (lexeme c.args.tokens.now.source c.args.name) ds)) (lexemes c.args.tokens.now) c.args.cursor _ _ _ (ap aspect_name (sym c.text.ensures) ∙ (sym c.aspect_name.ensures ∙ c.in-Initializes.is)) (finds_last (lexemes c.args.tokens.now) c.args.cursor c.args.cursor _ _ _ (start (parts.AspectOf aspect_names.Initializes (lexeme c.args.tokens.now.source c.args.name) ds) _) (omega arith) refl (c.defined-in-Initializes.ensures.reads _ hd))

pub returns-in-Initializes-clause-goes : goal.returns-in-Initializes-clause-goes
returns-in-Initializes-clause-goes c = goes_on (lexemes c.args.tokens.now) c.args.cursor c.args.cursor _ (omega arith) c.defined-in-Initializes.ensures.goes

pub returns-in-PartOf-clause-reads : goal.returns-in-PartOf-clause-reads
returns-in-PartOf-clause-reads c = λ ds hd. of_form (λ z. (parts.AspectOf z (lexeme c.args.tokens.now.source c.args.name) ds)) (lexemes c.args.tokens.now) c.args.cursor _ _ _ (ap aspect_name (sym c.text.ensures) ∙ (sym c.aspect_name.ensures ∙ c.in-PartOf.is)) (finds_last (lexemes c.args.tokens.now) c.args.cursor c.args.cursor _ _ _ (start (parts.AspectOf aspect_names.PartOf (lexeme c.args.tokens.now.source c.args.name) ds) _) (omega arith) refl (c.defined-in-PartOf.ensures.reads _ hd))

pub returns-in-PartOf-clause-goes : goal.returns-in-PartOf-clause-goes
returns-in-PartOf-clause-goes c = goes_on (lexemes c.args.tokens.now) c.args.cursor c.args.cursor _ (omega arith) c.defined-in-PartOf.ensures.goes

pub returns-in-Atomic-clause-reads : goal.returns-in-Atomic-clause-reads
returns-in-Atomic-clause-reads c = λ ds hd. of_form (λ z. (parts.AspectOf z (lexeme c.args.tokens.now.source c.args.name) ds)) (lexemes c.args.tokens.now) c.args.cursor _ _ _ (ap aspect_name (sym c.text.ensures) ∙ (sym c.aspect_name.ensures ∙ c.in-Atomic.is)) (finds_last (lexemes c.args.tokens.now) c.args.cursor c.args.cursor _ _ _ (start (parts.AspectOf aspect_names.Atomic (lexeme c.args.tokens.now.source c.args.name) ds) _) (omega arith) refl (c.atomic.ensures.reads _ hd))

pub returns-in-Atomic-clause-goes : goal.returns-in-Atomic-clause-goes
returns-in-Atomic-clause-goes c = goes_on (lexemes c.args.tokens.now) c.args.cursor c.args.cursor _ (omega arith) c.atomic.ensures.goes

pub returns-in-Skipped-clause-reads : goal.returns-in-Skipped-clause-reads
returns-in-Skipped-clause-reads c = λ ds hd. of_form (λ z. (parts.AspectOf z (lexeme c.args.tokens.now.source c.args.name) ds)) (lexemes c.args.tokens.now) c.args.cursor _ _ _ (ap aspect_name (sym c.text.ensures) ∙ (sym c.aspect_name.ensures ∙ c.in-Skipped.is)) (finds_last (lexemes c.args.tokens.now) c.args.cursor c.args.cursor _ _ _ (start (parts.AspectOf aspect_names.Skipped (lexeme c.args.tokens.now.source c.args.name) ds) _) (omega arith) refl (c.skipped_aspect.ensures.reads _ hd))

pub returns-in-Skipped-clause-goes : goal.returns-in-Skipped-clause-goes
returns-in-Skipped-clause-goes c = goes_on (lexemes c.args.tokens.now) c.args.cursor c.args.cursor _ (omega arith) c.skipped_aspect.ensures.goes

pub returns-in-Unknown-clause-reads : goal.returns-in-Unknown-clause-reads
returns-in-Unknown-clause-reads c = λ ds hd. of_form (λ z. (parts.AspectOf z (lexeme c.args.tokens.now.source c.args.name) ds)) (lexemes c.args.tokens.now) c.args.cursor _ _ _ (ap aspect_name (sym c.text.ensures) ∙ (sym c.aspect_name.ensures ∙ c.in-Unknown.is)) (finds_last (lexemes c.args.tokens.now) c.args.cursor c.args.cursor _ _ _ (start (parts.AspectOf aspect_names.Unknown (lexeme c.args.tokens.now.source c.args.name) ds) _) (omega arith) refl (c.skipped_aspect-in-Unknown.ensures.reads _ hd))

pub returns-in-Unknown-clause-goes : goal.returns-in-Unknown-clause-goes
returns-in-Unknown-clause-goes c = goes_on (lexemes c.args.tokens.now) c.args.cursor c.args.cursor _ (omega arith) c.skipped_aspect-in-Unknown.ensures.goes
