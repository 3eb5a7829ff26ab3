use Rattle.std.proofs.Common.{refl, arith, sym, ◌∙◌}
use Rattle.ada_tree.specs.declared.forms.OperationForm.TheVariants as operations
use Rattle.ada_grammar.specs.Lexemes.{lexemes}
use Rattle.ada_grammar.specs.Parts as parts
use Rattle.ada_grammar.specs.Parts.{mark, word, Gives, Call, Rest}
use Rattle.ada_grammar.proofs.Steps.{start}
use Rattle.ada_grammar.proofs.Joining.{finds_last, goes_on, of_form}
use Rattle.spark_parser.proofs.declarations.operation_body.Goals as goal

pub returns-in-Function-clause-reads : goal.returns-in-Function-clause-reads
returns-in-Function-clause-reads c = λ ds hd. of_form (λ z. (parts.OperationBody z ds)) (lexemes c.args.tokens.now) c.args.cursor _ _ _ (sym c.operation_form.ensures ∙ c.in-Function.is) (finds_last (lexemes c.args.tokens.now) c.args.cursor c.args.cursor _ _ _ (start (parts.OperationBody operations.Function ds) _) (omega arith) refl (c.function.ensures.reads _ hd))

pub returns-in-Function-clause-goes : goal.returns-in-Function-clause-goes
returns-in-Function-clause-goes c = goes_on (lexemes c.args.tokens.now) c.args.cursor c.args.cursor _ (omega arith) c.function.ensures.goes

pub returns-in-Entry-clause-reads : goal.returns-in-Entry-clause-reads
returns-in-Entry-clause-reads c = λ ds hd. of_form (λ z. (parts.OperationBody z ds)) (lexemes c.args.tokens.now) c.args.cursor _ _ _ (sym c.operation_form.ensures ∙ c.in-Entry.is) (finds_last (lexemes c.args.tokens.now) c.args.cursor c.args.cursor _ _ _ (start (parts.OperationBody operations.Entry ds) _) (omega arith) refl (c.entry_body.ensures.reads _ hd))

pub returns-in-Entry-clause-goes : goal.returns-in-Entry-clause-goes
returns-in-Entry-clause-goes c = goes_on (lexemes c.args.tokens.now) c.args.cursor c.args.cursor _ (omega arith) c.entry_body.ensures.goes

pub returns-in-Procedure-clause-reads : goal.returns-in-Procedure-clause-reads
returns-in-Procedure-clause-reads c = λ ds hd. of_form (λ z. (parts.OperationBody z ds)) (lexemes c.args.tokens.now) c.args.cursor _ _ _ (sym c.operation_form.ensures ∙ c.in-Procedure.is) (finds_last (lexemes c.args.tokens.now) c.args.cursor c.args.cursor _ _ _ (start (parts.OperationBody operations.Procedure ds) _) (omega arith) refl (c.procedure.ensures.reads _ hd))

pub returns-in-Procedure-clause-goes : goal.returns-in-Procedure-clause-goes
returns-in-Procedure-clause-goes c = goes_on (lexemes c.args.tokens.now) c.args.cursor c.args.cursor _ (omega arith) c.procedure.ensures.goes

pub returns-in-Pragma-clause-reads : goal.returns-in-Pragma-clause-reads
returns-in-Pragma-clause-reads c = λ ds hd. of_form (λ z. (parts.OperationBody z ds)) (lexemes c.args.tokens.now) c.args.cursor _ _ _ (sym c.operation_form.ensures ∙ c.in-Pragma.is) (finds_last (lexemes c.args.tokens.now) c.args.cursor c.args.cursor _ _ _ (start (parts.OperationBody operations.Pragma ds) _) (omega arith) refl (c.procedure-in-Pragma.ensures.reads _ hd))

pub returns-in-Pragma-clause-goes : goal.returns-in-Pragma-clause-goes
returns-in-Pragma-clause-goes c = goes_on (lexemes c.args.tokens.now) c.args.cursor c.args.cursor _ (omega arith) c.procedure-in-Pragma.ensures.goes

pub returns-in-Component-clause-reads : goal.returns-in-Component-clause-reads
returns-in-Component-clause-reads c = λ ds hd. of_form (λ z. (parts.OperationBody z ds)) (lexemes c.args.tokens.now) c.args.cursor _ _ _ (sym c.operation_form.ensures ∙ c.in-Component.is) (finds_last (lexemes c.args.tokens.now) c.args.cursor c.args.cursor _ _ _ (start (parts.OperationBody operations.Component ds) _) (omega arith) refl (c.procedure-in-Component.ensures.reads _ hd))

pub returns-in-Component-clause-goes : goal.returns-in-Component-clause-goes
returns-in-Component-clause-goes c = goes_on (lexemes c.args.tokens.now) c.args.cursor c.args.cursor _ (omega arith) c.procedure-in-Component.ensures.goes
