use Rattle.std.proofs.Common.{refl, arith, sym, ◌∙◌}
use Rattle.ada_tree.specs.declared.forms.DeclarationForm.TheVariants as declarations
use Rattle.ada_grammar.specs.Lexemes.{lexeme, lexemes}
use Rattle.ada_grammar.specs.Parts as parts
use Rattle.ada_grammar.specs.Parts.{mark, word, Gives, Call, Rest}
use Rattle.ada_grammar.proofs.Steps.{start}
use Rattle.ada_grammar.proofs.Joining.{finds_last, goes_on, of_form}
use Rattle.spark_parser.proofs.declarations.declaration.Goals as goal

pub returns-in-Procedure-clause-reads : goal.returns-in-Procedure-clause-reads
returns-in-Procedure-clause-reads c = λ ds hd. of_form (λ z. (parts.Declaration c.args.region z (lexeme c.args.tokens.now.source c.args.first) ds)) (lexemes c.args.tokens.now) c.args.cursor _ _ _ (sym c.declaration_form.ensures ∙ c.in-Procedure.is) (finds_last (lexemes c.args.tokens.now) c.args.cursor c.args.cursor _ _ _ (start (parts.Declaration c.args.region declarations.Procedure (lexeme c.args.tokens.now.source c.args.first) ds) _) (omega arith) refl (c.procedure.ensures.reads _ hd))

pub returns-in-Procedure-clause-goes : goal.returns-in-Procedure-clause-goes
returns-in-Procedure-clause-goes c = goes_on (lexemes c.args.tokens.now) c.args.cursor c.args.cursor _ (omega arith) c.procedure.ensures.goes

pub returns-in-Function-clause-reads : goal.returns-in-Function-clause-reads
returns-in-Function-clause-reads c = λ ds hd. of_form (λ z. (parts.Declaration c.args.region z (lexeme c.args.tokens.now.source c.args.first) ds)) (lexemes c.args.tokens.now) c.args.cursor _ _ _ (sym c.declaration_form.ensures ∙ c.in-Function.is) (finds_last (lexemes c.args.tokens.now) c.args.cursor c.args.cursor _ _ _ (start (parts.Declaration c.args.region declarations.Function (lexeme c.args.tokens.now.source c.args.first) ds) _) (omega arith) refl (c.function.ensures.reads _ hd))

pub returns-in-Function-clause-goes : goal.returns-in-Function-clause-goes
returns-in-Function-clause-goes c = goes_on (lexemes c.args.tokens.now) c.args.cursor c.args.cursor _ (omega arith) c.function.ensures.goes

pub returns-in-Task-clause-reads : goal.returns-in-Task-clause-reads
returns-in-Task-clause-reads c = λ ds hd. of_form (λ z. (parts.Declaration c.args.region z (lexeme c.args.tokens.now.source c.args.first) ds)) (lexemes c.args.tokens.now) c.args.cursor _ _ _ (sym c.declaration_form.ensures ∙ c.in-Task.is) (finds_last (lexemes c.args.tokens.now) c.args.cursor c.args.cursor _ _ _ (start (parts.Declaration c.args.region declarations.Task (lexeme c.args.tokens.now.source c.args.first) ds) _) (omega arith) refl (c.task_in.ensures.reads _ hd))

pub returns-in-Task-clause-goes : goal.returns-in-Task-clause-goes
returns-in-Task-clause-goes c = goes_on (lexemes c.args.tokens.now) c.args.cursor c.args.cursor _ (omega arith) c.task_in.ensures.goes

pub returns-in-Protected-clause-reads : goal.returns-in-Protected-clause-reads
returns-in-Protected-clause-reads c = λ ds hd. of_form (λ z. (parts.Declaration c.args.region z (lexeme c.args.tokens.now.source c.args.first) ds)) (lexemes c.args.tokens.now) c.args.cursor _ _ _ (sym c.declaration_form.ensures ∙ c.in-Protected.is) (finds_last (lexemes c.args.tokens.now) c.args.cursor c.args.cursor _ _ _ (start (parts.Declaration c.args.region declarations.Protected (lexeme c.args.tokens.now.source c.args.first) ds) _) (omega arith) refl (c.protected_in.ensures.reads _ hd))

pub returns-in-Protected-clause-goes : goal.returns-in-Protected-clause-goes
returns-in-Protected-clause-goes c = goes_on (lexemes c.args.tokens.now) c.args.cursor c.args.cursor _ (omega arith) c.protected_in.ensures.goes

pub returns-in-Local-clause-reads : goal.returns-in-Local-clause-reads
returns-in-Local-clause-reads c = λ ds hd. of_form (λ z. (parts.Declaration c.args.region z (lexeme c.args.tokens.now.source c.args.first) ds)) (lexemes c.args.tokens.now) c.args.cursor _ _ _ (sym c.declaration_form.ensures ∙ c.in-Local.is) (finds_last (lexemes c.args.tokens.now) c.args.cursor c.args.cursor _ _ _ (start (parts.Declaration c.args.region declarations.Local (lexeme c.args.tokens.now.source c.args.first) ds) _) (omega arith) refl (c.local_declaration.ensures.reads _ hd))

pub returns-in-Local-clause-goes : goal.returns-in-Local-clause-goes
returns-in-Local-clause-goes c = goes_on (lexemes c.args.tokens.now) c.args.cursor c.args.cursor _ (omega arith) c.local_declaration.ensures.goes
