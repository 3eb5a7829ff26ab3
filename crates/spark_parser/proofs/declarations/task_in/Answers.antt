use Rattle.std.proofs.Common.{refl, arith}
use Rattle.ada_tree.specs.declared.forms.Region.TheVariants as regions
use Rattle.ada_grammar.specs.Lexemes.{lexemes}
use Rattle.ada_grammar.specs.Parts as parts
use Rattle.ada_grammar.specs.Parts.{mark, word, Gives, Call, Rest}
use Rattle.ada_grammar.proofs.Steps.{start}
use Rattle.ada_grammar.proofs.Joining.{finds_last, goes_on, of_form}
use Rattle.spark_parser.proofs.declarations.task_in.Goals as goal

pub returns-in-Body-clause-reads : goal.returns-in-Body-clause-reads
returns-in-Body-clause-reads c = λ ds hd. of_form (λ z. (parts.TaskIn z ds)) (lexemes c.args.tokens.now) c.args.cursor _ _ _ c.in-Body.is (finds_last (lexemes c.args.tokens.now) c.args.cursor c.args.cursor _ _ _ (start (parts.TaskIn regions.Body ds) _) (omega arith) refl (c.task_in_body.ensures.reads _ hd))

pub returns-in-Body-clause-goes : goal.returns-in-Body-clause-goes
returns-in-Body-clause-goes c = goes_on (lexemes c.args.tokens.now) c.args.cursor c.args.cursor _ (omega arith) c.task_in_body.ensures.goes

pub returns-in-Spec-clause-reads : goal.returns-in-Spec-clause-reads
returns-in-Spec-clause-reads c = λ ds hd. of_form (λ z. (parts.TaskIn z ds)) (lexemes c.args.tokens.now) c.args.cursor _ _ _ c.in-Spec.is (finds_last (lexemes c.args.tokens.now) c.args.cursor c.args.cursor _ _ _ (start (parts.TaskIn regions.Spec ds) _) (omega arith) refl (c.task.ensures.reads _ hd))

pub returns-in-Spec-clause-goes : goal.returns-in-Spec-clause-goes
returns-in-Spec-clause-goes c = goes_on (lexemes c.args.tokens.now) c.args.cursor c.args.cursor _ (omega arith) c.task.ensures.goes

pub returns-in-Protected-clause-reads : goal.returns-in-Protected-clause-reads
returns-in-Protected-clause-reads c = λ ds hd. of_form (λ z. (parts.TaskIn z ds)) (lexemes c.args.tokens.now) c.args.cursor _ _ _ c.in-Protected.is (finds_last (lexemes c.args.tokens.now) c.args.cursor c.args.cursor _ _ _ (start (parts.TaskIn regions.Protected ds) _) (omega arith) refl (c.task-in-Protected.ensures.reads _ hd))

pub returns-in-Protected-clause-goes : goal.returns-in-Protected-clause-goes
returns-in-Protected-clause-goes c = goes_on (lexemes c.args.tokens.now) c.args.cursor c.args.cursor _ (omega arith) c.task-in-Protected.ensures.goes

pub returns-in-ProtectedBody-clause-reads : goal.returns-in-ProtectedBody-clause-reads
returns-in-ProtectedBody-clause-reads c = λ ds hd. of_form (λ z. (parts.TaskIn z ds)) (lexemes c.args.tokens.now) c.args.cursor _ _ _ c.in-ProtectedBody.is (finds_last (lexemes c.args.tokens.now) c.args.cursor c.args.cursor _ _ _ (start (parts.TaskIn regions.ProtectedBody ds) _) (omega arith) refl (c.task-in-ProtectedBody.ensures.reads _ hd))

pub returns-in-ProtectedBody-clause-goes : goal.returns-in-ProtectedBody-clause-goes
returns-in-ProtectedBody-clause-goes c = goes_on (lexemes c.args.tokens.now) c.args.cursor c.args.cursor _ (omega arith) c.task-in-ProtectedBody.ensures.goes
