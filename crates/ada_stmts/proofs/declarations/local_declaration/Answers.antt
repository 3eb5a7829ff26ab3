use Rattle.std.proofs.Common.{refl, arith, sym, ◌∙◌}
use Rattle.ada_tree.specs.declared.forms.LocalForm.TheVariants as locals
use Rattle.ada_grammar.specs.Lexemes.{lexeme, lexemes}
use Rattle.ada_grammar.specs.Parts as parts
use Rattle.ada_grammar.specs.Parts.{mark, word, Gives, Call, Rest}
use Rattle.ada_grammar.proofs.Steps.{start}
use Rattle.ada_grammar.proofs.Joining.{finds_last, goes_on, of_form}
use Rattle.ada_stmts.proofs.Passing.{passes_over, goes_over}
use Rattle.ada_stmts.proofs.declarations.local_declaration.Goals as goal

pub returns-in-Type-clause-reads : goal.returns-in-Type-clause-reads
returns-in-Type-clause-reads c = λ ds hd. of_form (λ z. (parts.LocalDeclaration z (lexeme c.args.tokens.now.source c.args.first) ds)) (lexemes c.args.tokens.now) c.args.cursor _ _ _ (sym c.local_form.ensures ∙ c.in-Type.is) (c.type_declaration.ensures.reads _ _ hd)

pub returns-in-Type-clause-goes : goal.returns-in-Type-clause-goes
returns-in-Type-clause-goes c = c.type_declaration.ensures.goes

pub returns-in-Subtype-clause-reads : goal.returns-in-Subtype-clause-reads
returns-in-Subtype-clause-reads c = λ ds hd. of_form (λ z. (parts.LocalDeclaration z (lexeme c.args.tokens.now.source c.args.first) ds)) (lexemes c.args.tokens.now) c.args.cursor _ _ _ (sym c.local_form.ensures ∙ c.in-Subtype.is) (c.subtype_declaration.ensures.reads _ _ hd)

pub returns-in-Subtype-clause-goes : goal.returns-in-Subtype-clause-goes
returns-in-Subtype-clause-goes c = c.subtype_declaration.ensures.goes

pub returns-in-Object-clause-reads : goal.returns-in-Object-clause-reads
returns-in-Object-clause-reads c = λ ds hd. of_form (λ z. (parts.LocalDeclaration z (lexeme c.args.tokens.now.source c.args.first) ds)) (lexemes c.args.tokens.now) c.args.cursor _ _ _ (sym c.local_form.ensures ∙ c.in-Object.is) (finds_last (lexemes c.args.tokens.now) c.args.cursor c.args.cursor _ _ _ (start (parts.LocalDeclaration locals.Object (lexeme c.args.tokens.now.source c.args.first) ds) _) (omega arith) refl (c.declared_names.ensures.reads _ hd))

pub returns-in-Object-clause-goes : goal.returns-in-Object-clause-goes
returns-in-Object-clause-goes c = goes_on (lexemes c.args.tokens.now) c.args.cursor c.args.cursor _ (omega arith) c.declared_names.ensures.goes

pub returns-in-Use-clause-reads : goal.returns-in-Use-clause-reads
returns-in-Use-clause-reads c = λ ds hd. of_form (λ z. (parts.LocalDeclaration z (lexeme c.args.tokens.now.source c.args.first) ds)) (lexemes c.args.tokens.now) c.args.cursor _ _ _ (sym c.local_form.ensures ∙ c.in-Use.is) (c.use_clause.ensures.reads _ hd)

pub returns-in-Use-clause-goes : goal.returns-in-Use-clause-goes
returns-in-Use-clause-goes c = c.use_clause.ensures.goes

pub returns-in-Pragma-clause-reads : goal.returns-in-Pragma-clause-reads
returns-in-Pragma-clause-reads c = λ ds hd. of_form (λ z. (parts.LocalDeclaration z (lexeme c.args.tokens.now.source c.args.first) ds)) (lexemes c.args.tokens.now) c.args.cursor _ _ _ (sym c.local_form.ensures ∙ c.in-Pragma.is) (passes_over (lexemes c.args.tokens.now) c.args.cursor c.args.cursor _ _ ds _ (start (parts.LocalDeclaration locals.Pragma (lexeme c.args.tokens.now.source c.args.first) ds) _) (omega arith) (λ b. refl) hd c.pragma.ensures)

pub returns-in-Pragma-clause-goes : goal.returns-in-Pragma-clause-goes
returns-in-Pragma-clause-goes c = goes_over parts.Pragma (lexemes c.args.tokens.now) c.args.cursor _ c.pragma.ensures
