use Rattle.std.proofs.Common.{refl, arith}
use Rattle.ada_tree.specs.declared.words.Reserved.TheVariants as words
use Rattle.ada_tree.specs.declared.forms.LocalForm.TheVariants as locals
use Rattle.ada_grammar.specs.Lexemes.{lexeme, lexemes}
use Rattle.ada_grammar.specs.Parts as parts
use Rattle.ada_grammar.specs.Parts.{mark, word, Gives, Call, Rest}
use Rattle.ada_grammar.proofs.Steps.{start, seen, unseen}
use Rattle.ada_grammar.proofs.Answering.{passes_here}
use Rattle.ada_grammar.proofs.Joining.{absent, present, fault_found, finds_last, goes_on}
use Rattle.ada_stmts.proofs.declarations.use_clause.Goals as goal

pub returns-in_err-behind_keyword-clause-reads : goal.returns-in_err-behind_keyword-clause-reads
returns-in_err-behind_keyword-clause-reads c = λ ds hd. fault_found (parts.LocalDeclaration locals.Use (lexeme c.args.tokens.now.source c.args.first) ds) (lexemes c.args.tokens.now) c.args.cursor _ _ _ _ (passes_here (lexemes c.args.tokens.now) c.args.cursor c.args.cursor (word words.Type) _ (start (parts.LocalDeclaration locals.Use (lexeme c.args.tokens.now.source c.args.first) ds) _) (λ t. refl) c.in_err-behind_keyword.ensures) c.from_residual.ensures.1

pub returns-in-Some-clause-reads : goal.returns-in-Some-clause-reads
returns-in-Some-clause-reads c = λ ds hd. finds_last (lexemes c.args.tokens.now) c.args.cursor c.in-Some.behind_keyword _ _ _ (seen (start (parts.LocalDeclaration locals.Use (lexeme c.args.tokens.now.source c.args.first) ds) _) (present (word words.Type) (lexeme c.args.tokens.now.source) (lexemes c.args.tokens.now) c.args.cursor c.in_ok-behind_keyword.ensures c.in-Some.is).takes refl) (omega (arith, (present (word words.Type) (lexeme c.args.tokens.now.source) (lexemes c.args.tokens.now) c.args.cursor c.in_ok-behind_keyword.ensures c.in-Some.is).place)) refl (c.unit_names.ensures.reads _ hd)

pub returns-in-Some-clause-goes : goal.returns-in-Some-clause-goes
returns-in-Some-clause-goes c = goes_on (lexemes c.args.tokens.now) c.args.cursor c.in-Some.behind_keyword _ (omega (arith, (present (word words.Type) (lexeme c.args.tokens.now.source) (lexemes c.args.tokens.now) c.args.cursor c.in_ok-behind_keyword.ensures c.in-Some.is).place)) c.unit_names.ensures.goes

pub returns-clause-reads : goal.returns-clause-reads
returns-clause-reads c = λ ds hd. finds_last (lexemes c.args.tokens.now) c.args.cursor c.args.cursor _ _ _ (unseen (start (parts.LocalDeclaration locals.Use (lexeme c.args.tokens.now.source c.args.first) ds) _) (absent (word words.Type) (lexeme c.args.tokens.now.source) (lexemes c.args.tokens.now) c.args.cursor c.in_ok-behind_keyword.ensures c.in_default.is)) (omega arith) refl (c.unit_names-2.ensures.reads _ hd)

pub returns-clause-goes : goal.returns-clause-goes
returns-clause-goes c = goes_on (lexemes c.args.tokens.now) c.args.cursor c.args.cursor _ (omega arith) c.unit_names-2.ensures.goes
