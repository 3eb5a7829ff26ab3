use Rattle.std.proofs.Common.{refl, arith}
use Rattle.ada_tree.specs.declared.words.Reserved.TheVariants as words
use Rattle.ada_grammar.specs.Lexemes.{lexemes}
use Rattle.ada_grammar.specs.Parts as parts
use Rattle.ada_grammar.specs.Parts.{mark, word, Gives, Call, Rest}
use Rattle.ada_grammar.proofs.Steps.{start, seen, done}
use Rattle.ada_grammar.proofs.Answering.{misses_here, refuses}
use Rattle.ada_grammar.proofs.Joining.{fault_found, found}
use Rattle.ada_grammar.proofs.Standing.{grows_on}
use Rattle.ada_stmts.proofs.statements.body.Goals as goal

pub returns-in_err-behind_local_declarations-clause-reads : goal.returns-in_err-behind_local_declarations-clause-reads
returns-in_err-behind_local_declarations-clause-reads c = λ ds hd. fault_found (parts.ProperBody ds) (lexemes c.args.tokens.now) c.args.cursor _ _ _ _ (refuses (lexemes c.args.tokens.now) c.args.cursor c.args.cursor _ (start (parts.ProperBody ds) _) (λ b. refl) (c.in_err-behind_local_declarations.ensures.reads _ hd)) c.from_residual.ensures.1

pub returns-in_err-behind_keyword-clause-reads : goal.returns-in_err-behind_keyword-clause-reads
returns-in_err-behind_keyword-clause-reads c = λ ds hd. let f1 = c.in_ok-behind_local_declarations.ensures.reads _ hd in fault_found (parts.ProperBody ds) (lexemes c.args.tokens.now) c.args.cursor _ _ _ _ (misses_here (lexemes c.args.tokens.now) c.args.cursor c.in_ok-behind_local_declarations.behind_local_declarations (word words.Begin) _ c.in_ok-behind_local_declarations.ensures.goes.ends (done (start (parts.ProperBody ds) _) f1.reads (λ b. refl)) refl (λ t. refl) c.in_err-behind_keyword.ensures) c.from_residual-in_err-behind_keyword.ensures.1

pub returns-in_err-behind_statements-clause-reads : goal.returns-in_err-behind_statements-clause-reads
returns-in_err-behind_statements-clause-reads c = λ ds hd. let f1 = c.in_ok-behind_local_declarations.ensures.reads _ hd in fault_found (parts.ProperBody ds) (lexemes c.args.tokens.now) c.args.cursor _ _ _ _ (refuses (lexemes c.args.tokens.now) c.args.cursor c.in_ok-behind_keyword.behind_keyword _ (seen (done (start (parts.ProperBody ds) _) f1.reads (λ b. refl)) c.in_ok-behind_keyword.ensures.takes refl) (λ b. refl) (c.in_err-behind_statements.ensures.reads _ f1.holds)) c.from_residual-in_err-behind_statements.ensures.1

pub returns-in_err-behind_statements-clause-grows : goal.returns-in_err-behind_statements-clause-grows
returns-in_err-behind_statements-clause-grows c = (grows_on c.in_ok-behind_local_declarations.ensures.grows c.in_err-behind_statements.ensures.grows)

pub returns-in_err-behind_end-clause-reads : goal.returns-in_err-behind_end-clause-reads
returns-in_err-behind_end-clause-reads c = λ ds hd. let f1 = c.in_ok-behind_local_declarations.ensures.reads _ hd in let f2 = c.in_ok-behind_statements.ensures.reads _ f1.holds in fault_found (parts.ProperBody ds) (lexemes c.args.tokens.now) c.args.cursor _ _ _ _ (misses_here (lexemes c.args.tokens.now) c.args.cursor c.in_ok-behind_statements.behind_statements (word words.End) _ c.in_ok-behind_statements.ensures.goes.ends (done (seen (done (start (parts.ProperBody ds) _) f1.reads (λ b. refl)) c.in_ok-behind_keyword.ensures.takes refl) f2.reads (λ b. refl)) refl (λ t. refl) c.in_err-behind_end.ensures) c.from_residual-in_err-behind_end.ensures.1

pub returns-in_err-behind_end-clause-grows : goal.returns-in_err-behind_end-clause-grows
returns-in_err-behind_end-clause-grows c = (grows_on c.in_ok-behind_local_declarations.ensures.grows c.in_ok-behind_statements.ensures.grows)

pub returns-clause-reads : goal.returns-clause-reads
returns-clause-reads c = λ ds hd. let f1 = c.in_ok-behind_local_declarations.ensures.reads _ hd in let f2 = c.in_ok-behind_statements.ensures.reads _ f1.holds in found (lexemes c.args.tokens.now) c.args.cursor c.in_ok-behind_end.behind_end f2.holds (omega (arith, c.in_ok-behind_local_declarations.ensures.goes.forward, c.in_ok-behind_keyword.ensures.place, c.in_ok-behind_statements.ensures.goes.forward, c.in_ok-behind_end.ensures.place)) (omega (arith, c.in_ok-behind_end.ensures.place, c.in_ok-behind_end.ensures.within)) (seen (done (seen (done (start (parts.ProperBody ds) _) f1.reads (λ b. refl)) c.in_ok-behind_keyword.ensures.takes refl) f2.reads (λ b. refl)) c.in_ok-behind_end.ensures.takes refl)

pub returns-clause-goes : goal.returns-clause-goes
returns-clause-goes c = record { forward = omega (arith, c.in_ok-behind_local_declarations.ensures.goes.forward, c.in_ok-behind_keyword.ensures.place, c.in_ok-behind_statements.ensures.goes.forward, c.in_ok-behind_end.ensures.place); ends = (omega (arith, c.in_ok-behind_end.ensures.place, c.in_ok-behind_end.ensures.within)) }

pub returns-clause-grows : goal.returns-clause-grows
returns-clause-grows c = (grows_on c.in_ok-behind_local_declarations.ensures.grows c.in_ok-behind_statements.ensures.grows)
