use Rattle.std.proofs.Common.{refl, arith}
use Rattle.ada_tree.specs.declared.token.Mark.TheVariants as marks
use Rattle.ada_tree.specs.declared.words.Reserved.TheVariants as words
use Rattle.ada_grammar.specs.declared.tokens.Class.TheVariants as classes
use Rattle.ada_grammar.specs.Lexemes.{lexeme, lexemes}
use Rattle.ada_grammar.specs.Parts as parts
use Rattle.ada_grammar.specs.Parts.{mark, word, Gives, Call, Rest}
use Rattle.ada_grammar.proofs.Steps.{start, seen, unseen, done}
use Rattle.ada_grammar.proofs.Answering.{passes_here, misses_here, refuses}
use Rattle.ada_grammar.proofs.Joining.{absent, present, fault_found, found}
use Rattle.ada_grammar.proofs.Standing.{grows_on, holds_on}
use Rattle.ada_stmts.proofs.statements.exit_statement.Goals as goal

pub returns-in_err-name-clause-reads : goal.returns-in_err-name-clause-reads
returns-in_err-name-clause-reads c = λ ds hd. fault_found (parts.Exit (lexeme c.args.tokens.now.source c.args.first) ds) (lexemes c.args.tokens.now) c.args.cursor _ _ _ _ (passes_here (lexemes c.args.tokens.now) c.args.cursor c.args.cursor classes.Word _ (start (parts.Exit (lexeme c.args.tokens.now.source c.args.first) ds) _) (λ t. refl) c.in_err-name.ensures) c.from_residual.ensures.1

pub returns-in_err-behind_keyword-clause-reads : goal.returns-in_err-behind_keyword-clause-reads
returns-in_err-behind_keyword-clause-reads c = λ ds hd. fault_found (parts.Exit (lexeme c.args.tokens.now.source c.args.first) ds) (lexemes c.args.tokens.now) c.args.cursor _ _ _ _ (passes_here (lexemes c.args.tokens.now) c.args.cursor c.in-Some.next (word words.When) _ (seen (start (parts.Exit (lexeme c.args.tokens.now.source c.args.first) ds) _) (present classes.Word (lexeme c.args.tokens.now.source) (lexemes c.args.tokens.now) c.args.cursor c.in_ok-name.ensures c.in-Some.is).takes refl) (λ t. refl) c.in_err-behind_keyword.ensures) c.from_residual-in_err-behind_keyword.ensures.1

pub returns-in_err-behind_value-clause-reads : goal.returns-in_err-behind_value-clause-reads
returns-in_err-behind_value-clause-reads c = λ ds hd. fault_found (parts.Exit (lexeme c.args.tokens.now.source c.args.first) ds) (lexemes c.args.tokens.now) c.args.cursor _ _ _ _ (refuses (lexemes c.args.tokens.now) c.args.cursor c.in-Some-2.behind_keyword _ (seen (seen (start (parts.Exit (lexeme c.args.tokens.now.source c.args.first) ds) _) (present classes.Word (lexeme c.args.tokens.now.source) (lexemes c.args.tokens.now) c.args.cursor c.in_ok-name.ensures c.in-Some.is).takes refl) (present (word words.When) (lexeme c.args.tokens.now.source) (lexemes c.args.tokens.now) c.in-Some.next c.in_ok-behind_keyword.ensures c.in-Some-2.is).takes refl) (λ b. refl) (c.in_err-behind_value.ensures.reads _ (c.in_ok-add_end_name.ensures.builds _ (c.new-own.ensures _ hd.ordered)))) c.from_residual-in_err-behind_value.ensures.1

pub returns-in_err-behind_value-clause-grows : goal.returns-in_err-behind_value-clause-grows
returns-in_err-behind_value-clause-grows c = (grows_on c.in_ok-add_end_name.ensures.grows c.in_err-behind_value.ensures.grows)

pub returns-in_err-behind_end-clause-reads : goal.returns-in_err-behind_end-clause-reads
returns-in_err-behind_end-clause-reads c = λ ds hd. let f1 = c.in_ok-behind_value.ensures.reads _ (c.in_ok-add_end_name.ensures.builds _ (c.new-own.ensures _ hd.ordered)) in fault_found (parts.Exit (lexeme c.args.tokens.now.source c.args.first) ds) (lexemes c.args.tokens.now) c.args.cursor _ _ _ _ (misses_here (lexemes c.args.tokens.now) c.args.cursor c.in_ok-behind_value.behind_value (mark marks.Semicolon) _ c.in_ok-behind_value.ensures.goes.ends (done (seen (seen (start (parts.Exit (lexeme c.args.tokens.now.source c.args.first) ds) _) (present classes.Word (lexeme c.args.tokens.now.source) (lexemes c.args.tokens.now) c.args.cursor c.in_ok-name.ensures c.in-Some.is).takes refl) (present (word words.When) (lexeme c.args.tokens.now.source) (lexemes c.args.tokens.now) c.in-Some.next c.in_ok-behind_keyword.ensures c.in-Some-2.is).takes refl) f1.reads (λ b. refl)) refl (λ t. refl) c.in_err-behind_end.ensures) c.from_residual-in_err-behind_end.ensures.1

pub returns-in_err-behind_end-clause-grows : goal.returns-in_err-behind_end-clause-grows
returns-in_err-behind_end-clause-grows c = (grows_on c.in_ok-add_end_name.ensures.grows c.in_ok-behind_value.ensures.grows)

pub returns-in_err-add_statement-clause-grows : goal.returns-in_err-add_statement-clause-grows
returns-in_err-add_statement-clause-grows c = (grows_on (grows_on c.in_ok-add_end_name.ensures.grows c.in_ok-behind_value.ensures.grows) c.in_err-add_statement.ensures.grows)

pub returns-in-Some-2-clause-reads : goal.returns-in-Some-2-clause-reads
returns-in-Some-2-clause-reads c = λ ds hd. let b1 = c.in_ok-add_end_name.ensures.builds _ (c.new-own.ensures _ hd.ordered) in let f1 = c.in_ok-behind_value.ensures.reads _ b1 in found (lexemes c.args.tokens.now) c.args.cursor c.in_ok-behind_end.behind_end (c.in_ok-add_statement.ensures.builds _ _ f1.holds (holds_on f1.holds.ordered c.in_ok-behind_value.ensures.grows (holds_on b1.ordered c.in_ok-add_end_name.ensures.grows hd))) (omega (arith, (present classes.Word (lexeme c.args.tokens.now.source) (lexemes c.args.tokens.now) c.args.cursor c.in_ok-name.ensures c.in-Some.is).place, (present (word words.When) (lexeme c.args.tokens.now.source) (lexemes c.args.tokens.now) c.in-Some.next c.in_ok-behind_keyword.ensures c.in-Some-2.is).place, c.in_ok-behind_value.ensures.goes.forward, c.in_ok-behind_end.ensures.place)) (omega (arith, c.in_ok-behind_end.ensures.place, c.in_ok-behind_end.ensures.within)) (seen (done (seen (seen (start (parts.Exit (lexeme c.args.tokens.now.source c.args.first) ds) _) (present classes.Word (lexeme c.args.tokens.now.source) (lexemes c.args.tokens.now) c.args.cursor c.in_ok-name.ensures c.in-Some.is).takes refl) (present (word words.When) (lexeme c.args.tokens.now.source) (lexemes c.args.tokens.now) c.in-Some.next c.in_ok-behind_keyword.ensures c.in-Some-2.is).takes refl) f1.reads (λ b. refl)) c.in_ok-behind_end.ensures.takes refl)

pub returns-in-Some-2-clause-goes : goal.returns-in-Some-2-clause-goes
returns-in-Some-2-clause-goes c = record { forward = omega (arith, (present classes.Word (lexeme c.args.tokens.now.source) (lexemes c.args.tokens.now) c.args.cursor c.in_ok-name.ensures c.in-Some.is).place, (present (word words.When) (lexeme c.args.tokens.now.source) (lexemes c.args.tokens.now) c.in-Some.next c.in_ok-behind_keyword.ensures c.in-Some-2.is).place, c.in_ok-behind_value.ensures.goes.forward, c.in_ok-behind_end.ensures.place); ends = (omega (arith, c.in_ok-behind_end.ensures.place, c.in_ok-behind_end.ensures.within)) }

pub returns-in-Some-2-clause-grows : goal.returns-in-Some-2-clause-grows
returns-in-Some-2-clause-grows c = (grows_on (grows_on c.in_ok-add_end_name.ensures.grows c.in_ok-behind_value.ensures.grows) c.in_ok-add_statement.ensures.grows)

pub returns-in_err-behind_end_2-clause-reads : goal.returns-in_err-behind_end_2-clause-reads
returns-in_err-behind_end_2-clause-reads c = λ ds hd. fault_found (parts.Exit (lexeme c.args.tokens.now.source c.args.first) ds) (lexemes c.args.tokens.now) c.args.cursor _ _ _ _ (misses_here (lexemes c.args.tokens.now) c.args.cursor c.in-Some.next (mark marks.Semicolon) _ (omega (arith, (present classes.Word (lexeme c.args.tokens.now.source) (lexemes c.args.tokens.now) c.args.cursor c.in_ok-name.ensures c.in-Some.is).place, (present classes.Word (lexeme c.args.tokens.now.source) (lexemes c.args.tokens.now) c.args.cursor c.in_ok-name.ensures c.in-Some.is).within)) (unseen (seen (start (parts.Exit (lexeme c.args.tokens.now.source c.args.first) ds) _) (present classes.Word (lexeme c.args.tokens.now.source) (lexemes c.args.tokens.now) c.args.cursor c.in_ok-name.ensures c.in-Some.is).takes refl) (absent (word words.When) (lexeme c.args.tokens.now.source) (lexemes c.args.tokens.now) c.in-Some.next c.in_ok-behind_keyword.ensures c.in_default-2.is)) refl (λ t. refl) c.in_err-behind_end_2.ensures) c.from_residual-in_err-behind_end_2.ensures.1

pub returns-in_err-add_statement-2-clause-grows : goal.returns-in_err-add_statement-2-clause-grows
returns-in_err-add_statement-2-clause-grows c = (grows_on c.in_ok-add_end_name.ensures.grows c.in_err-add_statement-2.ensures.grows)

pub returns-in-Some-clause-reads : goal.returns-in-Some-clause-reads
returns-in-Some-clause-reads c = λ ds hd. let b1 = c.in_ok-add_end_name.ensures.builds _ (c.new-own.ensures _ hd.ordered) in found (lexemes c.args.tokens.now) c.args.cursor c.in_ok-behind_end_2.behind_end_2 (c.in_ok-add_statement-2.ensures.builds _ _ b1 (holds_on b1.ordered c.in_ok-add_end_name.ensures.grows hd)) (omega (arith, (present classes.Word (lexeme c.args.tokens.now.source) (lexemes c.args.tokens.now) c.args.cursor c.in_ok-name.ensures c.in-Some.is).place, c.in_ok-behind_end_2.ensures.place)) (omega (arith, c.in_ok-behind_end_2.ensures.place, c.in_ok-behind_end_2.ensures.within)) (seen (unseen (seen (start (parts.Exit (lexeme c.args.tokens.now.source c.args.first) ds) _) (present classes.Word (lexeme c.args.tokens.now.source) (lexemes c.args.tokens.now) c.args.cursor c.in_ok-name.ensures c.in-Some.is).takes refl) (absent (word words.When) (lexeme c.args.tokens.now.source) (lexemes c.args.tokens.now) c.in-Some.next c.in_ok-behind_keyword.ensures c.in_default-2.is)) c.in_ok-behind_end_2.ensures.takes refl)

pub returns-in-Some-clause-goes : goal.returns-in-Some-clause-goes
returns-in-Some-clause-goes c = record { forward = omega (arith, (present classes.Word (lexeme c.args.tokens.now.source) (lexemes c.args.tokens.now) c.args.cursor c.in_ok-name.ensures c.in-Some.is).place, c.in_ok-behind_end_2.ensures.place); ends = (omega (arith, c.in_ok-behind_end_2.ensures.place, c.in_ok-behind_end_2.ensures.within)) }

pub returns-in-Some-clause-grows : goal.returns-in-Some-clause-grows
returns-in-Some-clause-grows c = (grows_on c.in_ok-add_end_name.ensures.grows c.in_ok-add_statement-2.ensures.grows)

pub returns-in_err-behind_keyword_2-clause-reads : goal.returns-in_err-behind_keyword_2-clause-reads
returns-in_err-behind_keyword_2-clause-reads c = λ ds hd. fault_found (parts.Exit (lexeme c.args.tokens.now.source c.args.first) ds) (lexemes c.args.tokens.now) c.args.cursor _ _ _ _ (passes_here (lexemes c.args.tokens.now) c.args.cursor c.args.cursor (word words.When) _ (unseen (start (parts.Exit (lexeme c.args.tokens.now.source c.args.first) ds) _) (absent classes.Word (lexeme c.args.tokens.now.source) (lexemes c.args.tokens.now) c.args.cursor c.in_ok-name.ensures c.in_default.is)) (λ t. refl) c.in_err-behind_keyword_2.ensures) c.from_residual-in_err-behind_keyword_2.ensures.1

pub returns-in_err-behind_value_2-clause-reads : goal.returns-in_err-behind_value_2-clause-reads
returns-in_err-behind_value_2-clause-reads c = λ ds hd. fault_found (parts.Exit (lexeme c.args.tokens.now.source c.args.first) ds) (lexemes c.args.tokens.now) c.args.cursor _ _ _ _ (refuses (lexemes c.args.tokens.now) c.args.cursor c.in-Some-3.behind_keyword_2 _ (seen (unseen (start (parts.Exit (lexeme c.args.tokens.now.source c.args.first) ds) _) (absent classes.Word (lexeme c.args.tokens.now.source) (lexemes c.args.tokens.now) c.args.cursor c.in_ok-name.ensures c.in_default.is)) (present (word words.When) (lexeme c.args.tokens.now.source) (lexemes c.args.tokens.now) c.args.cursor c.in_ok-behind_keyword_2.ensures c.in-Some-3.is).takes refl) (λ b. refl) (c.in_err-behind_value_2.ensures.reads _ (c.new-own.ensures _ hd.ordered))) c.from_residual-in_err-behind_value_2.ensures.1

pub returns-in_err-behind_end_3-clause-reads : goal.returns-in_err-behind_end_3-clause-reads
returns-in_err-behind_end_3-clause-reads c = λ ds hd. let f1 = c.in_ok-behind_value_2.ensures.reads _ (c.new-own.ensures _ hd.ordered) in fault_found (parts.Exit (lexeme c.args.tokens.now.source c.args.first) ds) (lexemes c.args.tokens.now) c.args.cursor _ _ _ _ (misses_here (lexemes c.args.tokens.now) c.args.cursor c.in_ok-behind_value_2.behind_value_2 (mark marks.Semicolon) _ c.in_ok-behind_value_2.ensures.goes.ends (done (seen (unseen (start (parts.Exit (lexeme c.args.tokens.now.source c.args.first) ds) _) (absent classes.Word (lexeme c.args.tokens.now.source) (lexemes c.args.tokens.now) c.args.cursor c.in_ok-name.ensures c.in_default.is)) (present (word words.When) (lexeme c.args.tokens.now.source) (lexemes c.args.tokens.now) c.args.cursor c.in_ok-behind_keyword_2.ensures c.in-Some-3.is).takes refl) f1.reads (λ b. refl)) refl (λ t. refl) c.in_err-behind_end_3.ensures) c.from_residual-in_err-behind_end_3.ensures.1

pub returns-in_err-add_statement-3-clause-grows : goal.returns-in_err-add_statement-3-clause-grows
returns-in_err-add_statement-3-clause-grows c = (grows_on c.in_ok-behind_value_2.ensures.grows c.in_err-add_statement-3.ensures.grows)

pub returns-in-Some-3-clause-reads : goal.returns-in-Some-3-clause-reads
returns-in-Some-3-clause-reads c = λ ds hd. let f1 = c.in_ok-behind_value_2.ensures.reads _ (c.new-own.ensures _ hd.ordered) in found (lexemes c.args.tokens.now) c.args.cursor c.in_ok-behind_end_3.behind_end_3 (c.in_ok-add_statement-3.ensures.builds _ _ f1.holds (holds_on f1.holds.ordered c.in_ok-behind_value_2.ensures.grows hd)) (omega (arith, (present (word words.When) (lexeme c.args.tokens.now.source) (lexemes c.args.tokens.now) c.args.cursor c.in_ok-behind_keyword_2.ensures c.in-Some-3.is).place, c.in_ok-behind_value_2.ensures.goes.forward, c.in_ok-behind_end_3.ensures.place)) (omega (arith, c.in_ok-behind_end_3.ensures.place, c.in_ok-behind_end_3.ensures.within)) (seen (done (seen (unseen (start (parts.Exit (lexeme c.args.tokens.now.source c.args.first) ds) _) (absent classes.Word (lexeme c.args.tokens.now.source) (lexemes c.args.tokens.now) c.args.cursor c.in_ok-name.ensures c.in_default.is)) (present (word words.When) (lexeme c.args.tokens.now.source) (lexemes c.args.tokens.now) c.args.cursor c.in_ok-behind_keyword_2.ensures c.in-Some-3.is).takes refl) f1.reads (λ b. refl)) c.in_ok-behind_end_3.ensures.takes refl)

pub returns-in-Some-3-clause-goes : goal.returns-in-Some-3-clause-goes
returns-in-Some-3-clause-goes c = record { forward = omega (arith, (present (word words.When) (lexeme c.args.tokens.now.source) (lexemes c.args.tokens.now) c.args.cursor c.in_ok-behind_keyword_2.ensures c.in-Some-3.is).place, c.in_ok-behind_value_2.ensures.goes.forward, c.in_ok-behind_end_3.ensures.place); ends = (omega (arith, c.in_ok-behind_end_3.ensures.place, c.in_ok-behind_end_3.ensures.within)) }

pub returns-in-Some-3-clause-grows : goal.returns-in-Some-3-clause-grows
returns-in-Some-3-clause-grows c = (grows_on c.in_ok-behind_value_2.ensures.grows c.in_ok-add_statement-3.ensures.grows)

pub returns-in_err-behind_end_4-clause-reads : goal.returns-in_err-behind_end_4-clause-reads
returns-in_err-behind_end_4-clause-reads c = λ ds hd. fault_found (parts.Exit (lexeme c.args.tokens.now.source c.args.first) ds) (lexemes c.args.tokens.now) c.args.cursor _ _ _ _ (misses_here (lexemes c.args.tokens.now) c.args.cursor c.args.cursor (mark marks.Semicolon) _ c.requires.at (unseen (unseen (start (parts.Exit (lexeme c.args.tokens.now.source c.args.first) ds) _) (absent classes.Word (lexeme c.args.tokens.now.source) (lexemes c.args.tokens.now) c.args.cursor c.in_ok-name.ensures c.in_default.is)) (absent (word words.When) (lexeme c.args.tokens.now.source) (lexemes c.args.tokens.now) c.args.cursor c.in_ok-behind_keyword_2.ensures c.in_default-3.is)) refl (λ t. refl) c.in_err-behind_end_4.ensures) c.from_residual-in_err-behind_end_4.ensures.1

pub returns-clause-reads : goal.returns-clause-reads
returns-clause-reads c = λ ds hd. found (lexemes c.args.tokens.now) c.args.cursor c.in_ok-behind_end_4.behind_end_4 (c.in_ok-add_statement-4.ensures.builds _ _ (c.new-own.ensures _ hd.ordered) hd) (omega (arith, c.in_ok-behind_end_4.ensures.place)) (omega (arith, c.in_ok-behind_end_4.ensures.place, c.in_ok-behind_end_4.ensures.within)) (seen (unseen (unseen (start (parts.Exit (lexeme c.args.tokens.now.source c.args.first) ds) _) (absent classes.Word (lexeme c.args.tokens.now.source) (lexemes c.args.tokens.now) c.args.cursor c.in_ok-name.ensures c.in_default.is)) (absent (word words.When) (lexeme c.args.tokens.now.source) (lexemes c.args.tokens.now) c.args.cursor c.in_ok-behind_keyword_2.ensures c.in_default-3.is)) c.in_ok-behind_end_4.ensures.takes refl)

pub returns-clause-goes : goal.returns-clause-goes
returns-clause-goes c = record { forward = omega (arith, c.in_ok-behind_end_4.ensures.place); ends = (omega (arith, c.in_ok-behind_end_4.ensures.place, c.in_ok-behind_end_4.ensures.within)) }
