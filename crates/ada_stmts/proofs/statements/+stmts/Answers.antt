use Rattle.std.proofs.Common.{refl, arith, sym, ◌∙◌}
use Rattle.ada_tree.specs.declared.token.Mark.TheVariants as marks
use Rattle.ada_tree.specs.declared.words.Reserved.TheVariants as words
use Rattle.ada_tree.specs.declared.forms.StatementForm.TheVariants as statements
use Rattle.ada_tree.specs.declared.forms.CompoundForm.TheVariants as compounds
use Rattle.ada_grammar.specs.declared.tokens.Class.TheVariants as classes
use Rattle.ada_grammar.specs.Lexemes.{lexeme, lexemes}
use Rattle.ada_grammar.specs.Phrases as phrases
use Rattle.ada_grammar.specs.Parts as parts
use Rattle.ada_grammar.specs.Parts.{mark, word, Gives, Call, Rest}
use Rattle.ada_grammar.proofs.Steps.{start, opened, seen, unseen, done}
use Rattle.ada_grammar.proofs.Answering.{passes_here, misses_here, refuses}
use Rattle.ada_grammar.proofs.Joining.{absent, present, fault_found, found, finds_last, goes_on, of_form}
use Rattle.ada_grammar.proofs.Standing.{grows_on, holds_on}
use Rattle.ada_stmts.proofs.Passing.{passes_over, goes_over}
use Rattle.ada_stmts.proofs.statements.+stmts.Goals as goal

pub statements-returns-in_err-first-clause-reads : goal.statements-returns-in_err-first-clause-reads
statements-returns-in_err-first-clause-reads t c = λ ds hd. fault_found (parts.Statements ds) (lexemes c.args.tokens.now) c.args.cursor _ _ _ _ (misses_here (lexemes c.args.tokens.now) c.args.cursor c.args.cursor classes.Statement _ c.requires.at (start (parts.Statements ds) _) refl (λ t. refl) c.in_err-first.ensures) c.from_residual.ensures.1

pub statements-returns-in_err-next-clause-reads : goal.statements-returns-in_err-next-clause-reads
statements-returns-in_err-next-clause-reads t c = λ ds hd. fault_found (parts.Statements ds) (lexemes c.args.tokens.now) c.args.cursor _ _ _ _ (refuses (lexemes c.args.tokens.now) c.args.cursor c.in_ok-first.behind_first _ (seen (start (parts.Statements ds) _) c.in_ok-first.ensures.takes refl) (λ b. refl) (c.in_err-next.ensures.reads _ (c.new-own.ensures _ hd.ordered))) c.from_residual-in_err-next.ensures.1

pub statements-loop-own-init : goal.statements-loop-own-init
statements-loop-own-init t c = record { forward = omega (arith, c.in_ok-first.ensures.place, c.in_ok-next.ensures.goes.forward); ends = c.in_ok-next.ensures.goes.ends; grows = c.in_ok-next.ensures.grows; awaits = λ ds hd. let f1 = c.in_ok-next.ensures.reads _ (c.new-own.ensures _ hd.ordered) in (f1.children, f1.holds, (holds_on f1.holds.ordered c.in_ok-next.ensures.grows hd), (done (seen (start (parts.Statements ds) _) c.in_ok-first.ensures.takes refl) f1.reads (λ b. refl))) }

pub statements-returns-in_err-further-clause-reads : goal.statements-returns-in_err-further-clause-reads
statements-returns-in_err-further-clause-reads t c = λ ds hd. let y = c.loop-own.invariant.awaits ds hd in fault_found (parts.Statements ds) (lexemes c.args.tokens.now) c.args.cursor _ _ _ _ (passes_here (lexemes c.args.tokens.now) c.args.cursor c.loop-own.next classes.Statement _ (opened y.3) (λ t. refl) c.in_err-further.ensures) c.from_residual-in_err-further.ensures.1

pub statements-returns-in_err-next-2-clause-reads : goal.statements-returns-in_err-next-2-clause-reads
statements-returns-in_err-next-2-clause-reads t c = λ ds hd. let y = c.loop-own.invariant.awaits ds hd in fault_found (parts.Statements ds) (lexemes c.args.tokens.now) c.args.cursor _ _ _ _ (refuses (lexemes c.args.tokens.now) c.args.cursor c.in-Some.behind_further _ (seen (opened y.3) (present classes.Statement (lexeme c.args.tokens.now.source) (lexemes c.args.tokens.now) c.loop-own.next c.in_ok-further.ensures c.in-Some.is).takes refl) (λ b. refl) (c.in_err-next-2.ensures.reads _ y.1)) c.from_residual-in_err-next-2.ensures.1

pub statements-returns-in_err-next-2-clause-grows : goal.statements-returns-in_err-next-2-clause-grows
statements-returns-in_err-next-2-clause-grows t c = (grows_on c.loop-own.invariant.grows c.in_err-next-2.ensures.grows)

pub statements-loop-own-preserved : goal.statements-loop-own-preserved
statements-loop-own-preserved t c = record { forward = omega (arith, c.loop-own.invariant.forward, (present classes.Statement (lexeme c.args.tokens.now.source) (lexemes c.args.tokens.now) c.loop-own.next c.in_ok-further.ensures c.in-Some.is).place, c.in_ok-next-2.ensures.goes.forward); ends = c.in_ok-next-2.ensures.goes.ends; grows = (grows_on c.loop-own.invariant.grows c.in_ok-next-2.ensures.grows); awaits = λ ds hd. let y = c.loop-own.invariant.awaits ds hd in let f2 = c.in_ok-next-2.ensures.reads _ y.1 in (f2.children, f2.holds, (holds_on f2.holds.ordered c.in_ok-next-2.ensures.grows y.2), (done (seen (opened y.3) (present classes.Statement (lexeme c.args.tokens.now.source) (lexemes c.args.tokens.now) c.loop-own.next c.in_ok-further.ensures c.in-Some.is).takes refl) f2.reads (λ b. refl))) }

pub statements-loop-own-smaller : goal.statements-loop-own-smaller
statements-loop-own-smaller t c = omega (arith, (present classes.Statement (lexeme c.args.tokens.now.source) (lexemes c.args.tokens.now) c.loop-own.next c.in_ok-further.ensures c.in-Some.is).place, c.in_ok-next-2.ensures.goes.forward, (present classes.Statement (lexeme c.args.tokens.now.source) (lexemes c.args.tokens.now) c.loop-own.next c.in_ok-further.ensures c.in-Some.is).within)

pub statements-returns-in_err-add_statement-clause-grows : goal.statements-returns-in_err-add_statement-clause-grows
statements-returns-in_err-add_statement-clause-grows t c = (grows_on c.loop-own.invariant.grows c.in_err-add_statement.ensures.grows)

pub statements-returns-clause-reads : goal.statements-returns-clause-reads
statements-returns-clause-reads t c = λ ds hd. let y = c.loop-own.invariant.awaits ds hd in found (lexemes c.args.tokens.now) c.args.cursor c.loop-own.next (c.in_ok-add_statement.ensures.builds _ _ y.1 y.2) (omega (arith, c.loop-own.invariant.forward)) c.loop-own.invariant.ends (unseen (opened y.3) (absent classes.Statement (lexeme c.args.tokens.now.source) (lexemes c.args.tokens.now) c.loop-own.next c.in_ok-further.ensures c.in_default.is))

pub statements-returns-clause-goes : goal.statements-returns-clause-goes
statements-returns-clause-goes t c = record { forward = omega (arith, c.loop-own.invariant.forward); ends = c.loop-own.invariant.ends }

pub statements-returns-clause-grows : goal.statements-returns-clause-grows
statements-returns-clause-grows t c = (grows_on c.loop-own.invariant.grows c.in_ok-add_statement.ensures.grows)

pub statement-returns-in-Null-clause-reads : goal.statement-returns-in-Null-clause-reads
statement-returns-in-Null-clause-reads t c = λ ds hd. of_form (λ z. (parts.Statement z (lexeme c.args.tokens.now.source c.args.first) ds)) (lexemes c.args.tokens.now) c.args.cursor _ _ _ (sym c.statement_form.ensures ∙ c.in-Null.is) (c.null_statement.ensures.reads _ hd)

pub statement-returns-in-Null-clause-goes : goal.statement-returns-in-Null-clause-goes
statement-returns-in-Null-clause-goes t c = c.null_statement.ensures.goes

pub statement-returns-in-Pragma-clause-reads : goal.statement-returns-in-Pragma-clause-reads
statement-returns-in-Pragma-clause-reads t c = λ ds hd. of_form (λ z. (parts.Statement z (lexeme c.args.tokens.now.source c.args.first) ds)) (lexemes c.args.tokens.now) c.args.cursor _ _ _ (sym c.statement_form.ensures ∙ c.in-Pragma.is) (passes_over (lexemes c.args.tokens.now) c.args.cursor c.args.cursor _ _ ds _ (start (parts.Statement statements.Pragma (lexeme c.args.tokens.now.source c.args.first) ds) _) (omega arith) (λ b. refl) hd c.pragma.ensures)

pub statement-returns-in-Pragma-clause-goes : goal.statement-returns-in-Pragma-clause-goes
statement-returns-in-Pragma-clause-goes t c = goes_over parts.Pragma (lexemes c.args.tokens.now) c.args.cursor _ c.pragma.ensures

pub statement-returns-in-Named-clause-reads : goal.statement-returns-in-Named-clause-reads
statement-returns-in-Named-clause-reads t c = λ ds hd. of_form (λ z. (parts.Statement z (lexeme c.args.tokens.now.source c.args.first) ds)) (lexemes c.args.tokens.now) c.args.cursor _ _ _ (sym c.statement_form.ensures ∙ c.in-Named.is) (finds_last (lexemes c.args.tokens.now) c.args.cursor c.args.cursor _ _ _ (start (parts.Statement statements.Named (lexeme c.args.tokens.now.source c.args.first) ds) _) (omega arith) refl (c.named_statement.ensures.reads _ hd))

pub statement-returns-in-Named-clause-goes : goal.statement-returns-in-Named-clause-goes
statement-returns-in-Named-clause-goes t c = goes_on (lexemes c.args.tokens.now) c.args.cursor c.args.cursor _ (omega arith) c.named_statement.ensures.goes

pub statement-returns-in-If-clause-reads : goal.statement-returns-in-If-clause-reads
statement-returns-in-If-clause-reads t c = λ ds hd. of_form (λ z. (parts.Statement z (lexeme c.args.tokens.now.source c.args.first) ds)) (lexemes c.args.tokens.now) c.args.cursor _ _ _ (sym c.statement_form.ensures ∙ c.in-If.is) (finds_last (lexemes c.args.tokens.now) c.args.cursor c.args.cursor _ _ _ (start (parts.Statement statements.If (lexeme c.args.tokens.now.source c.args.first) ds) _) (omega arith) refl (c.if_statement.ensures.reads _ hd))

pub statement-returns-in-If-clause-goes : goal.statement-returns-in-If-clause-goes
statement-returns-in-If-clause-goes t c = goes_on (lexemes c.args.tokens.now) c.args.cursor c.args.cursor _ (omega arith) c.if_statement.ensures.goes

pub statement-returns-in-Case-clause-reads : goal.statement-returns-in-Case-clause-reads
statement-returns-in-Case-clause-reads t c = λ ds hd. of_form (λ z. (parts.Statement z (lexeme c.args.tokens.now.source c.args.first) ds)) (lexemes c.args.tokens.now) c.args.cursor _ _ _ (sym c.statement_form.ensures ∙ c.in-Case.is) (finds_last (lexemes c.args.tokens.now) c.args.cursor c.args.cursor _ _ _ (start (parts.Statement statements.Case (lexeme c.args.tokens.now.source c.args.first) ds) _) (omega arith) refl (c.case_statement.ensures.reads _ hd))

pub statement-returns-in-Case-clause-goes : goal.statement-returns-in-Case-clause-goes
statement-returns-in-Case-clause-goes t c = goes_on (lexemes c.args.tokens.now) c.args.cursor c.args.cursor _ (omega arith) c.case_statement.ensures.goes

pub statement-returns-in-While-clause-reads : goal.statement-returns-in-While-clause-reads
statement-returns-in-While-clause-reads t c = λ ds hd. of_form (λ z. (parts.Statement z (lexeme c.args.tokens.now.source c.args.first) ds)) (lexemes c.args.tokens.now) c.args.cursor _ _ _ (sym c.statement_form.ensures ∙ c.in-While.is) (finds_last (lexemes c.args.tokens.now) c.args.cursor c.args.cursor _ _ _ (start (parts.Statement statements.While (lexeme c.args.tokens.now.source c.args.first) ds) _) (omega arith) refl (c.while_loop.ensures.reads _ _ (c.new.ensures _ hd.ordered) hd))

pub statement-returns-in-While-clause-goes : goal.statement-returns-in-While-clause-goes
statement-returns-in-While-clause-goes t c = goes_on (lexemes c.args.tokens.now) c.args.cursor c.args.cursor _ (omega arith) c.while_loop.ensures.goes

pub statement-returns-in-For-clause-reads : goal.statement-returns-in-For-clause-reads
statement-returns-in-For-clause-reads t c = λ ds hd. of_form (λ z. (parts.Statement z (lexeme c.args.tokens.now.source c.args.first) ds)) (lexemes c.args.tokens.now) c.args.cursor _ _ _ (sym c.statement_form.ensures ∙ c.in-For.is) (finds_last (lexemes c.args.tokens.now) c.args.cursor c.args.cursor _ _ _ (start (parts.Statement statements.For (lexeme c.args.tokens.now.source c.args.first) ds) _) (omega arith) refl (c.for_loop.ensures.reads _ _ (c.new-in-For.ensures _ hd.ordered) hd))

pub statement-returns-in-For-clause-goes : goal.statement-returns-in-For-clause-goes
statement-returns-in-For-clause-goes t c = goes_on (lexemes c.args.tokens.now) c.args.cursor c.args.cursor _ (omega arith) c.for_loop.ensures.goes

pub statement-returns-in-Loop-clause-reads : goal.statement-returns-in-Loop-clause-reads
statement-returns-in-Loop-clause-reads t c = λ ds hd. of_form (λ z. (parts.Statement z (lexeme c.args.tokens.now.source c.args.first) ds)) (lexemes c.args.tokens.now) c.args.cursor _ _ _ (sym c.statement_form.ensures ∙ c.in-Loop.is) (finds_last (lexemes c.args.tokens.now) c.args.cursor c.args.cursor _ _ _ (start (parts.Statement statements.Loop (lexeme c.args.tokens.now.source c.args.first) ds) _) (omega arith) refl (c.loop_body.ensures.reads _ _ (c.new-in-Loop.ensures _ hd.ordered) hd))

pub statement-returns-in-Loop-clause-goes : goal.statement-returns-in-Loop-clause-goes
statement-returns-in-Loop-clause-goes t c = goes_on (lexemes c.args.tokens.now) c.args.cursor c.args.cursor _ (omega arith) c.loop_body.ensures.goes

pub statement-returns-in-Declare-clause-reads : goal.statement-returns-in-Declare-clause-reads
statement-returns-in-Declare-clause-reads t c = λ ds hd. of_form (λ z. (parts.Statement z (lexeme c.args.tokens.now.source c.args.first) ds)) (lexemes c.args.tokens.now) c.args.cursor _ _ _ (sym c.statement_form.ensures ∙ c.in-Declare.is) (finds_last (lexemes c.args.tokens.now) c.args.cursor c.args.cursor _ _ _ (start (parts.Statement statements.Declare (lexeme c.args.tokens.now.source c.args.first) ds) _) (omega arith) refl (c.declare_block.ensures.reads _ _ (c.new-in-Declare.ensures _ hd.ordered) hd))

pub statement-returns-in-Declare-clause-goes : goal.statement-returns-in-Declare-clause-goes
statement-returns-in-Declare-clause-goes t c = goes_on (lexemes c.args.tokens.now) c.args.cursor c.args.cursor _ (omega arith) c.declare_block.ensures.goes

pub statement-returns-in-Begin-clause-reads : goal.statement-returns-in-Begin-clause-reads
statement-returns-in-Begin-clause-reads t c = λ ds hd. of_form (λ z. (parts.Statement z (lexeme c.args.tokens.now.source c.args.first) ds)) (lexemes c.args.tokens.now) c.args.cursor _ _ _ (sym c.statement_form.ensures ∙ c.in-Begin.is) (finds_last (lexemes c.args.tokens.now) c.args.cursor c.args.cursor _ _ _ (start (parts.Statement statements.Begin (lexeme c.args.tokens.now.source c.args.first) ds) _) (omega arith) refl (c.block_body.ensures.reads _ _ (c.new-in-Begin.ensures _ hd.ordered) hd))

pub statement-returns-in-Begin-clause-goes : goal.statement-returns-in-Begin-clause-goes
statement-returns-in-Begin-clause-goes t c = goes_on (lexemes c.args.tokens.now) c.args.cursor c.args.cursor _ (omega arith) c.block_body.ensures.goes

pub statement-returns-in-Exit-clause-reads : goal.statement-returns-in-Exit-clause-reads
statement-returns-in-Exit-clause-reads t c = λ ds hd. of_form (λ z. (parts.Statement z (lexeme c.args.tokens.now.source c.args.first) ds)) (lexemes c.args.tokens.now) c.args.cursor _ _ _ (sym c.statement_form.ensures ∙ c.in-Exit.is) (finds_last (lexemes c.args.tokens.now) c.args.cursor c.args.cursor _ _ _ (start (parts.Statement statements.Exit (lexeme c.args.tokens.now.source c.args.first) ds) _) (omega arith) refl (c.exit_statement.ensures.reads _ hd))

pub statement-returns-in-Exit-clause-goes : goal.statement-returns-in-Exit-clause-goes
statement-returns-in-Exit-clause-goes t c = goes_on (lexemes c.args.tokens.now) c.args.cursor c.args.cursor _ (omega arith) c.exit_statement.ensures.goes

pub statement-returns-in-Return-clause-reads : goal.statement-returns-in-Return-clause-reads
statement-returns-in-Return-clause-reads t c = λ ds hd. of_form (λ z. (parts.Statement z (lexeme c.args.tokens.now.source c.args.first) ds)) (lexemes c.args.tokens.now) c.args.cursor _ _ _ (sym c.statement_form.ensures ∙ c.in-Return.is) (finds_last (lexemes c.args.tokens.now) c.args.cursor c.args.cursor _ _ _ (start (parts.Statement statements.Return (lexeme c.args.tokens.now.source c.args.first) ds) _) (omega arith) refl (c.return_statement.ensures.reads _ hd))

pub statement-returns-in-Return-clause-goes : goal.statement-returns-in-Return-clause-goes
statement-returns-in-Return-clause-goes t c = goes_on (lexemes c.args.tokens.now) c.args.cursor c.args.cursor _ (omega arith) c.return_statement.ensures.goes

pub statement-returns-in-Delay-clause-reads : goal.statement-returns-in-Delay-clause-reads
statement-returns-in-Delay-clause-reads t c = λ ds hd. of_form (λ z. (parts.Statement z (lexeme c.args.tokens.now.source c.args.first) ds)) (lexemes c.args.tokens.now) c.args.cursor _ _ _ (sym c.statement_form.ensures ∙ c.in-Delay.is) (c.delay_statement.ensures.reads _ hd)

pub statement-returns-in-Delay-clause-goes : goal.statement-returns-in-Delay-clause-goes
statement-returns-in-Delay-clause-goes t c = c.delay_statement.ensures.goes

pub named_statement-returns-in_err-behind_colon-clause-reads : goal.named_statement-returns-in_err-behind_colon-clause-reads
named_statement-returns-in_err-behind_colon-clause-reads t c = λ ds hd. fault_found (parts.NamedStatement (lexeme c.args.tokens.now.source c.args.first) ds) (lexemes c.args.tokens.now) c.args.cursor _ _ _ _ (passes_here (lexemes c.args.tokens.now) c.args.cursor c.args.cursor (mark marks.Colon) _ (start (parts.NamedStatement (lexeme c.args.tokens.now.source c.args.first) ds) _) (λ t. refl) c.in_err-behind_colon.ensures) c.from_residual.ensures.1

pub named_statement-returns-in_err-keyword-clause-reads : goal.named_statement-returns-in_err-keyword-clause-reads
named_statement-returns-in_err-keyword-clause-reads t c = λ ds hd. fault_found (parts.NamedStatement (lexeme c.args.tokens.now.source c.args.first) ds) (lexemes c.args.tokens.now) c.args.cursor _ _ _ _ (misses_here (lexemes c.args.tokens.now) c.args.cursor c.in-Some.behind_colon classes.Compound _ (omega (arith, (present (mark marks.Colon) (lexeme c.args.tokens.now.source) (lexemes c.args.tokens.now) c.args.cursor c.in_ok-behind_colon.ensures c.in-Some.is).place, (present (mark marks.Colon) (lexeme c.args.tokens.now.source) (lexemes c.args.tokens.now) c.args.cursor c.in_ok-behind_colon.ensures c.in-Some.is).within)) (seen (start (parts.NamedStatement (lexeme c.args.tokens.now.source c.args.first) ds) _) (present (mark marks.Colon) (lexeme c.args.tokens.now.source) (lexemes c.args.tokens.now) c.args.cursor c.in_ok-behind_colon.ensures c.in-Some.is).takes refl) refl (λ t. refl) c.in_err-keyword.ensures) c.from_residual-in_err-keyword.ensures.1

pub named_statement-returns-in-Some-clause-reads : goal.named_statement-returns-in-Some-clause-reads
named_statement-returns-in-Some-clause-reads t c = λ ds hd. let b1 = c.in_ok-declare.ensures.builds _ _ (c.new.ensures _ hd.ordered) (c.new-own.ensures _ hd.ordered) in finds_last (lexemes c.args.tokens.now) c.args.cursor c.in_ok-keyword.behind_keyword _ _ _ (seen (seen (start (parts.NamedStatement (lexeme c.args.tokens.now.source c.args.first) ds) _) (present (mark marks.Colon) (lexeme c.args.tokens.now.source) (lexemes c.args.tokens.now) c.args.cursor c.in_ok-behind_colon.ensures c.in-Some.is).takes refl) c.in_ok-keyword.ensures.takes refl) (omega (arith, (present (mark marks.Colon) (lexeme c.args.tokens.now.source) (lexemes c.args.tokens.now) c.args.cursor c.in_ok-behind_colon.ensures c.in-Some.is).place, c.in_ok-keyword.ensures.place)) refl (c.labelled.ensures.reads _ _ b1 (holds_on b1.ordered c.in_ok-declare.ensures.grows hd))

pub named_statement-returns-in-Some-clause-goes : goal.named_statement-returns-in-Some-clause-goes
named_statement-returns-in-Some-clause-goes t c = goes_on (lexemes c.args.tokens.now) c.args.cursor c.in_ok-keyword.behind_keyword _ (omega (arith, (present (mark marks.Colon) (lexeme c.args.tokens.now.source) (lexemes c.args.tokens.now) c.args.cursor c.in_ok-behind_colon.ensures c.in-Some.is).place, c.in_ok-keyword.ensures.place)) c.labelled.ensures.goes

pub named_statement-returns-in-Some-clause-grows : goal.named_statement-returns-in-Some-clause-grows
named_statement-returns-in-Some-clause-grows t c = (grows_on c.in_ok-declare.ensures.grows c.labelled.ensures.grows)

pub named_statement-returns-in_err-behind_whole_name-clause-reads : goal.named_statement-returns-in_err-behind_whole_name-clause-reads
named_statement-returns-in_err-behind_whole_name-clause-reads t c = λ ds hd. fault_found (parts.NamedStatement (lexeme c.args.tokens.now.source c.args.first) ds) (lexemes c.args.tokens.now) c.args.cursor _ _ _ _ (refuses (lexemes c.args.tokens.now) c.args.cursor c.args.cursor _ (unseen (start (parts.NamedStatement (lexeme c.args.tokens.now.source c.args.first) ds) _) (absent (mark marks.Colon) (lexeme c.args.tokens.now.source) (lexemes c.args.tokens.now) c.args.cursor c.in_ok-behind_colon.ensures c.in_default.is)) (λ b. refl) (c.in_err-behind_whole_name.ensures.reads _ (c.new-own.ensures _ hd.ordered))) c.from_residual-in_err-behind_whole_name.ensures.1

pub named_statement-returns-clause-reads : goal.named_statement-returns-clause-reads
named_statement-returns-clause-reads t c = λ ds hd. let f1 = c.in_ok-behind_whole_name.ensures.reads _ (c.new-own.ensures _ hd.ordered) in finds_last (lexemes c.args.tokens.now) c.args.cursor c.in_ok-behind_whole_name.behind_whole_name _ _ _ (done (unseen (start (parts.NamedStatement (lexeme c.args.tokens.now.source c.args.first) ds) _) (absent (mark marks.Colon) (lexeme c.args.tokens.now.source) (lexemes c.args.tokens.now) c.args.cursor c.in_ok-behind_colon.ensures c.in_default.is)) f1.reads (λ b. refl)) (omega (arith, c.in_ok-behind_whole_name.ensures.goes.forward)) refl (c.behind_name.ensures.reads _ _ f1.holds (holds_on f1.holds.ordered c.in_ok-behind_whole_name.ensures.grows hd))

pub named_statement-returns-clause-goes : goal.named_statement-returns-clause-goes
named_statement-returns-clause-goes t c = goes_on (lexemes c.args.tokens.now) c.args.cursor c.in_ok-behind_whole_name.behind_whole_name _ (omega (arith, c.in_ok-behind_whole_name.ensures.goes.forward)) c.behind_name.ensures.goes

pub named_statement-returns-clause-grows : goal.named_statement-returns-clause-grows
named_statement-returns-clause-grows t c = (grows_on c.in_ok-behind_whole_name.ensures.grows c.behind_name.ensures.grows)

pub labelled-returns-in-While-clause-reads : goal.labelled-returns-in-While-clause-reads
labelled-returns-in-While-clause-reads t c = λ os ds ho hd. of_form (λ z. (parts.Labelled z (lexeme c.args.tokens.now.source c.args.first) os ds)) (lexemes c.args.tokens.now) c.args.cursor _ _ _ (sym c.compound_form.ensures ∙ c.in-While.is) (finds_last (lexemes c.args.tokens.now) c.args.cursor c.args.cursor _ _ _ (start (parts.Labelled compounds.While (lexeme c.args.tokens.now.source c.args.first) os ds) _) (omega arith) refl (c.while_loop.ensures.reads _ _ ho hd))

pub labelled-returns-in-While-clause-goes : goal.labelled-returns-in-While-clause-goes
labelled-returns-in-While-clause-goes t c = goes_on (lexemes c.args.tokens.now) c.args.cursor c.args.cursor _ (omega arith) c.while_loop.ensures.goes

pub labelled-returns-in-For-clause-reads : goal.labelled-returns-in-For-clause-reads
labelled-returns-in-For-clause-reads t c = λ os ds ho hd. of_form (λ z. (parts.Labelled z (lexeme c.args.tokens.now.source c.args.first) os ds)) (lexemes c.args.tokens.now) c.args.cursor _ _ _ (sym c.compound_form.ensures ∙ c.in-For.is) (finds_last (lexemes c.args.tokens.now) c.args.cursor c.args.cursor _ _ _ (start (parts.Labelled compounds.For (lexeme c.args.tokens.now.source c.args.first) os ds) _) (omega arith) refl (c.for_loop.ensures.reads _ _ ho hd))

pub labelled-returns-in-For-clause-goes : goal.labelled-returns-in-For-clause-goes
labelled-returns-in-For-clause-goes t c = goes_on (lexemes c.args.tokens.now) c.args.cursor c.args.cursor _ (omega arith) c.for_loop.ensures.goes

pub labelled-returns-in-Loop-clause-reads : goal.labelled-returns-in-Loop-clause-reads
labelled-returns-in-Loop-clause-reads t c = λ os ds ho hd. of_form (λ z. (parts.Labelled z (lexeme c.args.tokens.now.source c.args.first) os ds)) (lexemes c.args.tokens.now) c.args.cursor _ _ _ (sym c.compound_form.ensures ∙ c.in-Loop.is) (finds_last (lexemes c.args.tokens.now) c.args.cursor c.args.cursor _ _ _ (start (parts.Labelled compounds.Loop (lexeme c.args.tokens.now.source c.args.first) os ds) _) (omega arith) refl (c.loop_body.ensures.reads _ _ ho hd))

pub labelled-returns-in-Loop-clause-goes : goal.labelled-returns-in-Loop-clause-goes
labelled-returns-in-Loop-clause-goes t c = goes_on (lexemes c.args.tokens.now) c.args.cursor c.args.cursor _ (omega arith) c.loop_body.ensures.goes

pub labelled-returns-in-Declare-clause-reads : goal.labelled-returns-in-Declare-clause-reads
labelled-returns-in-Declare-clause-reads t c = λ os ds ho hd. of_form (λ z. (parts.Labelled z (lexeme c.args.tokens.now.source c.args.first) os ds)) (lexemes c.args.tokens.now) c.args.cursor _ _ _ (sym c.compound_form.ensures ∙ c.in-Declare.is) (finds_last (lexemes c.args.tokens.now) c.args.cursor c.args.cursor _ _ _ (start (parts.Labelled compounds.Declare (lexeme c.args.tokens.now.source c.args.first) os ds) _) (omega arith) refl (c.declare_block.ensures.reads _ _ ho hd))

pub labelled-returns-in-Declare-clause-goes : goal.labelled-returns-in-Declare-clause-goes
labelled-returns-in-Declare-clause-goes t c = goes_on (lexemes c.args.tokens.now) c.args.cursor c.args.cursor _ (omega arith) c.declare_block.ensures.goes

pub labelled-returns-in-Begin-clause-reads : goal.labelled-returns-in-Begin-clause-reads
labelled-returns-in-Begin-clause-reads t c = λ os ds ho hd. of_form (λ z. (parts.Labelled z (lexeme c.args.tokens.now.source c.args.first) os ds)) (lexemes c.args.tokens.now) c.args.cursor _ _ _ (sym c.compound_form.ensures ∙ c.in-Begin.is) (finds_last (lexemes c.args.tokens.now) c.args.cursor c.args.cursor _ _ _ (start (parts.Labelled compounds.Begin (lexeme c.args.tokens.now.source c.args.first) os ds) _) (omega arith) refl (c.block_body.ensures.reads _ _ ho hd))

pub labelled-returns-in-Begin-clause-goes : goal.labelled-returns-in-Begin-clause-goes
labelled-returns-in-Begin-clause-goes t c = goes_on (lexemes c.args.tokens.now) c.args.cursor c.args.cursor _ (omega arith) c.block_body.ensures.goes

pub if_statement-returns-in_err-behind_value-clause-reads : goal.if_statement-returns-in_err-behind_value-clause-reads
if_statement-returns-in_err-behind_value-clause-reads t c = λ ds hd. fault_found (parts.If (lexeme c.args.tokens.now.source c.args.first) ds) (lexemes c.args.tokens.now) c.args.cursor _ _ _ _ (refuses (lexemes c.args.tokens.now) c.args.cursor c.args.cursor _ (start (parts.If (lexeme c.args.tokens.now.source c.args.first) ds) _) (λ b. refl) (c.in_err-behind_value.ensures.reads _ (c.new-own.ensures _ hd.ordered))) c.from_residual.ensures.1

pub if_statement-returns-in_err-behind_keyword-clause-reads : goal.if_statement-returns-in_err-behind_keyword-clause-reads
if_statement-returns-in_err-behind_keyword-clause-reads t c = λ ds hd. let f1 = c.in_ok-behind_value.ensures.reads _ (c.new-own.ensures _ hd.ordered) in fault_found (parts.If (lexeme c.args.tokens.now.source c.args.first) ds) (lexemes c.args.tokens.now) c.args.cursor _ _ _ _ (misses_here (lexemes c.args.tokens.now) c.args.cursor c.in_ok-behind_value.behind_value (word words.Then) _ c.in_ok-behind_value.ensures.goes.ends (done (start (parts.If (lexeme c.args.tokens.now.source c.args.first) ds) _) f1.reads (λ b. refl)) refl (λ t. refl) c.in_err-behind_keyword.ensures) c.from_residual-in_err-behind_keyword.ensures.1

pub if_statement-returns-in_err-next-clause-reads : goal.if_statement-returns-in_err-next-clause-reads
if_statement-returns-in_err-next-clause-reads t c = λ ds hd. let f1 = c.in_ok-behind_value.ensures.reads _ (c.new-own.ensures _ hd.ordered) in fault_found (parts.If (lexeme c.args.tokens.now.source c.args.first) ds) (lexemes c.args.tokens.now) c.args.cursor _ _ _ _ (refuses (lexemes c.args.tokens.now) c.args.cursor c.in_ok-behind_keyword.behind_keyword _ (seen (done (start (parts.If (lexeme c.args.tokens.now.source c.args.first) ds) _) f1.reads (λ b. refl)) c.in_ok-behind_keyword.ensures.takes refl) (λ b. refl) (c.in_err-next.ensures.reads _ f1.holds)) c.from_residual-in_err-next.ensures.1

pub if_statement-returns-in_err-next-clause-grows : goal.if_statement-returns-in_err-next-clause-grows
if_statement-returns-in_err-next-clause-grows t c = (grows_on c.in_ok-behind_value.ensures.grows c.in_err-next.ensures.grows)

pub if_statement-loop-own-init : goal.if_statement-loop-own-init
if_statement-loop-own-init t c = record { forward = omega (arith, c.in_ok-behind_value.ensures.goes.forward, c.in_ok-behind_keyword.ensures.place, c.in_ok-next.ensures.goes.forward); ends = c.in_ok-next.ensures.goes.ends; grows = (grows_on c.in_ok-behind_value.ensures.grows c.in_ok-next.ensures.grows); awaits = λ ds hd. let f1 = c.in_ok-behind_value.ensures.reads _ (c.new-own.ensures _ hd.ordered) in let f2 = c.in_ok-next.ensures.reads _ f1.holds in (f2.children, f2.holds, (holds_on f2.holds.ordered c.in_ok-next.ensures.grows (holds_on f1.holds.ordered c.in_ok-behind_value.ensures.grows hd)), (done (seen (done (start (parts.If (lexeme c.args.tokens.now.source c.args.first) ds) _) f1.reads (λ b. refl)) c.in_ok-behind_keyword.ensures.takes refl) f2.reads (λ b. refl))) }

pub if_statement-returns-in_err-behind_elsif-clause-reads : goal.if_statement-returns-in_err-behind_elsif-clause-reads
if_statement-returns-in_err-behind_elsif-clause-reads t c = λ ds hd. let y = c.loop-own.invariant.awaits ds hd in fault_found (parts.If (lexeme c.args.tokens.now.source c.args.first) ds) (lexemes c.args.tokens.now) c.args.cursor _ _ _ _ (passes_here (lexemes c.args.tokens.now) c.args.cursor c.loop-own.next (word words.Elsif) _ (opened y.3) (λ t. refl) c.in_err-behind_elsif.ensures) c.from_residual-in_err-behind_elsif.ensures.1

pub if_statement-returns-in_err-behind_value_2-clause-reads : goal.if_statement-returns-in_err-behind_value_2-clause-reads
if_statement-returns-in_err-behind_value_2-clause-reads t c = λ ds hd. let y = c.loop-own.invariant.awaits ds hd in fault_found (parts.If (lexeme c.args.tokens.now.source c.args.first) ds) (lexemes c.args.tokens.now) c.args.cursor _ _ _ _ (refuses (lexemes c.args.tokens.now) c.args.cursor c.in-Some.behind_elsif _ (seen (opened y.3) (present (word words.Elsif) (lexeme c.args.tokens.now.source) (lexemes c.args.tokens.now) c.loop-own.next c.in_ok-behind_elsif.ensures c.in-Some.is).takes refl) (λ b. refl) (c.in_err-behind_value_2.ensures.reads _ y.1)) c.from_residual-in_err-behind_value_2.ensures.1

pub if_statement-returns-in_err-behind_value_2-clause-grows : goal.if_statement-returns-in_err-behind_value_2-clause-grows
if_statement-returns-in_err-behind_value_2-clause-grows t c = (grows_on c.loop-own.invariant.grows c.in_err-behind_value_2.ensures.grows)

pub if_statement-returns-in_err-behind_behind-clause-reads : goal.if_statement-returns-in_err-behind_behind-clause-reads
if_statement-returns-in_err-behind_behind-clause-reads t c = λ ds hd. let y = c.loop-own.invariant.awaits ds hd in let f2 = c.in_ok-behind_value_2.ensures.reads _ y.1 in fault_found (parts.If (lexeme c.args.tokens.now.source c.args.first) ds) (lexemes c.args.tokens.now) c.args.cursor _ _ _ _ (misses_here (lexemes c.args.tokens.now) c.args.cursor c.in_ok-behind_value_2.behind_value_2 (word words.Then) _ c.in_ok-behind_value_2.ensures.goes.ends (done (seen (opened y.3) (present (word words.Elsif) (lexeme c.args.tokens.now.source) (lexemes c.args.tokens.now) c.loop-own.next c.in_ok-behind_elsif.ensures c.in-Some.is).takes refl) f2.reads (λ b. refl)) refl (λ t. refl) c.in_err-behind_behind.ensures) c.from_residual-in_err-behind_behind.ensures.1

pub if_statement-returns-in_err-behind_behind-clause-grows : goal.if_statement-returns-in_err-behind_behind-clause-grows
if_statement-returns-in_err-behind_behind-clause-grows t c = (grows_on c.loop-own.invariant.grows c.in_ok-behind_value_2.ensures.grows)

pub if_statement-returns-in_err-next-2-clause-reads : goal.if_statement-returns-in_err-next-2-clause-reads
if_statement-returns-in_err-next-2-clause-reads t c = λ ds hd. let y = c.loop-own.invariant.awaits ds hd in let f2 = c.in_ok-behind_value_2.ensures.reads _ y.1 in fault_found (parts.If (lexeme c.args.tokens.now.source c.args.first) ds) (lexemes c.args.tokens.now) c.args.cursor _ _ _ _ (refuses (lexemes c.args.tokens.now) c.args.cursor c.in_ok-behind_behind.behind_behind _ (seen (done (seen (opened y.3) (present (word words.Elsif) (lexeme c.args.tokens.now.source) (lexemes c.args.tokens.now) c.loop-own.next c.in_ok-behind_elsif.ensures c.in-Some.is).takes refl) f2.reads (λ b. refl)) c.in_ok-behind_behind.ensures.takes refl) (λ b. refl) (c.in_err-next-2.ensures.reads _ f2.holds)) c.from_residual-in_err-next-2.ensures.1

pub if_statement-returns-in_err-next-2-clause-grows : goal.if_statement-returns-in_err-next-2-clause-grows
if_statement-returns-in_err-next-2-clause-grows t c = (grows_on (grows_on c.loop-own.invariant.grows c.in_ok-behind_value_2.ensures.grows) c.in_err-next-2.ensures.grows)

pub if_statement-loop-own-preserved : goal.if_statement-loop-own-preserved
if_statement-loop-own-preserved t c = record { forward = omega (arith, c.loop-own.invariant.forward, (present (word words.Elsif) (lexeme c.args.tokens.now.source) (lexemes c.args.tokens.now) c.loop-own.next c.in_ok-behind_elsif.ensures c.in-Some.is).place, c.in_ok-behind_value_2.ensures.goes.forward, c.in_ok-behind_behind.ensures.place, c.in_ok-next-2.ensures.goes.forward); ends = c.in_ok-next-2.ensures.goes.ends; grows = (grows_on (grows_on c.loop-own.invariant.grows c.in_ok-behind_value_2.ensures.grows) c.in_ok-next-2.ensures.grows); awaits = λ ds hd. let y = c.loop-own.invariant.awaits ds hd in let f2 = c.in_ok-behind_value_2.ensures.reads _ y.1 in let f3 = c.in_ok-next-2.ensures.reads _ f2.holds in (f3.children, f3.holds, (holds_on f3.holds.ordered c.in_ok-next-2.ensures.grows (holds_on f2.holds.ordered c.in_ok-behind_value_2.ensures.grows y.2)), (done (seen (done (seen (opened y.3) (present (word words.Elsif) (lexeme c.args.tokens.now.source) (lexemes c.args.tokens.now) c.loop-own.next c.in_ok-behind_elsif.ensures c.in-Some.is).takes refl) f2.reads (λ b. refl)) c.in_ok-behind_behind.ensures.takes refl) f3.reads (λ b. refl))) }

pub if_statement-loop-own-smaller : goal.if_statement-loop-own-smaller
if_statement-loop-own-smaller t c = omega (arith, (present (word words.Elsif) (lexeme c.args.tokens.now.source) (lexemes c.args.tokens.now) c.loop-own.next c.in_ok-behind_elsif.ensures c.in-Some.is).place, c.in_ok-behind_value_2.ensures.goes.forward, c.in_ok-behind_behind.ensures.place, c.in_ok-next-2.ensures.goes.forward, (present (word words.Elsif) (lexeme c.args.tokens.now.source) (lexemes c.args.tokens.now) c.loop-own.next c.in_ok-behind_elsif.ensures c.in-Some.is).within)

pub if_statement-returns-in_err-behind_keyword_3-clause-reads : goal.if_statement-returns-in_err-behind_keyword_3-clause-reads
if_statement-returns-in_err-behind_keyword_3-clause-reads t c = λ ds hd. let y = c.loop-own.invariant.awaits ds hd in fault_found (parts.If (lexeme c.args.tokens.now.source c.args.first) ds) (lexemes c.args.tokens.now) c.args.cursor _ _ _ _ (passes_here (lexemes c.args.tokens.now) c.args.cursor c.loop-own.next (word words.Else) _ (unseen (opened y.3) (absent (word words.Elsif) (lexeme c.args.tokens.now.source) (lexemes c.args.tokens.now) c.loop-own.next c.in_ok-behind_elsif.ensures c.in_default.is)) (λ t. refl) c.in_err-behind_keyword_3.ensures) c.from_residual-in_err-behind_keyword_3.ensures.1

pub if_statement-returns-in_err-behind_statements-clause-reads : goal.if_statement-returns-in_err-behind_statements-clause-reads
if_statement-returns-in_err-behind_statements-clause-reads t c = λ ds hd. let y = c.loop-own.invariant.awaits ds hd in fault_found (parts.If (lexeme c.args.tokens.now.source c.args.first) ds) (lexemes c.args.tokens.now) c.args.cursor _ _ _ _ (refuses (lexemes c.args.tokens.now) c.args.cursor c.in-Some-2.behind_keyword_3 _ (seen (unseen (opened y.3) (absent (word words.Elsif) (lexeme c.args.tokens.now.source) (lexemes c.args.tokens.now) c.loop-own.next c.in_ok-behind_elsif.ensures c.in_default.is)) (present (word words.Else) (lexeme c.args.tokens.now.source) (lexemes c.args.tokens.now) c.loop-own.next c.in_ok-behind_keyword_3.ensures c.in-Some-2.is).takes refl) (λ b. refl) (c.in_err-behind_statements.ensures.reads _ y.1)) c.from_residual-in_err-behind_statements.ensures.1

pub if_statement-returns-in_err-behind_statements-clause-grows : goal.if_statement-returns-in_err-behind_statements-clause-grows
if_statement-returns-in_err-behind_statements-clause-grows t c = (grows_on c.loop-own.invariant.grows c.in_err-behind_statements.ensures.grows)

pub if_statement-returns-in-Some-2-clause-reads : goal.if_statement-returns-in-Some-2-clause-reads
if_statement-returns-in-Some-2-clause-reads t c = λ ds hd. let y = c.loop-own.invariant.awaits ds hd in let f2 = c.in_ok-behind_statements.ensures.reads _ y.1 in finds_last (lexemes c.args.tokens.now) c.args.cursor c.in_ok-behind_statements.behind_statements _ _ _ (done (seen (unseen (opened y.3) (absent (word words.Elsif) (lexeme c.args.tokens.now.source) (lexemes c.args.tokens.now) c.loop-own.next c.in_ok-behind_elsif.ensures c.in_default.is)) (present (word words.Else) (lexeme c.args.tokens.now.source) (lexemes c.args.tokens.now) c.loop-own.next c.in_ok-behind_keyword_3.ensures c.in-Some-2.is).takes refl) f2.reads (λ b. refl)) (omega (arith, c.loop-own.invariant.forward, (present (word words.Else) (lexeme c.args.tokens.now.source) (lexemes c.args.tokens.now) c.loop-own.next c.in_ok-behind_keyword_3.ensures c.in-Some-2.is).place, c.in_ok-behind_statements.ensures.goes.forward)) refl (c.end_if.ensures.reads _ _ f2.holds (holds_on f2.holds.ordered c.in_ok-behind_statements.ensures.grows y.2))

pub if_statement-returns-in-Some-2-clause-goes : goal.if_statement-returns-in-Some-2-clause-goes
if_statement-returns-in-Some-2-clause-goes t c = goes_on (lexemes c.args.tokens.now) c.args.cursor c.in_ok-behind_statements.behind_statements _ (omega (arith, c.loop-own.invariant.forward, (present (word words.Else) (lexeme c.args.tokens.now.source) (lexemes c.args.tokens.now) c.loop-own.next c.in_ok-behind_keyword_3.ensures c.in-Some-2.is).place, c.in_ok-behind_statements.ensures.goes.forward)) c.end_if.ensures.goes

pub if_statement-returns-in-Some-2-clause-grows : goal.if_statement-returns-in-Some-2-clause-grows
if_statement-returns-in-Some-2-clause-grows t c = (grows_on (grows_on c.loop-own.invariant.grows c.in_ok-behind_statements.ensures.grows) c.end_if.ensures.grows)

pub if_statement-returns-clause-reads : goal.if_statement-returns-clause-reads
if_statement-returns-clause-reads t c = λ ds hd. let y = c.loop-own.invariant.awaits ds hd in finds_last (lexemes c.args.tokens.now) c.args.cursor c.loop-own.next _ _ _ (unseen (unseen (opened y.3) (absent (word words.Elsif) (lexeme c.args.tokens.now.source) (lexemes c.args.tokens.now) c.loop-own.next c.in_ok-behind_elsif.ensures c.in_default.is)) (absent (word words.Else) (lexeme c.args.tokens.now.source) (lexemes c.args.tokens.now) c.loop-own.next c.in_ok-behind_keyword_3.ensures c.in_default-2.is)) (omega (arith, c.loop-own.invariant.forward)) refl (c.end_if-2.ensures.reads _ _ y.1 y.2)

pub if_statement-returns-clause-goes : goal.if_statement-returns-clause-goes
if_statement-returns-clause-goes t c = goes_on (lexemes c.args.tokens.now) c.args.cursor c.loop-own.next _ (omega (arith, c.loop-own.invariant.forward)) c.end_if-2.ensures.goes

pub if_statement-returns-clause-grows : goal.if_statement-returns-clause-grows
if_statement-returns-clause-grows t c = (grows_on c.loop-own.invariant.grows c.end_if-2.ensures.grows)

pub case_statement-returns-in_err-behind_value-clause-reads : goal.case_statement-returns-in_err-behind_value-clause-reads
case_statement-returns-in_err-behind_value-clause-reads t c = λ ds hd. fault_found (parts.Case (lexeme c.args.tokens.now.source c.args.first) ds) (lexemes c.args.tokens.now) c.args.cursor _ _ _ _ (refuses (lexemes c.args.tokens.now) c.args.cursor c.args.cursor _ (start (parts.Case (lexeme c.args.tokens.now.source c.args.first) ds) _) (λ b. refl) (c.in_err-behind_value.ensures.reads _ (c.new-own.ensures _ hd.ordered))) c.from_residual.ensures.1

pub case_statement-returns-in_err-behind_keyword-clause-reads : goal.case_statement-returns-in_err-behind_keyword-clause-reads
case_statement-returns-in_err-behind_keyword-clause-reads t c = λ ds hd. let f1 = c.in_ok-behind_value.ensures.reads _ (c.new-own.ensures _ hd.ordered) in fault_found (parts.Case (lexeme c.args.tokens.now.source c.args.first) ds) (lexemes c.args.tokens.now) c.args.cursor _ _ _ _ (misses_here (lexemes c.args.tokens.now) c.args.cursor c.in_ok-behind_value.behind_value (word words.Is) _ c.in_ok-behind_value.ensures.goes.ends (done (start (parts.Case (lexeme c.args.tokens.now.source c.args.first) ds) _) f1.reads (λ b. refl)) refl (λ t. refl) c.in_err-behind_keyword.ensures) c.from_residual-in_err-behind_keyword.ensures.1

pub case_statement-returns-in_err-branch-clause-reads : goal.case_statement-returns-in_err-branch-clause-reads
case_statement-returns-in_err-branch-clause-reads t c = λ ds hd. let f1 = c.in_ok-behind_value.ensures.reads _ (c.new-own.ensures _ hd.ordered) in fault_found (parts.Case (lexeme c.args.tokens.now.source c.args.first) ds) (lexemes c.args.tokens.now) c.args.cursor _ _ _ _ (misses_here (lexemes c.args.tokens.now) c.args.cursor c.in_ok-behind_keyword.behind_keyword (word words.When) _ (omega (arith, c.in_ok-behind_keyword.ensures.place, c.in_ok-behind_keyword.ensures.within)) (seen (done (start (parts.Case (lexeme c.args.tokens.now.source c.args.first) ds) _) f1.reads (λ b. refl)) c.in_ok-behind_keyword.ensures.takes refl) refl (λ t. refl) c.in_err-branch.ensures) c.from_residual-in_err-branch.ensures.1

pub case_statement-returns-in_err-next-clause-reads : goal.case_statement-returns-in_err-next-clause-reads
case_statement-returns-in_err-next-clause-reads t c = λ ds hd. let f1 = c.in_ok-behind_value.ensures.reads _ (c.new-own.ensures _ hd.ordered) in fault_found (parts.Case (lexeme c.args.tokens.now.source c.args.first) ds) (lexemes c.args.tokens.now) c.args.cursor _ _ _ _ (refuses (lexemes c.args.tokens.now) c.args.cursor c.in_ok-branch.behind_branch _ (seen (seen (done (start (parts.Case (lexeme c.args.tokens.now.source c.args.first) ds) _) f1.reads (λ b. refl)) c.in_ok-behind_keyword.ensures.takes refl) c.in_ok-branch.ensures.takes refl) (λ b. refl) (c.in_err-next.ensures.reads _ f1.holds)) c.from_residual-in_err-next.ensures.1

pub case_statement-returns-in_err-next-clause-grows : goal.case_statement-returns-in_err-next-clause-grows
case_statement-returns-in_err-next-clause-grows t c = (grows_on c.in_ok-behind_value.ensures.grows c.in_err-next.ensures.grows)

pub case_statement-loop-own-init : goal.case_statement-loop-own-init
case_statement-loop-own-init t c = record { forward = omega (arith, c.in_ok-behind_value.ensures.goes.forward, c.in_ok-behind_keyword.ensures.place, c.in_ok-branch.ensures.place, c.in_ok-next.ensures.goes.forward); ends = c.in_ok-next.ensures.goes.ends; grows = (grows_on c.in_ok-behind_value.ensures.grows c.in_ok-next.ensures.grows); awaits = λ ds hd. let f1 = c.in_ok-behind_value.ensures.reads _ (c.new-own.ensures _ hd.ordered) in let f2 = c.in_ok-next.ensures.reads _ f1.holds in (f2.children, f2.holds, (holds_on f2.holds.ordered c.in_ok-next.ensures.grows (holds_on f1.holds.ordered c.in_ok-behind_value.ensures.grows hd)), (done (seen (seen (done (start (parts.Case (lexeme c.args.tokens.now.source c.args.first) ds) _) f1.reads (λ b. refl)) c.in_ok-behind_keyword.ensures.takes refl) c.in_ok-branch.ensures.takes refl) f2.reads (λ b. refl))) }

pub case_statement-returns-in_err-branch-2-clause-reads : goal.case_statement-returns-in_err-branch-2-clause-reads
case_statement-returns-in_err-branch-2-clause-reads t c = λ ds hd. let y = c.loop-own.invariant.awaits ds hd in fault_found (parts.Case (lexeme c.args.tokens.now.source c.args.first) ds) (lexemes c.args.tokens.now) c.args.cursor _ _ _ _ (passes_here (lexemes c.args.tokens.now) c.args.cursor c.loop-own.next (word words.When) _ (opened y.3) (λ t. refl) c.in_err-branch-2.ensures) c.from_residual-in_err-branch-2.ensures.1

pub case_statement-returns-in_err-next-2-clause-reads : goal.case_statement-returns-in_err-next-2-clause-reads
case_statement-returns-in_err-next-2-clause-reads t c = λ ds hd. let y = c.loop-own.invariant.awaits ds hd in fault_found (parts.Case (lexeme c.args.tokens.now.source c.args.first) ds) (lexemes c.args.tokens.now) c.args.cursor _ _ _ _ (refuses (lexemes c.args.tokens.now) c.args.cursor c.in-Some.behind_branch_2 _ (seen (opened y.3) (present (word words.When) (lexeme c.args.tokens.now.source) (lexemes c.args.tokens.now) c.loop-own.next c.in_ok-branch-2.ensures c.in-Some.is).takes refl) (λ b. refl) (c.in_err-next-2.ensures.reads _ y.1)) c.from_residual-in_err-next-2.ensures.1

pub case_statement-returns-in_err-next-2-clause-grows : goal.case_statement-returns-in_err-next-2-clause-grows
case_statement-returns-in_err-next-2-clause-grows t c = (grows_on c.loop-own.invariant.grows c.in_err-next-2.ensures.grows)

pub case_statement-loop-own-preserved : goal.case_statement-loop-own-preserved
case_statement-loop-own-preserved t c = record { forward = omega (arith, c.loop-own.invariant.forward, (present (word words.When) (lexeme c.args.tokens.now.source) (lexemes c.args.tokens.now) c.loop-own.next c.in_ok-branch-2.ensures c.in-Some.is).place, c.in_ok-next-2.ensures.goes.forward); ends = c.in_ok-next-2.ensures.goes.ends; grows = (grows_on c.loop-own.invariant.grows c.in_ok-next-2.ensures.grows); awaits = λ ds hd. let y = c.loop-own.invariant.awaits ds hd in let f2 = c.in_ok-next-2.ensures.reads _ y.1 in (f2.children, f2.holds, (holds_on f2.holds.ordered c.in_ok-next-2.ensures.grows y.2), (done (seen (opened y.3) (present (word words.When) (lexeme c.args.tokens.now.source) (lexemes c.args.tokens.now) c.loop-own.next c.in_ok-branch-2.ensures c.in-Some.is).takes refl) f2.reads (λ b. refl))) }

pub case_statement-loop-own-smaller : goal.case_statement-loop-own-smaller
case_statement-loop-own-smaller t c = omega (arith, (present (word words.When) (lexeme c.args.tokens.now.source) (lexemes c.args.tokens.now) c.loop-own.next c.in_ok-branch-2.ensures c.in-Some.is).place, c.in_ok-next-2.ensures.goes.forward, (present (word words.When) (lexeme c.args.tokens.now.source) (lexemes c.args.tokens.now) c.loop-own.next c.in_ok-branch-2.ensures c.in-Some.is).within)

pub case_statement-returns-in_err-behind_end-clause-reads : goal.case_statement-returns-in_err-behind_end-clause-reads
case_statement-returns-in_err-behind_end-clause-reads t c = λ ds hd. let y = c.loop-own.invariant.awaits ds hd in fault_found (parts.Case (lexeme c.args.tokens.now.source c.args.first) ds) (lexemes c.args.tokens.now) c.args.cursor _ _ _ _ (misses_here (lexemes c.args.tokens.now) c.args.cursor c.loop-own.next (word words.End) _ c.loop-own.invariant.ends (unseen (opened y.3) (absent (word words.When) (lexeme c.args.tokens.now.source) (lexemes c.args.tokens.now) c.loop-own.next c.in_ok-branch-2.ensures c.in_default.is)) refl (λ t. refl) c.in_err-behind_end.ensures) c.from_residual-in_err-behind_end.ensures.1

pub case_statement-returns-in_err-behind_keyword_2-clause-reads : goal.case_statement-returns-in_err-behind_keyword_2-clause-reads
case_statement-returns-in_err-behind_keyword_2-clause-reads t c = λ ds hd. let y = c.loop-own.invariant.awaits ds hd in fault_found (parts.Case (lexeme c.args.tokens.now.source c.args.first) ds) (lexemes c.args.tokens.now) c.args.cursor _ _ _ _ (misses_here (lexemes c.args.tokens.now) c.args.cursor c.in_ok-behind_end.behind_end (word words.Case) _ (omega (arith, c.in_ok-behind_end.ensures.place, c.in_ok-behind_end.ensures.within)) (seen (unseen (opened y.3) (absent (word words.When) (lexeme c.args.tokens.now.source) (lexemes c.args.tokens.now) c.loop-own.next c.in_ok-branch-2.ensures c.in_default.is)) c.in_ok-behind_end.ensures.takes refl) refl (λ t. refl) c.in_err-behind_keyword_2.ensures) c.from_residual-in_err-behind_keyword_2.ensures.1

pub case_statement-returns-in_err-behind_semicolon-clause-reads : goal.case_statement-returns-in_err-behind_semicolon-clause-reads
case_statement-returns-in_err-behind_semicolon-clause-reads t c = λ ds hd. let y = c.loop-own.invariant.awaits ds hd in fault_found (parts.Case (lexeme c.args.tokens.now.source c.args.first) ds) (lexemes c.args.tokens.now) c.args.cursor _ _ _ _ (misses_here (lexemes c.args.tokens.now) c.args.cursor c.in_ok-behind_keyword_2.behind_keyword_2 (mark marks.Semicolon) _ (omega (arith, c.in_ok-behind_keyword_2.ensures.place, c.in_ok-behind_keyword_2.ensures.within)) (seen (seen (unseen (opened y.3) (absent (word words.When) (lexeme c.args.tokens.now.source) (lexemes c.args.tokens.now) c.loop-own.next c.in_ok-branch-2.ensures c.in_default.is)) c.in_ok-behind_end.ensures.takes refl) c.in_ok-behind_keyword_2.ensures.takes refl) refl (λ t. refl) c.in_err-behind_semicolon.ensures) c.from_residual-in_err-behind_semicolon.ensures.1

pub case_statement-returns-in_err-add_statement-clause-grows : goal.case_statement-returns-in_err-add_statement-clause-grows
case_statement-returns-in_err-add_statement-clause-grows t c = (grows_on c.loop-own.invariant.grows c.in_err-add_statement.ensures.grows)

pub case_statement-returns-clause-reads : goal.case_statement-returns-clause-reads
case_statement-returns-clause-reads t c = λ ds hd. let y = c.loop-own.invariant.awaits ds hd in found (lexemes c.args.tokens.now) c.args.cursor c.in_ok-behind_semicolon.behind_semicolon (c.in_ok-add_statement.ensures.builds _ _ y.1 y.2) (omega (arith, c.loop-own.invariant.forward, c.in_ok-behind_end.ensures.place, c.in_ok-behind_keyword_2.ensures.place, c.in_ok-behind_semicolon.ensures.place)) (omega (arith, c.in_ok-behind_semicolon.ensures.place, c.in_ok-behind_semicolon.ensures.within)) (seen (seen (seen (unseen (opened y.3) (absent (word words.When) (lexeme c.args.tokens.now.source) (lexemes c.args.tokens.now) c.loop-own.next c.in_ok-branch-2.ensures c.in_default.is)) c.in_ok-behind_end.ensures.takes refl) c.in_ok-behind_keyword_2.ensures.takes refl) c.in_ok-behind_semicolon.ensures.takes refl)

pub case_statement-returns-clause-goes : goal.case_statement-returns-clause-goes
case_statement-returns-clause-goes t c = record { forward = omega (arith, c.loop-own.invariant.forward, c.in_ok-behind_end.ensures.place, c.in_ok-behind_keyword_2.ensures.place, c.in_ok-behind_semicolon.ensures.place); ends = (omega (arith, c.in_ok-behind_semicolon.ensures.place, c.in_ok-behind_semicolon.ensures.within)) }

pub case_statement-returns-clause-grows : goal.case_statement-returns-clause-grows
case_statement-returns-clause-grows t c = (grows_on c.loop-own.invariant.grows c.in_ok-add_statement.ensures.grows)

pub alternative-returns-in_err-next-clause-reads : goal.alternative-returns-in_err-next-clause-reads
alternative-returns-in_err-next-clause-reads t c = λ ds hd. fault_found (parts.Alternative c.args.span ds) (lexemes c.args.tokens.now) c.args.cursor _ _ _ _ (refuses (lexemes c.args.tokens.now) c.args.cursor c.args.cursor _ (start (parts.Alternative c.args.span ds) _) (λ b. refl) (c.in_err-next.ensures.reads _ (c.new-own.ensures _ hd.ordered))) c.from_residual.ensures.1

pub alternative-loop-own-init : goal.alternative-loop-own-init
alternative-loop-own-init t c = record { forward = omega (arith, c.in_ok-next.ensures.goes.forward); ends = c.in_ok-next.ensures.goes.ends; grows = c.in_ok-next.ensures.grows; awaits = λ ds hd. let f1 = c.in_ok-next.ensures.reads _ (c.new-own.ensures _ hd.ordered) in ((phrases.with_expr phrases.none f1.phrase.tree), f1.holds, (holds_on f1.holds.ordered c.in_ok-next.ensures.grows hd), (done (start (parts.Alternative c.args.span ds) _) f1.reads (λ b. refl))) }

pub alternative-returns-in_err-behind_bar-clause-reads : goal.alternative-returns-in_err-behind_bar-clause-reads
alternative-returns-in_err-behind_bar-clause-reads t c = λ ds hd. let y = c.loop-own.invariant.awaits ds hd in fault_found (parts.Alternative c.args.span ds) (lexemes c.args.tokens.now) c.args.cursor _ _ _ _ (passes_here (lexemes c.args.tokens.now) c.args.cursor c.loop-own.next (mark marks.Bar) _ (opened y.3) (λ t. refl) c.in_err-behind_bar.ensures) c.from_residual-in_err-behind_bar.ensures.1

pub alternative-returns-in_err-next-2-clause-reads : goal.alternative-returns-in_err-next-2-clause-reads
alternative-returns-in_err-next-2-clause-reads t c = λ ds hd. let y = c.loop-own.invariant.awaits ds hd in fault_found (parts.Alternative c.args.span ds) (lexemes c.args.tokens.now) c.args.cursor _ _ _ _ (refuses (lexemes c.args.tokens.now) c.args.cursor c.in-Some.behind_bar _ (seen (opened y.3) (present (mark marks.Bar) (lexeme c.args.tokens.now.source) (lexemes c.args.tokens.now) c.loop-own.next c.in_ok-behind_bar.ensures c.in-Some.is).takes refl) (λ b. refl) (c.in_err-next-2.ensures.reads _ y.1)) c.from_residual-in_err-next-2.ensures.1

pub alternative-returns-in_err-next-2-clause-grows : goal.alternative-returns-in_err-next-2-clause-grows
alternative-returns-in_err-next-2-clause-grows t c = (grows_on c.loop-own.invariant.grows c.in_err-next-2.ensures.grows)

pub alternative-loop-own-preserved : goal.alternative-loop-own-preserved
alternative-loop-own-preserved t c = record { forward = omega (arith, c.loop-own.invariant.forward, (present (mark marks.Bar) (lexeme c.args.tokens.now.source) (lexemes c.args.tokens.now) c.loop-own.next c.in_ok-behind_bar.ensures c.in-Some.is).place, c.in_ok-next-2.ensures.goes.forward); ends = c.in_ok-next-2.ensures.goes.ends; grows = (grows_on c.loop-own.invariant.grows c.in_ok-next-2.ensures.grows); awaits = λ ds hd. let y = c.loop-own.invariant.awaits ds hd in let f2 = c.in_ok-next-2.ensures.reads _ y.1 in ((phrases.with_expr y.0 f2.phrase.tree), f2.holds, (holds_on f2.holds.ordered c.in_ok-next-2.ensures.grows y.2), (done (seen (opened y.3) (present (mark marks.Bar) (lexeme c.args.tokens.now.source) (lexemes c.args.tokens.now) c.loop-own.next c.in_ok-behind_bar.ensures c.in-Some.is).takes refl) f2.reads (λ b. refl))) }

pub alternative-loop-own-smaller : goal.alternative-loop-own-smaller
alternative-loop-own-smaller t c = omega (arith, (present (mark marks.Bar) (lexeme c.args.tokens.now.source) (lexemes c.args.tokens.now) c.loop-own.next c.in_ok-behind_bar.ensures c.in-Some.is).place, c.in_ok-next-2.ensures.goes.forward, (present (mark marks.Bar) (lexeme c.args.tokens.now.source) (lexemes c.args.tokens.now) c.loop-own.next c.in_ok-behind_bar.ensures c.in-Some.is).within)

pub alternative-returns-in_err-behind_arrow-clause-reads : goal.alternative-returns-in_err-behind_arrow-clause-reads
alternative-returns-in_err-behind_arrow-clause-reads t c = λ ds hd. let y = c.loop-own.invariant.awaits ds hd in fault_found (parts.Alternative c.args.span ds) (lexemes c.args.tokens.now) c.args.cursor _ _ _ _ (misses_here (lexemes c.args.tokens.now) c.args.cursor c.loop-own.next (mark marks.Arrow) _ c.loop-own.invariant.ends (unseen (opened y.3) (absent (mark marks.Bar) (lexeme c.args.tokens.now.source) (lexemes c.args.tokens.now) c.loop-own.next c.in_ok-behind_bar.ensures c.in_default.is)) refl (λ t. refl) c.in_err-behind_arrow.ensures) c.from_residual-in_err-behind_arrow.ensures.1

pub alternative-returns-in_err-behind_statements-clause-reads : goal.alternative-returns-in_err-behind_statements-clause-reads
alternative-returns-in_err-behind_statements-clause-reads t c = λ ds hd. let y = c.loop-own.invariant.awaits ds hd in fault_found (parts.Alternative c.args.span ds) (lexemes c.args.tokens.now) c.args.cursor _ _ _ _ (refuses (lexemes c.args.tokens.now) c.args.cursor c.in_ok-behind_arrow.behind_arrow _ (seen (unseen (opened y.3) (absent (mark marks.Bar) (lexeme c.args.tokens.now.source) (lexemes c.args.tokens.now) c.loop-own.next c.in_ok-behind_bar.ensures c.in_default.is)) c.in_ok-behind_arrow.ensures.takes refl) (λ b. refl) (c.in_err-behind_statements.ensures.reads _ y.1)) c.from_residual-in_err-behind_statements.ensures.1

pub alternative-returns-in_err-behind_statements-clause-grows : goal.alternative-returns-in_err-behind_statements-clause-grows
alternative-returns-in_err-behind_statements-clause-grows t c = (grows_on c.loop-own.invariant.grows c.in_err-behind_statements.ensures.grows)

pub alternative-returns-in_err-add_statement-clause-grows : goal.alternative-returns-in_err-add_statement-clause-grows
alternative-returns-in_err-add_statement-clause-grows t c = (grows_on (grows_on c.loop-own.invariant.grows c.in_ok-behind_statements.ensures.grows) c.in_err-add_statement.ensures.grows)

pub alternative-returns-clause-reads : goal.alternative-returns-clause-reads
alternative-returns-clause-reads t c = λ ds hd. let y = c.loop-own.invariant.awaits ds hd in let f2 = c.in_ok-behind_statements.ensures.reads _ y.1 in found (lexemes c.args.tokens.now) c.args.cursor c.in_ok-behind_statements.behind_statements (c.in_ok-add_statement.ensures.builds _ _ f2.holds (holds_on f2.holds.ordered c.in_ok-behind_statements.ensures.grows y.2)) (omega (arith, c.loop-own.invariant.forward, c.in_ok-behind_arrow.ensures.place, c.in_ok-behind_statements.ensures.goes.forward)) c.in_ok-behind_statements.ensures.goes.ends (done (seen (unseen (opened y.3) (absent (mark marks.Bar) (lexeme c.args.tokens.now.source) (lexemes c.args.tokens.now) c.loop-own.next c.in_ok-behind_bar.ensures c.in_default.is)) c.in_ok-behind_arrow.ensures.takes refl) f2.reads (λ b. refl))

pub alternative-returns-clause-goes : goal.alternative-returns-clause-goes
alternative-returns-clause-goes t c = record { forward = omega (arith, c.loop-own.invariant.forward, c.in_ok-behind_arrow.ensures.place, c.in_ok-behind_statements.ensures.goes.forward); ends = c.in_ok-behind_statements.ensures.goes.ends }

pub alternative-returns-clause-grows : goal.alternative-returns-clause-grows
alternative-returns-clause-grows t c = (grows_on (grows_on c.loop-own.invariant.grows c.in_ok-behind_statements.ensures.grows) c.in_ok-add_statement.ensures.grows)

pub while_loop-returns-in_err-behind_value-clause-reads : goal.while_loop-returns-in_err-behind_value-clause-reads
while_loop-returns-in_err-behind_value-clause-reads t c = λ os ds ho hd. fault_found (parts.While c.args.labelled (lexeme c.args.tokens.now.source c.args.first) os ds) (lexemes c.args.tokens.now) c.args.cursor _ _ _ _ (refuses (lexemes c.args.tokens.now) c.args.cursor c.args.cursor _ (start (parts.While c.args.labelled (lexeme c.args.tokens.now.source c.args.first) os ds) _) (λ b. refl) (c.in_err-behind_value.ensures.reads _ ho)) c.from_residual.ensures.1

pub while_loop-returns-in_err-behind_keyword-clause-reads : goal.while_loop-returns-in_err-behind_keyword-clause-reads
while_loop-returns-in_err-behind_keyword-clause-reads t c = λ os ds ho hd. let f1 = c.in_ok-behind_value.ensures.reads _ ho in fault_found (parts.While c.args.labelled (lexeme c.args.tokens.now.source c.args.first) os ds) (lexemes c.args.tokens.now) c.args.cursor _ _ _ _ (misses_here (lexemes c.args.tokens.now) c.args.cursor c.in_ok-behind_value.behind_value (word words.Loop) _ c.in_ok-behind_value.ensures.goes.ends (done (start (parts.While c.args.labelled (lexeme c.args.tokens.now.source c.args.first) os ds) _) f1.reads (λ b. refl)) refl (λ t. refl) c.in_err-behind_keyword.ensures) c.from_residual-in_err-behind_keyword.ensures.1

pub while_loop-returns-clause-reads : goal.while_loop-returns-clause-reads
while_loop-returns-clause-reads t c = λ os ds ho hd. let f1 = c.in_ok-behind_value.ensures.reads _ ho in finds_last (lexemes c.args.tokens.now) c.args.cursor c.in_ok-behind_keyword.behind_keyword _ _ _ (seen (done (start (parts.While c.args.labelled (lexeme c.args.tokens.now.source c.args.first) os ds) _) f1.reads (λ b. refl)) c.in_ok-behind_keyword.ensures.takes refl) (omega (arith, c.in_ok-behind_value.ensures.goes.forward, c.in_ok-behind_keyword.ensures.place)) refl (c.loop_body.ensures.reads _ _ f1.holds (holds_on f1.holds.ordered c.in_ok-behind_value.ensures.grows hd))

pub while_loop-returns-clause-goes : goal.while_loop-returns-clause-goes
while_loop-returns-clause-goes t c = goes_on (lexemes c.args.tokens.now) c.args.cursor c.in_ok-behind_keyword.behind_keyword _ (omega (arith, c.in_ok-behind_value.ensures.goes.forward, c.in_ok-behind_keyword.ensures.place)) c.loop_body.ensures.goes

pub while_loop-returns-clause-grows : goal.while_loop-returns-clause-grows
while_loop-returns-clause-grows t c = (grows_on c.in_ok-behind_value.ensures.grows c.loop_body.ensures.grows)

pub for_loop-returns-in_err-name-clause-reads : goal.for_loop-returns-in_err-name-clause-reads
for_loop-returns-in_err-name-clause-reads t c = λ os ds ho hd. fault_found (parts.For c.args.labelled (lexeme c.args.tokens.now.source c.args.first) os ds) (lexemes c.args.tokens.now) c.args.cursor _ _ _ _ (misses_here (lexemes c.args.tokens.now) c.args.cursor c.args.cursor classes.Word _ c.requires.at (start (parts.For c.args.labelled (lexeme c.args.tokens.now.source c.args.first) os ds) _) refl (λ t. refl) c.in_err-name.ensures) c.from_residual.ensures.1

pub for_loop-returns-in_err-behind_keyword-clause-reads : goal.for_loop-returns-in_err-behind_keyword-clause-reads
for_loop-returns-in_err-behind_keyword-clause-reads t c = λ os ds ho hd. fault_found (parts.For c.args.labelled (lexeme c.args.tokens.now.source c.args.first) os ds) (lexemes c.args.tokens.now) c.args.cursor _ _ _ _ (misses_here (lexemes c.args.tokens.now) c.args.cursor c.in_ok-name.behind_name (word words.In) _ (omega (arith, c.in_ok-name.ensures.place, c.in_ok-name.ensures.within)) (seen (start (parts.For c.args.labelled (lexeme c.args.tokens.now.source c.args.first) os ds) _) c.in_ok-name.ensures.takes refl) refl (λ t. refl) c.in_err-behind_keyword.ensures) c.from_residual-in_err-behind_keyword.ensures.1

pub for_loop-returns-in_err-behind_reverse-clause-reads : goal.for_loop-returns-in_err-behind_reverse-clause-reads
for_loop-returns-in_err-behind_reverse-clause-reads t c = λ os ds ho hd. fault_found (parts.For c.args.labelled (lexeme c.args.tokens.now.source c.args.first) os ds) (lexemes c.args.tokens.now) c.args.cursor _ _ _ _ (passes_here (lexemes c.args.tokens.now) c.args.cursor c.in_ok-behind_keyword.behind_keyword (word words.Reverse) _ (seen (seen (start (parts.For c.args.labelled (lexeme c.args.tokens.now.source c.args.first) os ds) _) c.in_ok-name.ensures.takes refl) c.in_ok-behind_keyword.ensures.takes refl) (λ t. refl) c.in_err-behind_reverse.ensures) c.from_residual-in_err-behind_reverse.ensures.1

pub for_loop-returns-in-Some-clause-reads : goal.for_loop-returns-in-Some-clause-reads
for_loop-returns-in-Some-clause-reads t c = λ os ds ho hd. finds_last (lexemes c.args.tokens.now) c.args.cursor c.in-Some.behind_reverse _ _ _ (seen (seen (seen (start (parts.For c.args.labelled (lexeme c.args.tokens.now.source c.args.first) os ds) _) c.in_ok-name.ensures.takes refl) c.in_ok-behind_keyword.ensures.takes refl) (present (word words.Reverse) (lexeme c.args.tokens.now.source) (lexemes c.args.tokens.now) c.in_ok-behind_keyword.behind_keyword c.in_ok-behind_reverse.ensures c.in-Some.is).takes refl) (omega (arith, c.in_ok-name.ensures.place, c.in_ok-behind_keyword.ensures.place, (present (word words.Reverse) (lexeme c.args.tokens.now.source) (lexemes c.args.tokens.now) c.in_ok-behind_keyword.behind_keyword c.in_ok-behind_reverse.ensures c.in-Some.is).place)) refl (c.for_range.ensures.reads _ _ ho hd)

pub for_loop-returns-in-Some-clause-goes : goal.for_loop-returns-in-Some-clause-goes
for_loop-returns-in-Some-clause-goes t c = goes_on (lexemes c.args.tokens.now) c.args.cursor c.in-Some.behind_reverse _ (omega (arith, c.in_ok-name.ensures.place, c.in_ok-behind_keyword.ensures.place, (present (word words.Reverse) (lexeme c.args.tokens.now.source) (lexemes c.args.tokens.now) c.in_ok-behind_keyword.behind_keyword c.in_ok-behind_reverse.ensures c.in-Some.is).place)) c.for_range.ensures.goes

pub for_loop-returns-clause-reads : goal.for_loop-returns-clause-reads
for_loop-returns-clause-reads t c = λ os ds ho hd. finds_last (lexemes c.args.tokens.now) c.args.cursor c.in_ok-behind_keyword.behind_keyword _ _ _ (unseen (seen (seen (start (parts.For c.args.labelled (lexeme c.args.tokens.now.source c.args.first) os ds) _) c.in_ok-name.ensures.takes refl) c.in_ok-behind_keyword.ensures.takes refl) (absent (word words.Reverse) (lexeme c.args.tokens.now.source) (lexemes c.args.tokens.now) c.in_ok-behind_keyword.behind_keyword c.in_ok-behind_reverse.ensures c.in_default.is)) (omega (arith, c.in_ok-name.ensures.place, c.in_ok-behind_keyword.ensures.place)) refl (c.for_range-2.ensures.reads _ _ ho hd)

pub for_loop-returns-clause-goes : goal.for_loop-returns-clause-goes
for_loop-returns-clause-goes t c = goes_on (lexemes c.args.tokens.now) c.args.cursor c.in_ok-behind_keyword.behind_keyword _ (omega (arith, c.in_ok-name.ensures.place, c.in_ok-behind_keyword.ensures.place)) c.for_range-2.ensures.goes

pub for_range-returns-in_err-behind_range-clause-reads : goal.for_range-returns-in_err-behind_range-clause-reads
for_range-returns-in_err-behind_range-clause-reads t c = λ os ds ho hd. fault_found (parts.ForRange c.args.parameter (lexeme c.args.tokens.now.source c.args.name) c.args.kind c.args.span os ds) (lexemes c.args.tokens.now) c.args.cursor _ _ _ _ (refuses (lexemes c.args.tokens.now) c.args.cursor c.args.cursor _ (start (parts.ForRange c.args.parameter (lexeme c.args.tokens.now.source c.args.name) c.args.kind c.args.span os ds) _) (λ b. refl) (c.in_err-behind_range.ensures.reads _ (c.new-range.ensures _ hd.ordered))) c.from_residual.ensures.1

pub for_range-returns-in_err-declare-clause-grows : goal.for_range-returns-in_err-declare-clause-grows
for_range-returns-in_err-declare-clause-grows t c = (grows_on c.in_ok-behind_range.ensures.grows c.in_err-declare.ensures.grows)

pub for_range-returns-in_err-behind_keyword-clause-reads : goal.for_range-returns-in_err-behind_keyword-clause-reads
for_range-returns-in_err-behind_keyword-clause-reads t c = λ os ds ho hd. let f1 = c.in_ok-behind_range.ensures.reads _ (c.new-range.ensures _ hd.ordered) in fault_found (parts.ForRange c.args.parameter (lexeme c.args.tokens.now.source c.args.name) c.args.kind c.args.span os ds) (lexemes c.args.tokens.now) c.args.cursor _ _ _ _ (misses_here (lexemes c.args.tokens.now) c.args.cursor c.in_ok-behind_range.behind_range (word words.Loop) _ c.in_ok-behind_range.ensures.goes.ends (done (start (parts.ForRange c.args.parameter (lexeme c.args.tokens.now.source c.args.name) c.args.kind c.args.span os ds) _) f1.reads (λ b. refl)) refl (λ t. refl) c.in_err-behind_keyword.ensures) c.from_residual-in_err-behind_keyword.ensures.1

pub for_range-returns-in_err-behind_keyword-clause-grows : goal.for_range-returns-in_err-behind_keyword-clause-grows
for_range-returns-in_err-behind_keyword-clause-grows t c = (grows_on c.in_ok-behind_range.ensures.grows c.in_ok-declare.ensures.grows)

pub for_range-returns-clause-reads : goal.for_range-returns-clause-reads
for_range-returns-clause-reads t c = λ os ds ho hd. let f1 = c.in_ok-behind_range.ensures.reads _ (c.new-range.ensures _ hd.ordered) in let b1 = c.in_ok-declare.ensures.builds _ _ f1.holds (holds_on f1.holds.ordered c.in_ok-behind_range.ensures.grows ho) in finds_last (lexemes c.args.tokens.now) c.args.cursor c.in_ok-behind_keyword.behind_keyword _ _ _ (seen (done (start (parts.ForRange c.args.parameter (lexeme c.args.tokens.now.source c.args.name) c.args.kind c.args.span os ds) _) f1.reads (λ b. refl)) c.in_ok-behind_keyword.ensures.takes refl) (omega (arith, c.in_ok-behind_range.ensures.goes.forward, c.in_ok-behind_keyword.ensures.place)) refl (c.loop_body.ensures.reads _ _ b1 (holds_on b1.ordered c.in_ok-declare.ensures.grows (holds_on f1.holds.ordered c.in_ok-behind_range.ensures.grows hd)))

pub for_range-returns-clause-goes : goal.for_range-returns-clause-goes
for_range-returns-clause-goes t c = goes_on (lexemes c.args.tokens.now) c.args.cursor c.in_ok-behind_keyword.behind_keyword _ (omega (arith, c.in_ok-behind_range.ensures.goes.forward, c.in_ok-behind_keyword.ensures.place)) c.loop_body.ensures.goes

pub for_range-returns-clause-grows : goal.for_range-returns-clause-grows
for_range-returns-clause-grows t c = (grows_on (grows_on c.in_ok-behind_range.ensures.grows c.in_ok-declare.ensures.grows) c.loop_body.ensures.grows)

pub loop_body-returns-in_err-behind_statements-clause-reads : goal.loop_body-returns-in_err-behind_statements-clause-reads
loop_body-returns-in_err-behind_statements-clause-reads t c = λ os ds ho hd. fault_found (parts.LoopBody c.args.kind c.args.span os ds) (lexemes c.args.tokens.now) c.args.cursor _ _ _ _ (refuses (lexemes c.args.tokens.now) c.args.cursor c.args.cursor _ (start (parts.LoopBody c.args.kind c.args.span os ds) _) (λ b. refl) (c.in_err-behind_statements.ensures.reads _ ho)) c.from_residual.ensures.1

pub loop_body-returns-in_err-behind_end-clause-reads : goal.loop_body-returns-in_err-behind_end-clause-reads
loop_body-returns-in_err-behind_end-clause-reads t c = λ os ds ho hd. let f1 = c.in_ok-behind_statements.ensures.reads _ ho in fault_found (parts.LoopBody c.args.kind c.args.span os ds) (lexemes c.args.tokens.now) c.args.cursor _ _ _ _ (misses_here (lexemes c.args.tokens.now) c.args.cursor c.in_ok-behind_statements.behind_statements (word words.End) _ c.in_ok-behind_statements.ensures.goes.ends (done (start (parts.LoopBody c.args.kind c.args.span os ds) _) f1.reads (λ b. refl)) refl (λ t. refl) c.in_err-behind_end.ensures) c.from_residual-in_err-behind_end.ensures.1

pub loop_body-returns-in_err-behind_keyword-clause-reads : goal.loop_body-returns-in_err-behind_keyword-clause-reads
loop_body-returns-in_err-behind_keyword-clause-reads t c = λ os ds ho hd. let f1 = c.in_ok-behind_statements.ensures.reads _ ho in fault_found (parts.LoopBody c.args.kind c.args.span os ds) (lexemes c.args.tokens.now) c.args.cursor _ _ _ _ (misses_here (lexemes c.args.tokens.now) c.args.cursor c.in_ok-behind_end.behind_end (word words.Loop) _ (omega (arith, c.in_ok-behind_end.ensures.place, c.in_ok-behind_end.ensures.within)) (seen (done (start (parts.LoopBody c.args.kind c.args.span os ds) _) f1.reads (λ b. refl)) c.in_ok-behind_end.ensures.takes refl) refl (λ t. refl) c.in_err-behind_keyword.ensures) c.from_residual-in_err-behind_keyword.ensures.1

pub loop_body-returns-clause-reads : goal.loop_body-returns-clause-reads
loop_body-returns-clause-reads t c = λ os ds ho hd. let f1 = c.in_ok-behind_statements.ensures.reads _ ho in finds_last (lexemes c.args.tokens.now) c.args.cursor c.in_ok-behind_keyword.behind_keyword _ _ _ (seen (seen (done (start (parts.LoopBody c.args.kind c.args.span os ds) _) f1.reads (λ b. refl)) c.in_ok-behind_end.ensures.takes refl) c.in_ok-behind_keyword.ensures.takes refl) (omega (arith, c.in_ok-behind_statements.ensures.goes.forward, c.in_ok-behind_end.ensures.place, c.in_ok-behind_keyword.ensures.place)) refl (c.end_of_statement.ensures.reads _ _ f1.holds (holds_on f1.holds.ordered c.in_ok-behind_statements.ensures.grows hd))

pub loop_body-returns-clause-goes : goal.loop_body-returns-clause-goes
loop_body-returns-clause-goes t c = goes_on (lexemes c.args.tokens.now) c.args.cursor c.in_ok-behind_keyword.behind_keyword _ (omega (arith, c.in_ok-behind_statements.ensures.goes.forward, c.in_ok-behind_end.ensures.place, c.in_ok-behind_keyword.ensures.place)) c.end_of_statement.ensures.goes

pub loop_body-returns-clause-grows : goal.loop_body-returns-clause-grows
loop_body-returns-clause-grows t c = (grows_on c.in_ok-behind_statements.ensures.grows c.end_of_statement.ensures.grows)

pub declare_block-returns-in_err-behind_local_declarations-clause-reads : goal.declare_block-returns-in_err-behind_local_declarations-clause-reads
declare_block-returns-in_err-behind_local_declarations-clause-reads t c = λ os ds ho hd. fault_found (parts.Declare c.args.labelled (lexeme c.args.tokens.now.source c.args.first) os ds) (lexemes c.args.tokens.now) c.args.cursor _ _ _ _ (refuses (lexemes c.args.tokens.now) c.args.cursor c.args.cursor _ (start (parts.Declare c.args.labelled (lexeme c.args.tokens.now.source c.args.first) os ds) _) (λ b. refl) (c.in_err-behind_local_declarations.ensures.reads _ ho)) c.from_residual.ensures.1

pub declare_block-returns-in_err-behind_keyword-clause-reads : goal.declare_block-returns-in_err-behind_keyword-clause-reads
declare_block-returns-in_err-behind_keyword-clause-reads t c = λ os ds ho hd. let f1 = c.in_ok-behind_local_declarations.ensures.reads _ ho in fault_found (parts.Declare c.args.labelled (lexeme c.args.tokens.now.source c.args.first) os ds) (lexemes c.args.tokens.now) c.args.cursor _ _ _ _ (misses_here (lexemes c.args.tokens.now) c.args.cursor c.in_ok-behind_local_declarations.behind_local_declarations (word words.Begin) _ c.in_ok-behind_local_declarations.ensures.goes.ends (done (start (parts.Declare c.args.labelled (lexeme c.args.tokens.now.source c.args.first) os ds) _) f1.reads (λ b. refl)) refl (λ t. refl) c.in_err-behind_keyword.ensures) c.from_residual-in_err-behind_keyword.ensures.1

pub declare_block-returns-clause-reads : goal.declare_block-returns-clause-reads
declare_block-returns-clause-reads t c = λ os ds ho hd. let f1 = c.in_ok-behind_local_declarations.ensures.reads _ ho in finds_last (lexemes c.args.tokens.now) c.args.cursor c.in_ok-behind_keyword.behind_keyword _ _ _ (seen (done (start (parts.Declare c.args.labelled (lexeme c.args.tokens.now.source c.args.first) os ds) _) f1.reads (λ b. refl)) c.in_ok-behind_keyword.ensures.takes refl) (omega (arith, c.in_ok-behind_local_declarations.ensures.goes.forward, c.in_ok-behind_keyword.ensures.place)) refl (c.block_body.ensures.reads _ _ f1.holds (holds_on f1.holds.ordered c.in_ok-behind_local_declarations.ensures.grows hd))

pub declare_block-returns-clause-goes : goal.declare_block-returns-clause-goes
declare_block-returns-clause-goes t c = goes_on (lexemes c.args.tokens.now) c.args.cursor c.in_ok-behind_keyword.behind_keyword _ (omega (arith, c.in_ok-behind_local_declarations.ensures.goes.forward, c.in_ok-behind_keyword.ensures.place)) c.block_body.ensures.goes

pub declare_block-returns-clause-grows : goal.declare_block-returns-clause-grows
declare_block-returns-clause-grows t c = (grows_on c.in_ok-behind_local_declarations.ensures.grows c.block_body.ensures.grows)

pub block_body-returns-in_err-behind_statements-clause-reads : goal.block_body-returns-in_err-behind_statements-clause-reads
block_body-returns-in_err-behind_statements-clause-reads t c = λ os ds ho hd. fault_found (parts.BlockBody c.args.kind c.args.span os ds) (lexemes c.args.tokens.now) c.args.cursor _ _ _ _ (refuses (lexemes c.args.tokens.now) c.args.cursor c.args.cursor _ (start (parts.BlockBody c.args.kind c.args.span os ds) _) (λ b. refl) (c.in_err-behind_statements.ensures.reads _ ho)) c.from_residual.ensures.1

pub block_body-returns-in_err-behind_end-clause-reads : goal.block_body-returns-in_err-behind_end-clause-reads
block_body-returns-in_err-behind_end-clause-reads t c = λ os ds ho hd. let f1 = c.in_ok-behind_statements.ensures.reads _ ho in fault_found (parts.BlockBody c.args.kind c.args.span os ds) (lexemes c.args.tokens.now) c.args.cursor _ _ _ _ (misses_here (lexemes c.args.tokens.now) c.args.cursor c.in_ok-behind_statements.behind_statements (word words.End) _ c.in_ok-behind_statements.ensures.goes.ends (done (start (parts.BlockBody c.args.kind c.args.span os ds) _) f1.reads (λ b. refl)) refl (λ t. refl) c.in_err-behind_end.ensures) c.from_residual-in_err-behind_end.ensures.1

pub block_body-returns-clause-reads : goal.block_body-returns-clause-reads
block_body-returns-clause-reads t c = λ os ds ho hd. let f1 = c.in_ok-behind_statements.ensures.reads _ ho in finds_last (lexemes c.args.tokens.now) c.args.cursor c.in_ok-behind_end.behind_end _ _ _ (seen (done (start (parts.BlockBody c.args.kind c.args.span os ds) _) f1.reads (λ b. refl)) c.in_ok-behind_end.ensures.takes refl) (omega (arith, c.in_ok-behind_statements.ensures.goes.forward, c.in_ok-behind_end.ensures.place)) refl (c.end_of_statement.ensures.reads _ _ f1.holds (holds_on f1.holds.ordered c.in_ok-behind_statements.ensures.grows hd))

pub block_body-returns-clause-goes : goal.block_body-returns-clause-goes
block_body-returns-clause-goes t c = goes_on (lexemes c.args.tokens.now) c.args.cursor c.in_ok-behind_end.behind_end _ (omega (arith, c.in_ok-behind_statements.ensures.goes.forward, c.in_ok-behind_end.ensures.place)) c.end_of_statement.ensures.goes

pub block_body-returns-clause-grows : goal.block_body-returns-clause-grows
block_body-returns-clause-grows t c = (grows_on c.in_ok-behind_statements.ensures.grows c.end_of_statement.ensures.grows)
