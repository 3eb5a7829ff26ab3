use Rattle.std.proofs.Common.{refl, map, arith, ap}
use Rattle.ada_tree.specs.declared.words.Reserved.TheVariants as words
use Rattle.ada_tree.specs.declared.declarations.DeclKind.TheVariants as decls
use Rattle.ada_grammar.specs.declared.tokens.Class.TheVariants as classes
use Rattle.ada_grammar.specs.Lexemes.{lexeme, lexemes}
use Rattle.ada_grammar.specs.Parts as parts
use Rattle.ada_grammar.specs.Parts.{mark, word, Gives, Call, Rest}
use Rattle.ada_grammar.proofs.Steps.{start, opened, seen, unseen, done}
use Rattle.ada_grammar.proofs.Answering.{passes_here, misses_here, refuses}
use Rattle.ada_grammar.proofs.Joining.{rest_as, absent, present, fault_found, finds_last, goes_on}
use Rattle.ada_grammar.proofs.Standing.{grows_on, holds_on}
use Rattle.ada_stmts.proofs.declarations.components.Goals as goal

pub returns-in_err-first-clause-reads : goal.returns-in_err-first-clause-reads
returns-in_err-first-clause-reads c = λ ds hd. fault_found (parts.Components (lexeme c.args.tokens.now.source c.args.name) ds) (lexemes c.args.tokens.now) c.args.cursor _ _ _ _ (misses_here (lexemes c.args.tokens.now) c.args.cursor c.args.cursor classes.Word _ c.requires.at (start (parts.Components (lexeme c.args.tokens.now.source c.args.name) ds) _) refl (λ t. refl) c.in_err-first.ensures) c.from_residual.ensures.1

pub returns-in_err-next-clause-reads : goal.returns-in_err-next-clause-reads
returns-in_err-next-clause-reads c = λ ds hd. fault_found (parts.Components (lexeme c.args.tokens.now.source c.args.name) ds) (lexemes c.args.tokens.now) c.args.cursor _ _ _ _ (refuses (lexemes c.args.tokens.now) c.args.cursor c.in_ok-first.behind_first _ (seen (start (parts.Components (lexeme c.args.tokens.now.source c.args.name) ds) _) c.in_ok-first.ensures.takes refl) (λ b. refl) (c.in_err-next.ensures.reads _ (c.new-own.ensures _ hd.ordered))) c.from_residual-in_err-next.ensures.1

pub loop-own-init : goal.loop-own-init
loop-own-init c = record { forward = omega (arith, c.in_ok-first.ensures.place, c.in_ok-next.ensures.goes.forward); ends = c.in_ok-next.ensures.goes.ends; grows = c.in_ok-next.ensures.grows; awaits = λ ds hd. let f1 = c.in_ok-next.ensures.reads _ (c.new-own.ensures _ hd.ordered) in (f1.children, f1.holds, (holds_on f1.holds.ordered c.in_ok-next.ensures.grows hd), (done (seen (start (parts.Components (lexeme c.args.tokens.now.source c.args.name) ds) _) c.in_ok-first.ensures.takes refl) f1.reads (λ b. refl))) }

pub returns-in_err-first-2-clause-reads : goal.returns-in_err-first-2-clause-reads
returns-in_err-first-2-clause-reads c = λ ds hd. let y = c.loop-own.invariant.awaits ds hd in fault_found (parts.Components (lexeme c.args.tokens.now.source c.args.name) ds) (lexemes c.args.tokens.now) c.args.cursor _ _ _ _ (passes_here (lexemes c.args.tokens.now) c.args.cursor c.loop-own.next classes.Word _ (opened y.3) (λ t. refl) c.in_err-first-2.ensures) c.from_residual-in_err-first-2.ensures.1

pub returns-in_err-next-2-clause-reads : goal.returns-in_err-next-2-clause-reads
returns-in_err-next-2-clause-reads c = λ ds hd. let y = c.loop-own.invariant.awaits ds hd in fault_found (parts.Components (lexeme c.args.tokens.now.source c.args.name) ds) (lexemes c.args.tokens.now) c.args.cursor _ _ _ _ (refuses (lexemes c.args.tokens.now) c.args.cursor c.in-Some.behind_first_2 _ (seen (opened y.3) (present classes.Word (lexeme c.args.tokens.now.source) (lexemes c.args.tokens.now) c.loop-own.next c.in_ok-first-2.ensures c.in-Some.is).takes refl) (λ b. refl) (c.in_err-next-2.ensures.reads _ y.1)) c.from_residual-in_err-next-2.ensures.1

pub returns-in_err-next-2-clause-grows : goal.returns-in_err-next-2-clause-grows
returns-in_err-next-2-clause-grows c = (grows_on c.loop-own.invariant.grows c.in_err-next-2.ensures.grows)

pub loop-own-preserved : goal.loop-own-preserved
loop-own-preserved c = record { forward = omega (arith, c.loop-own.invariant.forward, (present classes.Word (lexeme c.args.tokens.now.source) (lexemes c.args.tokens.now) c.loop-own.next c.in_ok-first-2.ensures c.in-Some.is).place, c.in_ok-next-2.ensures.goes.forward); ends = c.in_ok-next-2.ensures.goes.ends; grows = (grows_on c.loop-own.invariant.grows c.in_ok-next-2.ensures.grows); awaits = λ ds hd. let y = c.loop-own.invariant.awaits ds hd in let f2 = c.in_ok-next-2.ensures.reads _ y.1 in (f2.children, f2.holds, (holds_on f2.holds.ordered c.in_ok-next-2.ensures.grows y.2), (done (seen (opened y.3) (present classes.Word (lexeme c.args.tokens.now.source) (lexemes c.args.tokens.now) c.loop-own.next c.in_ok-first-2.ensures c.in-Some.is).takes refl) f2.reads (λ b. refl))) }

pub loop-own-smaller : goal.loop-own-smaller
loop-own-smaller c = omega (arith, (present classes.Word (lexeme c.args.tokens.now.source) (lexemes c.args.tokens.now) c.loop-own.next c.in_ok-first-2.ensures c.in-Some.is).place, c.in_ok-next-2.ensures.goes.forward, (present classes.Word (lexeme c.args.tokens.now.source) (lexemes c.args.tokens.now) c.loop-own.next c.in_ok-first-2.ensures c.in-Some.is).within)

pub returns-in_err-behind_end-clause-reads : goal.returns-in_err-behind_end-clause-reads
returns-in_err-behind_end-clause-reads c = λ ds hd. let y = c.loop-own.invariant.awaits ds hd in fault_found (parts.Components (lexeme c.args.tokens.now.source c.args.name) ds) (lexemes c.args.tokens.now) c.args.cursor _ _ _ _ (misses_here (lexemes c.args.tokens.now) c.args.cursor c.loop-own.next (word words.End) _ c.loop-own.invariant.ends (unseen (opened y.3) (absent classes.Word (lexeme c.args.tokens.now.source) (lexemes c.args.tokens.now) c.loop-own.next c.in_ok-first-2.ensures c.in_default.is)) refl (λ t. refl) c.in_err-behind_end.ensures) c.from_residual-in_err-behind_end.ensures.1

pub returns-in_err-behind_record-clause-reads : goal.returns-in_err-behind_record-clause-reads
returns-in_err-behind_record-clause-reads c = λ ds hd. let y = c.loop-own.invariant.awaits ds hd in fault_found (parts.Components (lexeme c.args.tokens.now.source c.args.name) ds) (lexemes c.args.tokens.now) c.args.cursor _ _ _ _ (misses_here (lexemes c.args.tokens.now) c.args.cursor c.in_ok-behind_end.behind_end (word words.Record) _ (omega (arith, c.in_ok-behind_end.ensures.place, c.in_ok-behind_end.ensures.within)) (seen (unseen (opened y.3) (absent classes.Word (lexeme c.args.tokens.now.source) (lexemes c.args.tokens.now) c.loop-own.next c.in_ok-first-2.ensures c.in_default.is)) c.in_ok-behind_end.ensures.takes refl) refl (λ t. refl) c.in_err-behind_record.ensures) c.from_residual-in_err-behind_record.ensures.1

pub returns-clause-reads : goal.returns-clause-reads
returns-clause-reads c = λ ds hd. let y = c.loop-own.invariant.awaits ds hd in finds_last (lexemes c.args.tokens.now) c.args.cursor c.in_ok-behind_record.behind_record _ _ _ (rest_as (λ z. parts.Closing decls.RecordType z y.0 ds) (ap (λ z. map (lexeme c.args.tokens.now.source) z) c.in_ok-names.ensures) (seen (seen (unseen (opened y.3) (absent classes.Word (lexeme c.args.tokens.now.source) (lexemes c.args.tokens.now) c.loop-own.next c.in_ok-first-2.ensures c.in_default.is)) c.in_ok-behind_end.ensures.takes refl) c.in_ok-behind_record.ensures.takes refl)) (omega (arith, c.loop-own.invariant.forward, c.in_ok-behind_end.ensures.place, c.in_ok-behind_record.ensures.place)) refl (c.closing.ensures.reads _ _ y.1 y.2)

pub returns-clause-goes : goal.returns-clause-goes
returns-clause-goes c = goes_on (lexemes c.args.tokens.now) c.args.cursor c.in_ok-behind_record.behind_record _ (omega (arith, c.loop-own.invariant.forward, c.in_ok-behind_end.ensures.place, c.in_ok-behind_record.ensures.place)) c.closing.ensures.goes

pub returns-clause-grows : goal.returns-clause-grows
returns-clause-grows c = (grows_on c.loop-own.invariant.grows c.closing.ensures.grows)
