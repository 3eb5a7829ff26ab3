use Rattle.std.proofs.Common.{refl, arith, sym}
use Rattle.ada_tree.specs.declared.token.Mark.TheVariants as marks
use Rattle.ada_grammar.specs.Lexemes.{lexeme, lexemes}
use Rattle.ada_grammar.specs.Parts as parts
use Rattle.ada_grammar.specs.Parts.{mark, word, Gives, Call, Rest}
use Rattle.ada_grammar.proofs.Steps.{start, seen, unseen, decided, declined}
use Rattle.ada_grammar.proofs.Answering.{passes_here}
use Rattle.ada_grammar.proofs.Joining.{absent, present, fault_found, finds_last, goes_on}
use Rattle.ada_aspects.proofs.readers.in_global.Goals as goal

pub returns-then-not-names_mode-clause-reads : goal.returns-then-not-names_mode-clause-reads
returns-then-not-names_mode-clause-reads c = λ ds hd. finds_last (lexemes c.args.tokens.now) c.args.cursor c.args.cursor _ _ _ (declined (start (parts.InGlobal c.args.span (lexeme c.args.tokens.now.source c.args.name) ds) _) (sym c.if-not-names_mode.ensures)) (omega arith) refl (c.items_from.ensures.reads _ hd)

pub returns-then-not-names_mode-clause-goes : goal.returns-then-not-names_mode-clause-goes
returns-then-not-names_mode-clause-goes c = c.items_from.ensures.goes

pub returns-in_err-behind_arrow-clause-reads : goal.returns-in_err-behind_arrow-clause-reads
returns-in_err-behind_arrow-clause-reads c = λ ds hd. fault_found (parts.InGlobal c.args.span (lexeme c.args.tokens.now.source c.args.name) ds) (lexemes c.args.tokens.now) c.args.cursor _ _ _ _ (passes_here (lexemes c.args.tokens.now) c.args.cursor c.args.cursor (mark marks.Arrow) _ (decided (start (parts.InGlobal c.args.span (lexeme c.args.tokens.now.source c.args.name) ds) _) (sym c.if-not-names_mode.ensures)) (λ t. refl) c.in_err-behind_arrow.ensures) c.from_residual.ensures.1

pub returns-in-Some-clause-reads : goal.returns-in-Some-clause-reads
returns-in-Some-clause-reads c = λ ds hd. finds_last (lexemes c.args.tokens.now) c.args.cursor c.in-Some.behind_arrow _ _ _ (seen (decided (start (parts.InGlobal c.args.span (lexeme c.args.tokens.now.source c.args.name) ds) _) (sym c.if-not-names_mode.ensures)) (present (mark marks.Arrow) (lexeme c.args.tokens.now.source) (lexemes c.args.tokens.now) c.args.cursor c.in_ok-behind_arrow.ensures c.in-Some.is).takes refl) (omega (arith, (present (mark marks.Arrow) (lexeme c.args.tokens.now.source) (lexemes c.args.tokens.now) c.args.cursor c.in_ok-behind_arrow.ensures c.in-Some.is).place)) refl (c.modes_from.ensures.reads _ hd)

pub returns-in-Some-clause-goes : goal.returns-in-Some-clause-goes
returns-in-Some-clause-goes c = goes_on (lexemes c.args.tokens.now) c.args.cursor c.in-Some.behind_arrow _ (omega (arith, (present (mark marks.Arrow) (lexeme c.args.tokens.now.source) (lexemes c.args.tokens.now) c.args.cursor c.in_ok-behind_arrow.ensures c.in-Some.is).place)) c.modes_from.ensures.goes

pub returns-clause-reads : goal.returns-clause-reads
returns-clause-reads c = λ ds hd. finds_last (lexemes c.args.tokens.now) c.args.cursor c.args.cursor _ _ _ (unseen (decided (start (parts.InGlobal c.args.span (lexeme c.args.tokens.now.source c.args.name) ds) _) (sym c.if-not-names_mode.ensures)) (absent (mark marks.Arrow) (lexeme c.args.tokens.now.source) (lexemes c.args.tokens.now) c.args.cursor c.in_ok-behind_arrow.ensures c.in_default.is)) (omega arith) refl (c.items_from-2.ensures.reads _ hd)

pub returns-clause-goes : goal.returns-clause-goes
returns-clause-goes c = c.items_from-2.ensures.goes
