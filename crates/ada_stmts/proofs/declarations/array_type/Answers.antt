use Rattle.std.proofs.Common.{refl, map, arith, ap}
use Rattle.ada_tree.specs.declared.token.Mark.TheVariants as marks
use Rattle.ada_tree.specs.declared.words.Reserved.TheVariants as words
use Rattle.ada_tree.specs.declared.declarations.DeclKind.TheVariants as decls
use Rattle.ada_grammar.specs.Lexemes.{lexeme, lexemes}
use Rattle.ada_grammar.specs.Phrases as phrases
use Rattle.ada_grammar.specs.Parts as parts
use Rattle.ada_grammar.specs.Parts.{mark, word, Gives, Call, Rest}
use Rattle.ada_grammar.proofs.Steps.{start, seen, done}
use Rattle.ada_grammar.proofs.Answering.{misses_here, refuses}
use Rattle.ada_grammar.proofs.Joining.{rest_as, fault_found, finds_last, goes_on}
use Rattle.ada_grammar.proofs.Standing.{grows_on, holds_on}
use Rattle.ada_stmts.proofs.declarations.array_type.Goals as goal

pub returns-in_err-behind_opening-clause-reads : goal.returns-in_err-behind_opening-clause-reads
returns-in_err-behind_opening-clause-reads c = λ ds hd. fault_found (parts.ArrayType (lexeme c.args.tokens.now.source c.args.name) ds) (lexemes c.args.tokens.now) c.args.cursor _ _ _ _ (misses_here (lexemes c.args.tokens.now) c.args.cursor c.args.cursor (mark marks.Open) _ c.requires.at (start (parts.ArrayType (lexeme c.args.tokens.now.source c.args.name) ds) _) refl (λ t. refl) c.in_err-behind_opening.ensures) c.from_residual.ensures.1

pub returns-in_err-behind_range-clause-reads : goal.returns-in_err-behind_range-clause-reads
returns-in_err-behind_range-clause-reads c = λ ds hd. fault_found (parts.ArrayType (lexeme c.args.tokens.now.source c.args.name) ds) (lexemes c.args.tokens.now) c.args.cursor _ _ _ _ (refuses (lexemes c.args.tokens.now) c.args.cursor c.in_ok-behind_opening.behind_opening _ (seen (start (parts.ArrayType (lexeme c.args.tokens.now.source c.args.name) ds) _) c.in_ok-behind_opening.ensures.takes refl) (λ b. refl) (c.in_err-behind_range.ensures.reads _ (c.new-own.ensures _ hd.ordered))) c.from_residual-in_err-behind_range.ensures.1

pub returns-in_err-behind_end-clause-reads : goal.returns-in_err-behind_end-clause-reads
returns-in_err-behind_end-clause-reads c = λ ds hd. let f1 = c.in_ok-behind_range.ensures.reads _ (c.new-own.ensures _ hd.ordered) in fault_found (parts.ArrayType (lexeme c.args.tokens.now.source c.args.name) ds) (lexemes c.args.tokens.now) c.args.cursor _ _ _ _ (misses_here (lexemes c.args.tokens.now) c.args.cursor c.in_ok-behind_range.behind_range (mark marks.Close) _ c.in_ok-behind_range.ensures.goes.ends (done (seen (start (parts.ArrayType (lexeme c.args.tokens.now.source c.args.name) ds) _) c.in_ok-behind_opening.ensures.takes refl) f1.reads (λ b. refl)) refl (λ t. refl) c.in_err-behind_end.ensures) c.from_residual-in_err-behind_end.ensures.1

pub returns-in_err-behind_keyword-clause-reads : goal.returns-in_err-behind_keyword-clause-reads
returns-in_err-behind_keyword-clause-reads c = λ ds hd. let f1 = c.in_ok-behind_range.ensures.reads _ (c.new-own.ensures _ hd.ordered) in fault_found (parts.ArrayType (lexeme c.args.tokens.now.source c.args.name) ds) (lexemes c.args.tokens.now) c.args.cursor _ _ _ _ (misses_here (lexemes c.args.tokens.now) c.args.cursor c.in_ok-behind_end.behind_end (word words.Of) _ (omega (arith, c.in_ok-behind_end.ensures.place, c.in_ok-behind_end.ensures.within)) (seen (done (seen (start (parts.ArrayType (lexeme c.args.tokens.now.source c.args.name) ds) _) c.in_ok-behind_opening.ensures.takes refl) f1.reads (λ b. refl)) c.in_ok-behind_end.ensures.takes refl) refl (λ t. refl) c.in_err-behind_keyword.ensures) c.from_residual-in_err-behind_keyword.ensures.1

pub returns-in_err-behind_mark-clause-reads : goal.returns-in_err-behind_mark-clause-reads
returns-in_err-behind_mark-clause-reads c = λ ds hd. let f1 = c.in_ok-behind_range.ensures.reads _ (c.new-own.ensures _ hd.ordered) in fault_found (parts.ArrayType (lexeme c.args.tokens.now.source c.args.name) ds) (lexemes c.args.tokens.now) c.args.cursor _ _ _ _ (refuses (lexemes c.args.tokens.now) c.args.cursor c.in_ok-behind_keyword.behind_keyword _ (seen (seen (done (seen (start (parts.ArrayType (lexeme c.args.tokens.now.source c.args.name) ds) _) c.in_ok-behind_opening.ensures.takes refl) f1.reads (λ b. refl)) c.in_ok-behind_end.ensures.takes refl) c.in_ok-behind_keyword.ensures.takes refl) (λ b. refl) (c.in_err-behind_mark.ensures.reads _ f1.holds)) c.from_residual-in_err-behind_mark.ensures.1

pub returns-in_err-behind_mark-clause-grows : goal.returns-in_err-behind_mark-clause-grows
returns-in_err-behind_mark-clause-grows c = (grows_on c.in_ok-behind_range.ensures.grows c.in_err-behind_mark.ensures.grows)

pub returns-in_err-names-clause-grows : goal.returns-in_err-names-clause-grows
returns-in_err-names-clause-grows c = (grows_on c.in_ok-behind_range.ensures.grows c.in_ok-behind_mark.ensures.grows)

pub returns-clause-reads : goal.returns-clause-reads
returns-clause-reads c = λ ds hd. let f1 = c.in_ok-behind_range.ensures.reads _ (c.new-own.ensures _ hd.ordered) in let f2 = c.in_ok-behind_mark.ensures.reads _ f1.holds in finds_last (lexemes c.args.tokens.now) c.args.cursor c.in_ok-behind_mark.behind_mark _ _ _ (rest_as (λ z. parts.Closing decls.ArrayType z (phrases.with_expr (phrases.with_expr phrases.none f1.phrase.tree) f2.phrase.tree) ds) (ap (λ z. map (lexeme c.args.tokens.now.source) z) c.in_ok-names.ensures) (done (seen (seen (done (seen (start (parts.ArrayType (lexeme c.args.tokens.now.source c.args.name) ds) _) c.in_ok-behind_opening.ensures.takes refl) f1.reads (λ b. refl)) c.in_ok-behind_end.ensures.takes refl) c.in_ok-behind_keyword.ensures.takes refl) f2.reads (λ b. refl))) (omega (arith, c.in_ok-behind_opening.ensures.place, c.in_ok-behind_range.ensures.goes.forward, c.in_ok-behind_end.ensures.place, c.in_ok-behind_keyword.ensures.place, c.in_ok-behind_mark.ensures.goes.forward)) refl (c.closing.ensures.reads _ _ f2.holds (holds_on f2.holds.ordered c.in_ok-behind_mark.ensures.grows (holds_on f1.holds.ordered c.in_ok-behind_range.ensures.grows hd)))

pub returns-clause-goes : goal.returns-clause-goes
returns-clause-goes c = goes_on (lexemes c.args.tokens.now) c.args.cursor c.in_ok-behind_mark.behind_mark _ (omega (arith, c.in_ok-behind_opening.ensures.place, c.in_ok-behind_range.ensures.goes.forward, c.in_ok-behind_end.ensures.place, c.in_ok-behind_keyword.ensures.place, c.in_ok-behind_mark.ensures.goes.forward)) c.closing.ensures.goes

pub returns-clause-grows : goal.returns-clause-grows
returns-clause-grows c = (grows_on (grows_on c.in_ok-behind_range.ensures.grows c.in_ok-behind_mark.ensures.grows) c.closing.ensures.grows)
