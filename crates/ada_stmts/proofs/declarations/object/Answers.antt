use Rattle.std.proofs.Common.{refl, map, arith}
use Rattle.ada_tree.specs.declared.token.Mark.TheVariants as marks
use Rattle.ada_tree.specs.declared.words.Reserved.TheVariants as words
use Rattle.ada_grammar.specs.Lexemes.{lexeme, lexemes}
use Rattle.ada_grammar.specs.Parts as parts
use Rattle.ada_grammar.specs.Parts.{mark, word, Gives, Call, Rest}
use Rattle.ada_grammar.proofs.Steps.{start, seen, unseen, done}
use Rattle.ada_grammar.proofs.Answering.{passes_here, misses_here, refuses}
use Rattle.ada_grammar.proofs.Joining.{absent, present, fault_found, found, finds_last, goes_on}
use Rattle.ada_grammar.proofs.Standing.{grows_on, holds_on}
use Rattle.ada_stmts.proofs.declarations.object.Goals as goal

pub returns-in_err-behind_keyword-clause-reads : goal.returns-in_err-behind_keyword-clause-reads
returns-in_err-behind_keyword-clause-reads c = λ ds hd. fault_found (parts.Object (map (lexeme c.args.tokens.now.source) c.args.names.now) ds) (lexemes c.args.tokens.now) c.args.cursor _ _ _ _ (passes_here (lexemes c.args.tokens.now) c.args.cursor c.args.cursor (word words.Constant) _ (start (parts.Object (map (lexeme c.args.tokens.now.source) c.args.names.now) ds) _) (λ t. refl) c.in_err-behind_keyword.ensures) c.from_residual.ensures.1

pub returns-in_err-behind_becomes-clause-reads : goal.returns-in_err-behind_becomes-clause-reads
returns-in_err-behind_becomes-clause-reads c = λ ds hd. fault_found (parts.Object (map (lexeme c.args.tokens.now.source) c.args.names.now) ds) (lexemes c.args.tokens.now) c.args.cursor _ _ _ _ (passes_here (lexemes c.args.tokens.now) c.args.cursor c.in-Some.behind_keyword (mark marks.Becomes) _ (seen (start (parts.Object (map (lexeme c.args.tokens.now.source) c.args.names.now) ds) _) (present (word words.Constant) (lexeme c.args.tokens.now.source) (lexemes c.args.tokens.now) c.args.cursor c.in_ok-behind_keyword.ensures c.in-Some.is).takes refl) (λ t. refl) c.in_err-behind_becomes.ensures) c.from_residual-in_err-behind_becomes.ensures.1

pub returns-in_err-behind_value-clause-reads : goal.returns-in_err-behind_value-clause-reads
returns-in_err-behind_value-clause-reads c = λ ds hd. fault_found (parts.Object (map (lexeme c.args.tokens.now.source) c.args.names.now) ds) (lexemes c.args.tokens.now) c.args.cursor _ _ _ _ (refuses (lexemes c.args.tokens.now) c.args.cursor c.in-Some-2.behind_becomes _ (seen (seen (start (parts.Object (map (lexeme c.args.tokens.now.source) c.args.names.now) ds) _) (present (word words.Constant) (lexeme c.args.tokens.now.source) (lexemes c.args.tokens.now) c.args.cursor c.in_ok-behind_keyword.ensures c.in-Some.is).takes refl) (present (mark marks.Becomes) (lexeme c.args.tokens.now.source) (lexemes c.args.tokens.now) c.in-Some.behind_keyword c.in_ok-behind_becomes.ensures c.in-Some-2.is).takes refl) (λ b. refl) (c.in_err-behind_value.ensures.reads _ (c.new-own.ensures _ hd.ordered))) c.from_residual-in_err-behind_value.ensures.1

pub returns-in_err-behind_end-clause-reads : goal.returns-in_err-behind_end-clause-reads
returns-in_err-behind_end-clause-reads c = λ ds hd. let f1 = c.in_ok-behind_value.ensures.reads _ (c.new-own.ensures _ hd.ordered) in fault_found (parts.Object (map (lexeme c.args.tokens.now.source) c.args.names.now) ds) (lexemes c.args.tokens.now) c.args.cursor _ _ _ _ (misses_here (lexemes c.args.tokens.now) c.args.cursor c.in_ok-behind_value.behind_value (mark marks.Semicolon) _ c.in_ok-behind_value.ensures.goes.ends (done (seen (seen (start (parts.Object (map (lexeme c.args.tokens.now.source) c.args.names.now) ds) _) (present (word words.Constant) (lexeme c.args.tokens.now.source) (lexemes c.args.tokens.now) c.args.cursor c.in_ok-behind_keyword.ensures c.in-Some.is).takes refl) (present (mark marks.Becomes) (lexeme c.args.tokens.now.source) (lexemes c.args.tokens.now) c.in-Some.behind_keyword c.in_ok-behind_becomes.ensures c.in-Some-2.is).takes refl) f1.reads (λ b. refl)) refl (λ t. refl) c.in_err-behind_end.ensures) c.from_residual-in_err-behind_end.ensures.1

pub returns-in_err-declare_all-clause-grows : goal.returns-in_err-declare_all-clause-grows
returns-in_err-declare_all-clause-grows c = (grows_on c.in_ok-behind_value.ensures.grows c.in_err-declare_all.ensures.grows)

pub returns-in-Some-2-clause-reads : goal.returns-in-Some-2-clause-reads
returns-in-Some-2-clause-reads c = λ ds hd. let f1 = c.in_ok-behind_value.ensures.reads _ (c.new-own.ensures _ hd.ordered) in found (lexemes c.args.tokens.now) c.args.cursor c.in_ok-behind_end.behind_end (c.in_ok-declare_all.ensures.builds _ _ f1.holds (holds_on f1.holds.ordered c.in_ok-behind_value.ensures.grows hd)) (omega (arith, (present (word words.Constant) (lexeme c.args.tokens.now.source) (lexemes c.args.tokens.now) c.args.cursor c.in_ok-behind_keyword.ensures c.in-Some.is).place, (present (mark marks.Becomes) (lexeme c.args.tokens.now.source) (lexemes c.args.tokens.now) c.in-Some.behind_keyword c.in_ok-behind_becomes.ensures c.in-Some-2.is).place, c.in_ok-behind_value.ensures.goes.forward, c.in_ok-behind_end.ensures.place)) (omega (arith, c.in_ok-behind_end.ensures.place, c.in_ok-behind_end.ensures.within)) (seen (done (seen (seen (start (parts.Object (map (lexeme c.args.tokens.now.source) c.args.names.now) ds) _) (present (word words.Constant) (lexeme c.args.tokens.now.source) (lexemes c.args.tokens.now) c.args.cursor c.in_ok-behind_keyword.ensures c.in-Some.is).takes refl) (present (mark marks.Becomes) (lexeme c.args.tokens.now.source) (lexemes c.args.tokens.now) c.in-Some.behind_keyword c.in_ok-behind_becomes.ensures c.in-Some-2.is).takes refl) f1.reads (λ b. refl)) c.in_ok-behind_end.ensures.takes refl)

pub returns-in-Some-2-clause-goes : goal.returns-in-Some-2-clause-goes
returns-in-Some-2-clause-goes c = record { forward = omega (arith, (present (word words.Constant) (lexeme c.args.tokens.now.source) (lexemes c.args.tokens.now) c.args.cursor c.in_ok-behind_keyword.ensures c.in-Some.is).place, (present (mark marks.Becomes) (lexeme c.args.tokens.now.source) (lexemes c.args.tokens.now) c.in-Some.behind_keyword c.in_ok-behind_becomes.ensures c.in-Some-2.is).place, c.in_ok-behind_value.ensures.goes.forward, c.in_ok-behind_end.ensures.place); ends = (omega (arith, c.in_ok-behind_end.ensures.place, c.in_ok-behind_end.ensures.within)) }

pub returns-in-Some-2-clause-grows : goal.returns-in-Some-2-clause-grows
returns-in-Some-2-clause-grows c = (grows_on c.in_ok-behind_value.ensures.grows c.in_ok-declare_all.ensures.grows)

pub returns-in-Some-clause-reads : goal.returns-in-Some-clause-reads
returns-in-Some-clause-reads c = λ ds hd. finds_last (lexemes c.args.tokens.now) c.args.cursor c.in-Some.behind_keyword _ _ _ (unseen (seen (start (parts.Object (map (lexeme c.args.tokens.now.source) c.args.names.now) ds) _) (present (word words.Constant) (lexeme c.args.tokens.now.source) (lexemes c.args.tokens.now) c.args.cursor c.in_ok-behind_keyword.ensures c.in-Some.is).takes refl) (absent (mark marks.Becomes) (lexeme c.args.tokens.now.source) (lexemes c.args.tokens.now) c.in-Some.behind_keyword c.in_ok-behind_becomes.ensures c.in_default-2.is)) (omega (arith, (present (word words.Constant) (lexeme c.args.tokens.now.source) (lexemes c.args.tokens.now) c.args.cursor c.in_ok-behind_keyword.ensures c.in-Some.is).place)) refl (c.object_from.ensures.reads _ hd)

pub returns-in-Some-clause-goes : goal.returns-in-Some-clause-goes
returns-in-Some-clause-goes c = goes_on (lexemes c.args.tokens.now) c.args.cursor c.in-Some.behind_keyword _ (omega (arith, (present (word words.Constant) (lexeme c.args.tokens.now.source) (lexemes c.args.tokens.now) c.args.cursor c.in_ok-behind_keyword.ensures c.in-Some.is).place)) c.object_from.ensures.goes

pub returns-clause-reads : goal.returns-clause-reads
returns-clause-reads c = λ ds hd. finds_last (lexemes c.args.tokens.now) c.args.cursor c.args.cursor _ _ _ (unseen (start (parts.Object (map (lexeme c.args.tokens.now.source) c.args.names.now) ds) _) (absent (word words.Constant) (lexeme c.args.tokens.now.source) (lexemes c.args.tokens.now) c.args.cursor c.in_ok-behind_keyword.ensures c.in_default.is)) (omega arith) refl (c.object_from-2.ensures.reads _ hd)

pub returns-clause-goes : goal.returns-clause-goes
returns-clause-goes c = goes_on (lexemes c.args.tokens.now) c.args.cursor c.args.cursor _ (omega arith) c.object_from-2.ensures.goes
