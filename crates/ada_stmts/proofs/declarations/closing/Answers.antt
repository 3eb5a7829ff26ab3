use Rattle.std.proofs.Common.{refl, map, arith}
use Rattle.ada_tree.specs.declared.token.Mark.TheVariants as marks
use Rattle.ada_tree.specs.declared.words.Reserved.TheVariants as words
use Rattle.ada_grammar.specs.Lexemes.{lexeme, lexemes}
use Rattle.ada_grammar.specs.Parts as parts
use Rattle.ada_grammar.specs.Parts.{mark, word, Gives, Call, Rest}
use Rattle.ada_grammar.proofs.Steps.{start, seen, unseen, done}
use Rattle.ada_grammar.proofs.Answering.{passes_here, misses_here, refuses}
use Rattle.ada_grammar.proofs.Joining.{absent, present, fault_found, found}
use Rattle.ada_grammar.proofs.Standing.{grows_on, holds_on}
use Rattle.ada_stmts.proofs.declarations.closing.Goals as goal

pub returns-in_err-behind_keyword-clause-reads : goal.returns-in_err-behind_keyword-clause-reads
returns-in_err-behind_keyword-clause-reads c = λ os ds ho hd. fault_found (parts.Closing c.args.kind (map (lexeme c.args.tokens.now.source) c.args.names.now) os ds) (lexemes c.args.tokens.now) c.args.cursor _ _ _ _ (passes_here (lexemes c.args.tokens.now) c.args.cursor c.args.cursor (word words.With) _ (start (parts.Closing c.args.kind (map (lexeme c.args.tokens.now.source) c.args.names.now) os ds) _) (λ t. refl) c.in_err-behind_keyword.ensures) c.from_residual.ensures.1

pub returns-in_err-behind_behind_with-clause-reads : goal.returns-in_err-behind_behind_with-clause-reads
returns-in_err-behind_behind_with-clause-reads c = λ os ds ho hd. fault_found (parts.Closing c.args.kind (map (lexeme c.args.tokens.now.source) c.args.names.now) os ds) (lexemes c.args.tokens.now) c.args.cursor _ _ _ _ (refuses (lexemes c.args.tokens.now) c.args.cursor c.in-Some.behind_keyword _ (seen (start (parts.Closing c.args.kind (map (lexeme c.args.tokens.now.source) c.args.names.now) os ds) _) (present (word words.With) (lexeme c.args.tokens.now.source) (lexemes c.args.tokens.now) c.args.cursor c.in_ok-behind_keyword.ensures c.in-Some.is).takes refl) (λ b. refl) (c.in_err-behind_behind_with.ensures.reads _ ho)) c.from_residual-in_err-behind_behind_with.ensures.1

pub returns-in_err-behind_end-clause-reads : goal.returns-in_err-behind_end-clause-reads
returns-in_err-behind_end-clause-reads c = λ os ds ho hd. let f1 = c.in_ok-behind_behind_with.ensures.reads _ ho in fault_found (parts.Closing c.args.kind (map (lexeme c.args.tokens.now.source) c.args.names.now) os ds) (lexemes c.args.tokens.now) c.args.cursor _ _ _ _ (misses_here (lexemes c.args.tokens.now) c.args.cursor c.in_ok-behind_behind_with.behind_behind_with (mark marks.Semicolon) _ c.in_ok-behind_behind_with.ensures.goes.ends (done (seen (start (parts.Closing c.args.kind (map (lexeme c.args.tokens.now.source) c.args.names.now) os ds) _) (present (word words.With) (lexeme c.args.tokens.now.source) (lexemes c.args.tokens.now) c.args.cursor c.in_ok-behind_keyword.ensures c.in-Some.is).takes refl) f1.reads (λ b. refl)) refl (λ t. refl) c.in_err-behind_end.ensures) c.from_residual-in_err-behind_end.ensures.1

pub returns-in_err-declare_all-clause-grows : goal.returns-in_err-declare_all-clause-grows
returns-in_err-declare_all-clause-grows c = (grows_on c.in_ok-behind_behind_with.ensures.grows c.in_err-declare_all.ensures.grows)

pub returns-in-Some-clause-reads : goal.returns-in-Some-clause-reads
returns-in-Some-clause-reads c = λ os ds ho hd. let f1 = c.in_ok-behind_behind_with.ensures.reads _ ho in found (lexemes c.args.tokens.now) c.args.cursor c.in_ok-behind_end.behind_end (c.in_ok-declare_all.ensures.builds _ _ f1.holds (holds_on f1.holds.ordered c.in_ok-behind_behind_with.ensures.grows hd)) (omega (arith, (present (word words.With) (lexeme c.args.tokens.now.source) (lexemes c.args.tokens.now) c.args.cursor c.in_ok-behind_keyword.ensures c.in-Some.is).place, c.in_ok-behind_behind_with.ensures.goes.forward, c.in_ok-behind_end.ensures.place)) (omega (arith, c.in_ok-behind_end.ensures.place, c.in_ok-behind_end.ensures.within)) (seen (done (seen (start (parts.Closing c.args.kind (map (lexeme c.args.tokens.now.source) c.args.names.now) os ds) _) (present (word words.With) (lexeme c.args.tokens.now.source) (lexemes c.args.tokens.now) c.args.cursor c.in_ok-behind_keyword.ensures c.in-Some.is).takes refl) f1.reads (λ b. refl)) c.in_ok-behind_end.ensures.takes refl)

pub returns-in-Some-clause-goes : goal.returns-in-Some-clause-goes
returns-in-Some-clause-goes c = record { forward = omega (arith, (present (word words.With) (lexeme c.args.tokens.now.source) (lexemes c.args.tokens.now) c.args.cursor c.in_ok-behind_keyword.ensures c.in-Some.is).place, c.in_ok-behind_behind_with.ensures.goes.forward, c.in_ok-behind_end.ensures.place); ends = (omega (arith, c.in_ok-behind_end.ensures.place, c.in_ok-behind_end.ensures.within)) }

pub returns-in-Some-clause-grows : goal.returns-in-Some-clause-grows
returns-in-Some-clause-grows c = (grows_on c.in_ok-behind_behind_with.ensures.grows c.in_ok-declare_all.ensures.grows)

pub returns-in_err-behind_end_2-clause-reads : goal.returns-in_err-behind_end_2-clause-reads
returns-in_err-behind_end_2-clause-reads c = λ os ds ho hd. fault_found (parts.Closing c.args.kind (map (lexeme c.args.tokens.now.source) c.args.names.now) os ds) (lexemes c.args.tokens.now) c.args.cursor _ _ _ _ (misses_here (lexemes c.args.tokens.now) c.args.cursor c.args.cursor (mark marks.Semicolon) _ c.requires.at (unseen (start (parts.Closing c.args.kind (map (lexeme c.args.tokens.now.source) c.args.names.now) os ds) _) (absent (word words.With) (lexeme c.args.tokens.now.source) (lexemes c.args.tokens.now) c.args.cursor c.in_ok-behind_keyword.ensures c.in_default.is)) refl (λ t. refl) c.in_err-behind_end_2.ensures) c.from_residual-in_err-behind_end_2.ensures.1

pub returns-clause-reads : goal.returns-clause-reads
returns-clause-reads c = λ os ds ho hd. found (lexemes c.args.tokens.now) c.args.cursor c.in_ok-behind_end_2.behind_end_2 (c.in_ok-declare_all-2.ensures.builds _ _ ho hd) (omega (arith, c.in_ok-behind_end_2.ensures.place)) (omega (arith, c.in_ok-behind_end_2.ensures.place, c.in_ok-behind_end_2.ensures.within)) (seen (unseen (start (parts.Closing c.args.kind (map (lexeme c.args.tokens.now.source) c.args.names.now) os ds) _) (absent (word words.With) (lexeme c.args.tokens.now.source) (lexemes c.args.tokens.now) c.args.cursor c.in_ok-behind_keyword.ensures c.in_default.is)) c.in_ok-behind_end_2.ensures.takes refl)

pub returns-clause-goes : goal.returns-clause-goes
returns-clause-goes c = record { forward = omega (arith, c.in_ok-behind_end_2.ensures.place); ends = (omega (arith, c.in_ok-behind_end_2.ensures.place, c.in_ok-behind_end_2.ensures.within)) }
