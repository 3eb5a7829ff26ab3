use Rattle.std.proofs.Common.{refl, arith}
use Rattle.ada_tree.specs.declared.token.Mark.TheVariants as marks
use Rattle.ada_tree.specs.declared.words.Reserved.TheVariants as words
use Rattle.ada_grammar.specs.declared.tokens.Class.TheVariants as classes
use Rattle.ada_grammar.specs.Lexemes.{lexeme, lexemes}
use Rattle.ada_grammar.specs.Parts as parts
use Rattle.ada_grammar.specs.Parts.{mark, word, Gives, Call, Rest}
use Rattle.ada_grammar.proofs.Steps.{start, seen, unseen, done}
use Rattle.ada_grammar.proofs.Answering.{passes_here, misses_here, refuses}
use Rattle.ada_grammar.proofs.Joining.{absent, present, fault_found, found, finds_last, goes_on}
use Rattle.ada_grammar.proofs.Standing.{grows_on, holds_on}
use Rattle.ada_aspects.proofs.readers.global_definition.Goals as goal

pub returns-in_err-keyword-clause-reads : goal.returns-in_err-keyword-clause-reads
returns-in_err-keyword-clause-reads c = λ ds hd. fault_found (parts.GlobalDefinition ds) (lexemes c.args.tokens.now) c.args.cursor _ _ _ _ (passes_here (lexemes c.args.tokens.now) c.args.cursor c.args.cursor (word words.Null) _ (start (parts.GlobalDefinition ds) _) (λ t. refl) c.in_err-keyword.ensures) c.from_residual.ensures.1

pub returns-in-Some-clause-reads : goal.returns-in-Some-clause-reads
returns-in-Some-clause-reads c = λ ds hd. found (lexemes c.args.tokens.now) c.args.cursor c.in-Some.behind_keyword (c.in_ok-add_aspect.ensures.builds _ _ (c.new.ensures _ hd.ordered) hd) (omega (arith, (present (word words.Null) (lexeme c.args.tokens.now.source) (lexemes c.args.tokens.now) c.args.cursor c.in_ok-keyword.ensures c.in-Some.is).place)) (omega (arith, (present (word words.Null) (lexeme c.args.tokens.now.source) (lexemes c.args.tokens.now) c.args.cursor c.in_ok-keyword.ensures c.in-Some.is).place, (present (word words.Null) (lexeme c.args.tokens.now.source) (lexemes c.args.tokens.now) c.args.cursor c.in_ok-keyword.ensures c.in-Some.is).within)) (seen (start (parts.GlobalDefinition ds) _) (present (word words.Null) (lexeme c.args.tokens.now.source) (lexemes c.args.tokens.now) c.args.cursor c.in_ok-keyword.ensures c.in-Some.is).takes refl)

pub returns-in-Some-clause-goes : goal.returns-in-Some-clause-goes
returns-in-Some-clause-goes c = record { forward = omega (arith, (present (word words.Null) (lexeme c.args.tokens.now.source) (lexemes c.args.tokens.now) c.args.cursor c.in_ok-keyword.ensures c.in-Some.is).place); ends = (omega (arith, (present (word words.Null) (lexeme c.args.tokens.now.source) (lexemes c.args.tokens.now) c.args.cursor c.in_ok-keyword.ensures c.in-Some.is).place, (present (word words.Null) (lexeme c.args.tokens.now.source) (lexemes c.args.tokens.now) c.args.cursor c.in_ok-keyword.ensures c.in-Some.is).within)) }

pub returns-in_err-opening-clause-reads : goal.returns-in_err-opening-clause-reads
returns-in_err-opening-clause-reads c = λ ds hd. fault_found (parts.GlobalDefinition ds) (lexemes c.args.tokens.now) c.args.cursor _ _ _ _ (passes_here (lexemes c.args.tokens.now) c.args.cursor c.args.cursor (mark marks.Open) _ (unseen (start (parts.GlobalDefinition ds) _) (absent (word words.Null) (lexeme c.args.tokens.now.source) (lexemes c.args.tokens.now) c.args.cursor c.in_ok-keyword.ensures c.in_default.is)) (λ t. refl) c.in_err-opening.ensures) c.from_residual-in_err-opening.ensures.1

pub returns-in_err-name-clause-reads : goal.returns-in_err-name-clause-reads
returns-in_err-name-clause-reads c = λ ds hd. fault_found (parts.GlobalDefinition ds) (lexemes c.args.tokens.now) c.args.cursor _ _ _ _ (misses_here (lexemes c.args.tokens.now) c.args.cursor c.in-Some-2.behind_opening classes.Word _ (omega (arith, (present (mark marks.Open) (lexeme c.args.tokens.now.source) (lexemes c.args.tokens.now) c.args.cursor c.in_ok-opening.ensures c.in-Some-2.is).place, (present (mark marks.Open) (lexeme c.args.tokens.now.source) (lexemes c.args.tokens.now) c.args.cursor c.in_ok-opening.ensures c.in-Some-2.is).within)) (seen (unseen (start (parts.GlobalDefinition ds) _) (absent (word words.Null) (lexeme c.args.tokens.now.source) (lexemes c.args.tokens.now) c.args.cursor c.in_ok-keyword.ensures c.in_default.is)) (present (mark marks.Open) (lexeme c.args.tokens.now.source) (lexemes c.args.tokens.now) c.args.cursor c.in_ok-opening.ensures c.in-Some-2.is).takes refl) refl (λ t. refl) c.in_err-name.ensures) c.from_residual-in_err-name.ensures.1

pub returns-in-Some-2-clause-reads : goal.returns-in-Some-2-clause-reads
returns-in-Some-2-clause-reads c = λ ds hd. finds_last (lexemes c.args.tokens.now) c.args.cursor c.in_ok-name.behind_name _ _ _ (seen (seen (unseen (start (parts.GlobalDefinition ds) _) (absent (word words.Null) (lexeme c.args.tokens.now.source) (lexemes c.args.tokens.now) c.args.cursor c.in_ok-keyword.ensures c.in_default.is)) (present (mark marks.Open) (lexeme c.args.tokens.now.source) (lexemes c.args.tokens.now) c.args.cursor c.in_ok-opening.ensures c.in-Some-2.is).takes refl) c.in_ok-name.ensures.takes refl) (omega (arith, (present (mark marks.Open) (lexeme c.args.tokens.now.source) (lexemes c.args.tokens.now) c.args.cursor c.in_ok-opening.ensures c.in-Some-2.is).place, c.in_ok-name.ensures.place)) refl (c.in_global.ensures.reads _ hd)

pub returns-in-Some-2-clause-goes : goal.returns-in-Some-2-clause-goes
returns-in-Some-2-clause-goes c = goes_on (lexemes c.args.tokens.now) c.args.cursor c.in_ok-name.behind_name _ (omega (arith, (present (mark marks.Open) (lexeme c.args.tokens.now.source) (lexemes c.args.tokens.now) c.args.cursor c.in_ok-opening.ensures c.in-Some-2.is).place, c.in_ok-name.ensures.place)) c.in_global.ensures.goes

pub returns-in_err-name-2-clause-reads : goal.returns-in_err-name-2-clause-reads
returns-in_err-name-2-clause-reads c = λ ds hd. fault_found (parts.GlobalDefinition ds) (lexemes c.args.tokens.now) c.args.cursor _ _ _ _ (misses_here (lexemes c.args.tokens.now) c.args.cursor c.args.cursor classes.Word _ c.requires.at (unseen (unseen (start (parts.GlobalDefinition ds) _) (absent (word words.Null) (lexeme c.args.tokens.now.source) (lexemes c.args.tokens.now) c.args.cursor c.in_ok-keyword.ensures c.in_default.is)) (absent (mark marks.Open) (lexeme c.args.tokens.now.source) (lexemes c.args.tokens.now) c.args.cursor c.in_ok-opening.ensures c.in_default-2.is)) refl (λ t. refl) c.in_err-name-2.ensures) c.from_residual-in_err-name-2.ensures.1

pub returns-in_err-behind_whole_name-clause-reads : goal.returns-in_err-behind_whole_name-clause-reads
returns-in_err-behind_whole_name-clause-reads c = λ ds hd. fault_found (parts.GlobalDefinition ds) (lexemes c.args.tokens.now) c.args.cursor _ _ _ _ (refuses (lexemes c.args.tokens.now) c.args.cursor c.in_ok-name-2.behind_name_2 _ (seen (unseen (unseen (start (parts.GlobalDefinition ds) _) (absent (word words.Null) (lexeme c.args.tokens.now.source) (lexemes c.args.tokens.now) c.args.cursor c.in_ok-keyword.ensures c.in_default.is)) (absent (mark marks.Open) (lexeme c.args.tokens.now.source) (lexemes c.args.tokens.now) c.args.cursor c.in_ok-opening.ensures c.in_default-2.is)) c.in_ok-name-2.ensures.takes refl) (λ b. refl) (c.in_err-behind_whole_name.ensures.reads _ (c.new-items.ensures _ hd.ordered))) c.from_residual-in_err-behind_whole_name.ensures.1

pub returns-in_err-add_aspect-2-clause-grows : goal.returns-in_err-add_aspect-2-clause-grows
returns-in_err-add_aspect-2-clause-grows c = (grows_on c.in_ok-behind_whole_name.ensures.grows c.in_err-add_aspect-2.ensures.grows)

pub returns-clause-reads : goal.returns-clause-reads
returns-clause-reads c = λ ds hd. let f1 = c.in_ok-behind_whole_name.ensures.reads _ (c.new-items.ensures _ hd.ordered) in found (lexemes c.args.tokens.now) c.args.cursor c.in_ok-behind_whole_name.behind_whole_name (c.in_ok-add_aspect-2.ensures.builds _ _ f1.holds (holds_on f1.holds.ordered c.in_ok-behind_whole_name.ensures.grows hd)) (omega (arith, c.in_ok-name-2.ensures.place, c.in_ok-behind_whole_name.ensures.goes.forward)) c.in_ok-behind_whole_name.ensures.goes.ends (done (seen (unseen (unseen (start (parts.GlobalDefinition ds) _) (absent (word words.Null) (lexeme c.args.tokens.now.source) (lexemes c.args.tokens.now) c.args.cursor c.in_ok-keyword.ensures c.in_default.is)) (absent (mark marks.Open) (lexeme c.args.tokens.now.source) (lexemes c.args.tokens.now) c.args.cursor c.in_ok-opening.ensures c.in_default-2.is)) c.in_ok-name-2.ensures.takes refl) f1.reads (λ b. refl))

pub returns-clause-goes : goal.returns-clause-goes
returns-clause-goes c = record { forward = omega (arith, c.in_ok-name-2.ensures.place, c.in_ok-behind_whole_name.ensures.goes.forward); ends = c.in_ok-behind_whole_name.ensures.goes.ends }

pub returns-clause-grows : goal.returns-clause-grows
returns-clause-grows c = (grows_on c.in_ok-behind_whole_name.ensures.grows c.in_ok-add_aspect-2.ensures.grows)
