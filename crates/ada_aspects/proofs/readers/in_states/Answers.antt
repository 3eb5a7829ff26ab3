use Rattle.std.proofs.Common.{refl, arith}
use Rattle.ada_tree.specs.declared.token.Mark.TheVariants as marks
use Rattle.ada_tree.specs.declared.words.Reserved.TheVariants as words
use Rattle.ada_grammar.specs.declared.tokens.Class.TheVariants as classes
use Rattle.ada_grammar.specs.Lexemes.{lexeme, lexemes}
use Rattle.ada_grammar.specs.Parts as parts
use Rattle.ada_grammar.specs.Parts.{mark, word, Gives, Call, Rest}
use Rattle.ada_grammar.proofs.Steps.{start, seen, unseen, done}
use Rattle.ada_grammar.proofs.Answering.{passes_here, misses_here, refuses}
use Rattle.ada_grammar.proofs.Joining.{absent, present, fault_found, found, finds_last, goes_on}
use Rattle.ada_grammar.proofs.Standing.{grows_on}
use Rattle.ada_aspects.proofs.readers.in_states.Goals as goal

pub returns-in_err-name-clause-reads : goal.returns-in_err-name-clause-reads
returns-in_err-name-clause-reads c = λ ds hd. fault_found (parts.InStates ds) (lexemes c.args.tokens.now) c.args.cursor _ _ _ _ (passes_here (lexemes c.args.tokens.now) c.args.cursor c.args.cursor classes.Word _ (start (parts.InStates ds) _) (λ t. refl) c.in_err-name.ensures) c.from_residual.ensures.1

pub returns-in_err-behind_keyword-clause-reads : goal.returns-in_err-behind_keyword-clause-reads
returns-in_err-behind_keyword-clause-reads c = λ ds hd. fault_found (parts.InStates ds) (lexemes c.args.tokens.now) c.args.cursor _ _ _ _ (passes_here (lexemes c.args.tokens.now) c.args.cursor c.in-Some.behind_name (word words.With) _ (seen (start (parts.InStates ds) _) (present classes.Word (lexeme c.args.tokens.now.source) (lexemes c.args.tokens.now) c.args.cursor c.in_ok-name.ensures c.in-Some.is).takes refl) (λ t. refl) c.in_err-behind_keyword.ensures) c.from_residual-in_err-behind_keyword.ensures.1

pub returns-in_err-behind_balanced-clause-reads : goal.returns-in_err-behind_balanced-clause-reads
returns-in_err-behind_balanced-clause-reads c = λ ds hd. fault_found (parts.InStates ds) (lexemes c.args.tokens.now) c.args.cursor _ _ _ _ (refuses (lexemes c.args.tokens.now) c.args.cursor c.in-Some-2.behind_keyword _ (seen (seen (start (parts.InStates ds) _) (present classes.Word (lexeme c.args.tokens.now.source) (lexemes c.args.tokens.now) c.args.cursor c.in_ok-name.ensures c.in-Some.is).takes refl) (present (word words.With) (lexeme c.args.tokens.now.source) (lexemes c.args.tokens.now) c.in-Some.behind_name c.in_ok-behind_keyword.ensures c.in-Some-2.is).takes refl) (λ b. refl) c.in_err-behind_balanced.ensures) c.from_residual-in_err-behind_balanced.ensures.1

pub returns-in-Some-2-clause-reads : goal.returns-in-Some-2-clause-reads
returns-in-Some-2-clause-reads c = λ ds hd. found (lexemes c.args.tokens.now) c.args.cursor c.in_ok-behind_balanced.behind_balanced (c.in_ok-declare.ensures.builds _ _ (c.new.ensures _ hd.ordered) hd) (omega (arith, (present classes.Word (lexeme c.args.tokens.now.source) (lexemes c.args.tokens.now) c.args.cursor c.in_ok-name.ensures c.in-Some.is).place, (present (word words.With) (lexeme c.args.tokens.now.source) (lexemes c.args.tokens.now) c.in-Some.behind_name c.in_ok-behind_keyword.ensures c.in-Some-2.is).place, c.in_ok-behind_balanced.ensures.forward)) c.in_ok-behind_balanced.ensures.ends (done (seen (seen (start (parts.InStates ds) _) (present classes.Word (lexeme c.args.tokens.now.source) (lexemes c.args.tokens.now) c.args.cursor c.in_ok-name.ensures c.in-Some.is).takes refl) (present (word words.With) (lexeme c.args.tokens.now.source) (lexemes c.args.tokens.now) c.in-Some.behind_name c.in_ok-behind_keyword.ensures c.in-Some-2.is).takes refl) c.in_ok-behind_balanced.ensures.reads (λ b. refl))

pub returns-in-Some-2-clause-goes : goal.returns-in-Some-2-clause-goes
returns-in-Some-2-clause-goes c = record { forward = omega (arith, (present classes.Word (lexeme c.args.tokens.now.source) (lexemes c.args.tokens.now) c.args.cursor c.in_ok-name.ensures c.in-Some.is).place, (present (word words.With) (lexeme c.args.tokens.now.source) (lexemes c.args.tokens.now) c.in-Some.behind_name c.in_ok-behind_keyword.ensures c.in-Some-2.is).place, c.in_ok-behind_balanced.ensures.forward); ends = c.in_ok-behind_balanced.ensures.ends }

pub returns-in-Some-clause-reads : goal.returns-in-Some-clause-reads
returns-in-Some-clause-reads c = λ ds hd. finds_last (lexemes c.args.tokens.now) c.args.cursor c.in-Some.behind_name _ _ _ (unseen (seen (start (parts.InStates ds) _) (present classes.Word (lexeme c.args.tokens.now.source) (lexemes c.args.tokens.now) c.args.cursor c.in_ok-name.ensures c.in-Some.is).takes refl) (absent (word words.With) (lexeme c.args.tokens.now.source) (lexemes c.args.tokens.now) c.in-Some.behind_name c.in_ok-behind_keyword.ensures c.in_default-2.is)) (omega (arith, (present classes.Word (lexeme c.args.tokens.now.source) (lexemes c.args.tokens.now) c.args.cursor c.in_ok-name.ensures c.in-Some.is).place)) refl (c.more_states.ensures.reads _ (c.in_ok-declare-2.ensures.builds _ _ (c.new-in-Some.ensures _ hd.ordered) hd))

pub returns-in-Some-clause-goes : goal.returns-in-Some-clause-goes
returns-in-Some-clause-goes c = goes_on (lexemes c.args.tokens.now) c.args.cursor c.in-Some.behind_name _ (omega (arith, (present classes.Word (lexeme c.args.tokens.now.source) (lexemes c.args.tokens.now) c.args.cursor c.in_ok-name.ensures c.in-Some.is).place)) c.more_states.ensures.goes

pub returns-in-Some-clause-grows : goal.returns-in-Some-clause-grows
returns-in-Some-clause-grows c = (grows_on c.in_ok-declare-2.ensures.grows c.more_states.ensures.grows)

pub returns-in_err-behind_opening-clause-reads : goal.returns-in_err-behind_opening-clause-reads
returns-in_err-behind_opening-clause-reads c = λ ds hd. fault_found (parts.InStates ds) (lexemes c.args.tokens.now) c.args.cursor _ _ _ _ (misses_here (lexemes c.args.tokens.now) c.args.cursor c.args.cursor (mark marks.Open) _ c.requires.at (unseen (start (parts.InStates ds) _) (absent classes.Word (lexeme c.args.tokens.now.source) (lexemes c.args.tokens.now) c.args.cursor c.in_ok-name.ensures c.in_default.is)) refl (λ t. refl) c.in_err-behind_opening.ensures) c.from_residual-in_err-behind_opening.ensures.1

pub returns-in_err-behind_state_with_options-clause-reads : goal.returns-in_err-behind_state_with_options-clause-reads
returns-in_err-behind_state_with_options-clause-reads c = λ ds hd. fault_found (parts.InStates ds) (lexemes c.args.tokens.now) c.args.cursor _ _ _ _ (refuses (lexemes c.args.tokens.now) c.args.cursor c.in_ok-behind_opening.behind_opening _ (seen (unseen (start (parts.InStates ds) _) (absent classes.Word (lexeme c.args.tokens.now.source) (lexemes c.args.tokens.now) c.args.cursor c.in_ok-name.ensures c.in_default.is)) c.in_ok-behind_opening.ensures.takes refl) (λ b. refl) (c.in_err-behind_state_with_options.ensures.reads _ hd)) c.from_residual-in_err-behind_state_with_options.ensures.1

pub returns-clause-reads : goal.returns-clause-reads
returns-clause-reads c = λ ds hd. let f1 = c.in_ok-behind_state_with_options.ensures.reads _ hd in finds_last (lexemes c.args.tokens.now) c.args.cursor c.in_ok-behind_state_with_options.behind_state_with_options _ _ _ (done (seen (unseen (start (parts.InStates ds) _) (absent classes.Word (lexeme c.args.tokens.now.source) (lexemes c.args.tokens.now) c.args.cursor c.in_ok-name.ensures c.in_default.is)) c.in_ok-behind_opening.ensures.takes refl) f1.reads (λ b. refl)) (omega (arith, c.in_ok-behind_opening.ensures.place, c.in_ok-behind_state_with_options.ensures.goes.forward)) refl (c.more_states-2.ensures.reads _ f1.holds)

pub returns-clause-goes : goal.returns-clause-goes
returns-clause-goes c = goes_on (lexemes c.args.tokens.now) c.args.cursor c.in_ok-behind_state_with_options.behind_state_with_options _ (omega (arith, c.in_ok-behind_opening.ensures.place, c.in_ok-behind_state_with_options.ensures.goes.forward)) c.more_states-2.ensures.goes

pub returns-clause-grows : goal.returns-clause-grows
returns-clause-grows c = (grows_on c.in_ok-behind_state_with_options.ensures.grows c.more_states-2.ensures.grows)
