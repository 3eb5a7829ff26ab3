use Rattle.std.proofs.Common.{refl, map, arith}
use Rattle.ada_tree.specs.declared.words.Reserved.TheVariants as words
use Rattle.ada_grammar.specs.Lexemes.{lexeme, lexemes}
use Rattle.ada_grammar.specs.Parts as parts
use Rattle.ada_grammar.specs.Parts.{mark, word, Gives, Call, Rest}
use Rattle.ada_grammar.proofs.Steps.{start, seen, unseen}
use Rattle.ada_grammar.proofs.Answering.{passes_here}
use Rattle.ada_grammar.proofs.Joining.{absent, present, fault_found, finds_last, goes_on}
use Rattle.ada_stmts.proofs.declarations.formal.Goals as goal

pub returns-in_err-behind_in-clause-reads : goal.returns-in_err-behind_in-clause-reads
returns-in_err-behind_in-clause-reads c = λ ds hd. fault_found (parts.Formal (map (lexeme c.args.tokens.now.source) c.args.names.now) ds) (lexemes c.args.tokens.now) c.args.cursor _ _ _ _ (passes_here (lexemes c.args.tokens.now) c.args.cursor c.args.cursor (word words.In) _ (start (parts.Formal (map (lexeme c.args.tokens.now.source) c.args.names.now) ds) _) (λ t. refl) c.in_err-behind_in.ensures) c.from_residual.ensures.1

pub returns-in_err-behind_also-clause-reads : goal.returns-in_err-behind_also-clause-reads
returns-in_err-behind_also-clause-reads c = λ ds hd. fault_found (parts.Formal (map (lexeme c.args.tokens.now.source) c.args.names.now) ds) (lexemes c.args.tokens.now) c.args.cursor _ _ _ _ (passes_here (lexemes c.args.tokens.now) c.args.cursor c.in-Some.behind_in (word words.Out) _ (seen (start (parts.Formal (map (lexeme c.args.tokens.now.source) c.args.names.now) ds) _) (present (word words.In) (lexeme c.args.tokens.now.source) (lexemes c.args.tokens.now) c.args.cursor c.in_ok-behind_in.ensures c.in-Some.is).takes refl) (λ t. refl) c.in_err-behind_also.ensures) c.from_residual-in_err-behind_also.ensures.1

pub returns-in-Some-2-clause-reads : goal.returns-in-Some-2-clause-reads
returns-in-Some-2-clause-reads c = λ ds hd. finds_last (lexemes c.args.tokens.now) c.args.cursor c.in-Some-2.behind_also _ _ _ (seen (seen (start (parts.Formal (map (lexeme c.args.tokens.now.source) c.args.names.now) ds) _) (present (word words.In) (lexeme c.args.tokens.now.source) (lexemes c.args.tokens.now) c.args.cursor c.in_ok-behind_in.ensures c.in-Some.is).takes refl) (present (word words.Out) (lexeme c.args.tokens.now.source) (lexemes c.args.tokens.now) c.in-Some.behind_in c.in_ok-behind_also.ensures c.in-Some-2.is).takes refl) (omega (arith, (present (word words.In) (lexeme c.args.tokens.now.source) (lexemes c.args.tokens.now) c.args.cursor c.in_ok-behind_in.ensures c.in-Some.is).place, (present (word words.Out) (lexeme c.args.tokens.now.source) (lexemes c.args.tokens.now) c.in-Some.behind_in c.in_ok-behind_also.ensures c.in-Some-2.is).place)) refl (c.formal_mark.ensures.reads _ hd)

pub returns-in-Some-2-clause-goes : goal.returns-in-Some-2-clause-goes
returns-in-Some-2-clause-goes c = goes_on (lexemes c.args.tokens.now) c.args.cursor c.in-Some-2.behind_also _ (omega (arith, (present (word words.In) (lexeme c.args.tokens.now.source) (lexemes c.args.tokens.now) c.args.cursor c.in_ok-behind_in.ensures c.in-Some.is).place, (present (word words.Out) (lexeme c.args.tokens.now.source) (lexemes c.args.tokens.now) c.in-Some.behind_in c.in_ok-behind_also.ensures c.in-Some-2.is).place)) c.formal_mark.ensures.goes

pub returns-in-Some-clause-reads : goal.returns-in-Some-clause-reads
returns-in-Some-clause-reads c = λ ds hd. finds_last (lexemes c.args.tokens.now) c.args.cursor c.in-Some.behind_in _ _ _ (unseen (seen (start (parts.Formal (map (lexeme c.args.tokens.now.source) c.args.names.now) ds) _) (present (word words.In) (lexeme c.args.tokens.now.source) (lexemes c.args.tokens.now) c.args.cursor c.in_ok-behind_in.ensures c.in-Some.is).takes refl) (absent (word words.Out) (lexeme c.args.tokens.now.source) (lexemes c.args.tokens.now) c.in-Some.behind_in c.in_ok-behind_also.ensures c.in_default-2.is)) (omega (arith, (present (word words.In) (lexeme c.args.tokens.now.source) (lexemes c.args.tokens.now) c.args.cursor c.in_ok-behind_in.ensures c.in-Some.is).place)) refl (c.formal_mark-in-Some.ensures.reads _ hd)

pub returns-in-Some-clause-goes : goal.returns-in-Some-clause-goes
returns-in-Some-clause-goes c = goes_on (lexemes c.args.tokens.now) c.args.cursor c.in-Some.behind_in _ (omega (arith, (present (word words.In) (lexeme c.args.tokens.now.source) (lexemes c.args.tokens.now) c.args.cursor c.in_ok-behind_in.ensures c.in-Some.is).place)) c.formal_mark-in-Some.ensures.goes

pub returns-in_err-behind_keyword_2-clause-reads : goal.returns-in_err-behind_keyword_2-clause-reads
returns-in_err-behind_keyword_2-clause-reads c = λ ds hd. fault_found (parts.Formal (map (lexeme c.args.tokens.now.source) c.args.names.now) ds) (lexemes c.args.tokens.now) c.args.cursor _ _ _ _ (passes_here (lexemes c.args.tokens.now) c.args.cursor c.args.cursor (word words.Out) _ (unseen (start (parts.Formal (map (lexeme c.args.tokens.now.source) c.args.names.now) ds) _) (absent (word words.In) (lexeme c.args.tokens.now.source) (lexemes c.args.tokens.now) c.args.cursor c.in_ok-behind_in.ensures c.in_default.is)) (λ t. refl) c.in_err-behind_keyword_2.ensures) c.from_residual-in_err-behind_keyword_2.ensures.1

pub returns-in-Some-3-clause-reads : goal.returns-in-Some-3-clause-reads
returns-in-Some-3-clause-reads c = λ ds hd. finds_last (lexemes c.args.tokens.now) c.args.cursor c.in-Some-3.behind_keyword_2 _ _ _ (seen (unseen (start (parts.Formal (map (lexeme c.args.tokens.now.source) c.args.names.now) ds) _) (absent (word words.In) (lexeme c.args.tokens.now.source) (lexemes c.args.tokens.now) c.args.cursor c.in_ok-behind_in.ensures c.in_default.is)) (present (word words.Out) (lexeme c.args.tokens.now.source) (lexemes c.args.tokens.now) c.args.cursor c.in_ok-behind_keyword_2.ensures c.in-Some-3.is).takes refl) (omega (arith, (present (word words.Out) (lexeme c.args.tokens.now.source) (lexemes c.args.tokens.now) c.args.cursor c.in_ok-behind_keyword_2.ensures c.in-Some-3.is).place)) refl (c.formal_mark-in-Some-3.ensures.reads _ hd)

pub returns-in-Some-3-clause-goes : goal.returns-in-Some-3-clause-goes
returns-in-Some-3-clause-goes c = goes_on (lexemes c.args.tokens.now) c.args.cursor c.in-Some-3.behind_keyword_2 _ (omega (arith, (present (word words.Out) (lexeme c.args.tokens.now.source) (lexemes c.args.tokens.now) c.args.cursor c.in_ok-behind_keyword_2.ensures c.in-Some-3.is).place)) c.formal_mark-in-Some-3.ensures.goes

pub returns-clause-reads : goal.returns-clause-reads
returns-clause-reads c = λ ds hd. finds_last (lexemes c.args.tokens.now) c.args.cursor c.args.cursor _ _ _ (unseen (unseen (start (parts.Formal (map (lexeme c.args.tokens.now.source) c.args.names.now) ds) _) (absent (word words.In) (lexeme c.args.tokens.now.source) (lexemes c.args.tokens.now) c.args.cursor c.in_ok-behind_in.ensures c.in_default.is)) (absent (word words.Out) (lexeme c.args.tokens.now.source) (lexemes c.args.tokens.now) c.args.cursor c.in_ok-behind_keyword_2.ensures c.in_default-3.is)) (omega arith) refl (c.formal_mark-2.ensures.reads _ hd)

pub returns-clause-goes : goal.returns-clause-goes
returns-clause-goes c = goes_on (lexemes c.args.tokens.now) c.args.cursor c.args.cursor _ (omega arith) c.formal_mark-2.ensures.goes
