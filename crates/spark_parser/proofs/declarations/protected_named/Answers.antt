use Rattle.std.proofs.Common.{refl, arith}
use Rattle.ada_tree.specs.declared.words.Reserved.TheVariants as words
use Rattle.ada_grammar.specs.declared.tokens.Class.TheVariants as classes
use Rattle.ada_grammar.specs.Lexemes.{lexeme, lexemes}
use Rattle.ada_grammar.specs.Parts as parts
use Rattle.ada_grammar.specs.Parts.{mark, word, Gives, Call, Rest}
use Rattle.ada_grammar.proofs.Steps.{start, seen, unseen, done}
use Rattle.ada_grammar.proofs.Answering.{passes_here, misses_here, refuses}
use Rattle.ada_grammar.proofs.Joining.{absent, present, fault_found, finds_last, goes_on}
use Rattle.ada_grammar.proofs.Standing.{grows_on, holds_on}
use Rattle.spark_parser.proofs.declarations.protected_named.Goals as goal

pub returns-in_err-name-clause-reads : goal.returns-in_err-name-clause-reads
returns-in_err-name-clause-reads c = λ ds hd. fault_found (parts.ProtectedNamed c.args.is_type ds) (lexemes c.args.tokens.now) c.args.cursor _ _ _ _ (misses_here (lexemes c.args.tokens.now) c.args.cursor c.args.cursor classes.Word _ c.requires.at (start (parts.ProtectedNamed c.args.is_type ds) _) refl (λ t. refl) c.in_err-name.ensures) c.from_residual.ensures.1

pub returns-in_err-behind_aspects-clause-reads : goal.returns-in_err-behind_aspects-clause-reads
returns-in_err-behind_aspects-clause-reads c = λ ds hd. fault_found (parts.ProtectedNamed c.args.is_type ds) (lexemes c.args.tokens.now) c.args.cursor _ _ _ _ (refuses (lexemes c.args.tokens.now) c.args.cursor c.in_ok-name.behind_name _ (seen (start (parts.ProtectedNamed c.args.is_type ds) _) c.in_ok-name.ensures.takes refl) (λ b. refl) (c.in_err-behind_aspects.ensures.reads _ (c.new-own.ensures _ hd.ordered))) c.from_residual-in_err-behind_aspects.ensures.1

pub returns-in_err-behind_keyword-clause-reads : goal.returns-in_err-behind_keyword-clause-reads
returns-in_err-behind_keyword-clause-reads c = λ ds hd. let f1 = c.in_ok-behind_aspects.ensures.reads _ (c.new-own.ensures _ hd.ordered) in fault_found (parts.ProtectedNamed c.args.is_type ds) (lexemes c.args.tokens.now) c.args.cursor _ _ _ _ (misses_here (lexemes c.args.tokens.now) c.args.cursor c.in_ok-behind_aspects.behind_aspects (word words.Is) _ c.in_ok-behind_aspects.ensures.goes.ends (done (seen (start (parts.ProtectedNamed c.args.is_type ds) _) c.in_ok-name.ensures.takes refl) f1.reads (λ b. refl)) refl (λ t. refl) c.in_err-behind_keyword.ensures) c.from_residual-in_err-behind_keyword.ensures.1

pub returns-in_err-next-clause-reads : goal.returns-in_err-next-clause-reads
returns-in_err-next-clause-reads c = λ ds hd. let f1 = c.in_ok-behind_aspects.ensures.reads _ (c.new-own.ensures _ hd.ordered) in fault_found (parts.ProtectedNamed c.args.is_type ds) (lexemes c.args.tokens.now) c.args.cursor _ _ _ _ (refuses (lexemes c.args.tokens.now) c.args.cursor c.in_ok-behind_keyword.behind_keyword _ (seen (done (seen (start (parts.ProtectedNamed c.args.is_type ds) _) c.in_ok-name.ensures.takes refl) f1.reads (λ b. refl)) c.in_ok-behind_keyword.ensures.takes refl) (λ b. refl) (c.in_err-next.ensures.reads _ f1.holds)) c.from_residual-in_err-next.ensures.1

pub returns-in_err-next-clause-grows : goal.returns-in_err-next-clause-grows
returns-in_err-next-clause-grows c = (grows_on c.in_ok-behind_aspects.ensures.grows c.in_err-next.ensures.grows)

pub returns-in_err-private-clause-reads : goal.returns-in_err-private-clause-reads
returns-in_err-private-clause-reads c = λ ds hd. let f1 = c.in_ok-behind_aspects.ensures.reads _ (c.new-own.ensures _ hd.ordered) in let f2 = c.in_ok-next.ensures.reads _ f1.holds in fault_found (parts.ProtectedNamed c.args.is_type ds) (lexemes c.args.tokens.now) c.args.cursor _ _ _ _ (passes_here (lexemes c.args.tokens.now) c.args.cursor c.in_ok-next.next (word words.Private) _ (done (seen (done (seen (start (parts.ProtectedNamed c.args.is_type ds) _) c.in_ok-name.ensures.takes refl) f1.reads (λ b. refl)) c.in_ok-behind_keyword.ensures.takes refl) f2.reads (λ b. refl)) (λ t. refl) c.in_err-private.ensures) c.from_residual-in_err-private.ensures.1

pub returns-in_err-private-clause-grows : goal.returns-in_err-private-clause-grows
returns-in_err-private-clause-grows c = (grows_on c.in_ok-behind_aspects.ensures.grows c.in_ok-next.ensures.grows)

pub returns-in_err-behind_items-clause-reads : goal.returns-in_err-behind_items-clause-reads
returns-in_err-behind_items-clause-reads c = λ ds hd. let f1 = c.in_ok-behind_aspects.ensures.reads _ (c.new-own.ensures _ hd.ordered) in let f2 = c.in_ok-next.ensures.reads _ f1.holds in fault_found (parts.ProtectedNamed c.args.is_type ds) (lexemes c.args.tokens.now) c.args.cursor _ _ _ _ (refuses (lexemes c.args.tokens.now) c.args.cursor c.in-Some.inside _ (seen (done (seen (done (seen (start (parts.ProtectedNamed c.args.is_type ds) _) c.in_ok-name.ensures.takes refl) f1.reads (λ b. refl)) c.in_ok-behind_keyword.ensures.takes refl) f2.reads (λ b. refl)) (present (word words.Private) (lexeme c.args.tokens.now.source) (lexemes c.args.tokens.now) c.in_ok-next.next c.in_ok-private.ensures c.in-Some.is).takes refl) (λ b. refl) (c.in_err-behind_items.ensures.reads _ (c.new-hidden.ensures _ f2.holds.ordered))) c.from_residual-in_err-behind_items.ensures.1

pub returns-in_err-behind_items-clause-grows : goal.returns-in_err-behind_items-clause-grows
returns-in_err-behind_items-clause-grows c = (grows_on (grows_on c.in_ok-behind_aspects.ensures.grows c.in_ok-next.ensures.grows) c.in_err-behind_items.ensures.grows)

pub returns-in_err-add_declaration-clause-grows : goal.returns-in_err-add_declaration-clause-grows
returns-in_err-add_declaration-clause-grows c = (grows_on (grows_on (grows_on c.in_ok-behind_aspects.ensures.grows c.in_ok-next.ensures.grows) c.in_ok-behind_items.ensures.grows) c.in_err-add_declaration.ensures.grows)

pub returns-in_err-behind_end-clause-reads : goal.returns-in_err-behind_end-clause-reads
returns-in_err-behind_end-clause-reads c = λ ds hd. let f1 = c.in_ok-behind_aspects.ensures.reads _ (c.new-own.ensures _ hd.ordered) in let f2 = c.in_ok-next.ensures.reads _ f1.holds in let f3 = c.in_ok-behind_items.ensures.reads _ (c.new-hidden.ensures _ f2.holds.ordered) in fault_found (parts.ProtectedNamed c.args.is_type ds) (lexemes c.args.tokens.now) c.args.cursor _ _ _ _ (misses_here (lexemes c.args.tokens.now) c.args.cursor c.in_ok-behind_items.behind_items (word words.End) _ c.in_ok-behind_items.ensures.goes.ends (done (seen (done (seen (done (seen (start (parts.ProtectedNamed c.args.is_type ds) _) c.in_ok-name.ensures.takes refl) f1.reads (λ b. refl)) c.in_ok-behind_keyword.ensures.takes refl) f2.reads (λ b. refl)) (present (word words.Private) (lexeme c.args.tokens.now.source) (lexemes c.args.tokens.now) c.in_ok-next.next c.in_ok-private.ensures c.in-Some.is).takes refl) f3.reads (λ b. refl)) refl (λ t. refl) c.in_err-behind_end.ensures) c.from_residual-in_err-behind_end.ensures.1

pub returns-in_err-behind_end-clause-grows : goal.returns-in_err-behind_end-clause-grows
returns-in_err-behind_end-clause-grows c = (grows_on (grows_on (grows_on c.in_ok-behind_aspects.ensures.grows c.in_ok-next.ensures.grows) c.in_ok-behind_items.ensures.grows) c.in_ok-add_declaration.ensures.grows)

pub returns-in-Some-clause-reads : goal.returns-in-Some-clause-reads
returns-in-Some-clause-reads c = λ ds hd. let f1 = c.in_ok-behind_aspects.ensures.reads _ (c.new-own.ensures _ hd.ordered) in let f2 = c.in_ok-next.ensures.reads _ f1.holds in let f3 = c.in_ok-behind_items.ensures.reads _ (c.new-hidden.ensures _ f2.holds.ordered) in let b1 = c.in_ok-add_declaration.ensures.builds _ _ f3.holds (holds_on f3.holds.ordered c.in_ok-behind_items.ensures.grows f2.holds) in finds_last (lexemes c.args.tokens.now) c.args.cursor c.in_ok-behind_end.behind_end _ _ _ (seen (done (seen (done (seen (done (seen (start (parts.ProtectedNamed c.args.is_type ds) _) c.in_ok-name.ensures.takes refl) f1.reads (λ b. refl)) c.in_ok-behind_keyword.ensures.takes refl) f2.reads (λ b. refl)) (present (word words.Private) (lexeme c.args.tokens.now.source) (lexemes c.args.tokens.now) c.in_ok-next.next c.in_ok-private.ensures c.in-Some.is).takes refl) f3.reads (λ b. refl)) c.in_ok-behind_end.ensures.takes refl) (omega (arith, c.in_ok-name.ensures.place, c.in_ok-behind_aspects.ensures.goes.forward, c.in_ok-behind_keyword.ensures.place, c.in_ok-next.ensures.goes.forward, (present (word words.Private) (lexeme c.args.tokens.now.source) (lexemes c.args.tokens.now) c.in_ok-next.next c.in_ok-private.ensures c.in-Some.is).place, c.in_ok-behind_items.ensures.goes.forward, c.in_ok-behind_end.ensures.place)) refl (c.end_of_declaration.ensures.reads _ _ b1 (holds_on b1.ordered c.in_ok-add_declaration.ensures.grows (holds_on f3.holds.ordered c.in_ok-behind_items.ensures.grows (holds_on f2.holds.ordered c.in_ok-next.ensures.grows (holds_on f1.holds.ordered c.in_ok-behind_aspects.ensures.grows hd)))))

pub returns-in-Some-clause-goes : goal.returns-in-Some-clause-goes
returns-in-Some-clause-goes c = goes_on (lexemes c.args.tokens.now) c.args.cursor c.in_ok-behind_end.behind_end _ (omega (arith, c.in_ok-name.ensures.place, c.in_ok-behind_aspects.ensures.goes.forward, c.in_ok-behind_keyword.ensures.place, c.in_ok-next.ensures.goes.forward, (present (word words.Private) (lexeme c.args.tokens.now.source) (lexemes c.args.tokens.now) c.in_ok-next.next c.in_ok-private.ensures c.in-Some.is).place, c.in_ok-behind_items.ensures.goes.forward, c.in_ok-behind_end.ensures.place)) c.end_of_declaration.ensures.goes

pub returns-in-Some-clause-grows : goal.returns-in-Some-clause-grows
returns-in-Some-clause-grows c = (grows_on (grows_on (grows_on (grows_on c.in_ok-behind_aspects.ensures.grows c.in_ok-next.ensures.grows) c.in_ok-behind_items.ensures.grows) c.in_ok-add_declaration.ensures.grows) c.end_of_declaration.ensures.grows)

pub returns-in_err-behind_end_2-clause-reads : goal.returns-in_err-behind_end_2-clause-reads
returns-in_err-behind_end_2-clause-reads c = λ ds hd. let f1 = c.in_ok-behind_aspects.ensures.reads _ (c.new-own.ensures _ hd.ordered) in let f2 = c.in_ok-next.ensures.reads _ f1.holds in fault_found (parts.ProtectedNamed c.args.is_type ds) (lexemes c.args.tokens.now) c.args.cursor _ _ _ _ (misses_here (lexemes c.args.tokens.now) c.args.cursor c.in_ok-next.next (word words.End) _ c.in_ok-next.ensures.goes.ends (unseen (done (seen (done (seen (start (parts.ProtectedNamed c.args.is_type ds) _) c.in_ok-name.ensures.takes refl) f1.reads (λ b. refl)) c.in_ok-behind_keyword.ensures.takes refl) f2.reads (λ b. refl)) (absent (word words.Private) (lexeme c.args.tokens.now.source) (lexemes c.args.tokens.now) c.in_ok-next.next c.in_ok-private.ensures c.in_default.is)) refl (λ t. refl) c.in_err-behind_end_2.ensures) c.from_residual-in_err-behind_end_2.ensures.1

pub returns-in_err-behind_end_2-clause-grows : goal.returns-in_err-behind_end_2-clause-grows
returns-in_err-behind_end_2-clause-grows c = (grows_on c.in_ok-behind_aspects.ensures.grows c.in_ok-next.ensures.grows)

pub returns-clause-reads : goal.returns-clause-reads
returns-clause-reads c = λ ds hd. let f1 = c.in_ok-behind_aspects.ensures.reads _ (c.new-own.ensures _ hd.ordered) in let f2 = c.in_ok-next.ensures.reads _ f1.holds in finds_last (lexemes c.args.tokens.now) c.args.cursor c.in_ok-behind_end_2.behind_end_2 _ _ _ (seen (unseen (done (seen (done (seen (start (parts.ProtectedNamed c.args.is_type ds) _) c.in_ok-name.ensures.takes refl) f1.reads (λ b. refl)) c.in_ok-behind_keyword.ensures.takes refl) f2.reads (λ b. refl)) (absent (word words.Private) (lexeme c.args.tokens.now.source) (lexemes c.args.tokens.now) c.in_ok-next.next c.in_ok-private.ensures c.in_default.is)) c.in_ok-behind_end_2.ensures.takes refl) (omega (arith, c.in_ok-name.ensures.place, c.in_ok-behind_aspects.ensures.goes.forward, c.in_ok-behind_keyword.ensures.place, c.in_ok-next.ensures.goes.forward, c.in_ok-behind_end_2.ensures.place)) refl (c.end_of_declaration-2.ensures.reads _ _ f2.holds (holds_on f2.holds.ordered c.in_ok-next.ensures.grows (holds_on f1.holds.ordered c.in_ok-behind_aspects.ensures.grows hd)))

pub returns-clause-goes : goal.returns-clause-goes
returns-clause-goes c = goes_on (lexemes c.args.tokens.now) c.args.cursor c.in_ok-behind_end_2.behind_end_2 _ (omega (arith, c.in_ok-name.ensures.place, c.in_ok-behind_aspects.ensures.goes.forward, c.in_ok-behind_keyword.ensures.place, c.in_ok-next.ensures.goes.forward, c.in_ok-behind_end_2.ensures.place)) c.end_of_declaration-2.ensures.goes

pub returns-clause-grows : goal.returns-clause-grows
returns-clause-grows c = (grows_on (grows_on c.in_ok-behind_aspects.ensures.grows c.in_ok-next.ensures.grows) c.end_of_declaration-2.ensures.grows)
