use Rattle.std.proofs.Common.{refl, map, arith, ap}
use Rattle.ada_tree.specs.declared.token.Mark.TheVariants as marks
use Rattle.ada_tree.specs.declared.words.Reserved.TheVariants as words
use Rattle.ada_tree.specs.declared.declarations.DeclKind.TheVariants as decls
use Rattle.ada_grammar.specs.Lexemes.{lexeme, lexemes}
use Rattle.ada_grammar.specs.Phrases as phrases
use Rattle.ada_grammar.specs.Parts as parts
use Rattle.ada_grammar.specs.Parts.{mark, word, Gives, Call, Rest}
use Rattle.ada_grammar.proofs.Steps.{start, seen, unseen, done}
use Rattle.ada_grammar.proofs.Answering.{passes_here, misses_here, refuses}
use Rattle.ada_grammar.proofs.Joining.{rest_as, absent, present, fault_found, finds_last, goes_on}
use Rattle.ada_grammar.proofs.Standing.{grows_on, holds_on}
use Rattle.ada_stmts.proofs.declarations.type_definition.Goals as goal

pub returns-in_err-behind_opening-clause-reads : goal.returns-in_err-behind_opening-clause-reads
returns-in_err-behind_opening-clause-reads c = λ ds hd. fault_found (parts.TypeDefinition (lexeme c.args.tokens.now.source c.args.name) ds) (lexemes c.args.tokens.now) c.args.cursor _ _ _ _ (passes_here (lexemes c.args.tokens.now) c.args.cursor c.args.cursor (mark marks.Open) _ (start (parts.TypeDefinition (lexeme c.args.tokens.now.source c.args.name) ds) _) (λ t. refl) c.in_err-behind_opening.ensures) c.from_residual.ensures.1

pub returns-in-Some-clause-reads : goal.returns-in-Some-clause-reads
returns-in-Some-clause-reads c = λ ds hd. finds_last (lexemes c.args.tokens.now) c.args.cursor c.in-Some.behind_opening _ _ _ (seen (start (parts.TypeDefinition (lexeme c.args.tokens.now.source c.args.name) ds) _) (present (mark marks.Open) (lexeme c.args.tokens.now.source) (lexemes c.args.tokens.now) c.args.cursor c.in_ok-behind_opening.ensures c.in-Some.is).takes refl) (omega (arith, (present (mark marks.Open) (lexeme c.args.tokens.now.source) (lexemes c.args.tokens.now) c.args.cursor c.in_ok-behind_opening.ensures c.in-Some.is).place)) refl (c.literals.ensures.reads _ hd)

pub returns-in-Some-clause-goes : goal.returns-in-Some-clause-goes
returns-in-Some-clause-goes c = goes_on (lexemes c.args.tokens.now) c.args.cursor c.in-Some.behind_opening _ (omega (arith, (present (mark marks.Open) (lexeme c.args.tokens.now.source) (lexemes c.args.tokens.now) c.args.cursor c.in_ok-behind_opening.ensures c.in-Some.is).place)) c.literals.ensures.goes

pub returns-in_err-behind_keyword-clause-reads : goal.returns-in_err-behind_keyword-clause-reads
returns-in_err-behind_keyword-clause-reads c = λ ds hd. fault_found (parts.TypeDefinition (lexeme c.args.tokens.now.source c.args.name) ds) (lexemes c.args.tokens.now) c.args.cursor _ _ _ _ (passes_here (lexemes c.args.tokens.now) c.args.cursor c.args.cursor (word words.Range) _ (unseen (start (parts.TypeDefinition (lexeme c.args.tokens.now.source c.args.name) ds) _) (absent (mark marks.Open) (lexeme c.args.tokens.now.source) (lexemes c.args.tokens.now) c.args.cursor c.in_ok-behind_opening.ensures c.in_default.is)) (λ t. refl) c.in_err-behind_keyword.ensures) c.from_residual-in_err-behind_keyword.ensures.1

pub returns-in-Some-2-clause-reads : goal.returns-in-Some-2-clause-reads
returns-in-Some-2-clause-reads c = λ ds hd. finds_last (lexemes c.args.tokens.now) c.args.cursor c.in-Some-2.behind_keyword _ _ _ (seen (unseen (start (parts.TypeDefinition (lexeme c.args.tokens.now.source c.args.name) ds) _) (absent (mark marks.Open) (lexeme c.args.tokens.now.source) (lexemes c.args.tokens.now) c.args.cursor c.in_ok-behind_opening.ensures c.in_default.is)) (present (word words.Range) (lexeme c.args.tokens.now.source) (lexemes c.args.tokens.now) c.args.cursor c.in_ok-behind_keyword.ensures c.in-Some-2.is).takes refl) (omega (arith, (present (word words.Range) (lexeme c.args.tokens.now.source) (lexemes c.args.tokens.now) c.args.cursor c.in_ok-behind_keyword.ensures c.in-Some-2.is).place)) refl (c.range_type.ensures.reads _ hd)

pub returns-in-Some-2-clause-goes : goal.returns-in-Some-2-clause-goes
returns-in-Some-2-clause-goes c = goes_on (lexemes c.args.tokens.now) c.args.cursor c.in-Some-2.behind_keyword _ (omega (arith, (present (word words.Range) (lexeme c.args.tokens.now.source) (lexemes c.args.tokens.now) c.args.cursor c.in_ok-behind_keyword.ensures c.in-Some-2.is).place)) c.range_type.ensures.goes

pub returns-in_err-behind_keyword_2-clause-reads : goal.returns-in_err-behind_keyword_2-clause-reads
returns-in_err-behind_keyword_2-clause-reads c = λ ds hd. fault_found (parts.TypeDefinition (lexeme c.args.tokens.now.source c.args.name) ds) (lexemes c.args.tokens.now) c.args.cursor _ _ _ _ (passes_here (lexemes c.args.tokens.now) c.args.cursor c.args.cursor (word words.Mod) _ (unseen (unseen (start (parts.TypeDefinition (lexeme c.args.tokens.now.source c.args.name) ds) _) (absent (mark marks.Open) (lexeme c.args.tokens.now.source) (lexemes c.args.tokens.now) c.args.cursor c.in_ok-behind_opening.ensures c.in_default.is)) (absent (word words.Range) (lexeme c.args.tokens.now.source) (lexemes c.args.tokens.now) c.args.cursor c.in_ok-behind_keyword.ensures c.in_default-2.is)) (λ t. refl) c.in_err-behind_keyword_2.ensures) c.from_residual-in_err-behind_keyword_2.ensures.1

pub returns-in_err-behind_value-clause-reads : goal.returns-in_err-behind_value-clause-reads
returns-in_err-behind_value-clause-reads c = λ ds hd. fault_found (parts.TypeDefinition (lexeme c.args.tokens.now.source c.args.name) ds) (lexemes c.args.tokens.now) c.args.cursor _ _ _ _ (refuses (lexemes c.args.tokens.now) c.args.cursor c.in-Some-3.behind_keyword_2 _ (seen (unseen (unseen (start (parts.TypeDefinition (lexeme c.args.tokens.now.source c.args.name) ds) _) (absent (mark marks.Open) (lexeme c.args.tokens.now.source) (lexemes c.args.tokens.now) c.args.cursor c.in_ok-behind_opening.ensures c.in_default.is)) (absent (word words.Range) (lexeme c.args.tokens.now.source) (lexemes c.args.tokens.now) c.args.cursor c.in_ok-behind_keyword.ensures c.in_default-2.is)) (present (word words.Mod) (lexeme c.args.tokens.now.source) (lexemes c.args.tokens.now) c.args.cursor c.in_ok-behind_keyword_2.ensures c.in-Some-3.is).takes refl) (λ b. refl) (c.in_err-behind_value.ensures.reads _ (c.new-own.ensures _ hd.ordered))) c.from_residual-in_err-behind_value.ensures.1

pub returns-in-Some-3-clause-reads : goal.returns-in-Some-3-clause-reads
returns-in-Some-3-clause-reads c = λ ds hd. let f1 = c.in_ok-behind_value.ensures.reads _ (c.new-own.ensures _ hd.ordered) in finds_last (lexemes c.args.tokens.now) c.args.cursor c.in_ok-behind_value.behind_value _ _ _ (rest_as (λ z. parts.Closing decls.ModularType z (phrases.with_expr phrases.none f1.phrase.tree) ds) (ap (λ z. map (lexeme c.args.tokens.now.source) z) c.in_ok-names.ensures) (done (seen (unseen (unseen (start (parts.TypeDefinition (lexeme c.args.tokens.now.source c.args.name) ds) _) (absent (mark marks.Open) (lexeme c.args.tokens.now.source) (lexemes c.args.tokens.now) c.args.cursor c.in_ok-behind_opening.ensures c.in_default.is)) (absent (word words.Range) (lexeme c.args.tokens.now.source) (lexemes c.args.tokens.now) c.args.cursor c.in_ok-behind_keyword.ensures c.in_default-2.is)) (present (word words.Mod) (lexeme c.args.tokens.now.source) (lexemes c.args.tokens.now) c.args.cursor c.in_ok-behind_keyword_2.ensures c.in-Some-3.is).takes refl) f1.reads (λ b. refl))) (omega (arith, (present (word words.Mod) (lexeme c.args.tokens.now.source) (lexemes c.args.tokens.now) c.args.cursor c.in_ok-behind_keyword_2.ensures c.in-Some-3.is).place, c.in_ok-behind_value.ensures.goes.forward)) refl (c.closing.ensures.reads _ _ f1.holds (holds_on f1.holds.ordered c.in_ok-behind_value.ensures.grows hd))

pub returns-in-Some-3-clause-goes : goal.returns-in-Some-3-clause-goes
returns-in-Some-3-clause-goes c = goes_on (lexemes c.args.tokens.now) c.args.cursor c.in_ok-behind_value.behind_value _ (omega (arith, (present (word words.Mod) (lexeme c.args.tokens.now.source) (lexemes c.args.tokens.now) c.args.cursor c.in_ok-behind_keyword_2.ensures c.in-Some-3.is).place, c.in_ok-behind_value.ensures.goes.forward)) c.closing.ensures.goes

pub returns-in-Some-3-clause-grows : goal.returns-in-Some-3-clause-grows
returns-in-Some-3-clause-grows c = (grows_on c.in_ok-behind_value.ensures.grows c.closing.ensures.grows)

pub returns-in_err-behind_keyword_3-clause-reads : goal.returns-in_err-behind_keyword_3-clause-reads
returns-in_err-behind_keyword_3-clause-reads c = λ ds hd. fault_found (parts.TypeDefinition (lexeme c.args.tokens.now.source c.args.name) ds) (lexemes c.args.tokens.now) c.args.cursor _ _ _ _ (passes_here (lexemes c.args.tokens.now) c.args.cursor c.args.cursor (word words.Array) _ (unseen (unseen (unseen (start (parts.TypeDefinition (lexeme c.args.tokens.now.source c.args.name) ds) _) (absent (mark marks.Open) (lexeme c.args.tokens.now.source) (lexemes c.args.tokens.now) c.args.cursor c.in_ok-behind_opening.ensures c.in_default.is)) (absent (word words.Range) (lexeme c.args.tokens.now.source) (lexemes c.args.tokens.now) c.args.cursor c.in_ok-behind_keyword.ensures c.in_default-2.is)) (absent (word words.Mod) (lexeme c.args.tokens.now.source) (lexemes c.args.tokens.now) c.args.cursor c.in_ok-behind_keyword_2.ensures c.in_default-3.is)) (λ t. refl) c.in_err-behind_keyword_3.ensures) c.from_residual-in_err-behind_keyword_3.ensures.1

pub returns-in-Some-4-clause-reads : goal.returns-in-Some-4-clause-reads
returns-in-Some-4-clause-reads c = λ ds hd. finds_last (lexemes c.args.tokens.now) c.args.cursor c.in-Some-4.behind_keyword_3 _ _ _ (seen (unseen (unseen (unseen (start (parts.TypeDefinition (lexeme c.args.tokens.now.source c.args.name) ds) _) (absent (mark marks.Open) (lexeme c.args.tokens.now.source) (lexemes c.args.tokens.now) c.args.cursor c.in_ok-behind_opening.ensures c.in_default.is)) (absent (word words.Range) (lexeme c.args.tokens.now.source) (lexemes c.args.tokens.now) c.args.cursor c.in_ok-behind_keyword.ensures c.in_default-2.is)) (absent (word words.Mod) (lexeme c.args.tokens.now.source) (lexemes c.args.tokens.now) c.args.cursor c.in_ok-behind_keyword_2.ensures c.in_default-3.is)) (present (word words.Array) (lexeme c.args.tokens.now.source) (lexemes c.args.tokens.now) c.args.cursor c.in_ok-behind_keyword_3.ensures c.in-Some-4.is).takes refl) (omega (arith, (present (word words.Array) (lexeme c.args.tokens.now.source) (lexemes c.args.tokens.now) c.args.cursor c.in_ok-behind_keyword_3.ensures c.in-Some-4.is).place)) refl (c.array_type.ensures.reads _ hd)

pub returns-in-Some-4-clause-goes : goal.returns-in-Some-4-clause-goes
returns-in-Some-4-clause-goes c = goes_on (lexemes c.args.tokens.now) c.args.cursor c.in-Some-4.behind_keyword_3 _ (omega (arith, (present (word words.Array) (lexeme c.args.tokens.now.source) (lexemes c.args.tokens.now) c.args.cursor c.in_ok-behind_keyword_3.ensures c.in-Some-4.is).place)) c.array_type.ensures.goes

pub returns-in_err-behind_null-clause-reads : goal.returns-in_err-behind_null-clause-reads
returns-in_err-behind_null-clause-reads c = λ ds hd. fault_found (parts.TypeDefinition (lexeme c.args.tokens.now.source c.args.name) ds) (lexemes c.args.tokens.now) c.args.cursor _ _ _ _ (passes_here (lexemes c.args.tokens.now) c.args.cursor c.args.cursor (word words.Null) _ (unseen (unseen (unseen (unseen (start (parts.TypeDefinition (lexeme c.args.tokens.now.source c.args.name) ds) _) (absent (mark marks.Open) (lexeme c.args.tokens.now.source) (lexemes c.args.tokens.now) c.args.cursor c.in_ok-behind_opening.ensures c.in_default.is)) (absent (word words.Range) (lexeme c.args.tokens.now.source) (lexemes c.args.tokens.now) c.args.cursor c.in_ok-behind_keyword.ensures c.in_default-2.is)) (absent (word words.Mod) (lexeme c.args.tokens.now.source) (lexemes c.args.tokens.now) c.args.cursor c.in_ok-behind_keyword_2.ensures c.in_default-3.is)) (absent (word words.Array) (lexeme c.args.tokens.now.source) (lexemes c.args.tokens.now) c.args.cursor c.in_ok-behind_keyword_3.ensures c.in_default-4.is)) (λ t. refl) c.in_err-behind_null.ensures) c.from_residual-in_err-behind_null.ensures.1

pub returns-in_err-behind_behind-clause-reads : goal.returns-in_err-behind_behind-clause-reads
returns-in_err-behind_behind-clause-reads c = λ ds hd. fault_found (parts.TypeDefinition (lexeme c.args.tokens.now.source c.args.name) ds) (lexemes c.args.tokens.now) c.args.cursor _ _ _ _ (misses_here (lexemes c.args.tokens.now) c.args.cursor c.in-Some-5.behind_null (word words.Record) _ (omega (arith, (present (word words.Null) (lexeme c.args.tokens.now.source) (lexemes c.args.tokens.now) c.args.cursor c.in_ok-behind_null.ensures c.in-Some-5.is).place, (present (word words.Null) (lexeme c.args.tokens.now.source) (lexemes c.args.tokens.now) c.args.cursor c.in_ok-behind_null.ensures c.in-Some-5.is).within)) (seen (unseen (unseen (unseen (unseen (start (parts.TypeDefinition (lexeme c.args.tokens.now.source c.args.name) ds) _) (absent (mark marks.Open) (lexeme c.args.tokens.now.source) (lexemes c.args.tokens.now) c.args.cursor c.in_ok-behind_opening.ensures c.in_default.is)) (absent (word words.Range) (lexeme c.args.tokens.now.source) (lexemes c.args.tokens.now) c.args.cursor c.in_ok-behind_keyword.ensures c.in_default-2.is)) (absent (word words.Mod) (lexeme c.args.tokens.now.source) (lexemes c.args.tokens.now) c.args.cursor c.in_ok-behind_keyword_2.ensures c.in_default-3.is)) (absent (word words.Array) (lexeme c.args.tokens.now.source) (lexemes c.args.tokens.now) c.args.cursor c.in_ok-behind_keyword_3.ensures c.in_default-4.is)) (present (word words.Null) (lexeme c.args.tokens.now.source) (lexemes c.args.tokens.now) c.args.cursor c.in_ok-behind_null.ensures c.in-Some-5.is).takes refl) refl (λ t. refl) c.in_err-behind_behind.ensures) c.from_residual-in_err-behind_behind.ensures.1

pub returns-in-Some-5-clause-reads : goal.returns-in-Some-5-clause-reads
returns-in-Some-5-clause-reads c = λ ds hd. finds_last (lexemes c.args.tokens.now) c.args.cursor c.in_ok-behind_behind.behind_behind _ _ _ (rest_as (λ z. parts.Closing decls.NullRecordType z phrases.none ds) (ap (λ z. map (lexeme c.args.tokens.now.source) z) c.in_ok-names-2.ensures) (seen (seen (unseen (unseen (unseen (unseen (start (parts.TypeDefinition (lexeme c.args.tokens.now.source c.args.name) ds) _) (absent (mark marks.Open) (lexeme c.args.tokens.now.source) (lexemes c.args.tokens.now) c.args.cursor c.in_ok-behind_opening.ensures c.in_default.is)) (absent (word words.Range) (lexeme c.args.tokens.now.source) (lexemes c.args.tokens.now) c.args.cursor c.in_ok-behind_keyword.ensures c.in_default-2.is)) (absent (word words.Mod) (lexeme c.args.tokens.now.source) (lexemes c.args.tokens.now) c.args.cursor c.in_ok-behind_keyword_2.ensures c.in_default-3.is)) (absent (word words.Array) (lexeme c.args.tokens.now.source) (lexemes c.args.tokens.now) c.args.cursor c.in_ok-behind_keyword_3.ensures c.in_default-4.is)) (present (word words.Null) (lexeme c.args.tokens.now.source) (lexemes c.args.tokens.now) c.args.cursor c.in_ok-behind_null.ensures c.in-Some-5.is).takes refl) c.in_ok-behind_behind.ensures.takes refl)) (omega (arith, (present (word words.Null) (lexeme c.args.tokens.now.source) (lexemes c.args.tokens.now) c.args.cursor c.in_ok-behind_null.ensures c.in-Some-5.is).place, c.in_ok-behind_behind.ensures.place)) refl (c.closing-in-Some-5.ensures.reads _ _ (c.new-own-in-Some-5.ensures _ hd.ordered) hd)

pub returns-in-Some-5-clause-goes : goal.returns-in-Some-5-clause-goes
returns-in-Some-5-clause-goes c = goes_on (lexemes c.args.tokens.now) c.args.cursor c.in_ok-behind_behind.behind_behind _ (omega (arith, (present (word words.Null) (lexeme c.args.tokens.now.source) (lexemes c.args.tokens.now) c.args.cursor c.in_ok-behind_null.ensures c.in-Some-5.is).place, c.in_ok-behind_behind.ensures.place)) c.closing-in-Some-5.ensures.goes

pub returns-in_err-behind_private-clause-reads : goal.returns-in_err-behind_private-clause-reads
returns-in_err-behind_private-clause-reads c = λ ds hd. fault_found (parts.TypeDefinition (lexeme c.args.tokens.now.source c.args.name) ds) (lexemes c.args.tokens.now) c.args.cursor _ _ _ _ (passes_here (lexemes c.args.tokens.now) c.args.cursor c.args.cursor (word words.Private) _ (unseen (unseen (unseen (unseen (unseen (start (parts.TypeDefinition (lexeme c.args.tokens.now.source c.args.name) ds) _) (absent (mark marks.Open) (lexeme c.args.tokens.now.source) (lexemes c.args.tokens.now) c.args.cursor c.in_ok-behind_opening.ensures c.in_default.is)) (absent (word words.Range) (lexeme c.args.tokens.now.source) (lexemes c.args.tokens.now) c.args.cursor c.in_ok-behind_keyword.ensures c.in_default-2.is)) (absent (word words.Mod) (lexeme c.args.tokens.now.source) (lexemes c.args.tokens.now) c.args.cursor c.in_ok-behind_keyword_2.ensures c.in_default-3.is)) (absent (word words.Array) (lexeme c.args.tokens.now.source) (lexemes c.args.tokens.now) c.args.cursor c.in_ok-behind_keyword_3.ensures c.in_default-4.is)) (absent (word words.Null) (lexeme c.args.tokens.now.source) (lexemes c.args.tokens.now) c.args.cursor c.in_ok-behind_null.ensures c.in_default-5.is)) (λ t. refl) c.in_err-behind_private.ensures) c.from_residual-in_err-behind_private.ensures.1

pub returns-in-Some-6-clause-reads : goal.returns-in-Some-6-clause-reads
returns-in-Some-6-clause-reads c = λ ds hd. finds_last (lexemes c.args.tokens.now) c.args.cursor c.in-Some-6.behind_private _ _ _ (rest_as (λ z. parts.Closing decls.PrivateType z phrases.none ds) (ap (λ z. map (lexeme c.args.tokens.now.source) z) c.in_ok-names-3.ensures) (seen (unseen (unseen (unseen (unseen (unseen (start (parts.TypeDefinition (lexeme c.args.tokens.now.source c.args.name) ds) _) (absent (mark marks.Open) (lexeme c.args.tokens.now.source) (lexemes c.args.tokens.now) c.args.cursor c.in_ok-behind_opening.ensures c.in_default.is)) (absent (word words.Range) (lexeme c.args.tokens.now.source) (lexemes c.args.tokens.now) c.args.cursor c.in_ok-behind_keyword.ensures c.in_default-2.is)) (absent (word words.Mod) (lexeme c.args.tokens.now.source) (lexemes c.args.tokens.now) c.args.cursor c.in_ok-behind_keyword_2.ensures c.in_default-3.is)) (absent (word words.Array) (lexeme c.args.tokens.now.source) (lexemes c.args.tokens.now) c.args.cursor c.in_ok-behind_keyword_3.ensures c.in_default-4.is)) (absent (word words.Null) (lexeme c.args.tokens.now.source) (lexemes c.args.tokens.now) c.args.cursor c.in_ok-behind_null.ensures c.in_default-5.is)) (present (word words.Private) (lexeme c.args.tokens.now.source) (lexemes c.args.tokens.now) c.args.cursor c.in_ok-behind_private.ensures c.in-Some-6.is).takes refl)) (omega (arith, (present (word words.Private) (lexeme c.args.tokens.now.source) (lexemes c.args.tokens.now) c.args.cursor c.in_ok-behind_private.ensures c.in-Some-6.is).place)) refl (c.closing-in-Some-6.ensures.reads _ _ (c.new-own-in-Some-6.ensures _ hd.ordered) hd)

pub returns-in-Some-6-clause-goes : goal.returns-in-Some-6-clause-goes
returns-in-Some-6-clause-goes c = goes_on (lexemes c.args.tokens.now) c.args.cursor c.in-Some-6.behind_private _ (omega (arith, (present (word words.Private) (lexeme c.args.tokens.now.source) (lexemes c.args.tokens.now) c.args.cursor c.in_ok-behind_private.ensures c.in-Some-6.is).place)) c.closing-in-Some-6.ensures.goes

pub returns-in_err-behind_keyword_6-clause-reads : goal.returns-in_err-behind_keyword_6-clause-reads
returns-in_err-behind_keyword_6-clause-reads c = λ ds hd. fault_found (parts.TypeDefinition (lexeme c.args.tokens.now.source c.args.name) ds) (lexemes c.args.tokens.now) c.args.cursor _ _ _ _ (misses_here (lexemes c.args.tokens.now) c.args.cursor c.args.cursor (word words.Record) _ c.requires.at (unseen (unseen (unseen (unseen (unseen (unseen (start (parts.TypeDefinition (lexeme c.args.tokens.now.source c.args.name) ds) _) (absent (mark marks.Open) (lexeme c.args.tokens.now.source) (lexemes c.args.tokens.now) c.args.cursor c.in_ok-behind_opening.ensures c.in_default.is)) (absent (word words.Range) (lexeme c.args.tokens.now.source) (lexemes c.args.tokens.now) c.args.cursor c.in_ok-behind_keyword.ensures c.in_default-2.is)) (absent (word words.Mod) (lexeme c.args.tokens.now.source) (lexemes c.args.tokens.now) c.args.cursor c.in_ok-behind_keyword_2.ensures c.in_default-3.is)) (absent (word words.Array) (lexeme c.args.tokens.now.source) (lexemes c.args.tokens.now) c.args.cursor c.in_ok-behind_keyword_3.ensures c.in_default-4.is)) (absent (word words.Null) (lexeme c.args.tokens.now.source) (lexemes c.args.tokens.now) c.args.cursor c.in_ok-behind_null.ensures c.in_default-5.is)) (absent (word words.Private) (lexeme c.args.tokens.now.source) (lexemes c.args.tokens.now) c.args.cursor c.in_ok-behind_private.ensures c.in_default-6.is)) refl (λ t. refl) c.in_err-behind_keyword_6.ensures) c.from_residual-in_err-behind_keyword_6.ensures.1

pub returns-clause-reads : goal.returns-clause-reads
returns-clause-reads c = λ ds hd. finds_last (lexemes c.args.tokens.now) c.args.cursor c.in_ok-behind_keyword_6.behind_keyword_6 _ _ _ (seen (unseen (unseen (unseen (unseen (unseen (unseen (start (parts.TypeDefinition (lexeme c.args.tokens.now.source c.args.name) ds) _) (absent (mark marks.Open) (lexeme c.args.tokens.now.source) (lexemes c.args.tokens.now) c.args.cursor c.in_ok-behind_opening.ensures c.in_default.is)) (absent (word words.Range) (lexeme c.args.tokens.now.source) (lexemes c.args.tokens.now) c.args.cursor c.in_ok-behind_keyword.ensures c.in_default-2.is)) (absent (word words.Mod) (lexeme c.args.tokens.now.source) (lexemes c.args.tokens.now) c.args.cursor c.in_ok-behind_keyword_2.ensures c.in_default-3.is)) (absent (word words.Array) (lexeme c.args.tokens.now.source) (lexemes c.args.tokens.now) c.args.cursor c.in_ok-behind_keyword_3.ensures c.in_default-4.is)) (absent (word words.Null) (lexeme c.args.tokens.now.source) (lexemes c.args.tokens.now) c.args.cursor c.in_ok-behind_null.ensures c.in_default-5.is)) (absent (word words.Private) (lexeme c.args.tokens.now.source) (lexemes c.args.tokens.now) c.args.cursor c.in_ok-behind_private.ensures c.in_default-6.is)) c.in_ok-behind_keyword_6.ensures.takes refl) (omega (arith, c.in_ok-behind_keyword_6.ensures.place)) refl (c.components.ensures.reads _ hd)

pub returns-clause-goes : goal.returns-clause-goes
returns-clause-goes c = goes_on (lexemes c.args.tokens.now) c.args.cursor c.in_ok-behind_keyword_6.behind_keyword_6 _ (omega (arith, c.in_ok-behind_keyword_6.ensures.place)) c.components.ensures.goes
