use Rattle.std.proofs.lemmas.List.{map-append}
use Rattle.std.proofs.Common.{refl, [], ◌∷◌, map, arith, ap, ◌∙◌}
use Rattle.ada_tree.specs.declared.token.Mark.TheVariants as marks
use Rattle.ada_grammar.specs.declared.tokens.Class.TheVariants as classes
use Rattle.ada_grammar.specs.Lexemes.{lexeme, lexemes}
use Rattle.ada_grammar.specs.Parts as parts
use Rattle.ada_grammar.specs.Parts.{mark, word, Gives, Call, Rest}
use Rattle.ada_grammar.proofs.Steps.{whole, opened, seen, unseen}
use Rattle.ada_grammar.proofs.Answering.{passes_here, misses_here}
use Rattle.ada_grammar.proofs.Joining.{rest_as, absent, present, fault_found, finds_last, goes_on}
use Rattle.ada_stmts.proofs.declarations.declared_names.Goals as goal

pub loop-names-init : goal.loop-names-init
loop-names-init c = record { forward = omega arith; ends = c.requires.at; awaits = λ ds. rest_as (λ z. parts.Names c.args.what z ds) (ap (λ z. map (lexeme c.args.tokens.now.source) z) c.in_ok-names.ensures) (whole (parts.Names c.args.what ((lexeme c.args.tokens.now.source c.args.first) ∷ []) ds) _) }

pub returns-in_err-behind_comma-clause-reads : goal.returns-in_err-behind_comma-clause-reads
returns-in_err-behind_comma-clause-reads c = λ ds hd. fault_found (parts.Names c.args.what ((lexeme c.args.tokens.now.source c.args.first) ∷ []) ds) (lexemes c.args.tokens.now) c.args.cursor _ _ _ _ (passes_here (lexemes c.args.tokens.now) c.args.cursor c.loop-names.next (mark marks.Comma) _ (opened (c.loop-names.invariant.awaits ds)) (λ t. refl) c.in_err-behind_comma.ensures) c.from_residual-in_err-behind_comma.ensures.1

pub returns-in_err-name-clause-reads : goal.returns-in_err-name-clause-reads
returns-in_err-name-clause-reads c = λ ds hd. fault_found (parts.Names c.args.what ((lexeme c.args.tokens.now.source c.args.first) ∷ []) ds) (lexemes c.args.tokens.now) c.args.cursor _ _ _ _ (misses_here (lexemes c.args.tokens.now) c.args.cursor c.in-Some.behind_comma classes.Word _ (omega (arith, (present (mark marks.Comma) (lexeme c.args.tokens.now.source) (lexemes c.args.tokens.now) c.loop-names.next c.in_ok-behind_comma.ensures c.in-Some.is).place, (present (mark marks.Comma) (lexeme c.args.tokens.now.source) (lexemes c.args.tokens.now) c.loop-names.next c.in_ok-behind_comma.ensures c.in-Some.is).within)) (seen (opened (c.loop-names.invariant.awaits ds)) (present (mark marks.Comma) (lexeme c.args.tokens.now.source) (lexemes c.args.tokens.now) c.loop-names.next c.in_ok-behind_comma.ensures c.in-Some.is).takes refl) refl (λ t. refl) c.in_err-name.ensures) c.from_residual-in_err-name.ensures.1

pub loop-names-preserved : goal.loop-names-preserved
loop-names-preserved c = record { forward = omega (arith, c.loop-names.invariant.forward, (present (mark marks.Comma) (lexeme c.args.tokens.now.source) (lexemes c.args.tokens.now) c.loop-names.next c.in_ok-behind_comma.ensures c.in-Some.is).place, c.in_ok-name.ensures.place); ends = omega (arith, c.in_ok-name.ensures.place, c.in_ok-name.ensures.within); awaits = λ ds. rest_as (λ z. parts.Names c.args.what z ds) (ap (λ z. map (lexeme c.args.tokens.now.source) z) c.in_ok-push.ensures.ok ∙ map-append (lexeme c.args.tokens.now.source) _ _) (seen (seen (opened (c.loop-names.invariant.awaits ds)) (present (mark marks.Comma) (lexeme c.args.tokens.now.source) (lexemes c.args.tokens.now) c.loop-names.next c.in_ok-behind_comma.ensures c.in-Some.is).takes refl) c.in_ok-name.ensures.takes refl) }

pub returns-in_err-behind_colon-clause-reads : goal.returns-in_err-behind_colon-clause-reads
returns-in_err-behind_colon-clause-reads c = λ ds hd. fault_found (parts.Names c.args.what ((lexeme c.args.tokens.now.source c.args.first) ∷ []) ds) (lexemes c.args.tokens.now) c.args.cursor _ _ _ _ (misses_here (lexemes c.args.tokens.now) c.args.cursor c.loop-names.next (mark marks.Colon) _ c.loop-names.invariant.ends (unseen (opened (c.loop-names.invariant.awaits ds)) (absent (mark marks.Comma) (lexeme c.args.tokens.now.source) (lexemes c.args.tokens.now) c.loop-names.next c.in_ok-behind_comma.ensures c.in_default.is)) refl (λ t. refl) c.in_err-behind_colon.ensures) c.from_residual-in_err-behind_colon.ensures.1

pub returns-clause-reads : goal.returns-clause-reads
returns-clause-reads c = λ ds hd. finds_last (lexemes c.args.tokens.now) c.args.cursor c.in_ok-behind_colon.behind_colon _ _ _ (seen (unseen (opened (c.loop-names.invariant.awaits ds)) (absent (mark marks.Comma) (lexeme c.args.tokens.now.source) (lexemes c.args.tokens.now) c.loop-names.next c.in_ok-behind_comma.ensures c.in_default.is)) c.in_ok-behind_colon.ensures.takes refl) (omega (arith, c.loop-names.invariant.forward, c.in_ok-behind_colon.ensures.place)) refl (c.behind_names.ensures.reads _ hd)

pub returns-clause-goes : goal.returns-clause-goes
returns-clause-goes c = goes_on (lexemes c.args.tokens.now) c.args.cursor c.in_ok-behind_colon.behind_colon _ (omega (arith, c.loop-names.invariant.forward, c.in_ok-behind_colon.ensures.place)) c.behind_names.ensures.goes
