use Rattle.std.proofs.Common.{refl, map, arith, ap}
use Rattle.ada_tree.specs.declared.words.Reserved.TheVariants as words
use Rattle.ada_tree.specs.declared.declarations.DeclKind.TheVariants as decls
use Rattle.ada_tree.specs.declared.forms.LocalForm.TheVariants as locals
use Rattle.ada_grammar.specs.declared.tokens.Class.TheVariants as classes
use Rattle.ada_grammar.specs.Lexemes.{lexeme, lexemes}
use Rattle.ada_grammar.specs.Phrases as phrases
use Rattle.ada_grammar.specs.Parts as parts
use Rattle.ada_grammar.specs.Parts.{mark, word, Gives, Call, Rest}
use Rattle.ada_grammar.proofs.Steps.{start, seen, done}
use Rattle.ada_grammar.proofs.Answering.{misses_here, refuses}
use Rattle.ada_grammar.proofs.Joining.{rest_as, fault_found, finds_last, goes_on}
use Rattle.ada_grammar.proofs.Standing.{grows_on, holds_on}
use Rattle.ada_stmts.proofs.declarations.subtype_declaration.Goals as goal

pub returns-in_err-name-clause-reads : goal.returns-in_err-name-clause-reads
returns-in_err-name-clause-reads c = λ first ds hd. fault_found (parts.LocalDeclaration locals.Subtype first ds) (lexemes c.args.tokens.now) c.args.cursor _ _ _ _ (misses_here (lexemes c.args.tokens.now) c.args.cursor c.args.cursor classes.Word _ c.requires.at (start (parts.LocalDeclaration locals.Subtype first ds) _) refl (λ t. refl) c.in_err-name.ensures) c.from_residual.ensures.1

pub returns-in_err-behind_keyword-clause-reads : goal.returns-in_err-behind_keyword-clause-reads
returns-in_err-behind_keyword-clause-reads c = λ first ds hd. fault_found (parts.LocalDeclaration locals.Subtype first ds) (lexemes c.args.tokens.now) c.args.cursor _ _ _ _ (misses_here (lexemes c.args.tokens.now) c.args.cursor c.in_ok-name.behind_name (word words.Is) _ (omega (arith, c.in_ok-name.ensures.place, c.in_ok-name.ensures.within)) (seen (start (parts.LocalDeclaration locals.Subtype first ds) _) c.in_ok-name.ensures.takes refl) refl (λ t. refl) c.in_err-behind_keyword.ensures) c.from_residual-in_err-behind_keyword.ensures.1

pub returns-in_err-behind_subtype-clause-reads : goal.returns-in_err-behind_subtype-clause-reads
returns-in_err-behind_subtype-clause-reads c = λ first ds hd. fault_found (parts.LocalDeclaration locals.Subtype first ds) (lexemes c.args.tokens.now) c.args.cursor _ _ _ _ (refuses (lexemes c.args.tokens.now) c.args.cursor c.in_ok-behind_keyword.behind_keyword _ (seen (seen (start (parts.LocalDeclaration locals.Subtype first ds) _) c.in_ok-name.ensures.takes refl) c.in_ok-behind_keyword.ensures.takes refl) (λ b. refl) (c.in_err-behind_subtype.ensures.reads _ (c.new-own.ensures _ hd.ordered))) c.from_residual-in_err-behind_subtype.ensures.1

pub returns-clause-reads : goal.returns-clause-reads
returns-clause-reads c = λ first ds hd. let f1 = c.in_ok-behind_subtype.ensures.reads _ (c.new-own.ensures _ hd.ordered) in finds_last (lexemes c.args.tokens.now) c.args.cursor c.in_ok-behind_subtype.behind_subtype _ _ _ (rest_as (λ z. parts.Closing decls.Subtype z (phrases.with_expr phrases.none f1.phrase.tree) ds) (ap (λ z. map (lexeme c.args.tokens.now.source) z) c.in_ok-names.ensures) (done (seen (seen (start (parts.LocalDeclaration locals.Subtype first ds) _) c.in_ok-name.ensures.takes refl) c.in_ok-behind_keyword.ensures.takes refl) f1.reads (λ b. refl))) (omega (arith, c.in_ok-name.ensures.place, c.in_ok-behind_keyword.ensures.place, c.in_ok-behind_subtype.ensures.goes.forward)) refl (c.closing.ensures.reads _ _ f1.holds (holds_on f1.holds.ordered c.in_ok-behind_subtype.ensures.grows hd))

pub returns-clause-goes : goal.returns-clause-goes
returns-clause-goes c = goes_on (lexemes c.args.tokens.now) c.args.cursor c.in_ok-behind_subtype.behind_subtype _ (omega (arith, c.in_ok-name.ensures.place, c.in_ok-behind_keyword.ensures.place, c.in_ok-behind_subtype.ensures.goes.forward)) c.closing.ensures.goes

pub returns-clause-grows : goal.returns-clause-grows
returns-clause-grows c = (grows_on c.in_ok-behind_subtype.ensures.grows c.closing.ensures.grows)
