use Rattle.std.proofs.Common.{refl, arith}
use Rattle.ada_tree.specs.declared.words.Reserved.TheVariants as words
use Rattle.ada_grammar.specs.declared.tokens.Class.TheVariants as classes
use Rattle.ada_grammar.specs.Lexemes.{lexemes}
use Rattle.ada_grammar.specs.Parts as parts
use Rattle.ada_grammar.specs.Parts.{mark, word, Gives, Call, Rest}
use Rattle.ada_grammar.proofs.Steps.{start, seen, done}
use Rattle.ada_grammar.proofs.Answering.{misses_here, refuses}
use Rattle.ada_grammar.proofs.Joining.{fault_found, finds_last, goes_on}
use Rattle.ada_grammar.proofs.Standing.{grows_on, holds_on}
use Rattle.spark_parser.proofs.declarations.protected_body.Goals as goal

pub returns-in_err-name-clause-reads : goal.returns-in_err-name-clause-reads
returns-in_err-name-clause-reads c = λ ds hd. fault_found (parts.ProtectedBody ds) (lexemes c.args.tokens.now) c.args.cursor _ _ _ _ (misses_here (lexemes c.args.tokens.now) c.args.cursor c.args.cursor classes.Word _ c.requires.at (start (parts.ProtectedBody ds) _) refl (λ t. refl) c.in_err-name.ensures) c.from_residual.ensures.1

pub returns-in_err-behind_aspects-clause-reads : goal.returns-in_err-behind_aspects-clause-reads
returns-in_err-behind_aspects-clause-reads c = λ ds hd. fault_found (parts.ProtectedBody ds) (lexemes c.args.tokens.now) c.args.cursor _ _ _ _ (refuses (lexemes c.args.tokens.now) c.args.cursor c.in_ok-name.behind_name _ (seen (start (parts.ProtectedBody ds) _) c.in_ok-name.ensures.takes refl) (λ b. refl) (c.in_err-behind_aspects.ensures.reads _ (c.new-own.ensures _ hd.ordered))) c.from_residual-in_err-behind_aspects.ensures.1

pub returns-in_err-behind_keyword-clause-reads : goal.returns-in_err-behind_keyword-clause-reads
returns-in_err-behind_keyword-clause-reads c = λ ds hd. let f1 = c.in_ok-behind_aspects.ensures.reads _ (c.new-own.ensures _ hd.ordered) in fault_found (parts.ProtectedBody ds) (lexemes c.args.tokens.now) c.args.cursor _ _ _ _ (misses_here (lexemes c.args.tokens.now) c.args.cursor c.in_ok-behind_aspects.behind_aspects (word words.Is) _ c.in_ok-behind_aspects.ensures.goes.ends (done (seen (start (parts.ProtectedBody ds) _) c.in_ok-name.ensures.takes refl) f1.reads (λ b. refl)) refl (λ t. refl) c.in_err-behind_keyword.ensures) c.from_residual-in_err-behind_keyword.ensures.1

pub returns-in_err-behind_bodies-clause-reads : goal.returns-in_err-behind_bodies-clause-reads
returns-in_err-behind_bodies-clause-reads c = λ ds hd. let f1 = c.in_ok-behind_aspects.ensures.reads _ (c.new-own.ensures _ hd.ordered) in fault_found (parts.ProtectedBody ds) (lexemes c.args.tokens.now) c.args.cursor _ _ _ _ (refuses (lexemes c.args.tokens.now) c.args.cursor c.in_ok-behind_keyword.behind_keyword _ (seen (done (seen (start (parts.ProtectedBody ds) _) c.in_ok-name.ensures.takes refl) f1.reads (λ b. refl)) c.in_ok-behind_keyword.ensures.takes refl) (λ b. refl) (c.in_err-behind_bodies.ensures.reads _ f1.holds)) c.from_residual-in_err-behind_bodies.ensures.1

pub returns-in_err-behind_bodies-clause-grows : goal.returns-in_err-behind_bodies-clause-grows
returns-in_err-behind_bodies-clause-grows c = (grows_on c.in_ok-behind_aspects.ensures.grows c.in_err-behind_bodies.ensures.grows)

pub returns-in_err-behind_end-clause-reads : goal.returns-in_err-behind_end-clause-reads
returns-in_err-behind_end-clause-reads c = λ ds hd. let f1 = c.in_ok-behind_aspects.ensures.reads _ (c.new-own.ensures _ hd.ordered) in let f2 = c.in_ok-behind_bodies.ensures.reads _ f1.holds in fault_found (parts.ProtectedBody ds) (lexemes c.args.tokens.now) c.args.cursor _ _ _ _ (misses_here (lexemes c.args.tokens.now) c.args.cursor c.in_ok-behind_bodies.behind_bodies (word words.End) _ c.in_ok-behind_bodies.ensures.goes.ends (done (seen (done (seen (start (parts.ProtectedBody ds) _) c.in_ok-name.ensures.takes refl) f1.reads (λ b. refl)) c.in_ok-behind_keyword.ensures.takes refl) f2.reads (λ b. refl)) refl (λ t. refl) c.in_err-behind_end.ensures) c.from_residual-in_err-behind_end.ensures.1

pub returns-in_err-behind_end-clause-grows : goal.returns-in_err-behind_end-clause-grows
returns-in_err-behind_end-clause-grows c = (grows_on c.in_ok-behind_aspects.ensures.grows c.in_ok-behind_bodies.ensures.grows)

pub returns-clause-reads : goal.returns-clause-reads
returns-clause-reads c = λ ds hd. let f1 = c.in_ok-behind_aspects.ensures.reads _ (c.new-own.ensures _ hd.ordered) in let f2 = c.in_ok-behind_bodies.ensures.reads _ f1.holds in finds_last (lexemes c.args.tokens.now) c.args.cursor c.in_ok-behind_end.behind_end _ _ _ (seen (done (seen (done (seen (start (parts.ProtectedBody ds) _) c.in_ok-name.ensures.takes refl) f1.reads (λ b. refl)) c.in_ok-behind_keyword.ensures.takes refl) f2.reads (λ b. refl)) c.in_ok-behind_end.ensures.takes refl) (omega (arith, c.in_ok-name.ensures.place, c.in_ok-behind_aspects.ensures.goes.forward, c.in_ok-behind_keyword.ensures.place, c.in_ok-behind_bodies.ensures.goes.forward, c.in_ok-behind_end.ensures.place)) refl (c.end_of_declaration.ensures.reads _ _ f2.holds (holds_on f2.holds.ordered c.in_ok-behind_bodies.ensures.grows (holds_on f1.holds.ordered c.in_ok-behind_aspects.ensures.grows hd)))

pub returns-clause-goes : goal.returns-clause-goes
returns-clause-goes c = goes_on (lexemes c.args.tokens.now) c.args.cursor c.in_ok-behind_end.behind_end _ (omega (arith, c.in_ok-name.ensures.place, c.in_ok-behind_aspects.ensures.goes.forward, c.in_ok-behind_keyword.ensures.place, c.in_ok-behind_bodies.ensures.goes.forward, c.in_ok-behind_end.ensures.place)) c.end_of_declaration.ensures.goes

pub returns-clause-grows : goal.returns-clause-grows
returns-clause-grows c = (grows_on (grows_on c.in_ok-behind_aspects.ensures.grows c.in_ok-behind_bodies.ensures.grows) c.end_of_declaration.ensures.grows)
