use Rattle.std.proofs.Common.{refl, arith}
use Rattle.ada_tree.specs.declared.words.Reserved.TheVariants as words
use Rattle.ada_grammar.specs.declared.tokens.Class.TheVariants as classes
use Rattle.ada_grammar.specs.Lexemes.{lexemes}
use Rattle.ada_grammar.specs.Parts as parts
use Rattle.ada_grammar.specs.Parts.{mark, word, Gives, Call, Rest}
use Rattle.ada_grammar.proofs.Steps.{start, seen, done}
use Rattle.ada_grammar.proofs.Answering.{misses_here, refuses}
use Rattle.ada_grammar.proofs.Joining.{goes_on}
use Rattle.ada_grammar.proofs.Standing.{grows_same, grows_on}
use Rattle.ada_grammar.proofs.Standing.{widens_on}
use Rattle.spark_parser.proofs.FoundUnits.{fault_unit, unit_last, one_on}
use Rattle.spark_parser.proofs.units.main_unit.Goals as goal

pub returns-in_err-name-clause-reads : goal.returns-in_err-name-clause-reads
returns-in_err-name-clause-reads c = λ os ds ho. fault_unit (parts.MainUnit os ds) (lexemes c.args.tokens.now) c.args.cursor _ _ _ _ _ (misses_here (lexemes c.args.tokens.now) c.args.cursor c.args.cursor classes.Word _ c.requires.at (start (parts.MainUnit os ds) _) refl (λ t. refl) c.in_err-name.ensures) c.from_residual.ensures.1

pub returns-in_err-name-clause-widens : goal.returns-in_err-name-clause-widens
returns-in_err-name-clause-widens c = (grows_same _).widens

pub returns-in_err-behind_aspects-clause-reads : goal.returns-in_err-behind_aspects-clause-reads
returns-in_err-behind_aspects-clause-reads c = λ os ds ho. fault_unit (parts.MainUnit os ds) (lexemes c.args.tokens.now) c.args.cursor _ _ _ _ _ (refuses (lexemes c.args.tokens.now) c.args.cursor c.in_ok-name.behind_name _ (seen (start (parts.MainUnit os ds) _) c.in_ok-name.ensures.takes refl) (λ b. refl) (c.in_err-behind_aspects.ensures.reads _ ho)) c.from_residual-in_err-behind_aspects.ensures.1

pub returns-in_err-behind_aspects-clause-widens : goal.returns-in_err-behind_aspects-clause-widens
returns-in_err-behind_aspects-clause-widens c = c.in_err-behind_aspects.ensures.grows.widens

pub returns-in_err-behind_keyword-clause-reads : goal.returns-in_err-behind_keyword-clause-reads
returns-in_err-behind_keyword-clause-reads c = λ os ds ho. let f1 = c.in_ok-behind_aspects.ensures.reads _ ho in fault_unit (parts.MainUnit os ds) (lexemes c.args.tokens.now) c.args.cursor _ _ _ _ _ (misses_here (lexemes c.args.tokens.now) c.args.cursor c.in_ok-behind_aspects.behind_aspects (word words.Is) _ c.in_ok-behind_aspects.ensures.goes.ends (done (seen (start (parts.MainUnit os ds) _) c.in_ok-name.ensures.takes refl) f1.reads (λ b. refl)) refl (λ t. refl) c.in_err-behind_keyword.ensures) c.from_residual-in_err-behind_keyword.ensures.1

pub returns-in_err-behind_keyword-clause-widens : goal.returns-in_err-behind_keyword-clause-widens
returns-in_err-behind_keyword-clause-widens c = c.in_ok-behind_aspects.ensures.grows.widens

pub returns-in_err-behind_body-clause-reads : goal.returns-in_err-behind_body-clause-reads
returns-in_err-behind_body-clause-reads c = λ os ds ho. let f1 = c.in_ok-behind_aspects.ensures.reads _ ho in fault_unit (parts.MainUnit os ds) (lexemes c.args.tokens.now) c.args.cursor _ _ _ _ _ (refuses (lexemes c.args.tokens.now) c.args.cursor c.in_ok-behind_keyword.behind_keyword _ (seen (done (seen (start (parts.MainUnit os ds) _) c.in_ok-name.ensures.takes refl) f1.reads (λ b. refl)) c.in_ok-behind_keyword.ensures.takes refl) (λ b. refl) (c.in_err-behind_body.ensures.reads _ f1.holds)) c.from_residual-in_err-behind_body.ensures.1

pub returns-in_err-behind_body-clause-widens : goal.returns-in_err-behind_body-clause-widens
returns-in_err-behind_body-clause-widens c = (grows_on c.in_ok-behind_aspects.ensures.grows c.in_err-behind_body.ensures.grows).widens

pub returns-clause-reads : goal.returns-clause-reads
returns-clause-reads c = λ os ds ho. let f1 = c.in_ok-behind_aspects.ensures.reads _ ho in let f2 = c.in_ok-behind_body.ensures.reads _ f1.holds in unit_last (lexemes c.args.tokens.now) c.args.cursor c.in_ok-behind_body.behind_body _ _ _ (grows_on c.in_ok-behind_aspects.ensures.grows c.in_ok-behind_body.ensures.grows).units (done (seen (done (seen (start (parts.MainUnit os ds) _) c.in_ok-name.ensures.takes refl) f1.reads (λ b. refl)) c.in_ok-behind_keyword.ensures.takes refl) f2.reads (λ b. refl)) (omega (arith, c.in_ok-name.ensures.place, c.in_ok-behind_aspects.ensures.goes.forward, c.in_ok-behind_keyword.ensures.place, c.in_ok-behind_body.ensures.goes.forward)) refl (c.end_of_unit.ensures.reads _ _ f2.holds)

pub returns-clause-goes : goal.returns-clause-goes
returns-clause-goes c = goes_on (lexemes c.args.tokens.now) c.args.cursor c.in_ok-behind_body.behind_body _ (omega (arith, c.in_ok-name.ensures.place, c.in_ok-behind_aspects.ensures.goes.forward, c.in_ok-behind_keyword.ensures.place, c.in_ok-behind_body.ensures.goes.forward)) c.end_of_unit.ensures.goes

pub returns-clause-widens : goal.returns-clause-widens
returns-clause-widens c = (widens_on (grows_on c.in_ok-behind_aspects.ensures.grows c.in_ok-behind_body.ensures.grows).widens c.end_of_unit.ensures.widens)

pub returns-clause-one : goal.returns-clause-one
returns-clause-one c = one_on _ _ (grows_on c.in_ok-behind_aspects.ensures.grows c.in_ok-behind_body.ensures.grows).units c.end_of_unit.ensures.one
