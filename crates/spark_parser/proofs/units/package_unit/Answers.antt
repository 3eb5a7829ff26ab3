use Rattle.std.proofs.Common.{refl, arith}
use Rattle.ada_tree.specs.declared.words.Reserved.TheVariants as words
use Rattle.ada_grammar.specs.Lexemes.{lexeme, lexemes}
use Rattle.ada_grammar.specs.Parts as parts
use Rattle.ada_grammar.specs.Parts.{mark, word, Gives, Call, Rest}
use Rattle.ada_grammar.proofs.Steps.{start, seen, unseen}
use Rattle.ada_grammar.proofs.Answering.{passes_here}
use Rattle.ada_grammar.proofs.Joining.{absent, present, goes_on}
use Rattle.ada_grammar.proofs.Standing.{grows_same}
use Rattle.ada_grammar.proofs.Standing.{widens_on}
use Rattle.spark_parser.proofs.FoundUnits.{fault_unit, unit_last, one_on}
use Rattle.spark_parser.proofs.units.package_unit.Goals as goal

pub returns-in_err-behind_keyword-clause-reads : goal.returns-in_err-behind_keyword-clause-reads
returns-in_err-behind_keyword-clause-reads c = λ os ds ho. fault_unit (parts.PackageUnit os ds) (lexemes c.args.tokens.now) c.args.cursor _ _ _ _ _ (passes_here (lexemes c.args.tokens.now) c.args.cursor c.args.cursor (word words.Body) _ (start (parts.PackageUnit os ds) _) (λ t. refl) c.in_err-behind_keyword.ensures) c.from_residual.ensures.1

pub returns-in_err-behind_keyword-clause-widens : goal.returns-in_err-behind_keyword-clause-widens
returns-in_err-behind_keyword-clause-widens c = (grows_same _).widens

pub returns-in-Some-clause-reads : goal.returns-in-Some-clause-reads
returns-in-Some-clause-reads c = λ os ds ho. unit_last (lexemes c.args.tokens.now) c.args.cursor c.in-Some.behind_keyword _ _ _ refl (seen (start (parts.PackageUnit os ds) _) (present (word words.Body) (lexeme c.args.tokens.now.source) (lexemes c.args.tokens.now) c.args.cursor c.in_ok-behind_keyword.ensures c.in-Some.is).takes refl) (omega (arith, (present (word words.Body) (lexeme c.args.tokens.now.source) (lexemes c.args.tokens.now) c.args.cursor c.in_ok-behind_keyword.ensures c.in-Some.is).place)) refl (c.body_unit.ensures.reads _ _ ho)

pub returns-in-Some-clause-goes : goal.returns-in-Some-clause-goes
returns-in-Some-clause-goes c = goes_on (lexemes c.args.tokens.now) c.args.cursor c.in-Some.behind_keyword _ (omega (arith, (present (word words.Body) (lexeme c.args.tokens.now.source) (lexemes c.args.tokens.now) c.args.cursor c.in_ok-behind_keyword.ensures c.in-Some.is).place)) c.body_unit.ensures.goes

pub returns-in-Some-clause-widens : goal.returns-in-Some-clause-widens
returns-in-Some-clause-widens c = (widens_on (grows_same _).widens c.body_unit.ensures.widens)

pub returns-in-Some-clause-one : goal.returns-in-Some-clause-one
returns-in-Some-clause-one c = one_on _ _ refl c.body_unit.ensures.one

pub returns-clause-reads : goal.returns-clause-reads
returns-clause-reads c = λ os ds ho. unit_last (lexemes c.args.tokens.now) c.args.cursor c.args.cursor _ _ _ refl (unseen (start (parts.PackageUnit os ds) _) (absent (word words.Body) (lexeme c.args.tokens.now.source) (lexemes c.args.tokens.now) c.args.cursor c.in_ok-behind_keyword.ensures c.in_default.is)) (omega arith) refl (c.spec_unit.ensures.reads _ _ ho)

pub returns-clause-goes : goal.returns-clause-goes
returns-clause-goes c = goes_on (lexemes c.args.tokens.now) c.args.cursor c.args.cursor _ (omega arith) c.spec_unit.ensures.goes

pub returns-clause-widens : goal.returns-clause-widens
returns-clause-widens c = (widens_on (grows_same _).widens c.spec_unit.ensures.widens)

pub returns-clause-one : goal.returns-clause-one
returns-clause-one c = one_on _ _ refl c.spec_unit.ensures.one
