use Rattle.std.proofs.Common.{refl, arith}
use Rattle.ada_tree.specs.declared.token.Mark.TheVariants as marks
use Rattle.ada_grammar.specs.declared.tokens.Class.TheVariants as classes
use Rattle.ada_grammar.specs.Lexemes.{lexeme, lexemes}
use Rattle.ada_grammar.specs.Phrases as phrases
use Rattle.ada_grammar.specs.Parts as parts
use Rattle.ada_grammar.specs.Parts.{mark, word, Gives, Call, Rest}
use Rattle.ada_grammar.proofs.Steps.{start, seen, unseen}
use Rattle.ada_grammar.proofs.Answering.{passes_here, misses_here}
use Rattle.ada_grammar.proofs.Joining.{absent, present}
use Rattle.ada_grammar.proofs.Standing.{grows_same}
use Rattle.ada_grammar.proofs.Standing.{widens_on}
use Rattle.spark_parser.proofs.FoundUnits.{fault_unit, unit_found, stands_as, one_more}
use Rattle.spark_parser.proofs.units.end_of_unit.Goals as goal

pub returns-in_err-last-clause-reads : goal.returns-in_err-last-clause-reads
returns-in_err-last-clause-reads c = λ os ds ho. fault_unit (parts.EndOfUnit c.args.kind (lexeme c.args.tokens.now.source c.args.name) os ds) (lexemes c.args.tokens.now) c.args.cursor _ _ _ _ _ (passes_here (lexemes c.args.tokens.now) c.args.cursor c.args.cursor classes.Word _ (start (parts.EndOfUnit c.args.kind (lexeme c.args.tokens.now.source c.args.name) os ds) _) (λ t. refl) c.in_err-last.ensures) c.from_residual.ensures.1

pub returns-in_err-last-clause-widens : goal.returns-in_err-last-clause-widens
returns-in_err-last-clause-widens c = (grows_same _).widens

pub returns-in_err-behind_end-clause-reads : goal.returns-in_err-behind_end-clause-reads
returns-in_err-behind_end-clause-reads c = λ os ds ho. fault_unit (parts.EndOfUnit c.args.kind (lexeme c.args.tokens.now.source c.args.name) os ds) (lexemes c.args.tokens.now) c.args.cursor _ _ _ _ _ (misses_here (lexemes c.args.tokens.now) c.args.cursor c.in-Some.behind_last (mark marks.Semicolon) _ (omega (arith, (present classes.Word (lexeme c.args.tokens.now.source) (lexemes c.args.tokens.now) c.args.cursor c.in_ok-last.ensures c.in-Some.is).place, (present classes.Word (lexeme c.args.tokens.now.source) (lexemes c.args.tokens.now) c.args.cursor c.in_ok-last.ensures c.in-Some.is).within)) (seen (start (parts.EndOfUnit c.args.kind (lexeme c.args.tokens.now.source c.args.name) os ds) _) (present classes.Word (lexeme c.args.tokens.now.source) (lexemes c.args.tokens.now) c.args.cursor c.in_ok-last.ensures c.in-Some.is).takes refl) refl (λ t. refl) c.in_err-behind_end.ensures) c.from_residual-in_err-behind_end.ensures.1

pub returns-in_err-behind_end-clause-widens : goal.returns-in_err-behind_end-clause-widens
returns-in_err-behind_end-clause-widens c = (grows_same _).widens

pub returns-in_err-add_end_name-clause-widens : goal.returns-in_err-add_end_name-clause-widens
returns-in_err-add_end_name-clause-widens c = c.in_err-add_end_name.ensures.grows.widens

pub returns-in_err-add_unit-clause-widens : goal.returns-in_err-add_unit-clause-widens
returns-in_err-add_unit-clause-widens c = (widens_on c.in_ok-add_end_name.ensures.grows.widens c.in_err-add_unit.ensures.widens)

pub returns-in-Some-clause-reads : goal.returns-in-Some-clause-reads
returns-in-Some-clause-reads c = λ os ds ho. let b = c.in_ok-add_end_name.ensures.builds _ ho in unit_found (lexemes c.args.tokens.now) c.args.cursor c.in_ok-behind_end.behind_end _ c.in_ok-add_end_name.ensures.grows.units (stands_as (λ k. phrases.named_tree (phrases.OfUnit k) (lexeme c.args.tokens.now.source c.args.name) (phrases.with_expr os (phrases.end_name (lexeme c.args.tokens.now.source c.in-Some.last)))) c.unit_end-kind.ensures (c.in_ok-add_unit.ensures.builds _ b)) (c.in_ok-add_unit.ensures.ordered _ b) (omega (arith, (present classes.Word (lexeme c.args.tokens.now.source) (lexemes c.args.tokens.now) c.args.cursor c.in_ok-last.ensures c.in-Some.is).place, c.in_ok-behind_end.ensures.place)) (omega (arith, c.in_ok-behind_end.ensures.place, c.in_ok-behind_end.ensures.within)) (seen (seen (start (parts.EndOfUnit c.args.kind (lexeme c.args.tokens.now.source c.args.name) os ds) _) (present classes.Word (lexeme c.args.tokens.now.source) (lexemes c.args.tokens.now) c.args.cursor c.in_ok-last.ensures c.in-Some.is).takes refl) c.in_ok-behind_end.ensures.takes refl)

pub returns-in-Some-clause-goes : goal.returns-in-Some-clause-goes
returns-in-Some-clause-goes c = record { forward = omega (arith, (present classes.Word (lexeme c.args.tokens.now.source) (lexemes c.args.tokens.now) c.args.cursor c.in_ok-last.ensures c.in-Some.is).place, c.in_ok-behind_end.ensures.place); ends = (omega (arith, c.in_ok-behind_end.ensures.place, c.in_ok-behind_end.ensures.within)) }

pub returns-in-Some-clause-widens : goal.returns-in-Some-clause-widens
returns-in-Some-clause-widens c = (widens_on c.in_ok-add_end_name.ensures.grows.widens c.in_ok-add_unit.ensures.widens)

pub returns-in-Some-clause-one : goal.returns-in-Some-clause-one
returns-in-Some-clause-one c = one_more c.in_ok-add_end_name.ensures.grows.units c.in_ok-add_unit.ensures.one

pub returns-in_err-behind_end_2-clause-reads : goal.returns-in_err-behind_end_2-clause-reads
returns-in_err-behind_end_2-clause-reads c = λ os ds ho. fault_unit (parts.EndOfUnit c.args.kind (lexeme c.args.tokens.now.source c.args.name) os ds) (lexemes c.args.tokens.now) c.args.cursor _ _ _ _ _ (misses_here (lexemes c.args.tokens.now) c.args.cursor c.args.cursor (mark marks.Semicolon) _ c.requires.at (unseen (start (parts.EndOfUnit c.args.kind (lexeme c.args.tokens.now.source c.args.name) os ds) _) (absent classes.Word (lexeme c.args.tokens.now.source) (lexemes c.args.tokens.now) c.args.cursor c.in_ok-last.ensures c.in_default.is)) refl (λ t. refl) c.in_err-behind_end_2.ensures) c.from_residual-in_err-behind_end_2.ensures.1

pub returns-in_err-behind_end_2-clause-widens : goal.returns-in_err-behind_end_2-clause-widens
returns-in_err-behind_end_2-clause-widens c = (grows_same _).widens

pub returns-in_err-add_unit-2-clause-widens : goal.returns-in_err-add_unit-2-clause-widens
returns-in_err-add_unit-2-clause-widens c = (widens_on (grows_same _).widens c.in_err-add_unit-2.ensures.widens)

pub returns-clause-reads : goal.returns-clause-reads
returns-clause-reads c = λ os ds ho. unit_found (lexemes c.args.tokens.now) c.args.cursor c.in_ok-behind_end_2.behind_end_2 _ refl (c.in_ok-add_unit-2.ensures.builds _ ho) (c.in_ok-add_unit-2.ensures.ordered _ ho) (omega (arith, c.in_ok-behind_end_2.ensures.place)) (omega (arith, c.in_ok-behind_end_2.ensures.place, c.in_ok-behind_end_2.ensures.within)) (seen (unseen (start (parts.EndOfUnit c.args.kind (lexeme c.args.tokens.now.source c.args.name) os ds) _) (absent classes.Word (lexeme c.args.tokens.now.source) (lexemes c.args.tokens.now) c.args.cursor c.in_ok-last.ensures c.in_default.is)) c.in_ok-behind_end_2.ensures.takes refl)

pub returns-clause-goes : goal.returns-clause-goes
returns-clause-goes c = record { forward = omega (arith, c.in_ok-behind_end_2.ensures.place); ends = (omega (arith, c.in_ok-behind_end_2.ensures.place, c.in_ok-behind_end_2.ensures.within)) }

pub returns-clause-widens : goal.returns-clause-widens
returns-clause-widens c = (widens_on (grows_same _).widens c.in_ok-add_unit-2.ensures.widens)

pub returns-clause-one : goal.returns-clause-one
returns-clause-one c = one_more refl c.in_ok-add_unit-2.ensures.one
