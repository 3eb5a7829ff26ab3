use Rattle.std.proofs.Common.{refl, arith}
use Rattle.ada_tree.specs.declared.words.Reserved.TheVariants as words
use Rattle.ada_grammar.specs.declared.tokens.Class.TheVariants as classes
use Rattle.ada_grammar.specs.Lexemes.{lexeme, lexemes}
use Rattle.ada_grammar.specs.Parts as parts
use Rattle.ada_grammar.specs.Parts.{mark, word, Gives, Call, Rest}
use Rattle.ada_grammar.proofs.Steps.{start, seen, unseen, done}
use Rattle.ada_grammar.proofs.Answering.{passes_here, misses_here, refuses}
use Rattle.ada_grammar.proofs.Joining.{absent, present, goes_on}
use Rattle.ada_grammar.proofs.Standing.{grows_same, grows_on}
use Rattle.ada_grammar.proofs.Standing.{widens_on}
use Rattle.spark_parser.proofs.FoundUnits.{fault_unit, unit_last, one_on}
use Rattle.spark_parser.proofs.units.body_unit.Goals as goal

pub returns-in_err-name-clause-reads : goal.returns-in_err-name-clause-reads
returns-in_err-name-clause-reads c = λ os ds ho. fault_unit (parts.BodyUnit os ds) (lexemes c.args.tokens.now) c.args.cursor _ _ _ _ _ (misses_here (lexemes c.args.tokens.now) c.args.cursor c.args.cursor classes.Word _ c.requires.at (start (parts.BodyUnit os ds) _) refl (λ t. refl) c.in_err-name.ensures) c.from_residual.ensures.1

pub returns-in_err-name-clause-widens : goal.returns-in_err-name-clause-widens
returns-in_err-name-clause-widens c = (grows_same _).widens

pub returns-in_err-behind_aspects-clause-reads : goal.returns-in_err-behind_aspects-clause-reads
returns-in_err-behind_aspects-clause-reads c = λ os ds ho. fault_unit (parts.BodyUnit os ds) (lexemes c.args.tokens.now) c.args.cursor _ _ _ _ _ (refuses (lexemes c.args.tokens.now) c.args.cursor c.in_ok-name.behind_name _ (seen (start (parts.BodyUnit os ds) _) c.in_ok-name.ensures.takes refl) (λ b. refl) (c.in_err-behind_aspects.ensures.reads _ ho)) c.from_residual-in_err-behind_aspects.ensures.1

pub returns-in_err-behind_aspects-clause-widens : goal.returns-in_err-behind_aspects-clause-widens
returns-in_err-behind_aspects-clause-widens c = c.in_err-behind_aspects.ensures.grows.widens

pub returns-in_err-behind_keyword-clause-reads : goal.returns-in_err-behind_keyword-clause-reads
returns-in_err-behind_keyword-clause-reads c = λ os ds ho. let f1 = c.in_ok-behind_aspects.ensures.reads _ ho in fault_unit (parts.BodyUnit os ds) (lexemes c.args.tokens.now) c.args.cursor _ _ _ _ _ (misses_here (lexemes c.args.tokens.now) c.args.cursor c.in_ok-behind_aspects.behind_aspects (word words.Is) _ c.in_ok-behind_aspects.ensures.goes.ends (done (seen (start (parts.BodyUnit os ds) _) c.in_ok-name.ensures.takes refl) f1.reads (λ b. refl)) refl (λ t. refl) c.in_err-behind_keyword.ensures) c.from_residual-in_err-behind_keyword.ensures.1

pub returns-in_err-behind_keyword-clause-widens : goal.returns-in_err-behind_keyword-clause-widens
returns-in_err-behind_keyword-clause-widens c = c.in_ok-behind_aspects.ensures.grows.widens

pub returns-in_err-behind_items-clause-reads : goal.returns-in_err-behind_items-clause-reads
returns-in_err-behind_items-clause-reads c = λ os ds ho. let f1 = c.in_ok-behind_aspects.ensures.reads _ ho in fault_unit (parts.BodyUnit os ds) (lexemes c.args.tokens.now) c.args.cursor _ _ _ _ _ (refuses (lexemes c.args.tokens.now) c.args.cursor c.in_ok-behind_keyword.behind_keyword _ (seen (done (seen (start (parts.BodyUnit os ds) _) c.in_ok-name.ensures.takes refl) f1.reads (λ b. refl)) c.in_ok-behind_keyword.ensures.takes refl) (λ b. refl) (c.in_err-behind_items.ensures.reads _ f1.holds)) c.from_residual-in_err-behind_items.ensures.1

pub returns-in_err-behind_items-clause-widens : goal.returns-in_err-behind_items-clause-widens
returns-in_err-behind_items-clause-widens c = (grows_on c.in_ok-behind_aspects.ensures.grows c.in_err-behind_items.ensures.grows).widens

pub returns-in_err-behind_begin-clause-reads : goal.returns-in_err-behind_begin-clause-reads
returns-in_err-behind_begin-clause-reads c = λ os ds ho. let f1 = c.in_ok-behind_aspects.ensures.reads _ ho in let f2 = c.in_ok-behind_items.ensures.reads _ f1.holds in fault_unit (parts.BodyUnit os ds) (lexemes c.args.tokens.now) c.args.cursor _ _ _ _ _ (passes_here (lexemes c.args.tokens.now) c.args.cursor c.in_ok-behind_items.behind_items (word words.Begin) _ (done (seen (done (seen (start (parts.BodyUnit os ds) _) c.in_ok-name.ensures.takes refl) f1.reads (λ b. refl)) c.in_ok-behind_keyword.ensures.takes refl) f2.reads (λ b. refl)) (λ t. refl) c.in_err-behind_begin.ensures) c.from_residual-in_err-behind_begin.ensures.1

pub returns-in_err-behind_begin-clause-widens : goal.returns-in_err-behind_begin-clause-widens
returns-in_err-behind_begin-clause-widens c = (grows_on c.in_ok-behind_aspects.ensures.grows c.in_ok-behind_items.ensures.grows).widens

pub returns-in_err-behind_statements-clause-reads : goal.returns-in_err-behind_statements-clause-reads
returns-in_err-behind_statements-clause-reads c = λ os ds ho. let f1 = c.in_ok-behind_aspects.ensures.reads _ ho in let f2 = c.in_ok-behind_items.ensures.reads _ f1.holds in fault_unit (parts.BodyUnit os ds) (lexemes c.args.tokens.now) c.args.cursor _ _ _ _ _ (refuses (lexemes c.args.tokens.now) c.args.cursor c.in-Some.behind_begin _ (seen (done (seen (done (seen (start (parts.BodyUnit os ds) _) c.in_ok-name.ensures.takes refl) f1.reads (λ b. refl)) c.in_ok-behind_keyword.ensures.takes refl) f2.reads (λ b. refl)) (present (word words.Begin) (lexeme c.args.tokens.now.source) (lexemes c.args.tokens.now) c.in_ok-behind_items.behind_items c.in_ok-behind_begin.ensures c.in-Some.is).takes refl) (λ b. refl) (c.in_err-behind_statements.ensures.reads _ f2.holds)) c.from_residual-in_err-behind_statements.ensures.1

pub returns-in_err-behind_statements-clause-widens : goal.returns-in_err-behind_statements-clause-widens
returns-in_err-behind_statements-clause-widens c = (grows_on (grows_on c.in_ok-behind_aspects.ensures.grows c.in_ok-behind_items.ensures.grows) c.in_err-behind_statements.ensures.grows).widens

pub returns-in_err-behind_end-clause-reads : goal.returns-in_err-behind_end-clause-reads
returns-in_err-behind_end-clause-reads c = λ os ds ho. let f1 = c.in_ok-behind_aspects.ensures.reads _ ho in let f2 = c.in_ok-behind_items.ensures.reads _ f1.holds in let f3 = c.in_ok-behind_statements.ensures.reads _ f2.holds in fault_unit (parts.BodyUnit os ds) (lexemes c.args.tokens.now) c.args.cursor _ _ _ _ _ (misses_here (lexemes c.args.tokens.now) c.args.cursor c.in_ok-behind_statements.behind_statements (word words.End) _ c.in_ok-behind_statements.ensures.goes.ends (done (seen (done (seen (done (seen (start (parts.BodyUnit os ds) _) c.in_ok-name.ensures.takes refl) f1.reads (λ b. refl)) c.in_ok-behind_keyword.ensures.takes refl) f2.reads (λ b. refl)) (present (word words.Begin) (lexeme c.args.tokens.now.source) (lexemes c.args.tokens.now) c.in_ok-behind_items.behind_items c.in_ok-behind_begin.ensures c.in-Some.is).takes refl) f3.reads (λ b. refl)) refl (λ t. refl) c.in_err-behind_end.ensures) c.from_residual-in_err-behind_end.ensures.1

pub returns-in_err-behind_end-clause-widens : goal.returns-in_err-behind_end-clause-widens
returns-in_err-behind_end-clause-widens c = (grows_on (grows_on c.in_ok-behind_aspects.ensures.grows c.in_ok-behind_items.ensures.grows) c.in_ok-behind_statements.ensures.grows).widens

pub returns-in-Some-clause-reads : goal.returns-in-Some-clause-reads
returns-in-Some-clause-reads c = λ os ds ho. let f1 = c.in_ok-behind_aspects.ensures.reads _ ho in let f2 = c.in_ok-behind_items.ensures.reads _ f1.holds in let f3 = c.in_ok-behind_statements.ensures.reads _ f2.holds in unit_last (lexemes c.args.tokens.now) c.args.cursor c.in_ok-behind_end.behind_end _ _ _ (grows_on (grows_on c.in_ok-behind_aspects.ensures.grows c.in_ok-behind_items.ensures.grows) c.in_ok-behind_statements.ensures.grows).units (seen (done (seen (done (seen (done (seen (start (parts.BodyUnit os ds) _) c.in_ok-name.ensures.takes refl) f1.reads (λ b. refl)) c.in_ok-behind_keyword.ensures.takes refl) f2.reads (λ b. refl)) (present (word words.Begin) (lexeme c.args.tokens.now.source) (lexemes c.args.tokens.now) c.in_ok-behind_items.behind_items c.in_ok-behind_begin.ensures c.in-Some.is).takes refl) f3.reads (λ b. refl)) c.in_ok-behind_end.ensures.takes refl) (omega (arith, c.in_ok-name.ensures.place, c.in_ok-behind_aspects.ensures.goes.forward, c.in_ok-behind_keyword.ensures.place, c.in_ok-behind_items.ensures.goes.forward, (present (word words.Begin) (lexeme c.args.tokens.now.source) (lexemes c.args.tokens.now) c.in_ok-behind_items.behind_items c.in_ok-behind_begin.ensures c.in-Some.is).place, c.in_ok-behind_statements.ensures.goes.forward, c.in_ok-behind_end.ensures.place)) refl (c.end_of_unit.ensures.reads _ _ f3.holds)

pub returns-in-Some-clause-goes : goal.returns-in-Some-clause-goes
returns-in-Some-clause-goes c = goes_on (lexemes c.args.tokens.now) c.args.cursor c.in_ok-behind_end.behind_end _ (omega (arith, c.in_ok-name.ensures.place, c.in_ok-behind_aspects.ensures.goes.forward, c.in_ok-behind_keyword.ensures.place, c.in_ok-behind_items.ensures.goes.forward, (present (word words.Begin) (lexeme c.args.tokens.now.source) (lexemes c.args.tokens.now) c.in_ok-behind_items.behind_items c.in_ok-behind_begin.ensures c.in-Some.is).place, c.in_ok-behind_statements.ensures.goes.forward, c.in_ok-behind_end.ensures.place)) c.end_of_unit.ensures.goes

pub returns-in-Some-clause-widens : goal.returns-in-Some-clause-widens
returns-in-Some-clause-widens c = (widens_on (grows_on (grows_on c.in_ok-behind_aspects.ensures.grows c.in_ok-behind_items.ensures.grows) c.in_ok-behind_statements.ensures.grows).widens c.end_of_unit.ensures.widens)

pub returns-in-Some-clause-one : goal.returns-in-Some-clause-one
returns-in-Some-clause-one c = one_on _ _ (grows_on (grows_on c.in_ok-behind_aspects.ensures.grows c.in_ok-behind_items.ensures.grows) c.in_ok-behind_statements.ensures.grows).units c.end_of_unit.ensures.one

pub returns-in_err-behind_end_2-clause-reads : goal.returns-in_err-behind_end_2-clause-reads
returns-in_err-behind_end_2-clause-reads c = λ os ds ho. let f1 = c.in_ok-behind_aspects.ensures.reads _ ho in let f2 = c.in_ok-behind_items.ensures.reads _ f1.holds in fault_unit (parts.BodyUnit os ds) (lexemes c.args.tokens.now) c.args.cursor _ _ _ _ _ (misses_here (lexemes c.args.tokens.now) c.args.cursor c.in_ok-behind_items.behind_items (word words.End) _ c.in_ok-behind_items.ensures.goes.ends (unseen (done (seen (done (seen (start (parts.BodyUnit os ds) _) c.in_ok-name.ensures.takes refl) f1.reads (λ b. refl)) c.in_ok-behind_keyword.ensures.takes refl) f2.reads (λ b. refl)) (absent (word words.Begin) (lexeme c.args.tokens.now.source) (lexemes c.args.tokens.now) c.in_ok-behind_items.behind_items c.in_ok-behind_begin.ensures c.in_default.is)) refl (λ t. refl) c.in_err-behind_end_2.ensures) c.from_residual-in_err-behind_end_2.ensures.1

pub returns-in_err-behind_end_2-clause-widens : goal.returns-in_err-behind_end_2-clause-widens
returns-in_err-behind_end_2-clause-widens c = (grows_on c.in_ok-behind_aspects.ensures.grows c.in_ok-behind_items.ensures.grows).widens

pub returns-clause-reads : goal.returns-clause-reads
returns-clause-reads c = λ os ds ho. let f1 = c.in_ok-behind_aspects.ensures.reads _ ho in let f2 = c.in_ok-behind_items.ensures.reads _ f1.holds in unit_last (lexemes c.args.tokens.now) c.args.cursor c.in_ok-behind_end_2.behind_end_2 _ _ _ (grows_on c.in_ok-behind_aspects.ensures.grows c.in_ok-behind_items.ensures.grows).units (seen (unseen (done (seen (done (seen (start (parts.BodyUnit os ds) _) c.in_ok-name.ensures.takes refl) f1.reads (λ b. refl)) c.in_ok-behind_keyword.ensures.takes refl) f2.reads (λ b. refl)) (absent (word words.Begin) (lexeme c.args.tokens.now.source) (lexemes c.args.tokens.now) c.in_ok-behind_items.behind_items c.in_ok-behind_begin.ensures c.in_default.is)) c.in_ok-behind_end_2.ensures.takes refl) (omega (arith, c.in_ok-name.ensures.place, c.in_ok-behind_aspects.ensures.goes.forward, c.in_ok-behind_keyword.ensures.place, c.in_ok-behind_items.ensures.goes.forward, c.in_ok-behind_end_2.ensures.place)) refl (c.end_of_unit-2.ensures.reads _ _ f2.holds)

pub returns-clause-goes : goal.returns-clause-goes
returns-clause-goes c = goes_on (lexemes c.args.tokens.now) c.args.cursor c.in_ok-behind_end_2.behind_end_2 _ (omega (arith, c.in_ok-name.ensures.place, c.in_ok-behind_aspects.ensures.goes.forward, c.in_ok-behind_keyword.ensures.place, c.in_ok-behind_items.ensures.goes.forward, c.in_ok-behind_end_2.ensures.place)) c.end_of_unit-2.ensures.goes

pub returns-clause-widens : goal.returns-clause-widens
returns-clause-widens c = (widens_on (grows_on c.in_ok-behind_aspects.ensures.grows c.in_ok-behind_items.ensures.grows).widens c.end_of_unit-2.ensures.widens)

pub returns-clause-one : goal.returns-clause-one
returns-clause-one c = one_on _ _ (grows_on c.in_ok-behind_aspects.ensures.grows c.in_ok-behind_items.ensures.grows).units c.end_of_unit-2.ensures.one
