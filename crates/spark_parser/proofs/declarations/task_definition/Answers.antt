use Rattle.std.proofs.Common.{refl, arith}
use Rattle.ada_tree.specs.declared.words.Reserved.TheVariants as words
use Rattle.ada_grammar.specs.Lexemes.{lexeme, lexemes}
use Rattle.ada_grammar.specs.Parts as parts
use Rattle.ada_grammar.specs.Parts.{mark, word, Gives, Call, Rest}
use Rattle.ada_grammar.proofs.Steps.{whole, opened, seen, unseen, done}
use Rattle.ada_grammar.proofs.Answering.{passes_here, misses_here, refuses}
use Rattle.ada_grammar.proofs.Joining.{absent, present, fault_found, finds_last, goes_on}
use Rattle.ada_grammar.proofs.Standing.{grows_same, grows_on}
use Rattle.spark_parser.proofs.declarations.task_definition.Goals as goal

pub loop-own-init : goal.loop-own-init
loop-own-init c = record { forward = omega arith; ends = c.requires.at; grows = (grows_same _); awaits = λ os ds ho hd. (os, ho, hd, (whole (parts.TaskDefinition c.args.kind (lexeme c.args.tokens.now.source c.args.name) os ds) _)) }

pub returns-in_err-behind_keyword-clause-reads : goal.returns-in_err-behind_keyword-clause-reads
returns-in_err-behind_keyword-clause-reads c = λ os ds ho hd. let y = c.loop-own.invariant.awaits os ds ho hd in fault_found (parts.TaskDefinition c.args.kind (lexeme c.args.tokens.now.source c.args.name) os ds) (lexemes c.args.tokens.now) c.args.cursor _ _ _ _ (passes_here (lexemes c.args.tokens.now) c.args.cursor c.loop-own.next (word words.Pragma) _ (opened y.3) (λ t. refl) c.in_err-behind_keyword.ensures) c.from_residual.ensures.1

pub returns-in_err-behind_pragma-clause-reads : goal.returns-in_err-behind_pragma-clause-reads
returns-in_err-behind_pragma-clause-reads c = λ os ds ho hd. let y = c.loop-own.invariant.awaits os ds ho hd in fault_found (parts.TaskDefinition c.args.kind (lexeme c.args.tokens.now.source c.args.name) os ds) (lexemes c.args.tokens.now) c.args.cursor _ _ _ _ (refuses (lexemes c.args.tokens.now) c.args.cursor c.in-Some.behind_keyword _ (seen (opened y.3) (present (word words.Pragma) (lexeme c.args.tokens.now.source) (lexemes c.args.tokens.now) c.loop-own.next c.in_ok-behind_keyword.ensures c.in-Some.is).takes refl) (λ b. refl) c.in_err-behind_pragma.ensures) c.from_residual-in_err-behind_pragma.ensures.1

pub loop-own-preserved : goal.loop-own-preserved
loop-own-preserved c = record { forward = omega (arith, c.loop-own.invariant.forward, (present (word words.Pragma) (lexeme c.args.tokens.now.source) (lexemes c.args.tokens.now) c.loop-own.next c.in_ok-behind_keyword.ensures c.in-Some.is).place, c.in_ok-behind_pragma.ensures.forward); ends = c.in_ok-behind_pragma.ensures.ends; grows = c.loop-own.invariant.grows; awaits = λ os ds ho hd. let y = c.loop-own.invariant.awaits os ds ho hd in (y.0, y.1, y.2, (done (seen (opened y.3) (present (word words.Pragma) (lexeme c.args.tokens.now.source) (lexemes c.args.tokens.now) c.loop-own.next c.in_ok-behind_keyword.ensures c.in-Some.is).takes refl) c.in_ok-behind_pragma.ensures.reads (λ b. refl))) }

pub loop-own-smaller : goal.loop-own-smaller
loop-own-smaller c = omega (arith, (present (word words.Pragma) (lexeme c.args.tokens.now.source) (lexemes c.args.tokens.now) c.loop-own.next c.in_ok-behind_keyword.ensures c.in-Some.is).place, c.in_ok-behind_pragma.ensures.forward, (present (word words.Pragma) (lexeme c.args.tokens.now.source) (lexemes c.args.tokens.now) c.loop-own.next c.in_ok-behind_keyword.ensures c.in-Some.is).within)

pub returns-in_err-behind_end-clause-reads : goal.returns-in_err-behind_end-clause-reads
returns-in_err-behind_end-clause-reads c = λ os ds ho hd. let y = c.loop-own.invariant.awaits os ds ho hd in fault_found (parts.TaskDefinition c.args.kind (lexeme c.args.tokens.now.source c.args.name) os ds) (lexemes c.args.tokens.now) c.args.cursor _ _ _ _ (misses_here (lexemes c.args.tokens.now) c.args.cursor c.loop-own.next (word words.End) _ c.loop-own.invariant.ends (unseen (opened y.3) (absent (word words.Pragma) (lexeme c.args.tokens.now.source) (lexemes c.args.tokens.now) c.loop-own.next c.in_ok-behind_keyword.ensures c.in_default.is)) refl (λ t. refl) c.in_err-behind_end.ensures) c.from_residual-in_err-behind_end.ensures.1

pub returns-clause-reads : goal.returns-clause-reads
returns-clause-reads c = λ os ds ho hd. let y = c.loop-own.invariant.awaits os ds ho hd in finds_last (lexemes c.args.tokens.now) c.args.cursor c.in_ok-behind_end.behind_end _ _ _ (seen (unseen (opened y.3) (absent (word words.Pragma) (lexeme c.args.tokens.now.source) (lexemes c.args.tokens.now) c.loop-own.next c.in_ok-behind_keyword.ensures c.in_default.is)) c.in_ok-behind_end.ensures.takes refl) (omega (arith, c.loop-own.invariant.forward, c.in_ok-behind_end.ensures.place)) refl (c.end_of_declaration.ensures.reads _ _ y.1 y.2)

pub returns-clause-goes : goal.returns-clause-goes
returns-clause-goes c = goes_on (lexemes c.args.tokens.now) c.args.cursor c.in_ok-behind_end.behind_end _ (omega (arith, c.loop-own.invariant.forward, c.in_ok-behind_end.ensures.place)) c.end_of_declaration.ensures.goes

pub returns-clause-grows : goal.returns-clause-grows
returns-clause-grows c = (grows_on c.loop-own.invariant.grows c.end_of_declaration.ensures.grows)
