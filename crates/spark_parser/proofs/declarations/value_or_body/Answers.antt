use Rattle.std.proofs.Common.{refl, arith}
use Rattle.ada_tree.specs.declared.token.Mark.TheVariants as marks
use Rattle.ada_grammar.specs.Lexemes.{lexeme, lexemes}
use Rattle.ada_grammar.specs.Parts as parts
use Rattle.ada_grammar.specs.Parts.{mark, word, Gives, Call, Rest}
use Rattle.ada_grammar.proofs.Steps.{start, seen, unseen}
use Rattle.ada_grammar.proofs.Answering.{passes_here}
use Rattle.ada_grammar.proofs.Joining.{absent, present, fault_found, finds_last, goes_on}
use Rattle.spark_parser.proofs.declarations.value_or_body.Goals as goal

pub returns-in_err-behind_opening-clause-reads : goal.returns-in_err-behind_opening-clause-reads
returns-in_err-behind_opening-clause-reads c = λ os ds ho hd. fault_found (parts.ValueOrBody c.args.head (lexeme c.args.tokens.now.source c.args.name) os ds) (lexemes c.args.tokens.now) c.args.cursor _ _ _ _ (passes_here (lexemes c.args.tokens.now) c.args.cursor c.args.cursor (mark marks.Open) _ (start (parts.ValueOrBody c.args.head (lexeme c.args.tokens.now.source c.args.name) os ds) _) (λ t. refl) c.in_err-behind_opening.ensures) c.from_residual.ensures.1

pub returns-in-Some-clause-reads : goal.returns-in-Some-clause-reads
returns-in-Some-clause-reads c = λ os ds ho hd. finds_last (lexemes c.args.tokens.now) c.args.cursor c.in-Some.behind_opening _ _ _ (seen (start (parts.ValueOrBody c.args.head (lexeme c.args.tokens.now.source c.args.name) os ds) _) (present (mark marks.Open) (lexeme c.args.tokens.now.source) (lexemes c.args.tokens.now) c.args.cursor c.in_ok-behind_opening.ensures c.in-Some.is).takes refl) (omega (arith, (present (mark marks.Open) (lexeme c.args.tokens.now.source) (lexemes c.args.tokens.now) c.args.cursor c.in_ok-behind_opening.ensures c.in-Some.is).place)) refl (c.value.ensures.reads _ _ ho hd)

pub returns-in-Some-clause-goes : goal.returns-in-Some-clause-goes
returns-in-Some-clause-goes c = goes_on (lexemes c.args.tokens.now) c.args.cursor c.in-Some.behind_opening _ (omega (arith, (present (mark marks.Open) (lexeme c.args.tokens.now.source) (lexemes c.args.tokens.now) c.args.cursor c.in_ok-behind_opening.ensures c.in-Some.is).place)) c.value.ensures.goes

pub returns-clause-reads : goal.returns-clause-reads
returns-clause-reads c = λ os ds ho hd. finds_last (lexemes c.args.tokens.now) c.args.cursor c.args.cursor _ _ _ (unseen (start (parts.ValueOrBody c.args.head (lexeme c.args.tokens.now.source c.args.name) os ds) _) (absent (mark marks.Open) (lexeme c.args.tokens.now.source) (lexemes c.args.tokens.now) c.args.cursor c.in_ok-behind_opening.ensures c.in_default.is)) (omega arith) refl (c.subprogram_body.ensures.reads _ _ ho hd)

pub returns-clause-goes : goal.returns-clause-goes
returns-clause-goes c = goes_on (lexemes c.args.tokens.now) c.args.cursor c.args.cursor _ (omega arith) c.subprogram_body.ensures.goes
