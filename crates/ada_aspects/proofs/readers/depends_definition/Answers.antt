use Rattle.std.proofs.Common.{refl, arith}
use Rattle.ada_tree.specs.declared.token.Mark.TheVariants as marks
use Rattle.ada_tree.specs.declared.words.Reserved.TheVariants as words
use Rattle.ada_grammar.specs.Lexemes.{lexeme, lexemes}
use Rattle.ada_grammar.specs.Parts as parts
use Rattle.ada_grammar.specs.Parts.{mark, word, Gives, Call, Rest}
use Rattle.ada_grammar.proofs.Steps.{start, seen, unseen}
use Rattle.ada_grammar.proofs.Answering.{passes_here, misses_here}
use Rattle.ada_grammar.proofs.Joining.{absent, present, fault_found, found, finds_last, goes_on}
use Rattle.ada_aspects.proofs.readers.depends_definition.Goals as goal

pub returns-in_err-keyword-clause-reads : goal.returns-in_err-keyword-clause-reads
returns-in_err-keyword-clause-reads c = λ ds hd. fault_found (parts.DependsDefinition ds) (lexemes c.args.tokens.now) c.args.cursor _ _ _ _ (passes_here (lexemes c.args.tokens.now) c.args.cursor c.args.cursor (word words.Null) _ (start (parts.DependsDefinition ds) _) (λ t. refl) c.in_err-keyword.ensures) c.from_residual.ensures.1

pub returns-in-Some-clause-reads : goal.returns-in-Some-clause-reads
returns-in-Some-clause-reads c = λ ds hd. found (lexemes c.args.tokens.now) c.args.cursor c.in-Some.behind_keyword (c.in_ok-add_aspect.ensures.builds _ _ (c.new.ensures _ hd.ordered) hd) (omega (arith, (present (word words.Null) (lexeme c.args.tokens.now.source) (lexemes c.args.tokens.now) c.args.cursor c.in_ok-keyword.ensures c.in-Some.is).place)) (omega (arith, (present (word words.Null) (lexeme c.args.tokens.now.source) (lexemes c.args.tokens.now) c.args.cursor c.in_ok-keyword.ensures c.in-Some.is).place, (present (word words.Null) (lexeme c.args.tokens.now.source) (lexemes c.args.tokens.now) c.args.cursor c.in_ok-keyword.ensures c.in-Some.is).within)) (seen (start (parts.DependsDefinition ds) _) (present (word words.Null) (lexeme c.args.tokens.now.source) (lexemes c.args.tokens.now) c.args.cursor c.in_ok-keyword.ensures c.in-Some.is).takes refl)

pub returns-in-Some-clause-goes : goal.returns-in-Some-clause-goes
returns-in-Some-clause-goes c = record { forward = omega (arith, (present (word words.Null) (lexeme c.args.tokens.now.source) (lexemes c.args.tokens.now) c.args.cursor c.in_ok-keyword.ensures c.in-Some.is).place); ends = (omega (arith, (present (word words.Null) (lexeme c.args.tokens.now.source) (lexemes c.args.tokens.now) c.args.cursor c.in_ok-keyword.ensures c.in-Some.is).place, (present (word words.Null) (lexeme c.args.tokens.now.source) (lexemes c.args.tokens.now) c.args.cursor c.in_ok-keyword.ensures c.in-Some.is).within)) }

pub returns-in_err-behind_opening-clause-reads : goal.returns-in_err-behind_opening-clause-reads
returns-in_err-behind_opening-clause-reads c = λ ds hd. fault_found (parts.DependsDefinition ds) (lexemes c.args.tokens.now) c.args.cursor _ _ _ _ (misses_here (lexemes c.args.tokens.now) c.args.cursor c.args.cursor (mark marks.Open) _ c.requires.at (unseen (start (parts.DependsDefinition ds) _) (absent (word words.Null) (lexeme c.args.tokens.now.source) (lexemes c.args.tokens.now) c.args.cursor c.in_ok-keyword.ensures c.in_default.is)) refl (λ t. refl) c.in_err-behind_opening.ensures) c.from_residual-in_err-behind_opening.ensures.1

pub returns-clause-reads : goal.returns-clause-reads
returns-clause-reads c = λ ds hd. finds_last (lexemes c.args.tokens.now) c.args.cursor c.in_ok-behind_opening.behind_opening _ _ _ (seen (unseen (start (parts.DependsDefinition ds) _) (absent (word words.Null) (lexeme c.args.tokens.now.source) (lexemes c.args.tokens.now) c.args.cursor c.in_ok-keyword.ensures c.in_default.is)) c.in_ok-behind_opening.ensures.takes refl) (omega (arith, c.in_ok-behind_opening.ensures.place)) refl (c.elements.ensures.reads _ hd)

pub returns-clause-goes : goal.returns-clause-goes
returns-clause-goes c = goes_on (lexemes c.args.tokens.now) c.args.cursor c.in_ok-behind_opening.behind_opening _ (omega (arith, c.in_ok-behind_opening.ensures.place)) c.elements.ensures.goes
