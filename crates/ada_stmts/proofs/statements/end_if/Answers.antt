use Rattle.std.proofs.Common.{refl, arith}
use Rattle.ada_tree.specs.declared.token.Mark.TheVariants as marks
use Rattle.ada_tree.specs.declared.words.Reserved.TheVariants as words
use Rattle.ada_grammar.specs.Lexemes.{lexemes}
use Rattle.ada_grammar.specs.Parts as parts
use Rattle.ada_grammar.specs.Parts.{mark, word, Gives, Call, Rest}
use Rattle.ada_grammar.proofs.Steps.{start, seen}
use Rattle.ada_grammar.proofs.Answering.{misses_here}
use Rattle.ada_grammar.proofs.Joining.{fault_found, found}
use Rattle.ada_stmts.proofs.statements.end_if.Goals as goal

pub returns-in_err-behind_end-clause-reads : goal.returns-in_err-behind_end-clause-reads
returns-in_err-behind_end-clause-reads c = λ os ds ho hd. fault_found (parts.EndIf c.args.kind c.args.span os ds) (lexemes c.args.tokens.now) c.args.cursor _ _ _ _ (misses_here (lexemes c.args.tokens.now) c.args.cursor c.args.cursor (word words.End) _ c.requires.at (start (parts.EndIf c.args.kind c.args.span os ds) _) refl (λ t. refl) c.in_err-behind_end.ensures) c.from_residual.ensures.1

pub returns-in_err-behind_keyword-clause-reads : goal.returns-in_err-behind_keyword-clause-reads
returns-in_err-behind_keyword-clause-reads c = λ os ds ho hd. fault_found (parts.EndIf c.args.kind c.args.span os ds) (lexemes c.args.tokens.now) c.args.cursor _ _ _ _ (misses_here (lexemes c.args.tokens.now) c.args.cursor c.in_ok-behind_end.behind_end (word words.If) _ (omega (arith, c.in_ok-behind_end.ensures.place, c.in_ok-behind_end.ensures.within)) (seen (start (parts.EndIf c.args.kind c.args.span os ds) _) c.in_ok-behind_end.ensures.takes refl) refl (λ t. refl) c.in_err-behind_keyword.ensures) c.from_residual-in_err-behind_keyword.ensures.1

pub returns-in_err-behind_semicolon-clause-reads : goal.returns-in_err-behind_semicolon-clause-reads
returns-in_err-behind_semicolon-clause-reads c = λ os ds ho hd. fault_found (parts.EndIf c.args.kind c.args.span os ds) (lexemes c.args.tokens.now) c.args.cursor _ _ _ _ (misses_here (lexemes c.args.tokens.now) c.args.cursor c.in_ok-behind_keyword.behind_keyword (mark marks.Semicolon) _ (omega (arith, c.in_ok-behind_keyword.ensures.place, c.in_ok-behind_keyword.ensures.within)) (seen (seen (start (parts.EndIf c.args.kind c.args.span os ds) _) c.in_ok-behind_end.ensures.takes refl) c.in_ok-behind_keyword.ensures.takes refl) refl (λ t. refl) c.in_err-behind_semicolon.ensures) c.from_residual-in_err-behind_semicolon.ensures.1

pub returns-clause-reads : goal.returns-clause-reads
returns-clause-reads c = λ os ds ho hd. found (lexemes c.args.tokens.now) c.args.cursor c.in_ok-behind_semicolon.behind_semicolon (c.in_ok-add_statement.ensures.builds _ _ ho hd) (omega (arith, c.in_ok-behind_end.ensures.place, c.in_ok-behind_keyword.ensures.place, c.in_ok-behind_semicolon.ensures.place)) (omega (arith, c.in_ok-behind_semicolon.ensures.place, c.in_ok-behind_semicolon.ensures.within)) (seen (seen (seen (start (parts.EndIf c.args.kind c.args.span os ds) _) c.in_ok-behind_end.ensures.takes refl) c.in_ok-behind_keyword.ensures.takes refl) c.in_ok-behind_semicolon.ensures.takes refl)

pub returns-clause-goes : goal.returns-clause-goes
returns-clause-goes c = record { forward = omega (arith, c.in_ok-behind_end.ensures.place, c.in_ok-behind_keyword.ensures.place, c.in_ok-behind_semicolon.ensures.place); ends = (omega (arith, c.in_ok-behind_semicolon.ensures.place, c.in_ok-behind_semicolon.ensures.within)) }
