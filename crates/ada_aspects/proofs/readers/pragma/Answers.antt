use Rattle.std.proofs.Common.{refl, arith}
use Rattle.ada_tree.specs.declared.token.Mark.TheVariants as marks
use Rattle.ada_grammar.specs.declared.tokens.Class.TheVariants as classes
use Rattle.ada_grammar.specs.Lexemes.{lexeme, lexemes}
use Rattle.ada_grammar.specs.Parts as parts
use Rattle.ada_grammar.specs.Parts.{mark, word, Gives, Call, Rest}
use Rattle.ada_grammar.proofs.Steps.{start, seen, unseen, done}
use Rattle.ada_grammar.proofs.Answering.{passes_here, misses_here, refuses}
use Rattle.ada_grammar.proofs.Joining.{absent, present, fault_skipped}
use Rattle.ada_aspects.proofs.readers.pragma.Goals as goal

pub returns-in_err-behind_name : goal.returns-in_err-behind_name
returns-in_err-behind_name c = fault_skipped parts.Pragma (lexemes c.args.tokens.now) c.args.cursor _ _ (misses_here (lexemes c.args.tokens.now) c.args.cursor c.args.cursor classes.Word _ c.requires.at (start parts.Pragma _) refl (λ t. refl) c.in_err-behind_name.ensures) c.from_residual.ensures.1

pub returns-in_err-behind_opening : goal.returns-in_err-behind_opening
returns-in_err-behind_opening c = fault_skipped parts.Pragma (lexemes c.args.tokens.now) c.args.cursor _ _ (passes_here (lexemes c.args.tokens.now) c.args.cursor c.in_ok-behind_name.behind_name (mark marks.Open) _ (seen (start parts.Pragma _) c.in_ok-behind_name.ensures.takes refl) (λ t. refl) c.in_err-behind_opening.ensures) c.from_residual-in_err-behind_opening.ensures.1

pub returns-in_err-behind_balanced : goal.returns-in_err-behind_balanced
returns-in_err-behind_balanced c = fault_skipped parts.Pragma (lexemes c.args.tokens.now) c.args.cursor _ _ (refuses (lexemes c.args.tokens.now) c.args.cursor c.in-Some.behind_opening _ (seen (seen (start parts.Pragma _) c.in_ok-behind_name.ensures.takes refl) (present (mark marks.Open) (lexeme c.args.tokens.now.source) (lexemes c.args.tokens.now) c.in_ok-behind_name.behind_name c.in_ok-behind_opening.ensures c.in-Some.is).takes refl) (λ b. refl) c.in_err-behind_balanced.ensures) c.from_residual-in_err-behind_balanced.ensures.1

pub returns-in_err-behind_end : goal.returns-in_err-behind_end
returns-in_err-behind_end c = fault_skipped parts.Pragma (lexemes c.args.tokens.now) c.args.cursor _ _ (misses_here (lexemes c.args.tokens.now) c.args.cursor c.in_ok-behind_balanced.behind_balanced (mark marks.Semicolon) _ c.in_ok-behind_balanced.ensures.ends (done (seen (seen (start parts.Pragma _) c.in_ok-behind_name.ensures.takes refl) (present (mark marks.Open) (lexeme c.args.tokens.now.source) (lexemes c.args.tokens.now) c.in_ok-behind_name.behind_name c.in_ok-behind_opening.ensures c.in-Some.is).takes refl) c.in_ok-behind_balanced.ensures.reads (λ b. refl)) refl (λ t. refl) c.in_err-behind_end.ensures) c.from_residual-in_err-behind_end.ensures.1

pub returns-in-Some : goal.returns-in-Some
returns-in-Some c = record { forward = omega (arith, c.in_ok-behind_name.ensures.place, (present (mark marks.Open) (lexeme c.args.tokens.now.source) (lexemes c.args.tokens.now) c.in_ok-behind_name.behind_name c.in_ok-behind_opening.ensures c.in-Some.is).place, c.in_ok-behind_balanced.ensures.forward, c.in_ok-behind_end.ensures.place); ends = (omega (arith, c.in_ok-behind_end.ensures.place, c.in_ok-behind_end.ensures.within)); reads = (seen (done (seen (seen (start parts.Pragma _) c.in_ok-behind_name.ensures.takes refl) (present (mark marks.Open) (lexeme c.args.tokens.now.source) (lexemes c.args.tokens.now) c.in_ok-behind_name.behind_name c.in_ok-behind_opening.ensures c.in-Some.is).takes refl) c.in_ok-behind_balanced.ensures.reads (λ b. refl)) c.in_ok-behind_end.ensures.takes refl) }

pub returns-in_err-behind_end_2 : goal.returns-in_err-behind_end_2
returns-in_err-behind_end_2 c = fault_skipped parts.Pragma (lexemes c.args.tokens.now) c.args.cursor _ _ (misses_here (lexemes c.args.tokens.now) c.args.cursor c.in_ok-behind_name.behind_name (mark marks.Semicolon) _ (omega (arith, c.in_ok-behind_name.ensures.place, c.in_ok-behind_name.ensures.within)) (unseen (seen (start parts.Pragma _) c.in_ok-behind_name.ensures.takes refl) (absent (mark marks.Open) (lexeme c.args.tokens.now.source) (lexemes c.args.tokens.now) c.in_ok-behind_name.behind_name c.in_ok-behind_opening.ensures c.in_default.is)) refl (λ t. refl) c.in_err-behind_end_2.ensures) c.from_residual-in_err-behind_end_2.ensures.1

pub returns : goal.returns
returns c = record { forward = omega (arith, c.in_ok-behind_name.ensures.place, c.in_ok-behind_end_2.ensures.place); ends = (omega (arith, c.in_ok-behind_end_2.ensures.place, c.in_ok-behind_end_2.ensures.within)); reads = (seen (unseen (seen (start parts.Pragma _) c.in_ok-behind_name.ensures.takes refl) (absent (mark marks.Open) (lexeme c.args.tokens.now.source) (lexemes c.args.tokens.now) c.in_ok-behind_name.behind_name c.in_ok-behind_opening.ensures c.in_default.is)) c.in_ok-behind_end_2.ensures.takes refl) }
