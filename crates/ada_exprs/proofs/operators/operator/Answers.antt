use Rattle.std.proofs.Common.{refl, arith}
use Rattle.ada_tree.specs.declared.words.Reserved.TheVariants as words
use Rattle.ada_grammar.specs.Lexemes.{lexeme, lexemes}
use Rattle.ada_grammar.specs.Parts as parts
use Rattle.ada_grammar.specs.Parts.{mark, word, Gives, Rest, Call}
use Rattle.ada_grammar.proofs.Steps.{start, opened, seen, unseen}
use Rattle.ada_grammar.proofs.Joining.{absent, present}
use Rattle.ada_exprs.proofs.Found.{opens_not}
use Rattle.ada_grammar.proofs.Answering.{passes_here}
use Rattle.ada_exprs.proofs.operators.operator.Goals as goal

pub returns-in_err-and : goal.returns-in_err-and
returns-in_err-and c = opens_not (lexeme c.args.tokens.now.source) (lexemes c.args.tokens.now) c.args.cursor _ _ (λ a. passes_here (lexemes c.args.tokens.now) c.args.cursor c.args.cursor (word words.And) _ (start (parts.RestOfExpr a) _) (λ t. refl) c.in_err-and.ensures) c.from_residual.ensures.1

pub returns-in_err-end : goal.returns-in_err-end
returns-in_err-end c = opens_not (lexeme c.args.tokens.now.source) (lexemes c.args.tokens.now) c.args.cursor _ _ (λ a. passes_here (lexemes c.args.tokens.now) c.args.cursor c.in-Some.next (word words.Then) _ (opened (seen (start (parts.RestOfExpr a) _) (present (word words.And) (lexeme c.args.tokens.now.source) (lexemes c.args.tokens.now) c.args.cursor c.in_ok-and.ensures c.in-Some.is).takes refl)) (λ t. refl) c.in_err-end.ensures) c.from_residual-in_err-end.ensures.1

pub returns-in-Some-2 : goal.returns-in-Some-2
returns-in-Some-2 c = record { forward = omega (arith, (present (word words.And) (lexeme c.args.tokens.now.source) (lexemes c.args.tokens.now) c.args.cursor c.in_ok-and.ensures c.in-Some.is).place, (present (word words.Then) (lexeme c.args.tokens.now.source) (lexemes c.args.tokens.now) c.in-Some.next c.in_ok-end.ensures c.in-Some-2.is).place); ends = omega (arith, (present (word words.And) (lexeme c.args.tokens.now.source) (lexemes c.args.tokens.now) c.args.cursor c.in_ok-and.ensures c.in-Some.is).place, (present (word words.Then) (lexeme c.args.tokens.now.source) (lexemes c.args.tokens.now) c.in-Some.next c.in_ok-end.ensures c.in-Some-2.is).place, (present (word words.Then) (lexeme c.args.tokens.now.source) (lexemes c.args.tokens.now) c.in-Some.next c.in_ok-end.ensures c.in-Some-2.is).within); awaits = λ a. seen (opened (seen (start (parts.RestOfExpr a) _) (present (word words.And) (lexeme c.args.tokens.now.source) (lexemes c.args.tokens.now) c.args.cursor c.in_ok-and.ensures c.in-Some.is).takes refl)) (present (word words.Then) (lexeme c.args.tokens.now.source) (lexemes c.args.tokens.now) c.in-Some.next c.in_ok-end.ensures c.in-Some-2.is).takes refl }

pub returns-in-None : goal.returns-in-None
returns-in-None c = record { forward = omega (arith, (present (word words.And) (lexeme c.args.tokens.now.source) (lexemes c.args.tokens.now) c.args.cursor c.in_ok-and.ensures c.in-Some.is).place); ends = omega (arith, (present (word words.And) (lexeme c.args.tokens.now.source) (lexemes c.args.tokens.now) c.args.cursor c.in_ok-and.ensures c.in-Some.is).place, (present (word words.And) (lexeme c.args.tokens.now.source) (lexemes c.args.tokens.now) c.args.cursor c.in_ok-and.ensures c.in-Some.is).within); awaits = λ a. unseen (opened (seen (start (parts.RestOfExpr a) _) (present (word words.And) (lexeme c.args.tokens.now.source) (lexemes c.args.tokens.now) c.args.cursor c.in_ok-and.ensures c.in-Some.is).takes refl)) (absent (word words.Then) (lexeme c.args.tokens.now.source) (lexemes c.args.tokens.now) c.in-Some.next c.in_ok-end.ensures c.in-None.is) }

pub returns-in_err-or : goal.returns-in_err-or
returns-in_err-or c = opens_not (lexeme c.args.tokens.now.source) (lexemes c.args.tokens.now) c.args.cursor _ _ (λ a. passes_here (lexemes c.args.tokens.now) c.args.cursor c.args.cursor (word words.Or) _ (unseen (start (parts.RestOfExpr a) _) (absent (word words.And) (lexeme c.args.tokens.now.source) (lexemes c.args.tokens.now) c.args.cursor c.in_ok-and.ensures c.in_default.is)) (λ t. refl) c.in_err-or.ensures) c.from_residual-in_err-or.ensures.1

pub returns-in_err-end-2 : goal.returns-in_err-end-2
returns-in_err-end-2 c = opens_not (lexeme c.args.tokens.now.source) (lexemes c.args.tokens.now) c.args.cursor _ _ (λ a. passes_here (lexemes c.args.tokens.now) c.args.cursor c.in-Some-3.next (word words.Else) _ (opened (seen (unseen (start (parts.RestOfExpr a) _) (absent (word words.And) (lexeme c.args.tokens.now.source) (lexemes c.args.tokens.now) c.args.cursor c.in_ok-and.ensures c.in_default.is)) (present (word words.Or) (lexeme c.args.tokens.now.source) (lexemes c.args.tokens.now) c.args.cursor c.in_ok-or.ensures c.in-Some-3.is).takes refl)) (λ t. refl) c.in_err-end-2.ensures) c.from_residual-in_err-end-2.ensures.1

pub returns-in-Some-4 : goal.returns-in-Some-4
returns-in-Some-4 c = record { forward = omega (arith, (present (word words.Or) (lexeme c.args.tokens.now.source) (lexemes c.args.tokens.now) c.args.cursor c.in_ok-or.ensures c.in-Some-3.is).place, (present (word words.Else) (lexeme c.args.tokens.now.source) (lexemes c.args.tokens.now) c.in-Some-3.next c.in_ok-end-2.ensures c.in-Some-4.is).place); ends = omega (arith, (present (word words.Or) (lexeme c.args.tokens.now.source) (lexemes c.args.tokens.now) c.args.cursor c.in_ok-or.ensures c.in-Some-3.is).place, (present (word words.Else) (lexeme c.args.tokens.now.source) (lexemes c.args.tokens.now) c.in-Some-3.next c.in_ok-end-2.ensures c.in-Some-4.is).place, (present (word words.Else) (lexeme c.args.tokens.now.source) (lexemes c.args.tokens.now) c.in-Some-3.next c.in_ok-end-2.ensures c.in-Some-4.is).within); awaits = λ a. seen (opened (seen (unseen (start (parts.RestOfExpr a) _) (absent (word words.And) (lexeme c.args.tokens.now.source) (lexemes c.args.tokens.now) c.args.cursor c.in_ok-and.ensures c.in_default.is)) (present (word words.Or) (lexeme c.args.tokens.now.source) (lexemes c.args.tokens.now) c.args.cursor c.in_ok-or.ensures c.in-Some-3.is).takes refl)) (present (word words.Else) (lexeme c.args.tokens.now.source) (lexemes c.args.tokens.now) c.in-Some-3.next c.in_ok-end-2.ensures c.in-Some-4.is).takes refl }

pub returns-in-None-2 : goal.returns-in-None-2
returns-in-None-2 c = record { forward = omega (arith, (present (word words.Or) (lexeme c.args.tokens.now.source) (lexemes c.args.tokens.now) c.args.cursor c.in_ok-or.ensures c.in-Some-3.is).place); ends = omega (arith, (present (word words.Or) (lexeme c.args.tokens.now.source) (lexemes c.args.tokens.now) c.args.cursor c.in_ok-or.ensures c.in-Some-3.is).place, (present (word words.Or) (lexeme c.args.tokens.now.source) (lexemes c.args.tokens.now) c.args.cursor c.in_ok-or.ensures c.in-Some-3.is).within); awaits = λ a. unseen (opened (seen (unseen (start (parts.RestOfExpr a) _) (absent (word words.And) (lexeme c.args.tokens.now.source) (lexemes c.args.tokens.now) c.args.cursor c.in_ok-and.ensures c.in_default.is)) (present (word words.Or) (lexeme c.args.tokens.now.source) (lexemes c.args.tokens.now) c.args.cursor c.in_ok-or.ensures c.in-Some-3.is).takes refl)) (absent (word words.Else) (lexeme c.args.tokens.now.source) (lexemes c.args.tokens.now) c.in-Some-3.next c.in_ok-end-2.ensures c.in-None-2.is) }

pub returns-in_err-xor : goal.returns-in_err-xor
returns-in_err-xor c = opens_not (lexeme c.args.tokens.now.source) (lexemes c.args.tokens.now) c.args.cursor _ _ (λ a. passes_here (lexemes c.args.tokens.now) c.args.cursor c.args.cursor (word words.Xor) _ (unseen (unseen (start (parts.RestOfExpr a) _) (absent (word words.And) (lexeme c.args.tokens.now.source) (lexemes c.args.tokens.now) c.args.cursor c.in_ok-and.ensures c.in_default.is)) (absent (word words.Or) (lexeme c.args.tokens.now.source) (lexemes c.args.tokens.now) c.args.cursor c.in_ok-or.ensures c.in_default-2.is)) (λ t. refl) c.in_err-xor.ensures) c.from_residual-in_err-xor.ensures.1

pub returns-in-Some-5 : goal.returns-in-Some-5
returns-in-Some-5 c = record { forward = omega (arith, (present (word words.Xor) (lexeme c.args.tokens.now.source) (lexemes c.args.tokens.now) c.args.cursor c.in_ok-xor.ensures c.in-Some-5.is).place); ends = omega (arith, (present (word words.Xor) (lexeme c.args.tokens.now.source) (lexemes c.args.tokens.now) c.args.cursor c.in_ok-xor.ensures c.in-Some-5.is).place, (present (word words.Xor) (lexeme c.args.tokens.now.source) (lexemes c.args.tokens.now) c.args.cursor c.in_ok-xor.ensures c.in-Some-5.is).within); awaits = λ a. seen (unseen (unseen (start (parts.RestOfExpr a) _) (absent (word words.And) (lexeme c.args.tokens.now.source) (lexemes c.args.tokens.now) c.args.cursor c.in_ok-and.ensures c.in_default.is)) (absent (word words.Or) (lexeme c.args.tokens.now.source) (lexemes c.args.tokens.now) c.args.cursor c.in_ok-or.ensures c.in_default-2.is)) (present (word words.Xor) (lexeme c.args.tokens.now.source) (lexemes c.args.tokens.now) c.args.cursor c.in_ok-xor.ensures c.in-Some-5.is).takes refl }

pub returns-in-None-3 : goal.returns-in-None-3
returns-in-None-3 c = λ a. unseen (unseen (unseen (start (parts.RestOfExpr a) _) (absent (word words.And) (lexeme c.args.tokens.now.source) (lexemes c.args.tokens.now) c.args.cursor c.in_ok-and.ensures c.in_default.is)) (absent (word words.Or) (lexeme c.args.tokens.now.source) (lexemes c.args.tokens.now) c.args.cursor c.in_ok-or.ensures c.in_default-2.is)) (absent (word words.Xor) (lexeme c.args.tokens.now.source) (lexemes c.args.tokens.now) c.args.cursor c.in_ok-xor.ensures c.in-None-3.is)
