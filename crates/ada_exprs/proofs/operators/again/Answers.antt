use Rattle.std.proofs.Common.{refl, arith, Some, None, Ok}
use Rattle.ada_tree.specs.declared.words.Reserved.TheVariants as words
use Rattle.ada_grammar.specs.Lexemes.{lexeme, lexemes}
use Rattle.ada_grammar.specs.Parts as parts
use Rattle.ada_grammar.specs.Parts.{mark, word, Gives, Rest, Call}
use Rattle.ada_grammar.proofs.Steps.{start, seen, unseen}
use Rattle.ada_grammar.proofs.Joining.{absent, present}
use Rattle.ada_tree.specs.declared.expressions.LogicalOperator.TheVariants as logical
use Rattle.ada_exprs.proofs.Found.{links_not, links_one, links_as}
use Rattle.ada_grammar.proofs.Answering.{passes_here, misses_here}
use Rattle.ada_exprs.proofs.operators.again.Goals as goal

pub returns-in-And : goal.returns-in-And
returns-in-And c = links_as c.args.operator logical.And (lexeme c.args.tokens.now.source) (lexemes c.args.tokens.now) c.args.cursor c.accept.result c.in-And.is (links_one logical.And (word words.And) (lexeme c.args.tokens.now.source) (lexemes c.args.tokens.now) c.args.cursor _ (λ a t q h. seen (start (parts.Chain logical.And a) _) h refl) (λ a h. unseen (start (parts.Chain logical.And a) _) h) (λ a e h. passes_here (lexemes c.args.tokens.now) c.args.cursor c.args.cursor (word words.And) e (start (parts.Chain logical.And a) _) (λ t. refl) h) c.accept.ensures)

pub returns-in-Or : goal.returns-in-Or
returns-in-Or c = links_as c.args.operator logical.Or (lexeme c.args.tokens.now.source) (lexemes c.args.tokens.now) c.args.cursor c.accept-in-Or.result c.in-Or.is (links_one logical.Or (word words.Or) (lexeme c.args.tokens.now.source) (lexemes c.args.tokens.now) c.args.cursor _ (λ a t q h. seen (start (parts.Chain logical.Or a) _) h refl) (λ a h. unseen (start (parts.Chain logical.Or a) _) h) (λ a e h. passes_here (lexemes c.args.tokens.now) c.args.cursor c.args.cursor (word words.Or) e (start (parts.Chain logical.Or a) _) (λ t. refl) h) c.accept-in-Or.ensures)

pub returns-in-Xor : goal.returns-in-Xor
returns-in-Xor c = links_as c.args.operator logical.Xor (lexeme c.args.tokens.now.source) (lexemes c.args.tokens.now) c.args.cursor c.accept-in-Xor.result c.in-Xor.is (links_one logical.Xor (word words.Xor) (lexeme c.args.tokens.now.source) (lexemes c.args.tokens.now) c.args.cursor _ (λ a t q h. seen (start (parts.Chain logical.Xor a) _) h refl) (λ a h. unseen (start (parts.Chain logical.Xor a) _) h) (λ a e h. passes_here (lexemes c.args.tokens.now) c.args.cursor c.args.cursor (word words.Xor) e (start (parts.Chain logical.Xor a) _) (λ t. refl) h) c.accept-in-Xor.ensures)

pub returns-in_err-and-in-AndThen : goal.returns-in_err-and-in-AndThen
returns-in_err-and-in-AndThen c = links_as c.args.operator logical.AndThen (lexeme c.args.tokens.now.source) (lexemes c.args.tokens.now) c.args.cursor c.from_residual.result c.in-AndThen.is (links_not logical.AndThen (lexeme c.args.tokens.now.source) (lexemes c.args.tokens.now) c.args.cursor _ _ (λ a. passes_here (lexemes c.args.tokens.now) c.args.cursor c.args.cursor (word words.And) _ (start (parts.Chain logical.AndThen a) _) (λ t. refl) c.in_err-and-in-AndThen.ensures) c.from_residual.ensures.1)

pub returns-in_default : goal.returns-in_default
returns-in_default c = links_as c.args.operator logical.AndThen (lexeme c.args.tokens.now.source) (lexemes c.args.tokens.now) c.args.cursor (Ok None) c.in-AndThen.is (λ a. unseen (start (parts.Chain logical.AndThen a) _) (absent (word words.And) (lexeme c.args.tokens.now.source) (lexemes c.args.tokens.now) c.args.cursor c.in_ok-and-in-AndThen.ensures c.in_default.is))

pub returns-in_err-end-in-AndThen : goal.returns-in_err-end-in-AndThen
returns-in_err-end-in-AndThen c = links_as c.args.operator logical.AndThen (lexeme c.args.tokens.now.source) (lexemes c.args.tokens.now) c.args.cursor c.from_residual-in_err-end-in-AndThen.result c.in-AndThen.is (links_not logical.AndThen (lexeme c.args.tokens.now.source) (lexemes c.args.tokens.now) c.args.cursor _ _ (λ a. misses_here (lexemes c.args.tokens.now) c.args.cursor c.in-Some.next (word words.Then) _ (omega (arith, (present (word words.And) (lexeme c.args.tokens.now.source) (lexemes c.args.tokens.now) c.args.cursor c.in_ok-and-in-AndThen.ensures c.in-Some.is).place, (present (word words.And) (lexeme c.args.tokens.now.source) (lexemes c.args.tokens.now) c.args.cursor c.in_ok-and-in-AndThen.ensures c.in-Some.is).within)) (seen (start (parts.Chain logical.AndThen a) _) (present (word words.And) (lexeme c.args.tokens.now.source) (lexemes c.args.tokens.now) c.args.cursor c.in_ok-and-in-AndThen.ensures c.in-Some.is).takes refl) refl (λ t. refl) c.in_err-end-in-AndThen.ensures) c.from_residual-in_err-end-in-AndThen.ensures.1)

pub returns-in_ok-end-in-AndThen : goal.returns-in_ok-end-in-AndThen
returns-in_ok-end-in-AndThen c = links_as c.args.operator logical.AndThen (lexeme c.args.tokens.now.source) (lexemes c.args.tokens.now) c.args.cursor (Ok (Some (c.in-Some.and, c.in_ok-end-in-AndThen.end))) c.in-AndThen.is (record { forward = omega (arith, (present (word words.And) (lexeme c.args.tokens.now.source) (lexemes c.args.tokens.now) c.args.cursor c.in_ok-and-in-AndThen.ensures c.in-Some.is).place, c.in_ok-end-in-AndThen.ensures.place); ends = omega (arith, c.in_ok-end-in-AndThen.ensures.place, c.in_ok-end-in-AndThen.ensures.within); awaits = λ a. seen (seen (start (parts.Chain logical.AndThen a) _) (present (word words.And) (lexeme c.args.tokens.now.source) (lexemes c.args.tokens.now) c.args.cursor c.in_ok-and-in-AndThen.ensures c.in-Some.is).takes refl) c.in_ok-end-in-AndThen.ensures.takes refl })

pub returns-in_err-or-in-OrElse : goal.returns-in_err-or-in-OrElse
returns-in_err-or-in-OrElse c = links_as c.args.operator logical.OrElse (lexeme c.args.tokens.now.source) (lexemes c.args.tokens.now) c.args.cursor c.from_residual-in_err-or-in-OrElse.result c.in-OrElse.is (links_not logical.OrElse (lexeme c.args.tokens.now.source) (lexemes c.args.tokens.now) c.args.cursor _ _ (λ a. passes_here (lexemes c.args.tokens.now) c.args.cursor c.args.cursor (word words.Or) _ (start (parts.Chain logical.OrElse a) _) (λ t. refl) c.in_err-or-in-OrElse.ensures) c.from_residual-in_err-or-in-OrElse.ensures.1)

pub returns-in_default-2 : goal.returns-in_default-2
returns-in_default-2 c = links_as c.args.operator logical.OrElse (lexeme c.args.tokens.now.source) (lexemes c.args.tokens.now) c.args.cursor (Ok None) c.in-OrElse.is (λ a. unseen (start (parts.Chain logical.OrElse a) _) (absent (word words.Or) (lexeme c.args.tokens.now.source) (lexemes c.args.tokens.now) c.args.cursor c.in_ok-or-in-OrElse.ensures c.in_default-2.is))

pub returns-in_err-end-in-OrElse : goal.returns-in_err-end-in-OrElse
returns-in_err-end-in-OrElse c = links_as c.args.operator logical.OrElse (lexeme c.args.tokens.now.source) (lexemes c.args.tokens.now) c.args.cursor c.from_residual-in_err-end-in-OrElse.result c.in-OrElse.is (links_not logical.OrElse (lexeme c.args.tokens.now.source) (lexemes c.args.tokens.now) c.args.cursor _ _ (λ a. misses_here (lexemes c.args.tokens.now) c.args.cursor c.in-Some-2.next (word words.Else) _ (omega (arith, (present (word words.Or) (lexeme c.args.tokens.now.source) (lexemes c.args.tokens.now) c.args.cursor c.in_ok-or-in-OrElse.ensures c.in-Some-2.is).place, (present (word words.Or) (lexeme c.args.tokens.now.source) (lexemes c.args.tokens.now) c.args.cursor c.in_ok-or-in-OrElse.ensures c.in-Some-2.is).within)) (seen (start (parts.Chain logical.OrElse a) _) (present (word words.Or) (lexeme c.args.tokens.now.source) (lexemes c.args.tokens.now) c.args.cursor c.in_ok-or-in-OrElse.ensures c.in-Some-2.is).takes refl) refl (λ t. refl) c.in_err-end-in-OrElse.ensures) c.from_residual-in_err-end-in-OrElse.ensures.1)

pub returns-in_ok-end-in-OrElse : goal.returns-in_ok-end-in-OrElse
returns-in_ok-end-in-OrElse c = links_as c.args.operator logical.OrElse (lexeme c.args.tokens.now.source) (lexemes c.args.tokens.now) c.args.cursor (Ok (Some (c.in-Some-2.or, c.in_ok-end-in-OrElse.end))) c.in-OrElse.is (record { forward = omega (arith, (present (word words.Or) (lexeme c.args.tokens.now.source) (lexemes c.args.tokens.now) c.args.cursor c.in_ok-or-in-OrElse.ensures c.in-Some-2.is).place, c.in_ok-end-in-OrElse.ensures.place); ends = omega (arith, c.in_ok-end-in-OrElse.ensures.place, c.in_ok-end-in-OrElse.ensures.within); awaits = λ a. seen (seen (start (parts.Chain logical.OrElse a) _) (present (word words.Or) (lexeme c.args.tokens.now.source) (lexemes c.args.tokens.now) c.args.cursor c.in_ok-or-in-OrElse.ensures c.in-Some-2.is).takes refl) c.in_ok-end-in-OrElse.ensures.takes refl })
