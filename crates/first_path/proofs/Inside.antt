-- The tokens of a source lie within it.
use Rattle.std.proofs.Common.{◌≡◌, ℕ, List, [], ◌∷◌, All, IfOk, Ok, sym, subst, arith}
use Rattle.std.proofs.lemmas.List.Elements.{All-nil, All-cons}
use Rattle.std.proofs.lemmas.Result.{IfOk-at_ok}
use Rattle.ada_lexer.specs.Cut.{lexed}
use Rattle.ada_lexer.specs.Laws.{InOrder}
use Rattle.ada_tree.specs.declared.token.Token.{Token}
use Rattle.spark_base.specs.declared.numbers.FileNo.{FileNo}
use Rattle.first_path.specs.Symbols.{IsInside}

inside : (file : FileNo) (source : List ℕ) (low : ℕ) (ts : List Token) → InOrder file source low ts → All (IsInside source) ts
inside file source low [] h = All-nil (IsInside source)
inside file source low (t ∷ ts) h =
    All-cons (IsInside source) t ts (record { ordered = let s = h.0.some in omega arith; within = h.0.within }) (inside file source t.to ts h.1)

-- the same of what a call of the lexer gave
pub tokens_inside : (file : FileNo) (source kept : List ℕ) (ts : List Token) → lexed file source ≡ Ok ts → kept ≡ source
    → IfOk (lexed file source) (InOrder file source 0) → All (IsInside kept) ts
tokens_inside file source kept ts cut same order =
    subst (λ bytes. All (IsInside bytes) ts) (sym same) (inside file source 0 ts (IfOk-at_ok (InOrder file source 0) cut order))
