-- The token at a place, among the tokens with their texts.
use Rattle.std.proofs.Common.{◌≡◌, ℕ, zero, suc, ◌+◌, ◌<◌, List, [], ◌∷◌, map, drop, length, get_or, false, refl, sym, ◌∙◌, ap, subst, arith, add-one}
use Rattle.ada_tree.specs.declared.token.Token.{Token}
use Rattle.ada_tree.specs.declared.token.Tokens.{Tokens}
use Rattle.ada_grammar.specs.declared.tokens.Class.{Class}
use Rattle.ada_grammar.specs.Sorts.{is_in}
use Rattle.ada_grammar.specs.Lexemes.{Lexeme, lexeme, lexemes, sort}
use Rattle.ada_grammar.specs.Taking.{NotFirst}

ahead_in : (f : Token → Lexeme) (ts : List Token) (at : ℕ) (t : Token) → at < length ts → t ≡ get_or ts at t → drop at (map f ts) ≡ f t ∷ drop (suc at) (map f ts)
ahead_in f [] at t h e = absurd (omega arith)
ahead_in f (x ∷ ts) zero t h e = ap (λ (z : Token). f z ∷ map f ts) (sym e)
ahead_in f (x ∷ ts) (suc n) t h e = ahead_in f ts n t (omega arith) e

map_length : (f : Token → Lexeme) (ts : List Token) → length (map f ts) ≡ length ts
map_length f [] = refl
map_length f (t ∷ ts) = omega (arith, map_length f ts)

pub lexemes_length : (tokens : Tokens) → length (lexemes tokens) ≡ length tokens.list
lexemes_length tokens = map_length (lexeme tokens.source) tokens.list

-- the token at a place begins what is left there
pub ahead : (tokens : Tokens) (list : List Token) (at : ℕ) (t : Token) → list ≡ tokens.list → at < length list → t ≡ get_or list at t → drop at (lexemes tokens) ≡ lexeme tokens.source t ∷ drop (at + 1) (lexemes tokens)
ahead tokens list at t same h e =
    subst (λ (z : List Token). drop at (map (lexeme tokens.source) z) ≡ lexeme tokens.source t ∷ drop (at + 1) (map (lexeme tokens.source) z)) same
    (ahead_in (lexeme tokens.source) list at t h e ∙ ap (λ (n : ℕ). lexeme tokens.source t ∷ drop n (map (lexeme tokens.source) list)) (sym (add-one at)))

pub within_lexemes : (tokens : Tokens) (list : List Token) (at : ℕ) → list ≡ tokens.list → at < length list → at < length (lexemes tokens)
within_lexemes tokens list at same h = omega (arith, h, lexemes_length tokens, ap (λ (z : List Token). length z) same)

-- two lists that are one begin alike
pub heads : (t u : Lexeme) (a b : List Lexeme) → t ∷ a ≡ u ∷ b → t ≡ u
heads t u a b e = cc

pub other_first : (c : Class) (t : Lexeme) (r further : List Lexeme) → r ≡ t ∷ further → is_in c (sort t) ≡ false → NotFirst c r
other_first c t r further e h = record { other = λ u rest g. subst (λ (z : Lexeme). is_in c (sort z) ≡ false) (heads t u further rest (sym e ∙ g)) h }
