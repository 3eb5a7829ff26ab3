-- The tokens of a file with their texts.
use Rattle.std.specs.Prelude.{ℕ, ◌-◌, ◌&&◌, nat_le, List, [], map, take, drop, length, if◌then◌else◌}
use Rattle.ada_tree.specs.declared.token.Token.{Token}
use Rattle.ada_tree.specs.declared.token.Tokens.{Tokens}
use Rattle.ada_grammar.specs.Sorts.{Sort, sort_of}

-- a token, and how it is written
pub record Lexeme : Type 0 where
  pub token : Token
  pub text : List ℕ

-- the slice of the source; of places that are none there it is empty
abbrev pub text_of : List ℕ → Token → List ℕ
text_of source t = if nat_le t.from t.to && nat_le t.to (length source) then take (t.to - t.from) (drop t.from source) else []

abbrev pub lexeme : List ℕ → Token → Lexeme
lexeme source t = record { token = t; text = text_of source t }

abbrev pub lexemes : Tokens → List Lexeme
lexemes tokens = map (lexeme tokens.source) tokens.list

abbrev pub sort : Lexeme → Sort
sort t = sort_of t.token.kind t.text
