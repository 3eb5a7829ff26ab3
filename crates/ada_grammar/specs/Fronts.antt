-- With what a sentence of a part can begin, and where it passes a limit.
use Rattle.std.specs.Prelude.{◌≡◌, List, [], ◌∷◌, ◌++◌, Some, None}
use Rattle.ada_grammar.specs.declared.tokens.Nesting.{Nesting}
use Rattle.ada_grammar.specs.Lexemes.{Lexeme, sort}
use Rattle.ada_grammar.specs.Limits.{step, walk}
use Rattle.ada_grammar.specs.Phrases.{Phrase}
use Rattle.ada_grammar.specs.Parts.{Part}
use Rattle.ada_grammar.specs.Spelling.{Spells}

-- some sentence of the part begins with these tokens
abbrev pub Viable : Part → List Lexeme → Type 0
Viable part u = (y : Phrase) × (v : List Lexeme) × Spells part y (u ++ v)

-- the tokens that are still to be read, and what the limits know of those before them
pub record Point : Type 0 where
  pub rest : List Lexeme
  pub level : Nesting

-- Some sentence begins with the tokens from p to the first of r and with it; it is the first that passes a limit.
pub record Bars (part : Part) (p : Point) (r : List Lexeme) : Type 0 where
  pub word : List Lexeme
  pub token : Lexeme
  pub further : List Lexeme
  pub joins : r ≡ token ∷ further
  pub splits : p.rest ≡ word ++ r
  pub viable : Viable part (word ++ token ∷ [])
  pub level : Nesting
  pub walked : walk p.level word ≡ Some level
  pub passes : step level (sort token) ≡ None
