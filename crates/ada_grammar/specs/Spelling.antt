-- What the rules mean: which tokens spell a part, and as which phrase.
use Rattle.std.specs.Prelude.{◌+◌, ◌≡◌, true, false, List, [], ◌∷◌, ◌++◌}
use Rattle.ada_grammar.specs.declared.tokens.Class.{Class}
use Rattle.ada_grammar.specs.Sorts.{is_in}
use Rattle.ada_grammar.specs.Lexemes.{Lexeme, sort}
use Rattle.ada_grammar.specs.Phrases.{Phrase}
use Rattle.ada_grammar.specs.Parts.{Part, Body, Gives, Take, Call, Rest, Or, When}
use Rattle.ada_grammar.specs.Grammar.{rule}

-- the tokens make up the body, with this phrase
pub data Fits : Body → Phrase → List Lexeme → Type 0 where
  gives : {y : Phrase} → Fits (Gives y) y []
  take : {c : Class} {rest : Lexeme → Body} {t : Lexeme} {y : Phrase} {w : List Lexeme}
      → is_in c (sort t) ≡ true → Fits (rest t) y w → Fits (Take c rest) y (t ∷ w)
  call : {p : Part} {rest : Phrase → Body} {a y : Phrase} {u v : List Lexeme}
      → Fits (rule p) a u → Fits (rest a) y v → Fits (Call p rest) y (u ++ v)
  rest : {p : Part} {y : Phrase} {w : List Lexeme} → Fits (rule p) y w → Fits (Rest p) y w
  left : {b c : Body} {y : Phrase} {w : List Lexeme} → Fits b y w → Fits (Or b c) y w
  right : {b c : Body} {y : Phrase} {w : List Lexeme} → Fits c y w → Fits (Or b c) y w
  yes : {b c : Body} {y : Phrase} {w : List Lexeme} → Fits b y w → Fits (When true b c) y w
  no : {b c : Body} {y : Phrase} {w : List Lexeme} → Fits c y w → Fits (When false b c) y w

-- the tokens spell the phrase, as this part
abbrev pub Spells : Part → Phrase → List Lexeme → Type 0
Spells p = Fits (rule p)
