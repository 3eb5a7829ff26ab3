-- The symbols of a source's tokens.
use Rattle.std.specs.Prelude.{◌≡◌, ℕ, ◌≤◌, ◌&&◌, nat_le, if◌then◌else◌, List, map, length, slice_range, Ok}
use Rattle.std.specs.Char.{is_ascii_digit}
use Rattle.std.specs.List.{list_all}
use Rattle.ada_lexer.specs.Cut.{lexed}
use Rattle.ada_tree.specs.declared.token.Mark.{Mark}
use Rattle.ada_tree.specs.declared.token.Mark.TheVariants as marks
use Rattle.ada_tree.specs.declared.token.Token.{Token}
use Rattle.ada_tree.specs.declared.token.TokenKind.{TokenKind}
use Rattle.ada_tree.specs.declared.token.TokenKind.TheVariants as kinds
use Rattle.ada_tree.specs.declared.words.Reserved.{Reserved}
use Rattle.ada_tree.specs.declared.words.Reserved.TheVariants as words
use Rattle.spark_base.specs.declared.numbers.FileNo.{FileNo}
use Rattle.spark_base.specs.declared.numbers.Span.{Span}
use Rattle.first_path.specs.declared.source.Sign.TheVariants as signs
use Rattle.first_path.specs.declared.source.Source.{Source}
use Rattle.first_path.specs.declared.source.Symbol.{Symbol}
use Rattle.first_path.specs.declared.source.Symbol.TheVariants as symbol
use Rattle.first_path.specs.Nested.{AreNested}
use Rattle.first_path.specs.Spelling.{spelled}

-- a reserved word, which is a sign where the grammar has it
abbrev pub reserved_symbol : Reserved → Symbol
reserved_symbol words.Begin = symbol.Sign signs.Begin
reserved_symbol words.Body = symbol.Sign signs.Body
reserved_symbol words.Else = symbol.Sign signs.Else
reserved_symbol words.End = symbol.Sign signs.End
reserved_symbol words.If = symbol.Sign signs.If
reserved_symbol words.Is = symbol.Sign signs.Is
reserved_symbol words.Null = symbol.Sign signs.Null
reserved_symbol words.Package = symbol.Sign signs.Package
reserved_symbol words.Procedure = symbol.Sign signs.Procedure
reserved_symbol words.Then = symbol.Sign signs.Then
reserved_symbol words.With = symbol.Sign signs.With
reserved_symbol word = symbol.Other

-- a mark, which is a sign where the grammar has it
abbrev pub mark_symbol : Mark → Symbol
mark_symbol marks.Open = symbol.Sign signs.Open
mark_symbol marks.Close = symbol.Sign signs.Close
mark_symbol marks.Comma = symbol.Sign signs.Comma
mark_symbol marks.Colon = symbol.Sign signs.Colon
mark_symbol marks.Semicolon = symbol.Sign signs.Semicolon
mark_symbol marks.Becomes = symbol.Sign signs.Becomes
mark_symbol marks.Arrow = symbol.Sign signs.Arrow
mark_symbol marks.Plus = symbol.Sign signs.Plus
mark_symbol marks.Minus = symbol.Sign signs.Minus
mark_symbol marks.Equal = symbol.Sign signs.Equal
mark_symbol marks.NotEqual = symbol.Sign signs.NotEqual
mark_symbol marks.Less = symbol.Sign signs.Less
mark_symbol marks.AtMost = symbol.Sign signs.AtMost
mark_symbol marks.Greater = symbol.Sign signs.Greater
mark_symbol marks.AtLeast = symbol.Sign signs.AtLeast
mark_symbol mark = symbol.Other

-- a number: of digits alone, and of 31 bits at most
abbrev pub number_symbol : List ℕ → ℕ → Symbol
number_symbol written n =
    if list_all is_ascii_digit written && nat_le n 2147483647 then symbol.Number n else symbol.Other

-- a token by its bytes, its place and its kind
abbrev pub kind_symbol : List ℕ → Span → TokenKind → Symbol
kind_symbol written span kinds.Word = symbol.Word (record { written = written; span = span })
kind_symbol written span (kinds.Reserved word) = reserved_symbol word
kind_symbol written span (kinds.Number n) = number_symbol written n
kind_symbol written span kinds.Text = symbol.Other
kind_symbol written span kinds.Character = symbol.Other
kind_symbol written span (kinds.Mark mark) = mark_symbol mark

-- a token of a source
abbrev pub symbol_of : List ℕ → Token → Symbol
symbol_of source t = kind_symbol (slice_range source t.from t.to) t.span t.kind

abbrev pub symbols : List ℕ → List Token → List Symbol
symbols source tokens = map (symbol_of source) tokens

-- a token lies within its source
pub record IsInside (source : List ℕ) (t : Token) : Type 0 where
  pub ordered : t.from ≤ t.to
  pub within : t.to ≤ length source

-- the bytes of a file have tokens, and these spell a source of the first path, whose lines are those of a list of statements
pub record Spells (file : FileNo) (bytes : List ℕ) (s : Source) : Type 0 where
  pub tokens : List Token
  pub cut : lexed file bytes ≡ Ok tokens
  pub spell : symbols bytes tokens ≡ spelled s
  pub nested : AreNested s.body.procedure.lines
