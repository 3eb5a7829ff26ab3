-- Sorts of tokens: what the grammar tells tokens apart by.
use Rattle.std.specs.Prelude.{ℕ, Bool, true, false, List}
use Rattle.ada_tree.specs.declared.token.TokenKind.{TokenKind}
use Rattle.ada_tree.specs.declared.token.TokenKind.TheVariants as kinds
use Rattle.ada_tree.specs.declared.token.Mark.{Mark}
use Rattle.ada_tree.specs.declared.token.Mark.TheVariants as marks
use Rattle.ada_tree.specs.declared.words.Reserved.{Reserved}
use Rattle.ada_tree.specs.declared.words.Reserved.TheVariants as words
use Rattle.ada_tree.specs.declared.identifiers.WordRole.{WordRole}
use Rattle.ada_tree.specs.declared.identifiers.WordRole.TheVariants as roles
use Rattle.ada_grammar.specs.declared.tokens.Class.{Class}
use Rattle.ada_grammar.specs.declared.tokens.Class.TheVariants as classes
use Rattle.ada_tree.specs.Identifiers.{role_of}
use Rattle.ada_grammar.specs.Numbers.{same_word, same_mark}

-- a number is told from no other number, and words only by their role
pub data Sort : Type 0 where
  WordSort : WordRole → Sort
  NumberSort : Sort
  TextSort : Sort
  CharacterSort : Sort
  ReservedSort : Reserved → Sort
  MarkSort : Mark → Sort

-- the sort of a token that is written so
abbrev pub sort_of : TokenKind → List ℕ → Sort
sort_of kinds.Word text = WordSort (role_of text)
sort_of (kinds.Number n) text = NumberSort
sort_of kinds.Text text = TextSort
sort_of kinds.Character text = CharacterSort
sort_of (kinds.Reserved word) text = ReservedSort word
sort_of (kinds.Mark mark) text = MarkSort mark

-- = /= < <= > >=
abbrev pub is_relational : Mark → Bool
is_relational marks.Equal = true
is_relational marks.NotEqual = true
is_relational marks.Less = true
is_relational marks.AtMost = true
is_relational marks.Greater = true
is_relational marks.AtLeast = true
is_relational m = false

-- + -
abbrev pub is_adding : Mark → Bool
is_adding marks.Plus = true
is_adding marks.Minus = true
is_adding m = false

-- * / mod rem
abbrev pub is_multiplying : Sort → Bool
is_multiplying (MarkSort marks.Star) = true
is_multiplying (MarkSort marks.Slash) = true
is_multiplying (ReservedSort words.Mod) = true
is_multiplying (ReservedSort words.Rem) = true
is_multiplying s = false

abbrev pub is_word : Sort → Bool
is_word (WordSort role) = true
is_word s = false

-- the mode of a Global
abbrev pub is_mode : Sort → Bool
is_mode (WordSort roles.Mode) = true
is_mode s = false

-- the literal True
abbrev pub is_true : Sort → Bool
is_true (WordSort roles.True) = true
is_true s = false

-- words with which a compound statement begins that is no if and no case
abbrev pub opens_compound : Reserved → Bool
opens_compound words.While = true
opens_compound words.For = true
opens_compound words.Loop = true
opens_compound words.Declare = true
opens_compound words.Begin = true
opens_compound w = false

-- words with which a statement begins
abbrev pub opens_statement : Reserved → Bool
opens_statement words.Null = true
opens_statement words.Pragma = true
opens_statement words.If = true
opens_statement words.Case = true
opens_statement words.Exit = true
opens_statement words.Return = true
opens_statement words.Delay = true
opens_statement w = opens_compound w

-- words with which a declaration begins that a block may have
abbrev pub opens_local : Reserved → Bool
opens_local words.Type = true
opens_local words.Subtype = true
opens_local words.Use = true
opens_local words.Pragma = true
opens_local w = false

-- words with which a declaration begins
abbrev pub opens_declaration : Reserved → Bool
opens_declaration words.Procedure = true
opens_declaration words.Function = true
opens_declaration words.Task = true
opens_declaration words.Protected = true
opens_declaration w = opens_local w

-- words with which the body of an operation of a protected type begins
abbrev pub opens_body : Reserved → Bool
opens_body words.Procedure = true
opens_body words.Function = true
opens_body words.Entry = true
opens_body w = false

-- words with which an operation of a protected type begins
abbrev pub opens_operation : Reserved → Bool
opens_operation words.Pragma = true
opens_operation w = opens_body w

-- words with which something begins that stands in a file by itself
abbrev pub opens_file_item : Reserved → Bool
opens_file_item words.Pragma = true
opens_file_item words.With = true
opens_file_item words.Use = true
opens_file_item words.Package = true
opens_file_item words.Procedure = true
opens_file_item w = false

-- all but ( )
abbrev pub is_enclosed : Mark → Bool
is_enclosed marks.Open = false
is_enclosed marks.Close = false
is_enclosed m = true

-- all but ( ) , ;
abbrev pub is_skipped : Mark → Bool
is_skipped marks.Comma = false
is_skipped marks.Semicolon = false
is_skipped m = is_enclosed m

-- all but is
abbrev pub is_skipped_word : Reserved → Bool
is_skipped_word words.Is = false
is_skipped_word w = true

-- whether a sort is of a class
abbrev pub is_in : Class → Sort → Bool
is_in classes.Word s = is_word s
is_in classes.Number NumberSort = true
is_in classes.Number s = false
is_in (classes.Reserved a) (ReservedSort b) = same_word a b
is_in (classes.Reserved a) s = false
is_in (classes.Mark a) (MarkSort b) = same_mark a b
is_in (classes.Mark a) s = false
is_in classes.Relational (MarkSort b) = is_relational b
is_in classes.Relational s = false
is_in classes.Adding (MarkSort b) = is_adding b
is_in classes.Adding s = false
is_in classes.Multiplying s = is_multiplying s
is_in classes.AttributeName (ReservedSort b) = same_word words.Range b
is_in classes.AttributeName s = is_word s
is_in classes.Mode s = is_mode s
is_in classes.True s = is_true s
is_in classes.Statement (ReservedSort b) = opens_statement b
is_in classes.Statement s = is_word s
is_in classes.Compound (ReservedSort b) = opens_compound b
is_in classes.Compound s = false
is_in classes.LocalDeclaration (ReservedSort b) = opens_local b
is_in classes.LocalDeclaration s = is_word s
is_in classes.Declaration (ReservedSort b) = opens_declaration b
is_in classes.Declaration s = is_word s
is_in classes.Operation (ReservedSort b) = opens_operation b
is_in classes.Operation s = false
is_in classes.OperationBody (ReservedSort b) = opens_body b
is_in classes.OperationBody s = false
is_in classes.PrivateItem (ReservedSort b) = opens_operation b
is_in classes.PrivateItem s = is_word s
is_in classes.FileItem (ReservedSort b) = opens_file_item b
is_in classes.FileItem s = false
is_in classes.Enclosed (MarkSort b) = is_enclosed b
is_in classes.Enclosed s = true
is_in classes.Skipped (MarkSort b) = is_skipped b
is_in classes.Skipped (ReservedSort b) = is_skipped_word b
is_in classes.Skipped s = true
