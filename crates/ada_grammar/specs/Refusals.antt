-- The message of a refusal at a token.
use Rattle.std.specs.Prelude.{◌≡◌, ℕ, Bool, true, false, codes, List, Option, Some, None, slice_get}
use Rattle.spark_base.specs.declared.numbers.FileNo.{FileNo}
use Rattle.spark_base.specs.declared.numbers.Pos.{Pos}
use Rattle.spark_messages.specs.declared.messages.Code.{Code}
use Rattle.spark_messages.specs.declared.messages.Code.TheVariants as code
use Rattle.spark_messages.specs.declared.messages.Kind.TheVariants as kind
use Rattle.spark_messages.specs.declared.messages.Message.{Message}
use Rattle.spark_messages.specs.declared.messages.PhaseFault.{PhaseFault}
use Rattle.spark_messages.specs.declared.messages.PhaseFault.TheVariants as faults
use Rattle.spark_messages.specs.MessageTexts.{refusal_text, outside_text}
use Rattle.ada_tree.specs.declared.token.Mark.{Mark}
use Rattle.ada_tree.specs.declared.token.Mark.TheVariants as marks
use Rattle.ada_tree.specs.declared.token.Token.{Token}
use Rattle.ada_tree.specs.declared.token.Tokens.{Tokens}
use Rattle.ada_tree.specs.declared.token.TokenKind.{TokenKind}
use Rattle.ada_tree.specs.declared.token.TokenKind.TheVariants as kinds
use Rattle.ada_tree.specs.declared.words.Reserved.{Reserved}
use Rattle.ada_tree.specs.declared.words.Reserved.TheVariants as words
use Rattle.ada_grammar.specs.Lexemes.{text_of}

-- the reserved words of Ada that the subset leaves out
abbrev pub is_outside_word : Reserved → Bool
is_outside_word words.Access = true
is_outside_word words.Goto = true
is_outside_word words.Raise = true
is_outside_word words.Abort = true
is_outside_word words.Select = true
is_outside_word words.Requeue = true
is_outside_word words.Accept = true
is_outside_word words.Generic = true
is_outside_word words.Exception = true
is_outside_word words.Tagged = true
is_outside_word words.Interface = true
is_outside_word words.Limited = true
is_outside_word words.Abstract = true
is_outside_word words.New = true
is_outside_word words.Delta = true
is_outside_word words.Digits = true
is_outside_word words.Aliased = true
is_outside_word words.Renames = true
is_outside_word words.Separate = true
is_outside_word words.Synchronized = true
is_outside_word words.Some = true
is_outside_word words.All = true
is_outside_word words.Terminate = true
is_outside_word words.Overriding = true
is_outside_word w = false

abbrev pub is_outside_mark : Mark → Bool
is_outside_mark marks.Ampersand = true
is_outside_mark marks.OpenLabel = true
is_outside_mark marks.CloseLabel = true
is_outside_mark marks.Box = true
is_outside_mark m = false

-- whether the subset has no such token
abbrev pub is_outside : TokenKind → Bool
is_outside kinds.Text = true
is_outside kinds.Character = true
is_outside (kinds.Reserved w) = is_outside_word w
is_outside (kinds.Mark m) = is_outside_mark m
is_outside k = false

-- how a message tells such a token
abbrev pub told : TokenKind → List ℕ → List ℕ
told kinds.Text written = codes "text"
told kinds.Character written = codes "character"
told k written = written

abbrev pub refused : FileNo → Code → Pos → Message
refused file c place = record { file = file; place = place; code = c; text = refusal_text c; kind = kind.Refused }

abbrev pub outside_message : FileNo → List ℕ → Token → Message
outside_message file source t = record {
  file = file;
  place = t.span.from;
  code = code.U01;
  text = outside_text (told t.kind (text_of source t));
  kind = kind.Refused;
}

abbrev pub unless_outside : Bool → Message → Message → Message
unless_outside true outside syntax = outside
unless_outside false outside syntax = syntax

-- no sentence goes on so: U01 for a token that the subset leaves out, S01 for any other, and S01 at the end
abbrev pub syntax_at : Tokens → Option Token → Message
syntax_at tokens None = refused tokens.file code.S01 tokens.end
syntax_at tokens (Some t) =
    unless_outside (is_outside t.kind)
    (outside_message tokens.file tokens.source t)
    (refused tokens.file code.S01 t.span.from)

abbrev pub syntax_message : Tokens → ℕ → Message
syntax_message tokens i = syntax_at tokens (slice_get tokens.list i)

-- the token passes a limit of nesting
abbrev pub limit_at : Tokens → Option Token → Message
limit_at tokens None = refused tokens.file code.X02 tokens.end
limit_at tokens (Some t) = refused tokens.file code.X02 t.span.from

abbrev pub limit_message : Tokens → ℕ → Message
limit_message tokens i = limit_at tokens (slice_get tokens.list i)

-- this message, or want of memory for it
abbrev pub Tells : Message → PhaseFault → Type 0
Tells m (faults.Refused n) = n ≡ m
Tells m faults.NoMemory = Unit {0}
