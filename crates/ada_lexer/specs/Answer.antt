-- What a call answers.
use Rattle.std.specs.Prelude.{◌≡◌, ◌<◌, ◌≤◌, ℕ, List, Option, Some, None, Result, Ok, Err}
use Rattle.spark_base.specs.declared.numbers.FileNo.{FileNo}
use Rattle.spark_messages.specs.declared.messages.Kind.TheVariants as kinds
use Rattle.spark_messages.specs.declared.messages.Message.{Message}
use Rattle.spark_messages.specs.declared.messages.PhaseFault.{PhaseFault}
use Rattle.spark_messages.specs.declared.messages.PhaseFault.TheVariants as faults
use Rattle.spark_messages.specs.MessageTexts.{refusal_text}
use Rattle.ada_tree.specs.declared.token.Token.{Token}
use Rattle.ada_lexer.specs.declared.piece.Fault.{Fault}
use Rattle.ada_lexer.specs.declared.piece.Piece.{Piece}
use Rattle.ada_lexer.specs.declared.refusal.Refusal.{Refusal}

-- the message of a refusal: its code and that code's text, at its place
abbrev pub message_of : FileNo → Refusal → Message
message_of file r = record { file = file; place = r.place; code = r.code; text = refusal_text r.code; kind = kinds.Refused }

-- the message of what is refused
abbrev pub refusal_in : FileNo → Result (List Token) Refusal → Option Message
refusal_in file (Ok tokens) = None
refusal_in file (Err r) = Some (message_of file r)

-- a message is that of the refusal; of want of memory nothing is said
abbrev pub Fails : FileNo → PhaseFault → Result (List Token) Refusal → Type 0
Fails file (faults.Refused m) r = refusal_in file r ≡ Some m
Fails file faults.NoMemory r = Unit {0}

-- a piece has a byte at least and these at most, and a fault stands at one of them
abbrev pub IsWithin : Result Piece Fault → ℕ → Type 0
IsWithin (Ok p) n = (0 < p.len) × (p.len ≤ n)
IsWithin (Err f) n = f.at < n
