-- What it is for a source to be pieces, one joined to the other, and what stands where it is not.
use Rattle.ada_tree.specs.Words.{reserved_of}
use Rattle.ada_tree.specs.declared.token.Token.{Token}
use Rattle.ada_tree.specs.declared.token.TokenKind.{TokenKind}
use Rattle.ada_tree.specs.declared.token.TokenKind.TheVariants as kinds
use Rattle.spark_base.specs.declared.numbers.FileNo.{FileNo}
use Rattle.spark_messages.specs.declared.messages.Code.{Code}
use Rattle.spark_messages.specs.declared.messages.Code.TheVariants.{L01, L02, L03, L04}
use Rattle.std.specs.Prelude.{[], ◌≡◌, ◌⊎◌, ℕ, ◌+◌, ◌^◌, ◌<◌, ◌≤◌, List, ◌++◌, ◌∷◌, Bool, true, false, if◌then◌else◌, length, take, drop}
use Rattle.std.specs.Prelude.{Option, Some, None}
use Rattle.ada_lexer.specs.Pieces.{allowed, space, comment, word, number, text, character, mark_of}
use Rattle.ada_lexer.specs.Cut.{number_value, spoils, is_quote, is_high, first_high, starts, ticks, place, span}
use Rattle.ada_lexer.specs.Laws.{IsLongest, NonePasses}
use Rattle.ada_lexer.specs.declared.refusal.Refusal.{Refusal}

-- a piece of a source, with its kind if it is a token
pub record SourcePiece : Type 0 where
  pub bytes : List ℕ
  pub kind : Option TokenKind

-- the bytes of pieces, one behind the other, before others
abbrev pub joined : List SourcePiece → List ℕ → List ℕ
joined [] behind = behind
joined (p ∷ ps) behind = p.bytes ++ joined ps behind

-- bytes of this kind; what is no token is white space or a comment
abbrev pub IsOf : Option TokenKind → List ℕ → Type 0
IsOf None bytes = (space bytes ≡ true) ⊎ (comment bytes ≡ true)
IsOf (Some kinds.Word) bytes = (word bytes ≡ true) × (reserved_of bytes ≡ None)
IsOf (Some (kinds.Reserved r)) bytes = (word bytes ≡ true) × (reserved_of bytes ≡ Some r)
IsOf (Some (kinds.Number n)) bytes = (number bytes ≡ true) × (number_value bytes ≡ n)
IsOf (Some kinds.Text) bytes = text bytes ≡ true
IsOf (Some kinds.Character) bytes = character bytes ≡ true
IsOf (Some (kinds.Mark mark)) bytes = mark_of bytes ≡ Some mark

-- a number is not spoilt by what stands behind it, and 128 bits hold it; a text is of ASCII, and no quote stands behind it
abbrev pub IsSound : Option TokenKind → List ℕ → List ℕ → Type 0
IsSound (Some (kinds.Number n)) bytes behind = (spoils bytes behind ≡ false) × (n < 2 ^ 128)
IsSound (Some kinds.Text) bytes behind = (first_high bytes ≡ None) × (starts is_quote behind ≡ false)
IsSound kind bytes behind = Unit {0}

-- before these bytes a piece is the longest that is allowed, of its kind, and sound; `ticked`: a tick at its front is a mark
pub record IsPiece (ticked : Bool) (p : SourcePiece) (behind : List ℕ) : Type 0 where
  pub longest : IsLongest (allowed ticked) (p.bytes ++ behind) (length p.bytes)
  pub kind : IsOf p.kind p.bytes
  pub sound : IsSound p.kind p.bytes behind

-- each is a piece before those that follow it and what stands behind all
abbrev pub ArePieces : Bool → List SourcePiece → List ℕ → Type 0
ArePieces ticked [] behind = Unit {0}
ArePieces ticked (p ∷ ps) behind = IsPiece ticked p (joined ps behind) × ArePieces (ticks ticked p.kind) ps behind

-- the tokens of pieces, the first of which begins at byte `at`: one for each but white space and comments, with its place
abbrev pub tokens_of : FileNo → List ℕ → ℕ → List SourcePiece → List Token
tokens_of file source at [] = []
tokens_of file source at (p ∷ ps) = elim p.kind [
  | None ↦ tokens_of file source (at + length p.bytes) ps
  | Some kind ↦ record { kind = kind; span = span file source at (at + length p.bytes); «from» = at; to = at + length p.bytes }
      ∷ tokens_of file source (at + length p.bytes) ps
]

-- the source is its pieces joined, and the tokens are theirs
pub record IsCut (file : FileNo) (source : List ℕ) (tokens : List Token) : Type 0 where
  pub pieces : List SourcePiece
  pub whole : joined pieces [] ≡ source
  pub each : ArePieces false pieces []
  pub theirs : tokens ≡ tokens_of file source 0 pieces

-- whether a tick behind these pieces is a mark, where it was or was not before them
abbrev pub ticked_behind : Bool → List SourcePiece → Bool
ticked_behind ticked [] = ticked
ticked_behind ticked (p ∷ ps) = ticked_behind (ticks ticked p.kind) ps

abbrev pub is_ascii : ℕ → Bool
is_ascii b = if is_high b then false else true

-- the code of what is wrong with bytes at whose front no sound piece stands, and at which of them
pub data IsWrong (ticked : Bool) (bytes : List ℕ) : Code → ℕ → Type 0 where
  outside : NonePasses (allowed ticked) bytes → starts is_high bytes ≡ true → IsWrong ticked bytes L01 0
  unknown : NonePasses (allowed ticked) bytes → starts is_ascii bytes ≡ true → IsWrong ticked bytes L04 0
  malformed : (n : ℕ) → IsLongest (allowed ticked) bytes n → number (take n bytes) ≡ true
      → spoils (take n bytes) (drop n bytes) ≡ true → IsWrong ticked bytes L02 0
  large : (n : ℕ) → IsLongest (allowed ticked) bytes n → number (take n bytes) ≡ true
      → spoils (take n bytes) (drop n bytes) ≡ false → 2 ^ 128 ≤ number_value (take n bytes) → IsWrong ticked bytes L03 0
  unended : (n : ℕ) → IsLongest (allowed ticked) bytes n → text (take n bytes) ≡ true
      → starts is_quote (drop n bytes) ≡ true → IsWrong ticked bytes L04 0
  within : (n at : ℕ) → IsLongest (allowed ticked) bytes n → text (take n bytes) ≡ true
      → starts is_quote (drop n bytes) ≡ false → first_high (take n bytes) ≡ Some at → IsWrong ticked bytes L01 at

-- the source begins with pieces, behind them something is wrong, and the refusal has its code and its place
pub record IsRefused (source : List ℕ) (r : Refusal) : Type 0 where
  pub pieces : List SourcePiece
  pub behind : List ℕ
  pub whole : joined pieces behind ≡ source
  pub each : ArePieces false pieces behind
  pub at : ℕ
  pub wrong : IsWrong (ticked_behind false pieces) behind r.code at
  pub stands : r.place ≡ place source (length (joined pieces []) + at)
