-- The tokens of a source, or its refusal.
use Rattle.std.specs.Prelude.{ℕ, zero, suc, ◌+◌, ◌-◌, ◌*◌, ◌^◌, Bool, true, false, if◌then◌else◌, nat_eq, nat_lt, nat_le, List, [], ◌∷◌}
use Rattle.std.specs.Prelude.{◌++◌, Option, Some, None, Result, Ok, Err, take, drop, length, slice_index}
use Rattle.ada_lexer.specs.Classes.{digit_of, is_letter, is_digit, is_e, is_plain, base_of}
use Rattle.ada_lexer.specs.Pieces.{every, space, comment, word, number, character, text, mark_of, allowed, longest}
use Rattle.ada_tree.specs.declared.token.Mark.{Mark}
use Rattle.ada_tree.specs.declared.token.Mark.TheVariants.{Close}
use Rattle.ada_tree.specs.Words.{reserved_of}
use Rattle.ada_tree.specs.declared.words.Reserved.{Reserved}
use Rattle.ada_tree.specs.declared.words.Reserved.TheVariants as words
use Rattle.spark_base.specs.declared.numbers.FileNo.{FileNo}
use Rattle.spark_base.specs.declared.numbers.Pos.{Pos}
use Rattle.spark_base.specs.declared.numbers.Span.{Span}
use Rattle.ada_tree.specs.declared.token.Token.{Token}
use Rattle.ada_tree.specs.declared.token.TokenKind.{TokenKind}
use Rattle.ada_tree.specs.declared.token.TokenKind.TheVariants as kinds
use Rattle.spark_messages.specs.declared.messages.Code.{Code}
use Rattle.spark_messages.specs.declared.messages.Code.TheVariants.{L01, L02, L03, L04, X01}
use Rattle.ada_lexer.specs.declared.lexing.TheConstants.{LIMIT}
use Rattle.ada_lexer.specs.declared.piece.Fault.{Fault}
use Rattle.ada_lexer.specs.declared.piece.Piece.{Piece}
use Rattle.ada_lexer.specs.declared.refusal.Refusal.{Refusal}

-- the value of the digits of a base, after that of those before them; other bytes count for nothing
abbrev pub value_from : ℕ → ℕ → List ℕ → ℕ
value_from base n [] = n
value_from base n (b ∷ bs) = value_from base (if is_digit base b then base * n + digit_of b else n) bs

-- how many bytes stand before the first that passes
abbrev pub before : (ℕ → Bool) → List ℕ → ℕ
before test [] = 0
before test (b ∷ bs) = if test b then 0 else before test bs + 1

-- digits of a base, times the base to the exponent
abbrev pub scaled : ℕ → List ℕ → List ℕ → ℕ
scaled base digits exponent = value_from base 0 digits * base ^ value_from 10 0 exponent

abbrev pub is_hash : ℕ → Bool
is_hash b = nat_eq b 35

abbrev pub is_quote : ℕ → Bool
is_quote b = nat_eq b 34

-- a byte outside ASCII
abbrev pub is_high : ℕ → Bool
is_high b = nat_lt 127 b

-- the value of a number with a base, by what stands before its first # and after it
abbrev pub based_value : List ℕ → List ℕ → ℕ
based_value base rest = scaled (base_of (value_from 10 0 base)) (take (before is_hash rest) rest) (drop (before is_hash rest) rest)

-- the value of a number: what stands before a # is its base, and what stands before an E its digits
unfoldable pub number_value : List ℕ → ℕ
number_value bytes =
    if nat_lt (before is_hash bytes) (length bytes)
    then based_value (take (before is_hash bytes) bytes) (drop (before is_hash bytes + 1) bytes)
    else scaled 10 (take (before is_e bytes) bytes) (drop (before is_e bytes) bytes)

-- whether there is a first byte, and it passes
abbrev pub starts : (ℕ → Bool) → List ℕ → Bool
starts test [] = false
starts test (b ∷ bs) = test b

-- whether what stands behind a number makes it malformed: a letter; a point and a digit; an underscore that follows a digit;
-- a # that follows digits alone
abbrev pub spoils : List ℕ → List ℕ → Bool
spoils front [] = false
spoils front (b ∷ bs) =
    if is_letter b then true else (if nat_eq b 46 then starts (is_digit 10) bs
    else (if nat_eq b 95 then (if nat_eq (slice_index front (length front - 1)) 35 then false else true)
    else (if nat_eq b 35 then every is_plain front else false)))

-- the place of the first byte above 127
abbrev pub first_high : List ℕ → Option ℕ
first_high [] = None
first_high (b ∷ bs) = if is_high b then Some 0 else (elim (first_high bs) [ Some n ↦ Some (n + 1) | None ↦ None ])

-- a refusal so many bytes on
abbrev pub fault : {A : Type 0} → Code → ℕ → Result A Fault
fault code at = Err (record { code = code; at = at })

-- a piece of so many bytes, with its kind if it is a token
abbrev pub piece : ℕ → Option TokenKind → Result Piece Fault
piece len kind = Ok (record { len = len; kind = kind })

-- a word by its bytes: a reserved one or another
abbrev pub word_kind : Option Reserved → TokenKind
word_kind None = kinds.Word
word_kind (Some r) = kinds.Reserved r

-- a number, by what stands behind it and by its value
abbrev pub number_piece : ℕ → List ℕ → List ℕ → Result Piece Fault
number_piece n front rest =
    if spoils front rest then fault L02 0
    else (if nat_le (2 ^ 128) (number_value front) then fault L03 0
    else piece n (Some (kinds.Number (number_value front))))

-- a text, by its first byte above 127
abbrev pub text_end : ℕ → Option ℕ → Result Piece Fault
text_end n (Some high) = fault L01 high
text_end n None = piece n (Some kinds.Text)

-- a text, unless a quote stands behind it: then its line does not end it
abbrev pub text_piece : ℕ → List ℕ → List ℕ → Result Piece Fault
text_piece n front rest =
    if starts is_quote rest then fault L04 0 else text_end n (first_high front)

-- a mark
abbrev pub mark_piece : ℕ → Option Mark → Result Piece Fault
mark_piece n None = piece n None
mark_piece n (Some mark) = piece n (Some (kinds.Mark mark))

-- what a longest piece is, by its bytes and by what stands behind it
unfoldable pub judged : ℕ → List ℕ → List ℕ → Result Piece Fault
judged n front rest =
    if space front then piece n None else (if comment front then piece n None
    else (if word front then piece n (Some (word_kind (reserved_of front))) else (if number front then number_piece n front rest
    else (if text front then text_piece n front rest else (if character front then piece n (Some kinds.Character)
    else mark_piece n (mark_of front))))))

-- what stands at the front, by the length of the longest piece there
abbrev pub cut_here : List ℕ → Option ℕ → Result Piece Fault
cut_here bytes None = if starts is_high bytes then fault L01 0 else fault L04 0
cut_here bytes (Some n) = judged n (take n bytes) (drop n bytes)

-- the piece at the front; `ticked`: a tick is a mark here
unfoldable pub piece_at : Bool → List ℕ → Result Piece Fault
piece_at ticked bytes = cut_here bytes (longest (allowed ticked) bytes)

-- the place after a byte
abbrev pub past : Pos → ℕ → Pos
past p b = if nat_eq b 10 then record { line = p.line + 1; col = 1 } else record { line = p.line; col = p.col + 1 }

-- the place after these bytes
abbrev pub moved : Pos → List ℕ → Pos
moved p [] = p
moved p (b ∷ bs) = moved (past p b) bs

-- the place of a byte, or the place behind the last
abbrev pub place : List ℕ → ℕ → Pos
place source at = moved (record { line = 1; col = 1 }) (take at source)

-- the closing parenthesis
abbrev pub is_close : Mark → Bool
is_close Close = true
is_close mark = false

-- the reserved word `all`
abbrev pub is_all : Reserved → Bool
is_all words.All = true
is_all r = false

-- whether a tick after this piece is a mark, where it was or was not before; white space and comments change nothing
abbrev pub ticks : Bool → Option TokenKind → Bool
ticks before None = before
ticks before (Some kinds.Word) = true
ticks before (Some (kinds.Reserved r)) = is_all r
ticks before (Some (kinds.Number n)) = false
ticks before (Some kinds.Text) = false
ticks before (Some kinds.Character) = false
ticks before (Some (kinds.Mark mark)) = is_close mark

-- the part of a file from one byte to before another
abbrev pub span : FileNo → List ℕ → ℕ → ℕ → Span
span file source begin behind = record { file = file; «from» = place source begin; to = place source behind }

-- a token of so many bytes, from byte `at` on
abbrev pub token : Span → ℕ → ℕ → TokenKind → Token
token span at len kind = record { kind = kind; span = span; «from» = at; to = at + len }

-- the token of a piece, if it is one
abbrev pub token_of : Span → ℕ → ℕ → Option TokenKind → List Token
token_of span at len None = []
token_of span at len (Some kind) = token span at len kind ∷ []

-- tokens, before the others or their refusal
abbrev pub after_tokens : List Token → Result (List Token) Refusal → Result (List Token) Refusal
after_tokens ts (Ok us) = Ok (ts ++ us)
after_tokens ts (Err f) = Err f

-- the tokens from byte `at` on, where the first `left` bytes belong to the piece before
abbrev pub cut_from : FileNo → List ℕ → ℕ → ℕ → Bool → List ℕ → Result (List Token) Refusal
cut_from file source at left ticked [] = Ok []
cut_from file source at (suc left) ticked (b ∷ bs) = cut_from file source (at + 1) left ticked bs
cut_from file source at zero ticked (b ∷ bs) = elim (piece_at ticked (b ∷ bs)) [
  | Ok p ↦ after_tokens
      (token_of (span file source at (at + p.len)) at p.len p.kind)
      (cut_from file source (at + 1) (p.len - 1) (ticks ticked p.kind) bs)
  | Err f ↦ Err (record { code = f.code; place = place source (at + f.at) })
]

-- the tokens of a source, or its first refusal
unfoldable pub lexed : FileNo → List ℕ → Result (List Token) Refusal
lexed file source =
    if nat_lt LIMIT (length source) then Err (record { code = X01; place = record { line = 1; col = 1 } })
    else cut_from file source 0 0 false source
