-- How far the code reads, by one pass over a list. Only contracts of private functions and invariants speak of these: what the
-- tokens of a source are rests on none of them.
use Rattle.std.specs.Prelude.{ℕ, suc, ◌+◌, ◌*◌, ◌^◌, nat_le, Bool, true, false, if◌then◌else◌, nat_eq, nat_lt, ◌&&◌, List, [], ◌∷◌, Option}
use Rattle.std.specs.Prelude.{Some, None, Result, take}
use Rattle.ada_lexer.specs.Classes.{digit_of, is_digit, is_e, base_of, is_inner, is_printable}
use Rattle.ada_tree.specs.Marks.{single, double}
use Rattle.ada_lexer.specs.Cut.{fault, piece, text_end, first_high}
use Rattle.ada_tree.specs.declared.token.Mark.{Mark as TheMark}
use Rattle.ada_tree.specs.declared.token.TokenKind.TheVariants.{Mark, Character, Number}
use Rattle.spark_messages.specs.declared.messages.Code.TheVariants.{L01, L02, L03, L04}
use Rattle.ada_lexer.specs.declared.piece.Fault.{Fault}
use Rattle.ada_lexer.specs.declared.piece.Piece.{Piece}

-- the length of the longest front of bytes that pass
abbrev pub run : (ℕ → Bool) → List ℕ → ℕ
run test [] = 0
run test (b ∷ bs) = if test b then suc (run test bs) else 0

-- whether there is a first byte, and it is a digit of the base
abbrev pub starts_digit : ℕ → List ℕ → Bool
starts_digit base [] = false
starts_digit base (b ∷ bs) = is_digit base b

-- whether a byte, before these, goes on with digits parted by single underscores
abbrev pub goes_on : ℕ → ℕ → List ℕ → Bool
goes_on base b bs = if is_digit base b then true else (nat_eq b 95 && starts_digit base bs)

-- the length of the longest front of digits parted by single underscores, after a digit
abbrev pub parted_len : ℕ → List ℕ → ℕ
parted_len base [] = 0
parted_len base (b ∷ bs) =
    if goes_on base b bs then suc (parted_len base bs) else 0

-- one byte more
abbrev pub raised : Option ℕ → Option ℕ
raised None = None
raised (Some n) = Some (suc n)

-- so many bytes more
abbrev pub moved_by : ℕ → Option ℕ → Option ℕ
moved_by i None = None
moved_by i (Some n) = Some (i + n)

-- after a quote: the length through the quote that ends the text, which no quote follows
abbrev pub close : Bool → List ℕ → Option ℕ
close ended [] = if ended then Some 0 else None
close ended (b ∷ bs) =
    if nat_eq b 34 then raised (close (if ended then false else true) bs)
    else (if ended then Some 0 else (if is_inner b then raised (close false bs) else None))

-- a text at the front, by where it ends
abbrev pub text_made : List ℕ → Option ℕ → Result Piece Fault
text_made bytes None = fault L04 0
text_made bytes (Some n) = text_end (suc n) (first_high (take (suc n) bytes))

-- a mark of one byte, or what is wrong with that byte
abbrev pub one_mark : ℕ → Option TheMark → Result Piece Fault
one_mark b (Some mark) = piece 1 (Some (Mark mark))
one_mark b None = if nat_lt 127 b then fault L01 0 else fault L04 0

-- a mark of two bytes, or else of their first
abbrev pub two_marks : ℕ → Option TheMark → Result Piece Fault
two_marks b (Some mark) = piece 2 (Some (Mark mark))
two_marks b None = one_mark b (single b)

-- whether three bytes are a character, where a tick is no mark
abbrev pub ticked_byte : Bool → ℕ → ℕ → ℕ → Bool
ticked_byte ticked b c d = if ticked then false else ((nat_eq b 39 && is_printable c) && nat_eq d 39)

-- a mark or a character at the front
abbrev pub other : Bool → List ℕ → Result Piece Fault
other ticked [] = fault L04 0
other ticked (b ∷ []) = one_mark b (single b)
other ticked (b ∷ c ∷ []) = two_marks b (double b c)
other ticked (b ∷ c ∷ d ∷ bs) = if ticked_byte ticked b c d then piece 3 (Some Character) else two_marks b (double b c)

-- one byte more than some; 0 for none
abbrev pub one_after : Option ℕ → ℕ
one_after None = 0
one_after (Some n) = suc n

-- the length of digits with single underscores between them, at the front
abbrev pub due_len : ℕ → List ℕ → Option ℕ
due_len base bytes = if starts_digit base bytes then Some (parted_len base bytes) else None

-- the length of an exponent at the front, after its letter
abbrev pub exponent_len : List ℕ → Option ℕ
exponent_len [] = None
exponent_len (b ∷ bs) = if nat_eq b 43 then raised (due_len 10 bs) else due_len 10 (b ∷ bs)

-- the length of an exponent at the front; 0 for none
abbrev pub scale_len : List ℕ → ℕ
scale_len [] = 0
scale_len (b ∷ bs) = if is_e b then one_after (exponent_len bs) else 0

-- after the # of a base, the length of its digits, their # and perhaps an exponent; `due`: a digit must come next
abbrev pub based_len : ℕ → Bool → List ℕ → Option ℕ
based_len base due [] = None
based_len base due (b ∷ bs) =
    if is_digit base b then raised (based_len base false bs)
    else (if due then None else (if nat_eq b 95 then raised (based_len base true bs)
    else (if nat_eq b 35 then Some (suc (scale_len bs)) else None)))

-- the length of what follows the first digits of a number
abbrev pub tail_len : ℕ → List ℕ → ℕ
tail_len base [] = 0
tail_len base (b ∷ bs) = if nat_eq b 35 then one_after (based_len base true bs) else scale_len (b ∷ bs)

-- the length of the longest number, after a digit and with that value so far
abbrev pub number_len : ℕ → List ℕ → ℕ
number_len n [] = 0
number_len n (b ∷ bs) =
    if is_digit 10 b then suc (number_len (10 * n + digit_of b) bs)
    else (if nat_eq b 95 then (if starts_digit 10 bs then suc (number_len n bs) else 0)
    else tail_len (base_of n) (b ∷ bs))

-- a number that 128 bits hold
abbrev pub fits : ℕ → Option ℕ
fits n = if nat_le (2 ^ 128) n then None else Some n

-- what is made of a number: malformed, too large, or a token
abbrev pub number_made : ℕ → Bool → Option ℕ → Result Piece Fault
number_made n true value = fault L02 0
number_made n false None = fault L03 0
number_made n false (Some value) = piece n (Some (Number value))
