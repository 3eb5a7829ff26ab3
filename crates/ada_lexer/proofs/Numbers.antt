-- A number at the front.
use Rattle.std.proofs.Common.{◌≡◌, ℕ, suc, ◌+◌, ◌*◌, ◌^◌, ◌<◌, List, [], ◌∷◌, Bool, true, false, ◌&&◌, if◌then◌else◌, length, take, drop, get_or, None, Some, Result, refl, ap, sym, subst, ◌∙◌, arith, nat_eq, nat_le, add-one}
use Rattle.std.proofs.lemmas.Bool.Decides.{nat_tests}
use Rattle.std.specs.declared.option.Option.{Option}
use Rattle.ada_lexer.specs.Classes.{digit_of, is_digit, is_e, base_of}
use Rattle.ada_lexer.specs.Pieces.{parted, exponent, scale, based, number_from, number, allowed, longest, one_more}
use Rattle.ada_lexer.specs.Cut.{piece_at, cut_here, piece, fault, number_piece, number_value, spoils, value_from}
use Rattle.ada_lexer.specs.Runs.{raised, starts_digit, parted_len, due_len, exponent_len, scale_len, based_len, tail_len, number_len, one_after, fits, number_made}
use Rattle.spark_messages.specs.declared.messages.Code.TheVariants.{L02, L03}
use Rattle.ada_tree.specs.declared.token.TokenKind.TheVariants as kinds
use Rattle.ada_lexer.specs.declared.piece.Fault.{Fault}
use Rattle.ada_lexer.specs.declared.piece.Piece.{Piece}
use Rattle.ada_lexer.proofs.Longest.{longest-none, longest-parted}
use Rattle.ada_lexer.proofs.Fronts.{longest-after, allowed-number, passes_at, judged-number}

more-none : (r : Option ℕ) → one_more false r ≡ raised r
more-none None = refl
more-none (Some n) = refl

more-some : (r : Option ℕ) → one_more true r ≡ Some (one_after r)
more-some None = refl
more-some (Some n) = refl

longest-exponent : (bytes : List ℕ) → longest exponent bytes ≡ exponent_len bytes
longest-exponent [] = refl
longest-exponent (b ∷ bs) = elim (nat_eq b 43) as (λ c. one_more false (longest (λ s. if c then parted 10 true s else parted 10 true (b ∷ s)) bs) ≡ (if c then raised (due_len 10 bs) else due_len 10 (b ∷ bs))) [
  | true ↦ ap (one_more false) (longest-parted 10 bs).1 ∙ more-none (due_len 10 bs)
  | false ↦ (longest-parted 10 (b ∷ bs)).1
]

longest-scale : (bytes : List ℕ) → longest scale bytes ≡ Some (scale_len bytes)
longest-scale [] = refl
longest-scale (b ∷ bs) = elim (is_e b) as (λ c. one_more true (longest (λ s. c && exponent s) bs) ≡ Some (if c then one_after (exponent_len bs) else 0)) [
  | true ↦ ap (one_more true) (longest-exponent bs) ∙ more-some (exponent_len bs)
  | false ↦ ap (one_more true) (longest-none bs)
]

based_step : (base : ℕ) (bs : List ℕ) (d due u h : Bool) → longest (based base false) bs ≡ based_len base false bs → longest (based base true) bs ≡ based_len base true bs →
    one_more false (longest (λ s. if d then based base false s else (if due then false else (if u then based base true s else (h && scale s)))) bs)
    ≡ (if d then raised (based_len base false bs) else (if due then None else (if u then raised (based_len base true bs) else (if h then Some (suc (scale_len bs)) else None))))
based_step base bs true due u h e f = ap (one_more false) e ∙ more-none (based_len base false bs)
based_step base bs false true u h e f = ap (one_more false) (longest-none bs)
based_step base bs false false true h e f = ap (one_more false) f ∙ more-none (based_len base true bs)
based_step base bs false false false true e f = ap (one_more false) (longest-scale bs)
based_step base bs false false false false e f = ap (one_more false) (longest-none bs)

longest-based : (base : ℕ) (due : Bool) (bytes : List ℕ) → longest (based base due) bytes ≡ based_len base due bytes
longest-based base due [] = refl
longest-based base due (b ∷ bs) = based_step base bs (is_digit base b) due (nat_eq b 95) (nat_eq b 35) (longest-based base false bs) (longest-based base true bs)

abbrev due_number : ℕ → List ℕ → Option ℕ
due_number n bytes = if starts_digit 10 bytes then Some (number_len n bytes) else None

after-due : (n : ℕ) (bs : List ℕ) → one_more true (due_number n bs) ≡ Some (if starts_digit 10 bs then suc (number_len n bs) else 0)
after-due n bs = elim (starts_digit 10 bs) as (λ c. one_more true (if c then Some (number_len n bs) else None) ≡ Some (if c then suc (number_len n bs) else 0)) [ true ↦ refl | false ↦ refl ]

number_step : (n m : ℕ) (b : ℕ) (bs : List ℕ) (d u h : Bool) → longest (number_from m false) bs ≡ Some (number_len m bs) → longest (number_from n true) bs ≡ due_number n bs →
    (one_more true (longest (λ s. if d then number_from m false s else (if u then number_from n true s else (if h then based (base_of n) true s else scale (b ∷ s)))) bs)
    ≡ Some (if d then suc (number_len m bs) else (if u then (if starts_digit 10 bs then suc (number_len n bs) else 0) else (if h then one_after (based_len (base_of n) true bs) else scale_len (b ∷ bs)))))
    × (one_more false (longest (λ s. if d then number_from m false s else false) bs)
    ≡ (if d then Some (if d then suc (number_len m bs) else (if u then (if starts_digit 10 bs then suc (number_len n bs) else 0) else (if h then one_after (based_len (base_of n) true bs) else scale_len (b ∷ bs)))) else None))
number_step n m b bs true u h e f = (ap (one_more true) e, ap (one_more false) e)
number_step n m b bs false true h e f = (ap (one_more true) f ∙ after-due n bs, ap (one_more false) (longest-none bs))
number_step n m b bs false false true e f = (ap (one_more true) (longest-based (base_of n) true bs) ∙ more-some (based_len (base_of n) true bs), ap (one_more false) (longest-none bs))
number_step n m b bs false false false e f = (longest-scale (b ∷ bs), ap (one_more false) (longest-none bs))

longest-number : (n : ℕ) (bytes : List ℕ) → (longest (number_from n false) bytes ≡ Some (number_len n bytes)) × (longest (number_from n true) bytes ≡ due_number n bytes)
longest-number n [] = (refl, refl)
longest-number n (b ∷ bs) = number_step n (10 * n + digit_of b) b bs (is_digit 10 b) (nat_eq b 95) (nat_eq b 35) (longest-number (10 * n + digit_of b) bs).0 (longest-number n bs).1

pub at_number : (ticked : Bool) (b : ℕ) (bs : List ℕ) → is_digit 10 b ≡ true →
    let n = number_len (10 * 0 + digit_of b) bs in piece_at ticked (b ∷ bs) ≡ number_piece (suc n) (b ∷ take n bs) (drop n bs)
unfolding piece_at
at_number ticked b bs h =
    let m : ℕ = 10 * 0 + digit_of b in
    let n : ℕ = number_len m bs in
    let e : longest (allowed ticked) (b ∷ bs) ≡ Some (suc n) = longest-after ticked b bs (number_from m false) (Some n) (λ s. allowed-number ticked b s h ∙ ap (λ c. if c then number_from m false s else false) h) (longest-number m bs).0 in
    let k : number (b ∷ take n bs) ≡ true = ap (λ c. if c then number_from m false (take n bs) else false) h ∙ passes_at (number_from m false) bs n (longest-number m bs).0 in
    ap (cut_here (b ∷ bs)) e ∙ judged-number (suc n) b (take n bs) (drop n bs) h k

-- the bytes of a number: its first digits, and what follows them
abbrev Parts : ℕ → List ℕ → ℕ → Type 0
Parts n bytes k = number_len n bytes ≡ k + tail_len (base_of (value_from 10 n (take k bytes))) (drop k bytes)

further : (k x : ℕ) → suc k + x ≡ suc (k + x)
further k x = omega arith

value-more : (n b : ℕ) (xs : List ℕ) (c : Bool) → is_digit 10 b ≡ c → value_from 10 n (b ∷ xs) ≡ value_from 10 (if c then 10 * n + digit_of b else n) xs
value-more n b xs c h = ap (λ c. value_from 10 (if c then 10 * n + digit_of b else n) xs) h

part_more : (n m b : ℕ) (bs : List ℕ) → parted_len 10 (b ∷ bs) ≡ suc (parted_len 10 bs) → number_len n (b ∷ bs) ≡ suc (number_len m bs) → value_from 10 n (b ∷ take (parted_len 10 bs) bs) ≡ value_from 10 m (take (parted_len 10 bs) bs) →
    Parts m bs (parted_len 10 bs) → Parts n (b ∷ bs) (parted_len 10 (b ∷ bs))
part_more n m b bs e f v ih =
    subst (Parts n (b ∷ bs)) (sym e) (f ∙ ap suc ih ∙ sym (further (parted_len 10 bs) _) ∙ ap (λ v. suc (parted_len 10 bs) + tail_len (base_of v) (drop (parted_len 10 bs) bs)) (sym v))

part_digit : (n b : ℕ) (bs : List ℕ) → is_digit 10 b ≡ true → Parts (10 * n + digit_of b) bs (parted_len 10 bs) → Parts n (b ∷ bs) (parted_len 10 (b ∷ bs))
part_digit n b bs h ih = part_more n (10 * n + digit_of b) b bs (rw h refl) (rw h refl) (value-more n b (take (parted_len 10 bs) bs) true h) ih

part_underscore : (n b : ℕ) (bs : List ℕ) → is_digit 10 b ≡ false → nat_eq b 95 ≡ true → starts_digit 10 bs ≡ true → Parts n bs (parted_len 10 bs) → Parts n (b ∷ bs) (parted_len 10 (b ∷ bs))
part_underscore n b bs h k m ih = part_more n n b bs (rw (h, k, m) refl) (rw (h, k, m) refl) (value-more n b (take (parted_len 10 bs) bs) false h) ih

no_tail : (base b : ℕ) (bs : List ℕ) → nat_eq b 95 ≡ true → tail_len base (b ∷ bs) ≡ 0
unfolding is_e
no_tail base b bs h = let e : nat_eq b 35 ≡ false = grind (arith, nat_tests) in let f : is_e b ≡ false = grind (arith, nat_tests) in rw (e, f) refl

part_stop : (n b : ℕ) (bs : List ℕ) → is_digit 10 b ≡ false → nat_eq b 95 ≡ true → starts_digit 10 bs ≡ false → Parts n (b ∷ bs) (parted_len 10 (b ∷ bs))
part_stop n b bs h k m = rw (h, k, m) (rw (no_tail (base_of n) b bs k) refl)

part_else : (n b : ℕ) (bs : List ℕ) → is_digit 10 b ≡ false → nat_eq b 95 ≡ false → Parts n (b ∷ bs) (parted_len 10 (b ∷ bs))
part_else n b bs h k = rw (h, k) (let x : ℕ = tail_len (base_of n) (b ∷ bs) in let e : x ≡ 0 + x = omega arith in e)

part_cases : (n b : ℕ) (bs : List ℕ) (d u s : Bool) → is_digit 10 b ≡ d → nat_eq b 95 ≡ u → starts_digit 10 bs ≡ s → Parts (10 * n + digit_of b) bs (parted_len 10 bs) → Parts n bs (parted_len 10 bs) → Parts n (b ∷ bs) (parted_len 10 (b ∷ bs))
part_cases n b bs true u s h k m i j = part_digit n b bs h i
part_cases n b bs false true true h k m i j = part_underscore n b bs h k m j
part_cases n b bs false true false h k m i j = part_stop n b bs h k m
part_cases n b bs false false s h k m i j = part_else n b bs h k

pub number_parts : (n : ℕ) (bytes : List ℕ) → Parts n bytes (parted_len 10 bytes)
number_parts n [] = refl
number_parts n (b ∷ bs) = part_cases n b bs (is_digit 10 b) (nat_eq b 95) (starts_digit 10 bs) refl refl refl (number_parts (10 * n + digit_of b) bs) (number_parts n bs)

number_is : (n : ℕ) (front rest : List ℕ) → number_piece n front rest ≡ number_made n (spoils front rest) (fits (number_value front))
number_is n front rest = elim (spoils front rest) as (λ c. (if c then fault L02 0 else (if nat_le (2 ^ 128) (number_value front) then fault L03 0 else piece n (Some (kinds.Number (number_value front))))) ≡ number_made n c (fits (number_value front))) [
  | true ↦ refl
  | false ↦ elim (nat_le (2 ^ 128) (number_value front)) as (λ c. (if c then fault L03 0 else piece n (Some (kinds.Number (number_value front)))) ≡ number_made n false (if c then None else Some (number_value front))) [ true ↦ refl | false ↦ refl ]
]

-- a number at the front, by its first k digits
pub number_here : (bytes : List ℕ) → 0 < length bytes → is_digit 10 (get_or bytes 0 0) ≡ true → (k n : ℕ) → k ≡ parted_len 10 (drop 1 bytes) + 1 → n ≡ k + tail_len (base_of (value_from 10 0 (take k bytes))) (drop k bytes) →
    (ticked : Bool) → piece_at ticked bytes ≡ number_made n (spoils (take n bytes) (drop n bytes)) (fits (number_value (take n bytes)))
number_here [] h d k n e f ticked = absurd (omega arith)
number_here (b ∷ bs) h d k n e f ticked =
    let m : ℕ = 10 * 0 + digit_of b in
    let j : ℕ = parted_len 10 bs in
    let p : Parts m bs j = number_parts m bs in
    let e' : k ≡ suc j = e ∙ add-one j in
    let v : value_from 10 0 (take (suc j) (b ∷ bs)) ≡ value_from 10 m (take j bs) = ap (λ c. value_from 10 (if c then m else 0) (take j bs)) d in
    let g : n ≡ suc (number_len m bs) = f ∙ ap (λ k. k + tail_len (base_of (value_from 10 0 (take k (b ∷ bs)))) (drop k (b ∷ bs))) e'
    ∙ ap (λ v. suc j + tail_len (base_of v) (drop j bs)) v ∙ further j _ ∙ ap suc (sym p) in
    at_number ticked b bs d ∙ number_is (suc (number_len m bs)) (take (suc (number_len m bs)) (b ∷ bs)) (drop (suc (number_len m bs)) (b ∷ bs)) ∙ ap (λ n. number_made n (spoils (take n (b ∷ bs)) (drop n (b ∷ bs))) (fits (number_value (take n (b ∷ bs))))) (sym g)

-- the same, as the code goes
pub number_found : (bytes first digits tail number rest : List ℕ) (j base length_of_tail : ℕ) (r : Result Piece Fault) → 0 < length bytes → is_digit 10 (get_or bytes 0 0) ≡ true →
    first ≡ drop 1 bytes → j ≡ parted_len 10 first → digits ≡ take (j + 1) bytes → base ≡ base_of (value_from 10 0 digits) → tail ≡ drop (j + 1) bytes → length_of_tail ≡ tail_len base tail →
    number ≡ take (j + 1 + length_of_tail) bytes → rest ≡ drop (j + 1 + length_of_tail) bytes → r ≡ number_made (j + 1 + length_of_tail) (spoils number rest) (fits (number_value number)) →
    (ticked : Bool) → r ≡ piece_at ticked bytes
number_found bytes first digits tail number rest j base t r h d e1 e2 e3 e4 e5 e6 e7 e8 e9 ticked =
    let f : j + 1 ≡ parted_len 10 (drop 1 bytes) + 1 = ap (λ j. j + 1) (e2 ∙ ap (parted_len 10) e1) in
    let g : j + 1 + t ≡ j + 1 + tail_len (base_of (value_from 10 0 (take (j + 1) bytes))) (drop (j + 1) bytes) =
    ap (λ t. j + 1 + t) (e6 ∙ ap (λ b. tail_len b tail) (e4 ∙ ap (λ x. base_of (value_from 10 0 x)) e3) ∙ ap (tail_len (base_of (value_from 10 0 (take (j + 1) bytes)))) e5) in
    e9 ∙ ap (λ x. number_made (j + 1 + t) (spoils x rest) (fits (number_value x))) e7 ∙ ap (λ x. number_made (j + 1 + t) (spoils (take (j + 1 + t) bytes) x) (fits (number_value (take (j + 1 + t) bytes)))) e8
    ∙ sym (number_here bytes h d (j + 1) (j + 1 + t) f g ticked)
