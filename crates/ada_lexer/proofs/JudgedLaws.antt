-- What judging makes of a front, by what the front is.
use Rattle.std.proofs.Common.{◌≡◌, ℕ, ◌+◌, ◌*◌, ◌^◌, ◌<◌, inl, inr, List, [], ◌∷◌, Bool, true, false, ◌&&◌, ◌||◌, if◌then◌else◌, None, Some, Ok, Err, Result, refl, ap, sym, subst, ◌∙◌, arith, nat_eq, nat_le, take, drop, ◌≤◌}
use Rattle.spark_messages.proofs.Bools.{both}
use Rattle.std.specs.declared.option.Option.{Option}
use Rattle.std.proofs.lemmas.Bool.Decides.{nat_tests}
use Rattle.ada_lexer.specs.Classes.{digit_of, is_digit, is_letter, is_white, is_printable}
use Rattle.ada_tree.specs.Marks.{single, double}
use Rattle.ada_lexer.specs.Pieces.{allowed, space, comment, word, number, number_from, parted, text, quoted, character, mark_of, is_some}
use Rattle.ada_lexer.specs.Cut.{judged, piece, word_kind, number_piece, text_piece, text_end, mark_piece, first_high, is_quote, starts, spoils, number_value, fault}
use Rattle.ada_lexer.specs.Laws.{IsLongest}
use Rattle.ada_lexer.specs.Joined.{IsOf, IsSound, IsWrong, malformed, large, unended, within}
use Rattle.ada_tree.specs.Words.{reserved_of}
use Rattle.ada_tree.specs.declared.words.Reserved.{Reserved}
use Rattle.ada_tree.specs.declared.token.Mark.{Mark}
use Rattle.ada_tree.specs.declared.token.TokenKind.{TokenKind}
use Rattle.ada_tree.specs.declared.token.TokenKind.TheVariants as kinds
use Rattle.spark_messages.specs.declared.messages.Code.TheVariants.{L02, L03, L04}
use Rattle.ada_lexer.specs.declared.piece.Fault.{Fault}
use Rattle.ada_lexer.specs.declared.piece.Piece.{Piece}
use Rattle.ada_lexer.proofs.Bytes.{letter-range, digit-range, white-range, letter-single, letter-double, digit-single, digit-double, low-single, low-double}
use Rattle.ada_lexer.proofs.Fronts.{judged-space, judged-word, judged-number, judged-text, comment-not}
use Rattle.ada_lexer.proofs.Others.{Other, judged-other}

-- the longest front, of n bytes, is of the kind that is said and sound before what stands behind it; or that is wrong
abbrev pub Tells : Bool → List ℕ → ℕ → Result Piece Fault → Type 0
Tells ticked bytes n (Ok p) = (p.len ≡ n) × (IsOf p.kind (take n bytes) × IsSound p.kind (take n bytes) (drop n bytes))
Tells ticked bytes n (Err f) = IsWrong ticked bytes f.code f.at

word_tells : (ticked : Bool) (bytes : List ℕ) (n : ℕ) (r : Option Reserved) → reserved_of (take n bytes) ≡ r → word (take n bytes) ≡ true → Tells ticked bytes n (piece n (Some (word_kind r)))
word_tells ticked bytes n None e h = (refl, ((h, e), tt))
word_tells ticked bytes n (Some r) e h = (refl, ((h, e), tt))

under : (n x : ℕ) → nat_le n x ≡ false → x < n
under n x h = grind (arith, nat_tests)

over : (n x : ℕ) → nat_le n x ≡ true → n ≤ x
over n x h = grind (arith, nat_tests)

number_tells : (ticked : Bool) (bytes : List ℕ) (n : ℕ) → IsLongest (allowed ticked) bytes n → (c d : Bool) → spoils (take n bytes) (drop n bytes) ≡ c → nat_le (2 ^ 128) (number_value (take n bytes)) ≡ d →
    number (take n bytes) ≡ true → Tells ticked bytes n (if c then fault L02 0 else (if d then fault L03 0 else piece n (Some (kinds.Number (number_value (take n bytes))))))
number_tells ticked bytes n l true d e f h = malformed n l h e
number_tells ticked bytes n l false true e f h = large n l h e (over (2 ^ 128) (number_value (take n bytes)) f)
number_tells ticked bytes n l false false e f h = (refl, ((h, refl), (e, under (2 ^ 128) (number_value (take n bytes)) f)))

text_tells : (ticked : Bool) (bytes : List ℕ) (n : ℕ) → IsLongest (allowed ticked) bytes n → (c : Bool) (high : Option ℕ) → starts is_quote (drop n bytes) ≡ c → first_high (take n bytes) ≡ high →
    text (take n bytes) ≡ true → Tells ticked bytes n (if c then fault L04 0 else text_end n high)
text_tells ticked bytes n l true high e f h = unended n l h e
text_tells ticked bytes n l false (Some at) e f h = within n at l h e f
text_tells ticked bytes n l false None e f h = (refl, (h, (f, e)))

none_left : (ticked : Bool) → (false || (false || (false || (false || (false || ((if ticked then false else false) || false)))))) ≡ true → ⊥
none_left true h = cc
none_left false h = cc

seven : (ticked : Bool) (bytes : List ℕ) (n : ℕ) → IsLongest (allowed ticked) bytes n → (a b c d e f : Bool) (m : Option Mark) → space (take n bytes) ≡ a → comment (take n bytes) ≡ b → word (take n bytes) ≡ c → number (take n bytes) ≡ d →
    text (take n bytes) ≡ e → character (take n bytes) ≡ f → mark_of (take n bytes) ≡ m → (a || (b || (c || (d || (e || ((if ticked then false else f) || is_some m)))))) ≡ true →
    Tells ticked bytes n (if a then piece n None else (if b then piece n None else (if c then piece n (Some (word_kind (reserved_of (take n bytes)))) else (if d then number_piece n (take n bytes) (drop n bytes)
    else (if e then text_piece n (take n bytes) (drop n bytes) else (if f then piece n (Some kinds.Character) else mark_piece n m))))))
seven ticked bytes n l true b c d e f m ha hb hc hd he hf hm h = (refl, (inl ha, tt))
seven ticked bytes n l false true c d e f m ha hb hc hd he hf hm h = (refl, (inr hb, tt))
seven ticked bytes n l false false true d e f m ha hb hc hd he hf hm h = word_tells ticked bytes n (reserved_of (take n bytes)) refl hc
seven ticked bytes n l false false false true e f m ha hb hc hd he hf hm h = number_tells ticked bytes n l (spoils (take n bytes) (drop n bytes)) (nat_le (2 ^ 128) (number_value (take n bytes))) refl refl hd
seven ticked bytes n l false false false false true f m ha hb hc hd he hf hm h = text_tells ticked bytes n l (starts is_quote (drop n bytes)) (first_high (take n bytes)) refl refl he
seven ticked bytes n l false false false false false true m ha hb hc hd he hf hm h = (refl, (hf, tt))
seven ticked bytes n l false false false false false false (Some mark) ha hb hc hd he hf hm h = (refl, (hm, tt))
seven ticked bytes n l false false false false false false None ha hb hc hd he hf hm h = absurd (none_left ticked h)

pub judged_tells : (ticked : Bool) (bytes : List ℕ) (n : ℕ) → IsLongest (allowed ticked) bytes n → Tells ticked bytes n (judged n (take n bytes) (drop n bytes))
unfolding judged
judged_tells ticked bytes n l =
    let front : List ℕ = take n bytes in
    seven ticked bytes n l (space front) (comment front) (word front) (number front) (text front) (character front) (mark_of front) refl refl refl refl refl refl refl l.passes

-- the other way round, by the kind

eq_is : (a b : ℕ) → nat_eq a b ≡ true → a ≡ b
eq_is a b h = grind (arith, nat_tests)

not_true : (c : Bool) → (c ≡ true → ⊥) → c ≡ false
not_true true h = absurd (h refl)
not_true false h = refl

over_not : (n x : ℕ) → x < n → nat_le n x ≡ false
over_not n x h = grind (arith, nat_tests)

comment_is : (n : ℕ) (front rest : List ℕ) (a b : Bool) (others : Result Piece Fault) → b ≡ true → (if a then piece n None else (if b then piece n None else others)) ≡ piece n None
comment_is n front rest true b others h = refl
comment_is n front rest false true others h = refl
comment_is n front rest false false others h = cc

comment_judged : (n : ℕ) (front rest : List ℕ) → comment front ≡ true → judged n front rest ≡ piece n None
unfolding judged
comment_judged n front rest h = comment_is n front rest (space front) (comment front) _ h

word_judged : (n : ℕ) (front rest : List ℕ) → word front ≡ true → judged n front rest ≡ piece n (Some (word_kind (reserved_of front)))
word_judged n [] rest h = cc
word_judged n (b ∷ s) rest h = judged-word n b s rest (both (is_letter b) (parted 36 false s) h).0 h

first_true : (c x : Bool) → (if c then x else false) ≡ true → c ≡ true
first_true true x h = refl
first_true false x h = cc

number_judged : (n : ℕ) (front rest : List ℕ) → number front ≡ true → judged n front rest ≡ number_piece n front rest
number_judged n [] rest h = cc
number_judged n (b ∷ s) rest h = judged-number n b s rest (first_true (is_digit 10 b) (number_from (10 * 0 + digit_of b) false s) h) h

text_judged : (n : ℕ) (front rest : List ℕ) → text front ≡ true → judged n front rest ≡ text_piece n front rest
text_judged n [] rest h = cc
text_judged n (b ∷ s) rest h = judged-text n b s rest (eq_is b 34 (both (nat_eq b 34) (quoted false s) h).0) h

other_tick : Other 39
unfolding is_white is_letter is_digit digit_of
other_tick = record { white = refl; letter = refl; digit = refl; quote = λ e. omega arith }

tick_other : (b : ℕ) → b ≡ 39 → Other b
tick_other b e = subst Other (sym e) other_tick

character_judged : (n : ℕ) (front rest : List ℕ) → character front ≡ true → judged n front rest ≡ piece n (Some kinds.Character)
character_judged n [] rest h = cc
character_judged n (a ∷ []) rest h = cc
character_judged n (a ∷ b ∷ []) rest h = cc
character_judged n (a ∷ b ∷ c ∷ []) rest h =
    let e : a ≡ 39 = eq_is a 39 (both (nat_eq a 39) (is_printable b) (both (nat_eq a 39 && is_printable b) (nat_eq c 39) h).0).0 in
    judged-other n a (b ∷ c ∷ []) rest (tick_other a e) (comment-not a (b ∷ c ∷ []) (omega arith)) ∙ ap (λ t. if t then piece n (Some kinds.Character) else piece n None) h
character_judged n (a ∷ b ∷ c ∷ d ∷ s) rest h = cc

single_other : (a : ℕ) (mark : Mark) → single a ≡ Some mark → Other a
single_other a mark h = record {
  white = not_true (is_white a) (λ w. let r = white-range a w in let e = low-single a (omega arith) in cc);
  letter = not_true (is_letter a) (λ w. let r = letter-range a w in let e = letter-single a r.0 r.1 in cc);
  digit = not_true (is_digit 10 a) (λ w. let r = digit-range a w in let e = digit-single a r.0 r.1 in cc);
  quote = λ w. let e = low-single a (omega arith) in cc;
}

double_other : (a b : ℕ) (mark : Mark) → double a b ≡ Some mark → Other a
double_other a b mark h = record {
  white = not_true (is_white a) (λ w. let r = white-range a w in let e = low-double a b (omega arith) in cc);
  letter = not_true (is_letter a) (λ w. let r = letter-range a w in let e = letter-double a b (omega (arith, r.0)) in cc);
  digit = not_true (is_digit 10 a) (λ w. let r = digit-range a w in let e = digit-double a b r.0 r.1 in cc);
  quote = λ w. let e = low-double a b (omega arith) in cc;
}

hyphens_none : (a b : ℕ) → (nat_eq a 45 && nat_eq b 45) ≡ true → double a b ≡ None
unfolding double
hyphens_none a b h = grind (arith, nat_tests)

and_true : (c : Bool) → (c && true) ≡ c
and_true true = refl
and_true false = refl

mark_judged : (n : ℕ) (front rest : List ℕ) (mark : Mark) → mark_of front ≡ Some mark → judged n front rest ≡ piece n (Some (kinds.Mark mark))
mark_judged n [] rest mark h = cc
mark_judged n (a ∷ []) rest mark h = judged-other n a [] rest (single_other a mark h) refl ∙ ap (mark_piece n) h
mark_judged n (a ∷ b ∷ []) rest mark h =
    judged-other n a (b ∷ []) rest (double_other a b mark h) (and_true _ ∙ not_true (nat_eq a 45 && nat_eq b 45) (λ w. let e = hyphens_none a b w in cc)) ∙ ap (mark_piece n) h
mark_judged n (a ∷ b ∷ c ∷ s) rest mark h = cc

number_sound : (n v : ℕ) (front rest : List ℕ) → number_value front ≡ v → (spoils front rest ≡ false) × (v < 2 ^ 128) → number_piece n front rest ≡ piece n (Some (kinds.Number v))
number_sound n v front rest e h =
    ap (λ c. if c then fault L02 0 else (if nat_le (2 ^ 128) (number_value front) then fault L03 0 else piece n (Some (kinds.Number (number_value front))))) h.0
    ∙ ap (λ v. if nat_le (2 ^ 128) v then fault L03 0 else piece n (Some (kinds.Number v))) e
    ∙ ap (λ c. if c then fault L03 0 else piece n (Some (kinds.Number v))) (over_not (2 ^ 128) v h.1)

text_sound : (n : ℕ) (front rest : List ℕ) → (first_high front ≡ None) × (starts is_quote rest ≡ false) → text_piece n front rest ≡ piece n (Some kinds.Text)
text_sound n front rest h = ap (λ c. if c then fault L04 0 else text_end n (first_high front)) h.1 ∙ ap (text_end n) h.0

pub judged_of : (n : ℕ) (front rest : List ℕ) (kind : Option TokenKind) → IsOf kind front → IsSound kind front rest → judged n front rest ≡ piece n kind
judged_of n front rest None (inl h) s = judged-space n front rest h
judged_of n front rest None (inr h) s = comment_judged n front rest h
judged_of n front rest (Some kinds.Word) h s = word_judged n front rest h.0 ∙ ap (λ r. piece n (Some (word_kind r))) h.1
judged_of n front rest (Some (kinds.Reserved r)) h s = word_judged n front rest h.0 ∙ ap (λ r. piece n (Some (word_kind r))) h.1
judged_of n front rest (Some (kinds.Number v)) h s = number_judged n front rest h.0 ∙ number_sound n v front rest h.1 s
judged_of n front rest (Some kinds.Text) h s = text_judged n front rest h ∙ text_sound n front rest s
judged_of n front rest (Some kinds.Character) h s = character_judged n front rest h
judged_of n front rest (Some (kinds.Mark mark)) h s = mark_judged n front rest mark h
