-- A comment, a character or a mark at the front.
use Rattle.std.proofs.Common.{◌≡◌, ◌≢◌, ℕ, suc, List, [], ◌∷◌, Bool, true, false, ◌&&◌, ◌||◌, if◌then◌else◌, take, drop, None, Some, refl, ap, sym, ◌∙◌, arith, nat_eq}
use Rattle.std.specs.declared.option.Option.{Option}
use Rattle.ada_lexer.specs.Classes.{is_inner, is_white, is_letter, is_digit, is_printable}
use Rattle.ada_tree.specs.Marks.{single, double}
use Rattle.ada_lexer.specs.Pieces.{allowed, longest, space, word, number, text, one_more, character, comment, mark_of, is_some, every}
use Rattle.ada_lexer.specs.Cut.{piece_at, judged, cut_here, piece, mark_piece}
use Rattle.ada_lexer.specs.Runs.{run, other, one_mark, two_marks, ticked_byte}
use Rattle.ada_tree.specs.declared.token.Mark.{Mark}
use Rattle.ada_tree.specs.declared.token.TokenKind.TheVariants as kinds
use Rattle.ada_lexer.proofs.Longest.{longest-none, longest-cong, longest-every}
use Rattle.ada_lexer.proofs.Bytes.{not-letter, not-digit}
use Rattle.ada_lexer.proofs.Fronts.{allowed-nil, allowed-tick, passes_at, space-not, word-not, number-not, text-not, character-not, judged-comment, ticked-not, only_comment}

-- a byte that is neither white space nor a letter, a digit or a quote
pub record Other (b : ℕ) : Type 0 where
  pub white : is_white b ≡ false
  pub letter : is_letter b ≡ false
  pub digit : is_digit 10 b ≡ false
  pub quote : b ≢ 34

abbrev shown : Bool → List ℕ → Bool
shown ticked s = (if ticked then false else character s) || is_some (mark_of s)

others : (ticked : Bool) (b : ℕ) (s : List ℕ) → Other b → comment (b ∷ s) ≡ false → allowed ticked (b ∷ s) ≡ shown ticked (b ∷ s)
others ticked b s o h = allowed-tick ticked b s o.white o.letter o.digit o.quote h

-- two bytes that are no comment's beginning
pub record Apart (b c : ℕ) : Type 0 where
  pub two : (nat_eq b 45 && nat_eq c 45) ≡ false

no_comment : (b c : ℕ) (s : List ℕ) → Apart b c → comment (b ∷ c ∷ s) ≡ false
no_comment b c s a = ap (λ t. t && every is_inner s) a.two

-- what judging makes of marks and characters
pub judged-other : (n : ℕ) (b : ℕ) (s rest : List ℕ) → Other b → comment (b ∷ s) ≡ false →
    judged n (b ∷ s) rest ≡ (if character (b ∷ s) then piece n (Some kinds.Character) else mark_piece n (mark_of (b ∷ s)))
unfolding judged
judged-other n b s rest o h = rw (space-not b s o.white, h, word-not b s o.letter, number-not b s o.digit, text-not b s o.quote) refl

-- one byte, by the mark that it is
one_here : (b : ℕ) (bs : List ℕ) (m : Option Mark) → Other b → single b ≡ m → cut_here (b ∷ bs) (one_more false (one_more (is_some m) None)) ≡ one_mark b m
one_here b bs None o e = refl
one_here b bs (Some mark) o e = judged-other 1 b [] bs o refl ∙ ap (mark_piece 1) e

two_here : (b c : ℕ) (bs : List ℕ) (m n : Option Mark) → Other b → Apart b c → single b ≡ n → double b c ≡ m → cut_here (b ∷ c ∷ bs) (one_more false (one_more (is_some n) (one_more (is_some m) None))) ≡ two_marks b m
two_here b c bs None n o a f e = one_here b (c ∷ bs) n o f ∙ ap (one_mark b) (sym f)
two_here b c bs (Some mark) n o a f e = judged-other 2 b (c ∷ []) bs o (no_comment b c [] a) ∙ ap (mark_piece 2) e

three_here : (b c d : ℕ) (bs : List ℕ) (m n : Option Mark) (t ticked : Bool) → Other b → Apart b c → single b ≡ n → double b c ≡ m → ticked_byte ticked b c d ≡ t →
    cut_here (b ∷ c ∷ d ∷ bs) (one_more false (one_more (is_some n) (one_more (is_some m) (one_more t None)))) ≡ (if t then piece 3 (Some kinds.Character) else two_marks b m)
three_here b c d bs m n false ticked o a f e k = two_here b c (d ∷ bs) m n o a f e
three_here b c d bs m n true ticked o a f e k =
    judged-other 3 b (c ∷ d ∷ []) bs o (no_comment b c (d ∷ []) a) ∙ ap (λ t. if t then piece 3 (Some kinds.Character) else piece 3 None) (is_character ticked k)
  where
    is_character : (ticked : Bool) → ticked_byte ticked b c d ≡ true → character (b ∷ c ∷ d ∷ []) ≡ true
    is_character true k = cc
    is_character false k = k

-- no test of two and three bytes passes with more
last_shown : (ticked : Bool) (b c d : ℕ) (s : List ℕ) → shown ticked (b ∷ c ∷ d ∷ s) ≡ (elim s [ [] ↦ ticked_byte ticked b c d | _ ∷ _ ↦ false ])
last_shown true b c d [] = refl
last_shown true b c d (e ∷ s) = refl
last_shown false b c d [] = elim ((nat_eq b 39 && is_printable c) && nat_eq d 39) as (λ t. (t || false) ≡ t) [ true ↦ refl | false ↦ refl ]
last_shown false b c d (e ∷ s) = refl

last_longest : (ticked : Bool) (b c d : ℕ) (bs : List ℕ) → longest (λ s. shown ticked (b ∷ c ∷ d ∷ s)) bs ≡ one_more (ticked_byte ticked b c d) None
last_longest ticked b c d [] = ap (λ t. if t then Some 0 else None) (last_shown ticked b c d []) ∙ (elim (ticked_byte ticked b c d) as (λ t. (if t then Some 0 else None) ≡ one_more t None) [ true ↦ refl | false ↦ refl ])
last_longest ticked b c d (e ∷ bs) =
    ap (λ t. one_more t (longest (λ s. shown ticked (b ∷ c ∷ d ∷ e ∷ s)) bs)) (last_shown ticked b c d [])
    ∙ ap (one_more (ticked_byte ticked b c d)) (longest-cong (λ s. shown ticked (b ∷ c ∷ d ∷ e ∷ s)) (λ s. false) bs (λ s. last_shown ticked b c d (e ∷ s)) ∙ longest-none bs)

shown-two : (ticked : Bool) (b c : ℕ) → shown ticked (b ∷ c ∷ []) ≡ is_some (double b c)
shown-two true b c = refl
shown-two false b c = refl

shown-one : (ticked : Bool) (b : ℕ) → shown ticked (b ∷ []) ≡ is_some (single b)
shown-one true b = refl
shown-one false b = refl

none-if : (t : Bool) → (if t then Some 0 else None) ≡ one_more t None
none-if true = refl
none-if false = refl

pub at_other_one : (ticked : Bool) (b : ℕ) → Other b → piece_at ticked (b ∷ []) ≡ other ticked (b ∷ [])
unfolding piece_at
at_other_one ticked b o =
    ap (cut_here (b ∷ [])) (ap (λ c. one_more c (if allowed ticked (b ∷ []) then Some 0 else None)) (allowed-nil ticked)
    ∙ ap (λ t. one_more false (if t then Some 0 else None)) (others ticked b [] o refl ∙ shown-one ticked b) ∙ ap (one_more false) (none-if (is_some (single b))))
    ∙ one_here b [] (single b) o refl

pub longest-two : (ticked : Bool) (b c : ℕ) (bs : List ℕ) → Other b → Apart b c → longest (allowed ticked) (b ∷ c ∷ bs) ≡ one_more false (one_more (is_some (single b)) (longest (λ s. shown ticked (b ∷ c ∷ s)) bs))
longest-two ticked b c bs o a =
    ap (λ e. one_more e (one_more (allowed ticked (b ∷ [])) (longest (λ s. allowed ticked (b ∷ c ∷ s)) bs))) (allowed-nil ticked)
    ∙ ap (λ e. one_more false (one_more e (longest (λ s. allowed ticked (b ∷ c ∷ s)) bs))) (others ticked b [] o refl ∙ shown-one ticked b)
    ∙ ap (λ r. one_more false (one_more (is_some (single b)) r)) (longest-cong (λ s. allowed ticked (b ∷ c ∷ s)) (λ s. shown ticked (b ∷ c ∷ s)) bs (λ s. others ticked b (c ∷ s) o (no_comment b c s a)))

pub at_other : (ticked : Bool) (b c : ℕ) (bs : List ℕ) → Other b → Apart b c → piece_at ticked (b ∷ c ∷ bs) ≡ other ticked (b ∷ c ∷ bs)
unfolding piece_at
at_other ticked b c [] o a =
    ap (cut_here (b ∷ c ∷ [])) (longest-two ticked b c [] o a ∙ ap (λ r. one_more false (one_more (is_some (single b)) r)) (ap (λ t. if t then Some 0 else None) (shown-two ticked b c) ∙ none-if (is_some (double b c))))
    ∙ two_here b c [] (double b c) (single b) o a refl refl
at_other ticked b c (d ∷ bs) o a =
    ap (cut_here (b ∷ c ∷ d ∷ bs)) (longest-two ticked b c (d ∷ bs) o a ∙ ap (λ r. one_more false (one_more (is_some (single b)) r))
    (ap (λ t. one_more t (longest (λ s. shown ticked (b ∷ c ∷ d ∷ s)) bs)) (shown-two ticked b c) ∙ ap (one_more (is_some (double b c))) (last_longest ticked b c d bs)))
    ∙ three_here b c d bs (double b c) (single b) (ticked_byte ticked b c d) ticked o a refl refl refl

comment-mark : (s : List ℕ) → is_some (mark_of (45 ∷ 45 ∷ s)) ≡ false
unfolding double
comment-mark [] = refl
comment-mark (c ∷ s) = refl

allowed-comment : (ticked : Bool) (s : List ℕ) → allowed ticked (45 ∷ 45 ∷ s) ≡ every is_inner s
unfolding is_white
allowed-comment ticked s =
    only_comment (space (45 ∷ 45 ∷ s)) (comment (45 ∷ 45 ∷ s)) (word (45 ∷ 45 ∷ s)) (number (45 ∷ 45 ∷ s)) (text (45 ∷ 45 ∷ s)) (if ticked then false else character (45 ∷ 45 ∷ s)) (is_some (mark_of (45 ∷ 45 ∷ s)))
    refl (word-not 45 (45 ∷ s) (not-letter 45 (omega arith))) (number-not 45 (45 ∷ s) (not-digit 45 (omega arith))) (text-not 45 (45 ∷ s) (omega arith))
    (ticked-not ticked _ (character-not 45 (45 ∷ s) (omega arith))) (comment-mark s)

pub at_comment : (ticked : Bool) (bs : List ℕ) → piece_at ticked (45 ∷ 45 ∷ bs) ≡ piece (suc (suc (run is_inner bs))) None
unfolding piece_at is_white
at_comment ticked bs =
    let n : ℕ = run is_inner bs in
    let e : longest (λ s. allowed ticked (45 ∷ 45 ∷ s)) bs ≡ Some n = longest-cong (λ s. allowed ticked (45 ∷ 45 ∷ s)) (every is_inner) bs (λ s. allowed-comment ticked s) ∙ longest-every is_inner bs in
    ap (cut_here (45 ∷ 45 ∷ bs)) (ap (λ r. one_more (allowed ticked []) (one_more (allowed ticked (45 ∷ [])) r)) e)
    ∙ judged-comment (suc (suc n)) 45 (45 ∷ take n bs) (drop n bs) refl (passes_at (every is_inner) bs n (longest-every is_inner bs))
