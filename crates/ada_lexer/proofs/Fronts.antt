-- The piece at the front, by its first byte.
use Rattle.std.proofs.Common.{◌≡◌, ◌≢◌, ℕ, suc, ◌+◌, ◌*◌, ◌<◌, List, [], ◌∷◌, Bool, true, false, ◌&&◌, ◌||◌, if◌then◌else◌, take, drop, IfSome, None, Some, refl, ap, subst, ◌∙◌, arith, nat_eq}
use Rattle.std.specs.declared.option.Option.{Option}
use Rattle.ada_lexer.specs.Classes.{digit_of, is_digit, is_letter, is_white, is_inner, is_printable}
use Rattle.ada_tree.specs.Marks.{single, double}
use Rattle.ada_lexer.specs.Pieces.{every, space, comment, parted, word, number, number_from, character, quoted, text, mark_of, allowed, longest, one_more, is_some}
use Rattle.ada_lexer.specs.Cut.{piece_at, judged, cut_here, piece, word_kind, number_piece, text_piece}
use Rattle.ada_tree.specs.Words.{reserved_of}
use Rattle.ada_lexer.proofs.Longest.{longest-cong, longest-every, longest-parted}
use Rattle.ada_lexer.specs.Runs.{run, parted_len}
use Rattle.ada_lexer.proofs.Bytes.{letter-range, digit-range, white-range, not-white, not-letter, not-digit, letter-not_digit, digit-not_letter, differs, letter-single, letter-double, digit-single, digit-double, low-single, low-double}

pub space-not : (b : ℕ) (s : List ℕ) → is_white b ≡ false → space (b ∷ s) ≡ false
space-not b s h = ap (λ c. c && every is_white s) h

pub comment-not : (b : ℕ) (s : List ℕ) → b ≢ 45 → comment (b ∷ s) ≡ false
comment-not b [] h = refl
comment-not b (c ∷ cs) h = ap (λ t. (t && nat_eq c 45) && every is_inner cs) (differs b 45 h)

pub word-not : (b : ℕ) (s : List ℕ) → is_letter b ≡ false → word (b ∷ s) ≡ false
word-not b s h = ap (λ c. c && parted 36 false s) h

pub number-not : (b : ℕ) (s : List ℕ) → is_digit 10 b ≡ false → number (b ∷ s) ≡ false
number-not b s h = ap (λ c. if c then number_from (10 * 0 + digit_of b) false s else false) h

pub text-not : (b : ℕ) (s : List ℕ) → b ≢ 34 → text (b ∷ s) ≡ false
text-not b s h = ap (λ t. t && quoted false s) (differs b 34 h)

pub character-not : (b : ℕ) (s : List ℕ) → b ≢ 39 → character (b ∷ s) ≡ false
character-not b [] h = refl
character-not b (c ∷ []) h = refl
character-not b (c ∷ d ∷ []) h = ap (λ t. (t && is_printable c) && nat_eq d 39) (differs b 39 h)
character-not b (c ∷ d ∷ e ∷ s) h = refl

pub ticked-not : (ticked : Bool) (x : Bool) → x ≡ false → (if ticked then false else x) ≡ false
ticked-not true x h = refl
ticked-not false x h = h

pub mark-not : (b : ℕ) (s : List ℕ) → single b ≡ None → ((c : ℕ) → double b c ≡ None) → is_some (mark_of (b ∷ s)) ≡ false
mark-not b [] h k = ap is_some h
mark-not b (c ∷ []) h k = ap is_some (k c)
mark-not b (c ∷ d ∷ s) h k = refl

or-false : (x : Bool) → (x || false) ≡ x
or-false true = refl
or-false false = refl

pub only_space : (s c w n t h m : Bool) → c ≡ false → w ≡ false → n ≡ false → t ≡ false → h ≡ false → m ≡ false → (s || (c || (w || (n || (t || (h || m)))))) ≡ s
only_space s c w n t h m ec ew en et eh em = rw (ec, ew, en, et, eh, em) (or-false s)

pub only_comment : (s c w n t h m : Bool) → s ≡ false → w ≡ false → n ≡ false → t ≡ false → h ≡ false → m ≡ false → (s || (c || (w || (n || (t || (h || m)))))) ≡ c
only_comment s c w n t h m es ew en et eh em = rw (es, ew, en, et, eh, em) (or-false c)

pub only_word : (s c w n t h m : Bool) → s ≡ false → c ≡ false → n ≡ false → t ≡ false → h ≡ false → m ≡ false → (s || (c || (w || (n || (t || (h || m)))))) ≡ w
only_word s c w n t h m es ec en et eh em = rw (es, ec, en, et, eh, em) (or-false w)

pub only_number : (s c w n t h m : Bool) → s ≡ false → c ≡ false → w ≡ false → t ≡ false → h ≡ false → m ≡ false → (s || (c || (w || (n || (t || (h || m)))))) ≡ n
only_number s c w n t h m es ec ew et eh em = rw (es, ec, ew, et, eh, em) (or-false n)

pub only_text : (s c w n t h m : Bool) → s ≡ false → c ≡ false → w ≡ false → n ≡ false → h ≡ false → m ≡ false → (s || (c || (w || (n || (t || (h || m)))))) ≡ t
only_text s c w n t h m es ec ew en eh em = rw (es, ec, ew, en, eh, em) (or-false t)

pub only_tick : (s c w n t h m : Bool) → s ≡ false → c ≡ false → w ≡ false → n ≡ false → t ≡ false → (s || (c || (w || (n || (t || (h || m)))))) ≡ (h || m)
only_tick s c w n t h m es ec ew en et = rw (es, ec, ew, en, et) refl

passes_nil : (test : List ℕ → Bool) (c : Bool) → test [] ≡ c → IfSome (if c then Some 0 else None) (λ n. test (take n []) ≡ true)
passes_nil test true e = e
passes_nil test false e = tt

passes_cons : (test : List ℕ → Bool) (b : ℕ) (bs : List ℕ) (r : Option ℕ) (c : Bool) → test [] ≡ c → IfSome r (λ n. test (b ∷ take n bs) ≡ true) → IfSome (one_more c r) (λ n. test (take n (b ∷ bs)) ≡ true)
passes_cons test b bs (Some n) c e h = h
passes_cons test b bs None true e h = e
passes_cons test b bs None false e h = tt

-- the longest front passes
pub longest-passes : (test : List ℕ → Bool) (bytes : List ℕ) → IfSome (longest test bytes) (λ n. test (take n bytes) ≡ true)
longest-passes test [] = passes_nil test (test []) refl
longest-passes test (b ∷ bs) = passes_cons test b bs (longest (λ s. test (b ∷ s)) bs) (test []) refl (longest-passes (λ s. test (b ∷ s)) bs)

pub passes_at : (test : List ℕ → Bool) (bytes : List ℕ) (n : ℕ) → longest test bytes ≡ Some n → test (take n bytes) ≡ true
passes_at test bytes n h = let P : Option ℕ → Type 0 = λ r. IfSome r (λ n. test (take n bytes) ≡ true) in subst P h (longest-passes test bytes)

-- a letter at the front
pub allowed-word : (ticked : Bool) (b : ℕ) (s : List ℕ) → is_letter b ≡ true → allowed ticked (b ∷ s) ≡ word (b ∷ s)
allowed-word ticked b s h =
    let r : (64 < b) × (b < 123) = letter-range b h in
    only_word (space (b ∷ s)) (comment (b ∷ s)) (word (b ∷ s)) (number (b ∷ s)) (text (b ∷ s)) (if ticked then false else character (b ∷ s)) (is_some (mark_of (b ∷ s)))
    (space-not b s (not-white b (omega arith))) (comment-not b s (omega arith)) (number-not b s (letter-not_digit b h)) (text-not b s (omega arith))
    (ticked-not ticked _ (character-not b s (omega arith))) (mark-not b s (letter-single b (omega arith) (omega arith)) (λ c. letter-double b c (omega arith)))

pub allowed-number : (ticked : Bool) (b : ℕ) (s : List ℕ) → is_digit 10 b ≡ true → allowed ticked (b ∷ s) ≡ number (b ∷ s)
allowed-number ticked b s h =
    let r : (47 < b) × (b < 58) = digit-range b h in
    only_number (space (b ∷ s)) (comment (b ∷ s)) (word (b ∷ s)) (number (b ∷ s)) (text (b ∷ s)) (if ticked then false else character (b ∷ s)) (is_some (mark_of (b ∷ s)))
    (space-not b s (not-white b (omega arith))) (comment-not b s (omega arith)) (word-not b s (digit-not_letter b h)) (text-not b s (omega arith))
    (ticked-not ticked _ (character-not b s (omega arith))) (mark-not b s (digit-single b (omega arith) (omega arith)) (λ c. digit-double b c (omega arith) (omega arith)))

pub allowed-space : (ticked : Bool) (b : ℕ) (s : List ℕ) → is_white b ≡ true → allowed ticked (b ∷ s) ≡ space (b ∷ s)
allowed-space ticked b s h =
    let r : b < 33 = white-range b h in
    only_space (space (b ∷ s)) (comment (b ∷ s)) (word (b ∷ s)) (number (b ∷ s)) (text (b ∷ s)) (if ticked then false else character (b ∷ s)) (is_some (mark_of (b ∷ s)))
    (comment-not b s (omega arith)) (word-not b s (not-letter b (omega arith))) (number-not b s (not-digit b (omega arith))) (text-not b s (omega arith))
    (ticked-not ticked _ (character-not b s (omega arith))) (mark-not b s (low-single b (omega arith)) (λ c. low-double b c (omega arith)))

pub allowed-text : (ticked : Bool) (b : ℕ) (s : List ℕ) → b ≡ 34 → allowed ticked (b ∷ s) ≡ text (b ∷ s)
allowed-text ticked b s h =
    only_text (space (b ∷ s)) (comment (b ∷ s)) (word (b ∷ s)) (number (b ∷ s)) (text (b ∷ s)) (if ticked then false else character (b ∷ s)) (is_some (mark_of (b ∷ s)))
    (space-not b s (not-white b (omega arith))) (comment-not b s (omega arith)) (word-not b s (not-letter b (omega arith))) (number-not b s (not-digit b (omega arith)))
    (ticked-not ticked _ (character-not b s (omega arith))) (mark-not b s (low-single b (omega arith)) (λ c. low-double b c (omega arith)))

-- neither white space nor a letter, a digit or a quote
pub allowed-tick : (ticked : Bool) (b : ℕ) (s : List ℕ) → is_white b ≡ false → is_letter b ≡ false → is_digit 10 b ≡ false → b ≢ 34 → comment (b ∷ s) ≡ false →
    allowed ticked (b ∷ s) ≡ ((if ticked then false else character (b ∷ s)) || is_some (mark_of (b ∷ s)))
allowed-tick ticked b s hw hl hd hq hc =
    only_tick (space (b ∷ s)) (comment (b ∷ s)) (word (b ∷ s)) (number (b ∷ s)) (text (b ∷ s)) (if ticked then false else character (b ∷ s)) (is_some (mark_of (b ∷ s)))
    (space-not b s hw) hc (word-not b s hl) (number-not b s hd) (text-not b s hq)

-- what judging makes of a front that begins so
pub judged-space : (n : ℕ) (front rest : List ℕ) → space front ≡ true → judged n front rest ≡ piece n None
unfolding judged
judged-space n front rest h = rw h refl

pub judged-comment : (n : ℕ) (b : ℕ) (s rest : List ℕ) → is_white b ≡ false → comment (b ∷ s) ≡ true → judged n (b ∷ s) rest ≡ piece n None
unfolding judged
judged-comment n b s rest h k = rw (space-not b s h, k) refl

pub judged-word : (n : ℕ) (b : ℕ) (s rest : List ℕ) → is_letter b ≡ true → word (b ∷ s) ≡ true → judged n (b ∷ s) rest ≡ piece n (Some (word_kind (reserved_of (b ∷ s))))
unfolding judged
judged-word n b s rest h k =
    let r : (64 < b) × (b < 123) = letter-range b h in
    rw (space-not b s (not-white b (omega arith)), comment-not b s (omega arith), k) refl

pub judged-number : (n : ℕ) (b : ℕ) (s rest : List ℕ) → is_digit 10 b ≡ true → number (b ∷ s) ≡ true → judged n (b ∷ s) rest ≡ number_piece n (b ∷ s) rest
unfolding judged
judged-number n b s rest h k =
    let r : (47 < b) × (b < 58) = digit-range b h in
    rw (space-not b s (not-white b (omega arith)), comment-not b s (omega arith), word-not b s (digit-not_letter b h), k) refl

pub judged-text : (n : ℕ) (b : ℕ) (s rest : List ℕ) → b ≡ 34 → text (b ∷ s) ≡ true → judged n (b ∷ s) rest ≡ text_piece n (b ∷ s) rest
unfolding judged
judged-text n b s rest h k =
    rw (space-not b s (not-white b (omega arith)), comment-not b s (omega arith), word-not b s (not-letter b (omega arith)), number-not b s (not-digit b (omega arith)), k) refl

pub allowed-nil : (ticked : Bool) → allowed ticked [] ≡ false
allowed-nil true = refl
allowed-nil false = refl

-- the longest piece, by what may stand after its first byte
pub longest-after : (ticked : Bool) (b : ℕ) (bs : List ℕ) (q : List ℕ → Bool) (r : Option ℕ) → ((s : List ℕ) → allowed ticked (b ∷ s) ≡ q s) → longest q bs ≡ r → longest (allowed ticked) (b ∷ bs) ≡ one_more false r
longest-after ticked b bs q r h k =
    ap (λ c. one_more c (longest (λ s. allowed ticked (b ∷ s)) bs)) (allowed-nil ticked) ∙ ap (one_more false) (longest-cong (λ s. allowed ticked (b ∷ s)) q bs h ∙ k)

-- the words and numbers at the front of a source
pub at_word : (ticked : Bool) (b : ℕ) (bs : List ℕ) → is_letter b ≡ true → piece_at ticked (b ∷ bs) ≡ piece (suc (parted_len 36 bs)) (Some (word_kind (reserved_of (b ∷ take (parted_len 36 bs) bs))))
unfolding piece_at
at_word ticked b bs h =
    let e : longest (allowed ticked) (b ∷ bs) ≡ Some (suc (parted_len 36 bs)) = longest-after ticked b bs (λ s. parted 36 false s) (Some _) (λ s. allowed-word ticked b s h ∙ ap (λ c. c && parted 36 false s) h) ((longest-parted 36 bs).0) in
    let k : word (b ∷ take (parted_len 36 bs) bs) ≡ true = ap (λ c. c && parted 36 false (take (parted_len 36 bs) bs)) h ∙ passes_at (parted 36 false) bs (parted_len 36 bs) (longest-parted 36 bs).0 in
    ap (cut_here (b ∷ bs)) e ∙ judged-word (suc (parted_len 36 bs)) b (take (parted_len 36 bs) bs) (drop (parted_len 36 bs) bs) h k

pub at_space : (ticked : Bool) (b : ℕ) (bs : List ℕ) → is_white b ≡ true → piece_at ticked (b ∷ bs) ≡ piece (suc (run is_white bs)) None
unfolding piece_at
at_space ticked b bs h =
    let n : ℕ = run is_white bs in
    let e : longest (allowed ticked) (b ∷ bs) ≡ Some (suc n) = longest-after ticked b bs (every is_white) (Some _) (λ s. allowed-space ticked b s h ∙ ap (λ c. c && every is_white s) h) (longest-every is_white bs) in
    let k : space (b ∷ take n bs) ≡ true = ap (λ c. c && every is_white (take n bs)) h ∙ passes_at (every is_white) bs n (longest-every is_white bs) in
    ap (cut_here (b ∷ bs)) e ∙ judged-space (suc n) (b ∷ take n bs) (drop n bs) k
