-- The piece at the front of what is left, as the code finds it.
use Rattle.std.proofs.Common.{◌≡◌, ℕ, suc, ◌+◌, ◌<◌, ◌≤◌, List, [], ◌∷◌, Bool, true, false, ◌&&◌, if◌then◌else◌, length, take, drop, get_or, None, Some, refl, ap, sym, ◌∙◌, arith, add-one, nat_eq}
use Rattle.std.proofs.lemmas.Bool.Decides.{nat_tests}
use Rattle.std.specs.declared.option.Option.{Option}
use Rattle.ada_lexer.specs.Classes.{is_inner, is_white, is_letter}
use Rattle.ada_lexer.specs.Cut.{piece_at, piece, word_kind, text_end, first_high}
use Rattle.ada_lexer.specs.Runs.{run, parted_len, close, text_made, other, one_mark, two_marks, ticked_byte}
use Rattle.ada_tree.specs.Marks.{single, double}
use Rattle.ada_tree.specs.declared.token.TokenKind.TheVariants as kinds
use Rattle.ada_tree.specs.Words.{reserved_of}
use Rattle.ada_lexer.proofs.Fronts.{at_word, at_space}
use Rattle.ada_lexer.proofs.Texts.{at_text}
use Rattle.ada_lexer.proofs.Others.{Other, at_other, at_other_one, at_comment}

pub word_here : (bytes : List ℕ) → 0 < length bytes → is_letter (get_or bytes 0 0) ≡ true → (ticked : Bool) → piece_at ticked bytes ≡ piece (parted_len 36 (drop 1 bytes) + 1) (Some (word_kind (reserved_of (take (parted_len 36 (drop 1 bytes) + 1) bytes))))
word_here [] h k ticked = absurd (omega arith)
word_here (b ∷ bs) h k ticked = rw add-one (at_word ticked b bs k)

pub space_here : (bytes : List ℕ) → 0 < length bytes → is_white (get_or bytes 0 0) ≡ true → (ticked : Bool) → piece_at ticked bytes ≡ piece (run is_white (drop 1 bytes) + 1) None
space_here [] h k ticked = absurd (omega arith)
space_here (b ∷ bs) h k ticked = rw add-one (at_space ticked b bs k)

pub text_here : (bytes : List ℕ) → 0 < length bytes → get_or bytes 0 0 ≡ 34 → (ticked : Bool) → piece_at ticked bytes ≡ text_made bytes (close false (drop 1 bytes))
text_here [] h k ticked = absurd (omega arith)
text_here (b ∷ bs) h k ticked = at_text ticked b bs k

pub comment_here : (bytes : List ℕ) → 1 < length bytes → get_or bytes 0 0 ≡ 45 → get_or bytes 1 0 ≡ 45 → (ticked : Bool) → piece_at ticked bytes ≡ piece (run is_inner (drop 2 bytes) + 2) None
comment_here [] h k m ticked = absurd (omega arith)
comment_here (b ∷ []) h k m ticked = absurd (omega arith)
comment_here (b ∷ c ∷ bs) h k m ticked =
    let e : run is_inner bs + 2 ≡ suc (suc (run is_inner bs)) = omega arith in
    ap (piece_at ticked) (ap (λ x. x ∷ c ∷ bs) k ∙ ap (λ x. 45 ∷ x ∷ bs) m) ∙ at_comment ticked bs ∙ ap (λ n. piece n None) (sym e)

pub other_here : (bytes : List ℕ) → 0 < length bytes → Other (get_or bytes 0 0) → (1 < length bytes → get_or bytes 0 0 ≡ 45 → get_or bytes 1 0 ≡ 45 → ⊥) → (ticked : Bool) → piece_at ticked bytes ≡ other ticked bytes
other_here [] h o k ticked = absurd (omega arith)
other_here (b ∷ []) h o k ticked = at_other_one ticked b o
other_here (b ∷ c ∷ bs) h o k ticked = at_other ticked b c bs o (record { two = apart b c (k (omega arith)) })
  where
    apart : (b c : ℕ) → (b ≡ 45 → c ≡ 45 → ⊥) → (nat_eq b 45 && nat_eq c 45) ≡ false
    apart b c h = grind (arith, nat_tests)

-- a text that ends
pub text_ends : (bytes : List ℕ) → 0 < length bytes → get_or bytes 0 0 ≡ 34 → (n : ℕ) (high : Option ℕ) → close false (drop 1 bytes) ≡ Some n → first_high (take (n + 1) bytes) ≡ high → (ticked : Bool) → piece_at ticked bytes ≡ text_end (n + 1) high
text_ends bytes h k n high e f ticked = text_here bytes h k ticked ∙ ap (text_made bytes) e ∙ ap (λ m. text_end m (first_high (take m bytes))) (sym (add-one n)) ∙ ap (text_end (n + 1)) f

pub other_long : (ticked : Bool) (bytes : List ℕ) → 2 < length bytes → other ticked bytes ≡ (if ticked_byte ticked (get_or bytes 0 0) (get_or bytes 1 0) (get_or bytes 2 0) then piece 3 (Some kinds.Character) else two_marks (get_or bytes 0 0) (double (get_or bytes 0 0) (get_or bytes 1 0)))
other_long ticked [] h = absurd (omega arith)
other_long ticked (b ∷ []) h = absurd (omega arith)
other_long ticked (b ∷ c ∷ []) h = absurd (omega arith)
other_long ticked (b ∷ c ∷ d ∷ bs) h = refl

pub other_two : (ticked : Bool) (bytes : List ℕ) → 1 < length bytes → length bytes ≤ 2 → other ticked bytes ≡ two_marks (get_or bytes 0 0) (double (get_or bytes 0 0) (get_or bytes 1 0))
other_two ticked [] h k = absurd (omega arith)
other_two ticked (b ∷ []) h k = absurd (omega arith)
other_two ticked (b ∷ c ∷ []) h k = refl
other_two ticked (b ∷ c ∷ d ∷ bs) h k = absurd (omega arith)

pub other_one : (ticked : Bool) (bytes : List ℕ) → 0 < length bytes → length bytes ≤ 1 → other ticked bytes ≡ one_mark (get_or bytes 0 0) (single (get_or bytes 0 0))
other_one ticked [] h k = absurd (omega arith)
other_one ticked (b ∷ []) h k = refl
other_one ticked (b ∷ c ∷ bs) h k = absurd (omega arith)
