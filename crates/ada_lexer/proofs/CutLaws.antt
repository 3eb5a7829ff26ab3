-- A source is its pieces joined, and its tokens are theirs.
use Rattle.std.proofs.Common.{◌≡◌, ℕ, zero, suc, ◌+◌, ◌<◌, ◌≤◌, List, [], ◌∷◌, ◌++◌, Bool, true, false, if◌then◌else◌, length, take, drop, None, Some, Ok, Err, Result, refl, ap, sym, subst, ◌∙◌, arith, nat_lt, length-append, length-drop}
use Rattle.std.specs.declared.option.Option.{Option}
use Rattle.std.proofs.lemmas.Bool.Decides.{nat_tests}
use Rattle.std.proofs.lemmas.List.{take-append-drop, length-take-le}
use Rattle.std.proofs.Math.Seq.{take-append_seam, drop-append_seam}
use Rattle.ada_lexer.specs.Pieces.{allowed, longest}
use Rattle.ada_lexer.specs.Cut.{piece_at, judged, cut_here, cut_from, span, token, token_of, after_tokens, place, ticks, lexed, fault, piece, is_high}
use Rattle.ada_lexer.specs.Laws.{IsLongest, NonePasses}
use Rattle.ada_lexer.specs.Joined.{SourcePiece, IsPiece, ArePieces, IsCut, IsWrong, IsRefused, joined, tokens_of, ticked_behind, outside, unknown}
use Rattle.spark_base.specs.declared.numbers.FileNo.{FileNo}
use Rattle.ada_tree.specs.declared.token.Token.{Token}
use Rattle.ada_tree.specs.declared.token.TokenKind.{TokenKind}
use Rattle.spark_messages.specs.declared.messages.Code.TheVariants.{L01, L04, X01}
use Rattle.ada_lexer.specs.declared.lexing.TheConstants.{LIMIT}
use Rattle.ada_lexer.specs.declared.piece.Fault.{Fault}
use Rattle.ada_lexer.specs.declared.piece.Piece.{Piece}
use Rattle.ada_lexer.specs.declared.refusal.Refusal.{Refusal}
use Rattle.ada_lexer.proofs.Fronts.{allowed-nil}
use Rattle.ada_lexer.proofs.LongestLaws.{longest_is, longest_none}
use Rattle.ada_lexer.proofs.JudgedLaws.{Tells, judged_tells, judged_of}
use Rattle.ada_lexer.proofs.Cuts.{here_ok, here_err}

-- one front alone is the longest
one_longest : (test : List ℕ → Bool) (bytes : List ℕ) (n m : ℕ) → IsLongest test bytes n → IsLongest test bytes m → n < m → ⊥
one_longest test bytes n m h k l = let e = h.longer m l k.within in let f = k.passes in cc

two : (n m : ℕ) → (n < m → ⊥) → (m < n → ⊥) → m ≡ n
two n m h k = omega arith

pub longest_only : (test : List ℕ → Bool) (bytes : List ℕ) (n : ℕ) → IsLongest test bytes n → longest test bytes ≡ Some n
longest_only test bytes n h = only (longest test bytes) refl
  where
    only : (r : Option ℕ) → longest test bytes ≡ r → r ≡ Some n
    only None e = let f = (longest_none test bytes e).fails n h.within in let g = h.passes in cc
    only (Some m) e = let k = longest_is test bytes m e in ap Some (two n m (one_longest test bytes n m h k) (one_longest test bytes m n k h))

-- the piece at the front, by its bytes and those behind it

abbrev Front : Bool → List ℕ → Piece → Type 0
Front ticked bytes p = IsPiece ticked (record { bytes = take p.len bytes; kind = p.kind }) (drop p.len bytes)

longest_here : (test : List ℕ → Bool) (bytes : List ℕ) (n : ℕ) → IsLongest test bytes n → IsLongest test (take n bytes ++ drop n bytes) (length (take n bytes))
longest_here test bytes n h = rw (take-append-drop n bytes, length-take-le n bytes h.within) h

-- what stands at the front is a piece, or wrong
abbrev Told : Bool → List ℕ → Result Piece Fault → Type 0
Told ticked bytes (Ok p) = (p.len ≤ length bytes) × Front ticked bytes p
Told ticked bytes (Err f) = IsWrong ticked bytes f.code f.at

nothing_told : (ticked : Bool) (b : ℕ) (bs : List ℕ) (c : Bool) → NonePasses (allowed ticked) (b ∷ bs) → is_high b ≡ c → Told ticked (b ∷ bs) (if c then fault L01 0 else fault L04 0)
nothing_told ticked b bs true h e = outside h e
nothing_told ticked b bs false h e = unknown h (ap (λ c. if c then false else true) e)

longest_told : (ticked : Bool) (bytes : List ℕ) (n : ℕ) (r : Result Piece Fault) → IsLongest (allowed ticked) bytes n → Tells ticked bytes n r → Told ticked bytes r
longest_told ticked bytes n (Err f) l t = t
longest_told ticked bytes n (Ok p) l t =
    subst (λ (m : ℕ). (m ≤ length bytes) × IsPiece ticked (record { bytes = take m bytes; kind = p.kind }) (drop m bytes)) (sym t.0)
    (l.within, record { longest = longest_here (allowed ticked) bytes n l; kind = t.1.0; sound = t.1.1 })

cut_told : (ticked : Bool) (b : ℕ) (bs : List ℕ) (r : Option ℕ) → longest (allowed ticked) (b ∷ bs) ≡ r → Told ticked (b ∷ bs) (cut_here (b ∷ bs) r)
cut_told ticked b bs None e = nothing_told ticked b bs (is_high b) (longest_none (allowed ticked) (b ∷ bs) e) refl
cut_told ticked b bs (Some n) e =
    let l = longest_is (allowed ticked) (b ∷ bs) n e in
    longest_told ticked (b ∷ bs) n (judged n (take n (b ∷ bs)) (drop n (b ∷ bs))) l (judged_tells ticked (b ∷ bs) n l)

here_told : (ticked : Bool) (b : ℕ) (bs : List ℕ) → Told ticked (b ∷ bs) (piece_at ticked (b ∷ bs))
unfolding piece_at
here_told ticked b bs = cut_told ticked b bs (longest (allowed ticked) (b ∷ bs)) refl

pub is_front : (ticked : Bool) (p : SourcePiece) (behind : List ℕ) → IsPiece ticked p behind → piece_at ticked (p.bytes ++ behind) ≡ piece (length p.bytes) p.kind
unfolding piece_at
is_front ticked p behind h =
    ap (cut_here (p.bytes ++ behind)) (longest_only (allowed ticked) (p.bytes ++ behind) (length p.bytes) h.longest)
    ∙ ap (λ front. judged (length p.bytes) front (drop (length p.bytes) (p.bytes ++ behind))) (take-append_seam p.bytes behind)
    ∙ ap (judged (length p.bytes) p.bytes) (drop-append_seam p.bytes behind) ∙ judged_of (length p.bytes) p.bytes behind p.kind h.kind h.sound

-- a piece has a byte
pub some_bytes : (ticked : Bool) (p : SourcePiece) (behind : List ℕ) → IsPiece ticked p behind → 0 < length p.bytes
some_bytes ticked p behind h = some (length p.bytes) h.longest.passes
  where
    some : (n : ℕ) → allowed ticked (take n (p.bytes ++ behind)) ≡ true → 0 < n
    some zero e = let f = allowed-nil ticked in cc
    some (suc n) e = omega arith

-- the pieces from one byte of a source on

pub record IsCutFrom (file : FileNo) (source : List ℕ) (at : ℕ) (ticked : Bool) (bytes : List ℕ) (tokens : List Token) : Type 0 where
  pub pieces : List SourcePiece
  pub whole : joined pieces [] ≡ bytes
  pub each : ArePieces ticked pieces []
  pub theirs : tokens ≡ tokens_of file source at pieces

pub record IsRefusedFrom (source : List ℕ) (begin : ℕ) (ticked : Bool) (bytes : List ℕ) (r : Refusal) : Type 0 where
  pub pieces : List SourcePiece
  pub behind : List ℕ
  pub whole : joined pieces behind ≡ bytes
  pub each : ArePieces ticked pieces behind
  pub at : ℕ
  pub wrong : IsWrong (ticked_behind ticked pieces) behind r.code at
  pub stands : r.place ≡ place source (begin + length (joined pieces []) + at)

abbrev CutFrom : FileNo → List ℕ → ℕ → Bool → List ℕ → Result (List Token) Refusal → Type 0
CutFrom file source at ticked bytes (Ok ts) = IsCutFrom file source at ticked bytes ts
CutFrom file source at ticked bytes (Err r) = IsRefusedFrom source at ticked bytes r

-- the tokens of pieces, by that of the first
pub first_token : (file : FileNo) (source : List ℕ) (at n : ℕ) (bytes : List ℕ) (kind : Option TokenKind) (ps : List SourcePiece) → length bytes ≡ n →
    token_of (span file source at (at + n)) at n kind ++ tokens_of file source (at + n) ps ≡ tokens_of file source at (record { bytes = bytes; kind = kind } ∷ ps)
first_token file source at n bytes None ps e = ap (λ n. tokens_of file source (at + n) ps) (sym e)
first_token file source at n bytes (Some kind) ps e = ap (λ n. token (span file source at (at + n)) at n kind ∷ tokens_of file source (at + n) ps) (sym e)

add_piece : (file : FileNo) (source : List ℕ) (at : ℕ) (ticked : Bool) (bytes : List ℕ) (p : Piece) (r : Result (List Token) Refusal) → p.len ≤ length bytes → Front ticked bytes p →
    CutFrom file source (at + p.len) (ticks ticked p.kind) (drop p.len bytes) r → CutFrom file source at ticked bytes (after_tokens (token_of (span file source at (at + p.len)) at p.len p.kind) r)
add_piece file source at ticked bytes p (Err r) w h k =
    let q : SourcePiece = record { bytes = take p.len bytes; kind = p.kind } in
    let n : length (take p.len bytes ++ joined k.pieces []) ≡ p.len + length (joined k.pieces []) =
    length-append (take p.len bytes) (joined k.pieces []) ∙ ap (λ m. m + length (joined k.pieces [])) (length-take-le p.len bytes w) in
    record {
      pieces = q ∷ k.pieces;
      behind = k.behind;
      whole = ap (λ xs. take p.len bytes ++ xs) k.whole ∙ take-append-drop p.len bytes;
      each = (subst (λ (xs : List ℕ). IsPiece ticked q xs) (sym k.whole) h, k.each);
      at = k.at;
      wrong = k.wrong;
      stands = k.stands ∙ ap (place source) (omega arith);
    }
add_piece file source at ticked bytes p (Ok ts) w h k =
    let q : SourcePiece = record { bytes = take p.len bytes; kind = p.kind } in
    record {
      pieces = q ∷ k.pieces;
      whole = ap (λ xs. take p.len bytes ++ xs) k.whole ∙ take-append-drop p.len bytes;
      each = (subst (λ (xs : List ℕ). IsPiece ticked q xs) (sym k.whole) h, k.each);
      theirs = ap (λ us. token_of (span file source at (at + p.len)) at p.len p.kind ++ us) k.theirs
          ∙ first_token file source at p.len (take p.len bytes) p.kind k.pieces (length-take-le p.len bytes w);
    }

-- what stands from here on, by the piece at its front, where fewer bytes are known to be pieces
piece_first : (file : FileNo) (source : List ℕ) (n at : ℕ) (ticked : Bool) (x : ℕ) (xs : List ℕ) → length (x ∷ xs) ≤ suc n →
    ((at' : ℕ) (ticked' : Bool) (bytes : List ℕ) → length bytes ≤ n → CutFrom file source at' ticked' bytes (cut_from file source at' 0 ticked' bytes)) →
    (r : Result Piece Fault) → piece_at ticked (x ∷ xs) ≡ r → CutFrom file source at ticked (x ∷ xs) (cut_from file source at 0 ticked (x ∷ xs))
piece_first file source n at ticked x xs h k (Err f) e =
    let z : at + f.at ≡ at + 0 + f.at = omega arith in
    subst (CutFrom file source at ticked (x ∷ xs)) (sym (here_err file source at ticked (x ∷ xs) f (omega arith) e))
    (record { pieces = []; behind = x ∷ xs; whole = refl; each = tt; at = f.at; wrong = subst (Told ticked (x ∷ xs)) e (here_told ticked x xs); stands = ap (place source) z })
piece_first file source n at ticked x xs h k (Ok p) e =
    let is = subst (Told ticked (x ∷ xs)) e (here_told ticked x xs) in
    let some : 0 < p.len = omega (arith, some_bytes ticked _ _ is.1, length-take-le p.len (x ∷ xs) is.0) in
    subst (CutFrom file source at ticked (x ∷ xs)) (sym (here_ok file source at ticked (x ∷ xs) p (omega arith) e some))
    (add_piece file source at ticked (x ∷ xs) p _ is.0 is.1 (k (at + p.len) (ticks ticked p.kind) (drop p.len (x ∷ xs)) (omega (arith, length-drop p.len (x ∷ xs)))))

cut_pieces : (file : FileNo) (source : List ℕ) (n at : ℕ) (ticked : Bool) (bytes : List ℕ) → length bytes ≤ n → CutFrom file source at ticked bytes (cut_from file source at 0 ticked bytes)
cut_pieces file source n at ticked [] h = record { pieces = []; whole = refl; each = tt; theirs = refl }
cut_pieces file source zero at ticked (x ∷ xs) h = absurd (omega arith)
cut_pieces file source (suc n) at ticked (x ∷ xs) h =
    piece_first file source n at ticked x xs h (λ at' ticked' bytes k. cut_pieces file source n at' ticked' bytes k) (piece_at ticked (x ∷ xs)) refl

pieces_cut : (file : FileNo) (source : List ℕ) (at : ℕ) (ticked : Bool) (ps : List SourcePiece) → ArePieces ticked ps [] → cut_from file source at 0 ticked (joined ps []) ≡ Ok (tokens_of file source at ps)
pieces_cut file source at ticked [] h = refl
pieces_cut file source at ticked (p ∷ ps) h =
    let some : 0 < length p.bytes = some_bytes ticked p (joined ps []) h.0 in
    let ts : List Token = token_of (span file source at (at + length p.bytes)) at (length p.bytes) p.kind in
    here_ok file source at ticked (p.bytes ++ joined ps []) (record { len = length p.bytes; kind = p.kind }) (omega (arith, some, length-append p.bytes (joined ps []))) (is_front ticked p (joined ps []) h.0) some
    ∙ ap (λ xs. after_tokens ts (cut_from file source (at + length p.bytes) 0 (ticks ticked p.kind) xs)) (drop-append_seam p.bytes (joined ps []))
    ∙ ap (after_tokens ts) (pieces_cut file source (at + length p.bytes) (ticks ticked p.kind) ps h.1)
    ∙ ap Ok (first_token file source at (length p.bytes) p.bytes p.kind ps refl)

-- a whole source

within : (n m : ℕ) → nat_lt m n ≡ false → n ≤ m
within n m h = grind (arith, nat_tests)

not_over : (n m : ℕ) → n ≤ m → nat_lt m n ≡ false
not_over n m h = grind (arith, nat_tests)

over : (n m : ℕ) → m < n → nat_lt m n ≡ true
over n m h = grind (arith, nat_tests)

under_limit : (file : FileNo) (source : List ℕ) (tokens : List Token) (refusal : Refusal) (c : Bool) → nat_lt LIMIT (length source) ≡ c →
    (if c then Err refusal else cut_from file source 0 0 false source) ≡ Ok tokens → (length source ≤ LIMIT) × IsCut file source tokens
under_limit file source tokens refusal true e h = cc
under_limit file source tokens refusal false e h =
    let k = subst (CutFrom file source 0 false source) h (cut_pieces file source (length source) 0 false source (omega arith)) in
    (within (length source) LIMIT e, record { pieces = k.pieces; whole = k.whole; each = k.each; theirs = k.theirs })

pub lexed_cut : (file : FileNo) (source : List ℕ) (tokens : List Token) → lexed file source ≡ Ok tokens → (length source ≤ LIMIT) × IsCut file source tokens
unfolding lexed
lexed_cut file source tokens h = under_limit file source tokens _ (nat_lt LIMIT (length source)) refl h

within_limit : (file : FileNo) (source : List ℕ) (refusal : Refusal) (r : Result (List Token) Refusal) (c : Bool) → c ≡ false → cut_from file source 0 0 false source ≡ r →
    (if c then Err refusal else cut_from file source 0 0 false source) ≡ r
within_limit file source refusal r true e h = cc
within_limit file source refusal r false e h = h

pub cut_lexed : (file : FileNo) (source : List ℕ) (tokens : List Token) → (length source ≤ LIMIT) × IsCut file source tokens → lexed file source ≡ Ok tokens
unfolding lexed
cut_lexed file source tokens (w, h) = within_limit file source _ (Ok tokens) (nat_lt LIMIT (length source)) (not_over (length source) LIMIT w)
    (ap (cut_from file source 0 0 false) (sym h.whole) ∙ pieces_cut file source 0 false h.pieces h.each ∙ ap Ok (sym h.theirs))

refused_from : (source : List ℕ) (r : Refusal) → IsRefusedFrom source 0 false source r → IsRefused source r
refused_from source r k =
    let z : 0 + length (joined k.pieces []) + k.at ≡ length (joined k.pieces []) + k.at = omega arith in
    record { pieces = k.pieces; behind = k.behind; whole = k.whole; each = k.each; at = k.at; wrong = k.wrong; stands = k.stands ∙ ap (place source) z }

refused_within : (file : FileNo) (source : List ℕ) (r refusal : Refusal) (c : Bool) → c ≡ false → (if c then Err refusal else cut_from file source 0 0 false source) ≡ Err r → IsRefused source r
refused_within file source r refusal true e h = cc
refused_within file source r refusal false e h = refused_from source r (subst (CutFrom file source 0 false source) h (cut_pieces file source (length source) 0 false source (omega arith)))

pub lexed_refused : (file : FileNo) (source : List ℕ) (r : Refusal) → length source ≤ LIMIT → lexed file source ≡ Err r → IsRefused source r
unfolding lexed
lexed_refused file source r w h = refused_within file source r _ (nat_lt LIMIT (length source)) (not_over (length source) LIMIT w) h

pub lexed_beyond : (file : FileNo) (source : List ℕ) → LIMIT < length source → lexed file source ≡ Err (record { code = X01; place = record { line = 1; col = 1 } })
unfolding lexed
lexed_beyond file source w = ap (λ c. if c then Err (record { code = X01; place = record { line = 1; col = 1 } }) else cut_from file source 0 0 false source) (over (length source) LIMIT w)
