-- One piece after another.
use Rattle.std.proofs.Common.{◌≡◌, ℕ, zero, suc, ◌+◌, ◌-◌, ◌<◌, ◌≤◌, List, [], ◌∷◌, ◌++◌, Bool, length, take, drop, Ok, Err, Result, refl, ap, sym, ◌∙◌, arith, append_assoc, length-drop}
use Rattle.std.proofs.Math.Seq.{take-add}
use Rattle.std.proofs.lemmas.List.{drop-drop}
use Rattle.ada_lexer.specs.Cut.{piece_at, cut_from, span, token_of, after_tokens, place, past, moved, ticks}
use Rattle.spark_base.specs.declared.numbers.FileNo.{FileNo}
use Rattle.spark_base.specs.declared.numbers.Span.{Span}
use Rattle.spark_base.specs.declared.numbers.Pos.{Pos}
use Rattle.ada_tree.specs.declared.token.Token.{Token}
use Rattle.ada_lexer.specs.declared.piece.Fault.{Fault}
use Rattle.ada_lexer.specs.declared.piece.Piece.{Piece}
use Rattle.ada_lexer.specs.declared.refusal.Refusal.{Refusal}

-- the rest of a piece is passed over
cut-skip : (file : FileNo) (source : List ℕ) (at n : ℕ) (ticked : Bool) (xs : List ℕ) → cut_from file source at n ticked xs ≡ cut_from file source (at + n) 0 ticked (drop n xs)
cut-skip file source at zero ticked xs = let e : at ≡ at + 0 = omega arith in ap (λ k. cut_from file source k 0 ticked xs) e
cut-skip file source at (suc n) ticked [] = refl
cut-skip file source at (suc n) ticked (x ∷ xs) = let e : at + 1 + n ≡ at + suc n = omega arith in
    cut-skip file source (at + 1) n ticked xs ∙ ap (λ k. cut_from file source k 0 ticked (drop n xs)) e

past_first : (file : FileNo) (source : List ℕ) (at n : ℕ) (ticked : Bool) (x : ℕ) (xs : List ℕ) → 0 < n → cut_from file source (at + 1) (n - 1) ticked xs ≡ cut_from file source (at + n) 0 ticked (drop n (x ∷ xs))
past_first file source at zero ticked x xs h = absurd (omega arith)
past_first file source at (suc n) ticked x xs h =
    let e : suc n - 1 ≡ n = omega arith in
    let f : at + 1 + n ≡ at + suc n = omega arith in
    ap (λ k. cut_from file source (at + 1) k ticked xs) e ∙ cut-skip file source (at + 1) n ticked xs ∙ ap (λ k. cut_from file source k 0 ticked (drop n xs)) f

after-after : (ts us : List Token) (r : Result (List Token) Refusal) → after_tokens ts (after_tokens us r) ≡ after_tokens (ts ++ us) r
after-after ts us (Err f) = refl
after-after ts us (Ok vs) = ap Ok (sym (append_assoc ts us vs))

-- what stands from a place on begins with a piece
pub here_ok : (file : FileNo) (source : List ℕ) (at : ℕ) (ticked : Bool) (xs : List ℕ) (p : Piece) → 0 < length xs → piece_at ticked xs ≡ Ok p → 0 < p.len →
    cut_from file source at 0 ticked xs ≡ after_tokens (token_of (span file source at (at + p.len)) at p.len p.kind) (cut_from file source (at + p.len) 0 (ticks ticked p.kind) (drop p.len xs))
here_ok file source at ticked [] p some h k = absurd (omega arith)
here_ok file source at ticked (x ∷ xs) p some h k =
    ap (λ r. elim r [ Ok p ↦ after_tokens (token_of (span file source at (at + p.len)) at p.len p.kind) (cut_from file source (at + 1) (p.len - 1) (ticks ticked p.kind) xs) | Err f ↦ Err (record { code = f.code; place = place source (at + f.at) }) ]) h
    ∙ ap (after_tokens (token_of (span file source at (at + p.len)) at p.len p.kind)) (past_first file source at p.len (ticks ticked p.kind) x xs k)

pub here_err : (file : FileNo) (source : List ℕ) (at : ℕ) (ticked : Bool) (xs : List ℕ) (f : Fault) → 0 < length xs → piece_at ticked xs ≡ Err f →
    cut_from file source at 0 ticked xs ≡ Err (record { code = f.code; place = place source (at + f.at) })
here_err file source at ticked [] f some h = absurd (omega arith)
here_err file source at ticked (x ∷ xs) f some h =
    ap (λ r. elim r [ Ok p ↦ after_tokens (token_of (span file source at (at + p.len)) at p.len p.kind) (cut_from file source (at + 1) (p.len - 1) (ticks ticked p.kind) xs) | Err f ↦ Err (record { code = f.code; place = place source (at + f.at) }) ]) h

-- one piece further
pub one_piece : (file : FileNo) (source : List ℕ) (at : ℕ) (ticked : Bool) (ts us : List Token) (p : Piece) (s : Span) (all : Result (List Token) Refusal) → 0 < length (drop at source) → piece_at ticked (drop at source) ≡ Ok p → 0 < p.len →
    after_tokens ts (cut_from file source at 0 ticked (drop at source)) ≡ all → s ≡ span file source at (at + p.len) → us ≡ ts ++ token_of s at p.len p.kind →
    after_tokens us (cut_from file source (at + p.len) 0 (ticks ticked p.kind) (drop (at + p.len) source)) ≡ all
one_piece file source at ticked ts us p s all some h k before e grown =
    ap (λ us. after_tokens us (cut_from file source (at + p.len) 0 (ticks ticked p.kind) (drop (at + p.len) source))) (grown ∙ ap (λ s. ts ++ token_of s at p.len p.kind) e)
    ∙ ap (λ xs. after_tokens (ts ++ token_of (span file source at (at + p.len)) at p.len p.kind) (cut_from file source (at + p.len) 0 (ticks ticked p.kind) xs)) (sym (drop-drop p.len at source))
    ∙ sym (after-after ts (token_of (span file source at (at + p.len)) at p.len p.kind) _)
    ∙ ap (after_tokens ts) (sym (here_ok file source at ticked (drop at source) p some h k)) ∙ before

pub one_fault : (file : FileNo) (source : List ℕ) (at : ℕ) (ticked : Bool) (ts : List Token) (f : Fault) (all : Result (List Token) Refusal) (q : Pos) → 0 < length (drop at source) → piece_at ticked (drop at source) ≡ Err f →
    after_tokens ts (cut_from file source at 0 ticked (drop at source)) ≡ all → q ≡ place source (at + f.at) → all ≡ Err (record { code = f.code; place = q })
one_fault file source at ticked ts f all q some h before e =
    sym before ∙ ap (after_tokens ts) (here_err file source at ticked (drop at source) f some h) ∙ ap (λ q. Err (record { code = f.code; place = q })) (sym e)

moved-append : (p : Pos) (xs ys : List ℕ) → moved p (xs ++ ys) ≡ moved (moved p xs) ys
moved-append p [] ys = refl
moved-append p (x ∷ xs) ys = moved-append (past p x) xs ys

-- the place after a piece
pub place_after : (source : List ℕ) (at n : ℕ) → place source (at + n) ≡ moved (place source at) (take n (drop at source))
place_after source at n = ap (moved (record { line = 1; col = 1 })) (take-add at n source) ∙ moved-append _ (take at source) (take n (drop at source))

pub place_step : (source : List ℕ) (at n : ℕ) (p q : Pos) (rest piece : List ℕ) → q ≡ moved p piece → piece ≡ take n rest → rest ≡ drop at source → p ≡ place source at → q ≡ place source (at + n)
place_step source at n p q rest piece e f g h =
    e ∙ ap (moved p) (f ∙ ap (take n) g) ∙ ap (λ p. moved p (take n (drop at source))) h ∙ sym (place_after source at n)

-- the span of a piece, by its two places
pub spanned : (file : FileNo) (source : List ℕ) (at n : ℕ) (p q : Pos) → p ≡ place source at → q ≡ place source (at + n) → record { file = file; «from» = p; to = q } ≡ span file source at (at + n)
spanned file source at n p q e f = ap (λ p. record { file = file; «from» = p; to = q }) e ∙ ap (λ q. record { file = file; «from» = place source at; to = q }) f

-- the place behind the last byte
pub place_end : (source : List ℕ) (at : ℕ) (p : Pos) → p ≡ place source at → at ≤ length source → length source ≤ at → p ≡ place source (length source)
place_end source at p e h k = let f : at ≡ length source = omega arith in e ∙ ap (place source) f

pub some_left : (source : List ℕ) (at : ℕ) → at < length source → 0 < length (drop at source)
some_left source at h = omega (arith, length-drop at source)

pub piece_within : (source rest : List ℕ) (at n : ℕ) → at ≤ length source → rest ≡ drop at source → n ≤ length rest → at + n ≤ length source
piece_within source rest at n h e k = omega (arith, length-drop at source, ap length e)
