-- Tokens stand in order, since they are those of pieces.
use Rattle.std.proofs.Common.{◌≡◌, ℕ, ◌+◌, ◌<◌, ◌≤◌, List, [], ◌∷◌, ◌++◌, Bool, length, None, Some, Ok, Err, Result, IfOk, false, refl, ap, sym, subst, arith, length-append}
use Rattle.std.specs.declared.option.Option.{Option}
use Rattle.ada_lexer.specs.Cut.{span, token_of, ticks, lexed}
use Rattle.ada_lexer.specs.Laws.{InOrder}
use Rattle.ada_lexer.specs.Joined.{SourcePiece, ArePieces, joined, tokens_of}
use Rattle.spark_base.specs.declared.numbers.FileNo.{FileNo}
use Rattle.ada_tree.specs.declared.token.Token.{Token}
use Rattle.ada_tree.specs.declared.token.TokenKind.{TokenKind}
use Rattle.ada_lexer.specs.declared.refusal.Refusal.{Refusal}
use Rattle.ada_lexer.proofs.CutLaws.{lexed_cut, some_bytes, first_token}

lower : (file : FileNo) (source : List ℕ) (low low' : ℕ) (ts : List Token) → low ≤ low' → InOrder file source low' ts → InOrder file source low ts
lower file source low low' [] h k = tt
lower file source low low' (t ∷ ts) h k =
    let w : low' ≤ t.from = k.0.after in
    (record { after = omega arith; some = k.0.some; within = k.0.within; spanned = k.0.spanned }, k.1)

put : (file : FileNo) (source : List ℕ) (at len : ℕ) (kind : Option TokenKind) (ts : List Token) → 0 < len → at + len ≤ length source → InOrder file source (at + len) ts →
    InOrder file source at (token_of (span file source at (at + len)) at len kind ++ ts)
put file source at len None ts h w k = lower file source at (at + len) ts (omega arith) k
put file source at len (Some kind) ts h w k = (record { after = omega arith; some = omega arith; within = w; spanned = refl }, k)

in_order : (file : FileNo) (source : List ℕ) (at : ℕ) (ticked : Bool) (ps : List SourcePiece) → at + length (joined ps []) ≤ length source → ArePieces ticked ps [] → InOrder file source at (tokens_of file source at ps)
in_order file source at ticked [] w h = tt
in_order file source at ticked (p ∷ ps) w h =
    let n : length (p.bytes ++ joined ps []) ≡ length p.bytes + length (joined ps []) = length-append p.bytes (joined ps []) in
    subst (InOrder file source at) (first_token file source at (length p.bytes) p.bytes p.kind ps refl)
    (put file source at (length p.bytes) p.kind (tokens_of file source (at + length p.bytes) ps) (some_bytes ticked p (joined ps []) h.0) (omega arith)
    (in_order file source (at + length p.bytes) (ticks ticked p.kind) ps (omega arith) h.1))

pub tokens_in_order : (file : FileNo) (source : List ℕ) → IfOk (lexed file source) (InOrder file source 0)
tokens_in_order file source = by (lexed file source) refl
  where
    by : (r : Result (List Token) Refusal) → lexed file source ≡ r → IfOk r (InOrder file source 0)
    by (Err f) e = tt
    by (Ok ts) e =
        let c = (lexed_cut file source ts e).1 in
        let n : length (joined c.pieces []) ≡ length source = ap length c.whole in
        subst (InOrder file source 0) (sym c.theirs) (in_order file source 0 false c.pieces (omega arith) c.each)
