-- A sequence of statements is one statement more.
use Rattle.std.proofs.lemmas.List.{length-append}
use Rattle.std.proofs.Common.{ℕ, zero, suc, ◌<◌, ◌≤◌, ◌≡◌, List, [], ◌∷◌, length, map, slice_get, Some, refl, sym, ap, ◌∙◌, subst, arith}
use Rattle.spark_base.specs.declared.numbers.Span.{Span}
use Rattle.spark_base.specs.declared.numbers.StmtNo.{StmtNo}
use Rattle.ada_tree.specs.declared.units.Units.{Units}
use Rattle.ada_grammar.specs.declared.children.Children as held
use Rattle.ada_grammar.specs.declared.tokens.Cursor.{Cursor}
use Rattle.ada_grammar.specs.Lexemes.{Lexeme}
use Rattle.ada_grammar.specs.Phrases as phrases
use Rattle.ada_grammar.specs.Phrases.{Tree, Phrase, Children, with_stmt, none}
use Rattle.ada_grammar.specs.Spelling.{Spells, gives, take, call, rest, left, right}
use Rattle.ada_grammar.specs.Parts.{Statements, MoreStatements}
use Rattle.ada_grammar.specs.Standing.{Ref, StmtRef, Stands, nowhere, expression, over, Found}

abbrev OneMore : Children → Phrase → Type 0
OneMore d y = (t : Tree) × (y ≡ phrases.gives (with_stmt d t))

-- of no more than so many tokens
more : (n : ℕ) {span : Span} {own d : Children} {y : Phrase} {w : List Lexeme} → length w ≤ n → Spells (MoreStatements span own d) y w → OneMore d y
more zero within (left (take is further)) = absurd (omega (arith, within))
more zero within (right gives) = (_, refl)
more (suc n) within (left (take is (call {u = u} {v = v} first (rest further)))) = more n (omega (arith, within, length-append u v)) further
more (suc n) within (right gives) = (_, refl)

sequence : {d : Children} {y : Phrase} {w : List Lexeme} → Spells (Statements d) y w → OneMore d y
sequence (take is (call {v = v} first (rest further))) = more (length v) (omega (arith)) further

same_length : {u : Units} {rs : List Ref} {ts : List Tree} → Stands u rs ts → length rs ≡ length ts
same_length nowhere = refl
same_length (expression within is further) = ap suc (same_length further)
same_length (over node below under is further) = ap suc (same_length further)

single : (list : List StmtNo) → length (map StmtRef list) ≡ 1 → (n : StmtNo) × (list ≡ n ∷ [])
single [] e = absurd (omega (arith, e))
single (n ∷ []) e = (n, refl)
single (n ∷ m ∷ further) e = absurd (omega (arith, e))

-- of a sequence one statement is held
pub is_single : {ts : List Lexeme} {cursor : Cursor} {u : Units} {r : held.Children} {next : Cursor} → Found (Statements none) ts cursor u r next → (n : StmtNo) × (r.stmts ≡ n ∷ [])
is_single {r = r} f =
    let s = sequence (f.reads.made (phrases.gives f.children) [] gives) in
    single r.stmts (same_length f.holds.stmts ∙ ap (λ (z : Phrase). length z.children.stmts) s.1)

pub within : {ts : List Lexeme} {cursor : Cursor} {u : Units} {r : held.Children} {next : Cursor} → Found (Statements none) ts cursor u r next → 0 < length r.stmts
within f = let s = is_single f in subst (λ (z : List StmtNo). 0 < length z) (sym s.1) (omega (arith))

pub is_first : {ts : List Lexeme} {cursor : Cursor} {u : Units} {r : held.Children} {next : Cursor} {n : StmtNo} → Found (Statements none) ts cursor u r next → slice_get r.stmts 0 ≡ Some n → r.stmts ≡ n ∷ []
is_first {r = r} {n = n} f e =
    let s = is_single f in
    let same : Some s.0 ≡ Some n = sym (ap (λ (z : List StmtNo). slice_get z 0) s.1) ∙ e in
    let one : s.0 ≡ n = (cc) in s.1 ∙ ap (λ (z : StmtNo). z ∷ []) one
