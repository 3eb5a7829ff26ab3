-- What the steps of a reader are worth to what it finds.
use Rattle.std.proofs.Common.{IfOk, drop, length, ◌≡◌, ◌≤◌, List, true, Option, Some, None, Result, Ok, Err, sym, subst, arith}
use Rattle.std.specs.Result.{IsErrAnd}
use Rattle.ada_tree.specs.declared.token.Token.{Token}
use Rattle.ada_tree.specs.declared.units.Units.{Units}
use Rattle.ada_grammar.specs.declared.children.Children as held
use Rattle.ada_grammar.specs.declared.tokens.Class.{Class}
use Rattle.ada_grammar.specs.declared.tokens.Cursor.{Cursor}
use Rattle.ada_grammar.specs.declared.tokens.Fault.{Fault}
use Rattle.ada_grammar.specs.Lexemes.{Lexeme}
use Rattle.ada_grammar.specs.Phrases.{Children, gives}
use Rattle.ada_grammar.specs.Parts.{Part, Gives, Rest}
use Rattle.ada_grammar.specs.Fronts.{Point}
use Rattle.ada_grammar.specs.Reading.{point, Awaits, Fails}
use Rattle.ada_grammar.specs.Standing.{Finds, Forth, Found, Holds, Skips}
use Rattle.ada_grammar.specs.Taking.{Looks, NotFirst, IsTaken}
use Rattle.ada_grammar.proofs.Steps.{ends_in, tail}
use Rattle.ada_grammar.proofs.Answering.{refuses_last}

-- what a reader found that awaits no more
pub found : {part : Part} (ts : List Lexeme) (cursor next : Cursor) {u : Units} {r : held.Children} {d : Children} → Holds u r d → cursor.at ≤ next.at → next.at ≤ length ts
    → Awaits part (point ts cursor) (point ts next) (Gives (gives d)) → Found part ts cursor u r next
found ts cursor next {u} {r} {d} holds forward ends reads = record { children = d; holds = holds; forward = forward; ends = ends; reads = reads }

-- one of several forms of a part
pub of_form : {A : Type 0} (part : A → Part) {a b : A} (ts : List Lexeme) (cursor : Cursor) (u : Units) (r : held.Children) (result : Result Cursor Fault) → a ≡ b → Finds (part b) ts cursor u r result → Finds (part a) ts cursor u r result
of_form part ts cursor u r result e h = subst (λ z. Finds (part z) ts cursor u r result) (sym e) h

-- a fault is handed on
pub fault_found : (part : Part) (ts : List Lexeme) (cursor : Cursor) (u : Units) (r : held.Children) (e : Fault) (result : Result Cursor Fault) → Fails part ts cursor e → IsErrAnd result (λ z. z ≡ e) → Finds part ts cursor u r result
fault_found part ts cursor u r e (Ok x) h is = absurd is
fault_found part ts cursor u r e (Err z) h is = subst (λ (z : Fault). Fails part ts cursor z) (sym is) h

pub fault_skipped : (part : Part) (ts : List Lexeme) (cursor : Cursor) (e : Fault) (result : Result Cursor Fault) → Fails part ts cursor e → IsErrAnd result (λ z. z ≡ e) → Skips part ts cursor result
fault_skipped part ts cursor e (Ok x) h is = absurd is
fault_skipped part ts cursor e (Err z) h is = subst (λ (z : Fault). Fails part ts cursor z) (sym is) h

-- what the reader finds that is called last is what is found
pub finds_last : {part inner : Part} (ts : List Lexeme) (cursor middle : Cursor) (u : Units) (r : held.Children) (result : Result Cursor Fault)
    → Awaits part (point ts cursor) (point ts middle) (Rest inner) → cursor.at ≤ middle.at → ends_in part inner ≡ true
    → Finds inner ts middle u r result → Finds part ts cursor u r result
finds_last ts cursor middle u r (Ok end) s h check i = record { children = i.children; holds = i.holds; forward = omega (arith, i.forward, h); ends = i.ends; reads = tail s i.reads check }
finds_last ts cursor middle u r (Err e) s h check i = refuses_last ts cursor middle e s check i

-- the token that was looked for is there, or is not
pub absent : (c : Class) (of : Token → Lexeme) (ts : List Lexeme) (cursor : Cursor) {o : Option (Token × Cursor)} → Looks c of ts cursor o → o ≡ None → NotFirst c (drop cursor.at ts)
absent c of ts cursor {o} h e = subst (λ (z : Option (Token × Cursor)). Looks c of ts cursor z) e h

pub present : (c : Class) (of : Token → Lexeme) (ts : List Lexeme) (cursor : Cursor) {o : Option (Token × Cursor)} {t : Token} {next : Cursor} → Looks c of ts cursor o → o ≡ Some (t, next) → IsTaken c ts cursor (of t) next
present c of ts cursor {o} h e = subst (λ (z : Option (Token × Cursor)). Looks c of ts cursor z) e h

-- the reader that is called last stops no earlier than where it begins
pub goes_on : (ts : List Lexeme) (cursor middle : Cursor) (result : Result Cursor Fault) → cursor.at ≤ middle.at → IfOk result (λ next. Forth ts middle next) → IfOk result (λ next. Forth ts cursor next)
goes_on ts cursor middle (Ok next) h g = record { forward = omega (arith, h, g.forward); ends = g.ends }
goes_on ts cursor middle (Err e) h g = tt

-- the same children by another name
pub holds_as : {A : Type 0} (f : A → Children) {u : Units} {r : held.Children} {a b : A} → a ≡ b → Holds u r (f a) → Holds u r (f b)
holds_as f {u} {r} e h = subst (λ z. Holds u r (f z)) e h

-- what is still to come by another name
pub rest_as : {A : Type 0} (inner : A → Part) {part : Part} {p q : Point} {x y : A} → y ≡ x → Awaits part p q (Rest (inner x)) → Awaits part p q (Rest (inner y))
rest_as inner {part} {p} {q} e s = subst (λ z. Awaits part p q (Rest (inner z))) (sym e) s
