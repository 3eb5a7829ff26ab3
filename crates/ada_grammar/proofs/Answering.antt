-- What the steps of a reader are worth to its answer.
use Rattle.std.proofs.Common.{◌≡◌, ℕ, ◌≤◌, ◌<◌, List, [], ◌∷◌, length, drop, true, Result, Ok, Err, sym, ◌∙◌, ap, subst, arith}
use Rattle.std.specs.Result.{IsErrAnd}
use Rattle.ada_tree.specs.declared.expressions.ExprNode.{ExprNode}
use Rattle.ada_grammar.specs.declared.tokens.Class.{Class}
use Rattle.ada_grammar.specs.declared.tokens.Cursor.{Cursor}
use Rattle.ada_grammar.specs.declared.tokens.Fault.{Fault}
use Rattle.ada_grammar.specs.declared.tokens.Fault.TheVariants as faults
use Rattle.ada_grammar.specs.declared.nodes.Built.{Built}
use Rattle.ada_grammar.specs.Lexemes.{Lexeme}
use Rattle.ada_grammar.specs.Phrases.{Tree, Phrase}
use Rattle.ada_grammar.specs.Built.{trees, tree_at, phrase, Extends}
use Rattle.ada_grammar.specs.Parts.{Part, Body, Never, Gives, Take, Call, Rest, Or, When}
use Rattle.ada_grammar.specs.Fronts.{Point, Bars}
use Rattle.ada_grammar.specs.Reading.{point, Awaits, Barred, Fails, Answers}
use Rattle.ada_grammar.specs.Taking.{IsBarred, Misses, Passes}
use Rattle.ada_grammar.proofs.Steps.{good, ends_in, stuck, tail, barred, barred_last, stopped, unseen, after, without, is_never}
use Rattle.ada_grammar.proofs.Begins.{inhabited}
use Rattle.ada_grammar.proofs.NodeTrees.{stays}

pub refuses : {part inner : Part} (ts : List Lexeme) (cursor middle : Cursor) {k : Phrase → Body} (e : Fault)
    → Awaits part (point ts cursor) (point ts middle) (Call inner k) → good part inner k → Fails inner ts middle e → Fails part ts cursor e
refuses ts cursor middle faults.NoMemory s check i = tt
refuses ts cursor middle (faults.Syntax n) s check i = record { ends = i.ends; level = i.level; sticks = stuck s i.sticks check }
refuses ts cursor middle (faults.Limit n) s check i = record { ends = i.ends; bars = barred s i.bars check }

pub refuses_last : {part inner : Part} (ts : List Lexeme) (cursor middle : Cursor) (e : Fault)
    → Awaits part (point ts cursor) (point ts middle) (Rest inner) → ends_in part inner ≡ true → Fails inner ts middle e → Fails part ts cursor e
refuses_last ts cursor middle faults.NoMemory s check i = tt
refuses_last ts cursor middle (faults.Syntax n) s check i = record { ends = i.ends; level = i.level; sticks = tail s i.sticks check }
refuses_last ts cursor middle (faults.Limit n) s check i = record { ends = i.ends; bars = barred_last s i.bars }

-- the reader that was called fails
pub fails : {part inner : Part} (ts : List Lexeme) (cursor middle : Cursor) {k : Phrase → Body} (built : List Tree) (e : Fault) (result : Result (Built × Cursor) Fault)
    → Awaits part (point ts cursor) (point ts middle) (Call inner k) → good part inner k → Fails inner ts middle e → IsErrAnd result (λ z. z ≡ e) → Answers part ts cursor built result
fails ts cursor middle built e (Ok x) s check i is = absurd is
fails {part} ts cursor middle built e (Err z) s check i is = subst (λ (z : Fault). Fails part ts cursor z) (sym is) (refuses ts cursor middle e s check i)

-- the reader that goes on with the rest fails
pub fails_last : {part inner : Part} (ts : List Lexeme) (cursor middle : Cursor) (built : List Tree) (e : Fault) (result : Result (Built × Cursor) Fault)
    → Awaits part (point ts cursor) (point ts middle) (Rest inner) → ends_in part inner ≡ true → Fails inner ts middle e → IsErrAnd result (λ z. z ≡ e) → Answers part ts cursor built result
fails_last ts cursor middle built e (Ok x) s check i is = absurd is
fails_last {part} ts cursor middle built e (Err z) s check i is = subst (λ (z : Fault). Fails part ts cursor z) (sym is) (refuses_last ts cursor middle e s check i)

-- the answer of the reader that is called last is the answer
pub answers : {part inner : Part} (ts : List Lexeme) (cursor middle : Cursor) (built : List Tree) (result : Result (Built × Cursor) Fault)
    → Awaits part (point ts cursor) (point ts middle) (Rest inner) → cursor.at ≤ middle.at → ends_in part inner ≡ true
    → Answers inner ts middle built result → Answers part ts cursor built result
answers ts cursor middle built (Ok (x, end)) s h check i = record { within = i.within; forward = omega (arith, i.forward, h); ends = i.ends; reads = tail s i.reads check }
answers ts cursor middle built (Err e) s h check i = refuses_last ts cursor middle e s check i

never : {part : Part} {p q : Point} (b : Body) → is_never b ≡ true → Awaits part p q b → Awaits part p q Never
never Never e s = s
never (Gives x) e s = cc
never (Take c k) e s = cc
never (Call p k) e s = cc
never (Rest p) e s = cc
never (Or b c) e s = cc
never (When d b c) e s = cc

hits : {part : Part} (ts : List Lexeme) (cursor middle : Cursor) {b : Body} {c : Class} (i : ℕ)
    → Awaits part (point ts cursor) (point ts middle) b → ((t : Lexeme) → inhabited (after c t b) ≡ true) → IsBarred c ts middle i → Barred part ts cursor i
hits {part} ts cursor middle i s check h = record {
  ends = omega (arith, h.place, h.within);
  bars = subst (λ (z : ℕ). Bars part (point ts cursor) (drop z ts)) (sym h.place) (stopped s h.stops check);
}

pub misses_here : {part : Part} (ts : List Lexeme) (cursor middle : Cursor) {b : Body} (c : Class) (e : Fault) → middle.at ≤ length ts
    → Awaits part (point ts cursor) (point ts middle) b → is_never (without c b) ≡ true → ((t : Lexeme) → inhabited (after c t b) ≡ true) → Misses c ts middle e → Fails part ts cursor e
misses_here ts cursor middle c faults.NoMemory ends s none check h = tt
misses_here {part} ts cursor middle {b} c (faults.Syntax i) ends s none check h = record {
  ends = omega (arith, h.place, ends);
  level = middle.nesting;
  sticks = subst (λ (z : ℕ). Awaits part (point ts cursor) (record { rest = drop z ts; level = middle.nesting }) Never) (sym h.place) (never (without c b) none (unseen s h.other));
}
misses_here ts cursor middle c (faults.Limit i) ends s none check h = hits ts cursor middle i s check h

-- the token that has to stand there does not, or passes a limit
pub misses : {part : Part} (ts : List Lexeme) (cursor middle : Cursor) {b : Body} (c : Class) (built : List Tree) (e : Fault) (result : Result (Built × Cursor) Fault) → middle.at ≤ length ts
    → Awaits part (point ts cursor) (point ts middle) b → is_never (without c b) ≡ true → ((t : Lexeme) → inhabited (after c t b) ≡ true) → Misses c ts middle e → IsErrAnd result (λ z. z ≡ e) → Answers part ts cursor built result
misses ts cursor middle c built e (Ok x) ends s none check h is = absurd is
misses {part} ts cursor middle c built e (Err z) ends s none check h is = subst (λ (z : Fault). Fails part ts cursor z) (sym is) (misses_here ts cursor middle c e ends s none check h)

pub passes_here : {part : Part} (ts : List Lexeme) (cursor middle : Cursor) {b : Body} (c : Class) (e : Fault)
    → Awaits part (point ts cursor) (point ts middle) b → ((t : Lexeme) → inhabited (after c t b) ≡ true) → Passes c ts middle e → Fails part ts cursor e
passes_here ts cursor middle c faults.NoMemory s check h = absurd h
passes_here ts cursor middle c (faults.Syntax i) s check h = absurd h
passes_here ts cursor middle c (faults.Limit i) s check h = hits ts cursor middle i s check h

-- the token that may stand there passes a limit
pub passes : {part : Part} (ts : List Lexeme) (cursor middle : Cursor) {b : Body} (c : Class) (built : List Tree) (e : Fault) (result : Result (Built × Cursor) Fault)
    → Awaits part (point ts cursor) (point ts middle) b → ((t : Lexeme) → inhabited (after c t b) ≡ true) → Passes c ts middle e → IsErrAnd result (λ z. z ≡ e) → Answers part ts cursor built result
passes ts cursor middle c built e (Ok x) s check h is = absurd is
passes {part} ts cursor middle c built e (Err z) s check h is = subst (λ (z : Fault). Fails part ts cursor z) (sym is) (passes_here ts cursor middle c e s check h)

-- the phrase of a node over others, of which some were built before
pub over_two : {first last : List ExprNode} {x : Phrase} (f : List Tree → Phrase) (a b : Built) → x ≡ f (tree_at (trees last) a.node ∷ tree_at (trees last) b.node ∷ [])
    → Extends first last → a.node.0 < length (trees first) → x ≡ f ((phrase (trees first) a).tree ∷ (phrase (trees last) b).tree ∷ [])
over_two {first} {last} f a b e g within = e ∙ ap (λ (z : Tree). f (z ∷ tree_at (trees last) b.node ∷ [])) (stays a.node g within)
