-- What the steps of a reader of a unit are worth to what it finds.
use Rattle.std.proofs.Common.{◌≡◌, ℕ, ◌≤◌, ◌+◌, length, List, [], ◌∷◌, Result, Ok, Err, IfOk, true, arith, sym, ap, ◌∙◌, subst}
use Rattle.std.specs.Result.{IsErrAnd}
use Rattle.ada_tree.specs.declared.units.Unit as declared_unit
use Rattle.ada_tree.specs.declared.units.Units.{Units}
use Rattle.ada_tree.specs.Tree.{IsOrdered}
use Rattle.ada_grammar.specs.declared.tokens.Cursor.{Cursor}
use Rattle.ada_grammar.specs.declared.tokens.Fault.{Fault}
use Rattle.ada_grammar.specs.Lexemes.{Lexeme}
use Rattle.ada_grammar.specs.Phrases.{Children, Tree, gives, with_unit}
use Rattle.ada_grammar.specs.Parts.{Part, Gives, Rest}
use Rattle.ada_grammar.specs.Reading.{Awaits, Fails, point}
use Rattle.ada_grammar.specs.Standing.{Stands, UnitRef}
use Rattle.ada_grammar.proofs.Answering.{refuses_last}
use Rattle.ada_grammar.proofs.Steps.{ends_in, tail}
use Rattle.spark_parser.specs.Files.{FindsUnit, FoundUnit}

-- a fault is handed on
pub fault_unit : (part : Part) (ts : List Lexeme) (cursor : Cursor) (u : Units) (n : ℕ) (d : Children) (e : Fault) (result : Result Cursor Fault) → Fails part ts cursor e → IsErrAnd result (λ z. z ≡ e) → FindsUnit part ts cursor u n d result
fault_unit part ts cursor u n d e (Ok x) h is = absurd is
fault_unit part ts cursor u n d e (Err z) h is = subst (λ (z : Fault). Fails part ts cursor z) (sym is) h

-- what the reader finds that is called last is what is found, where no unit was added before it
pub unit_last : {part inner : Part} (ts : List Lexeme) (cursor middle : Cursor) (u : Units) (d : Children) (result : Result Cursor Fault) {old now : List declared_unit.Unit} → now ≡ old
    → Awaits part (point ts cursor) (point ts middle) (Rest inner) → cursor.at ≤ middle.at → ends_in part inner ≡ true
    → FindsUnit inner ts middle u (length now) d result → FindsUnit part ts cursor u (length old) d result
unit_last ts cursor middle u d (Ok end) e s h check i = record {
  tree = i.tree;
  stands = subst (λ (z : List declared_unit.Unit). Stands u (UnitRef (length z) ∷ []) (i.tree ∷ [])) e i.stands;
  ordered = i.ordered;
  forward = omega (arith, i.forward, h);
  ends = i.ends;
  reads = tail s i.reads check;
}
unit_last ts cursor middle u d (Err f) e s h check i = refuses_last ts cursor middle f s check i

-- the unit was added
pub unit_found : {part : Part} (ts : List Lexeme) (cursor next : Cursor) {u : Units} {d : Children} (t : Tree) {old now : List declared_unit.Unit} → now ≡ old
    → Stands u (UnitRef (length now) ∷ []) (t ∷ []) → IsOrdered u → cursor.at ≤ next.at → next.at ≤ length ts
    → Awaits part (point ts cursor) (point ts next) (Gives (gives (with_unit d t))) → FoundUnit part ts cursor u (length old) d next
unit_found ts cursor next {u} {d} t e stands ordered forward ends reads = record {
  tree = t;
  stands = subst (λ (z : List declared_unit.Unit). Stands u (UnitRef (length z) ∷ []) (t ∷ [])) e stands;
  ordered = ordered;
  forward = forward;
  ends = ends;
  reads = reads;
}

-- the same tree by another name
pub stands_as : {A : Type 0} (f : A → Tree) {u : Units} {n : ℕ} {a b : A} → a ≡ b → Stands u (UnitRef n ∷ []) (f a ∷ []) → Stands u (UnitRef n ∷ []) (f b ∷ [])
stands_as f {u} {n} e h = subst (λ z. Stands u (UnitRef n ∷ []) (f z ∷ [])) e h

-- one unit more
pub one_more : {old now : List declared_unit.Unit} {n : ℕ} → now ≡ old → n ≡ length now + 1 → n ≡ length old + 1
one_more {old} {now} {n} e h = h ∙ ap (λ (z : List declared_unit.Unit). length z + 1) e

pub one_on : {old now : List declared_unit.Unit} (n : ℕ) (result : Result Cursor Fault) → now ≡ old → IfOk result (λ z. n ≡ length now + 1) → IfOk result (λ z. n ≡ length old + 1)
one_on n (Ok x) e h = one_more e h
one_on n (Err x) e h = tt
