-- What the steps of the reader of a file are worth to what it finds.
use Rattle.std.proofs.Common.{◌≡◌, ℕ, ◌+◌, suc, length, List, [], ◌∷◌, ◌++◌, Result, Ok, Err, arith, refl, sym, subst, append_assoc, append-nil}
use Rattle.std.specs.Result.{IsErrAnd}
use Rattle.ada_tree.specs.declared.units.Unit as declared_unit
use Rattle.ada_tree.specs.declared.units.Units.{Units}
use Rattle.ada_grammar.specs.declared.tokens.Cursor.{Cursor}
use Rattle.ada_grammar.specs.declared.tokens.Fault.{Fault}
use Rattle.ada_grammar.specs.Lexemes.{Lexeme}
use Rattle.ada_grammar.specs.Phrases.{Tree}
use Rattle.ada_grammar.specs.Parts.{File}
use Rattle.ada_grammar.specs.Reading.{Fails}
use Rattle.ada_grammar.specs.Standing.{Ref, UnitRef, Grows, Stands, Widens}
use Rattle.ada_grammar.proofs.Standing.{stands_push, stands_wide}
use Rattle.spark_parser.specs.declared.files.Progress.{Progress}
use Rattle.spark_parser.specs.Files.{AddsUnits, FindsFile, FindsItem}
use Rattle.spark_parser.specs.Parsed.{unit_refs}

-- no unit was added yet
pub adds_none : (u : Units) → AddsUnits u u []
adds_none u = λ before s. subst (λ (z : List Tree). Stands u (unit_refs (length u.units)) z) (sym (append-nil before)) s

-- nodes were added, and no unit
pub adds_on : {old now new : Units} {ts : List Tree} → Grows now new → AddsUnits old now ts → AddsUnits old new ts
adds_on {old} {now} {new} {ts} g a = λ before s.
    subst (λ (z : List declared_unit.Unit). Stands new (unit_refs (length z)) (before ++ ts)) (sym g.units) (stands_wide g.widens (a before s))

more : (n m : ℕ) → m ≡ n + 1 → suc n ≡ m
more n m e = omega (arith, e)

refs_more : (n m : ℕ) → m ≡ n + 1 → unit_refs m ≡ unit_refs n ++ UnitRef n ∷ []
refs_more n m e = subst (λ (z : ℕ). unit_refs z ≡ unit_refs n ++ UnitRef n ∷ []) (more n m e) refl

-- a unit was added
pub adds_unit : {old now new : Units} {ts : List Tree} {t : Tree} → Widens now new → length new.units ≡ length now.units + 1 → Stands new (UnitRef (length now.units) ∷ []) (t ∷ [])
    → AddsUnits old now ts → AddsUnits old new (ts ++ t ∷ [])
adds_unit {old} {now} {new} {ts} {t} g one unit a = λ before s.
    subst (λ (z : List Tree). Stands new (unit_refs (length new.units)) z) (append_assoc before ts (t ∷ []))
    (subst (λ (z : List Ref). Stands new z ((before ++ ts) ++ t ∷ [])) (sym (refs_more (length now.units) (length new.units) one))
    (stands_push (stands_wide g (a before s)) unit))

-- a fault is handed on
pub fault_item : (ts : List Lexeme) (start : Cursor) (old now : Units) (e : Fault) (result : Result Progress Fault) → Fails File ts start e → IsErrAnd result (λ z. z ≡ e) → FindsItem ts start old now result
fault_item ts start old now e (Ok x) h is = absurd is
fault_item ts start old now e (Err z) h is = subst (λ (z : Fault). Fails File ts start z) (sym is) h

pub fault_file : (ts : List Lexeme) (start : Cursor) (old now : Units) (e : Fault) (result : Result Cursor Fault) → Fails File ts start e → IsErrAnd result (λ z. z ≡ e) → FindsFile ts start old now result
fault_file ts start old now e (Ok x) h is = absurd is
fault_file ts start old now e (Err z) h is = subst (λ (z : Fault). Fails File ts start z) (sym is) h
