use Rattle.std.proofs.Common.{refl, true, false, ℕ, zero, suc, ◌≡◌, ◌-◌, arith, sym, ap, subst}
use Rattle.ada_tree.specs.declared.token.Mark.TheVariants as marks
use Rattle.ada_grammar.specs.declared.tokens.Class.TheVariants as classes
use Rattle.ada_grammar.specs.Lexemes.{lexeme, lexemes}
use Rattle.ada_grammar.specs.Parts as parts
use Rattle.ada_grammar.specs.Parts.{mark, Rest, is_none, one_less}
use Rattle.ada_grammar.specs.Reading.{Awaits}
use Rattle.ada_grammar.specs.Fronts.{Point}
use Rattle.ada_grammar.proofs.Steps.{whole, opened, seen, unseen, decided, declined}
use Rattle.ada_grammar.proofs.Answering.{passes_here, misses_here}
use Rattle.ada_grammar.proofs.Joining.{absent, present, fault_skipped}
use Rattle.ada_aspects.proofs.readers.balanced.Goals as goal

none_left : (n : ℕ) → n ≡ 0 → is_none n ≡ true
none_left n e = ap (λ (m : ℕ). is_none m) e

some_left : (n : ℕ) → (n ≡ 0 → ⊥) → is_none n ≡ false
some_left zero h = absurd (h refl)
some_left (suc n) h = refl

less_one : (n : ℕ) → n - 1 ≡ one_less n
less_one zero = omega arith
less_one (suc n) = omega arith

as_many : {part : parts.Part} {p q : Point} (n m : ℕ) → m ≡ n → Awaits part p q (Rest (parts.Balanced n)) → Awaits part p q (Rest (parts.Balanced m))
as_many {part} {p} {q} n m e h = subst (λ (z : ℕ). Awaits part p q (Rest (parts.Balanced z))) (sym e) h

pub loop-behind-init : goal.loop-behind-init
loop-behind-init c = record { forward = omega arith; ends = c.requires.at; depth = omega arith; awaits = whole (parts.Balanced 0) _ }

pub returns-in_err-behind : goal.returns-in_err-behind
returns-in_err-behind c = fault_skipped (parts.Balanced 0) (lexemes c.args.tokens.now) c.args.cursor _ _ (passes_here (lexemes c.args.tokens.now) c.args.cursor c.loop-behind.next classes.Enclosed _ (opened c.loop-behind.invariant.awaits) (λ t. refl) c.in_err-behind.ensures) c.from_residual.ensures.1

pub loop-behind-preserved-in-Some : goal.loop-behind-preserved-in-Some
loop-behind-preserved-in-Some c = let t = present classes.Enclosed (lexeme c.args.tokens.now.source) (lexemes c.args.tokens.now) c.loop-behind.next c.in_ok-behind.ensures c.in-Some.is in
    record { forward = omega (arith, c.loop-behind.invariant.forward, t.place); ends = omega (arith, t.place, t.within); depth = omega (arith, c.loop-behind.invariant.depth, t.place); awaits = seen (opened c.loop-behind.invariant.awaits) t.takes refl }

pub returns-in_err-behind-2 : goal.returns-in_err-behind-2
returns-in_err-behind-2 c = fault_skipped (parts.Balanced 0) (lexemes c.args.tokens.now) c.args.cursor _ _ (passes_here (lexemes c.args.tokens.now) c.args.cursor c.loop-behind.next (mark marks.Open) _ (unseen (opened c.loop-behind.invariant.awaits) (absent classes.Enclosed (lexeme c.args.tokens.now.source) (lexemes c.args.tokens.now) c.loop-behind.next c.in_ok-behind.ensures c.in_default.is)) (λ t. refl) c.in_err-behind-2.ensures) c.from_residual-in_err-behind-2.ensures.1

pub loop-behind-preserved-in-Some-2 : goal.loop-behind-preserved-in-Some-2
loop-behind-preserved-in-Some-2 c = let t = present (mark marks.Open) (lexeme c.args.tokens.now.source) (lexemes c.args.tokens.now) c.loop-behind.next c.in_ok-behind-2.ensures c.in-Some-2.is in
    record { forward = omega (arith, c.loop-behind.invariant.forward, t.place); ends = omega (arith, t.place, t.within); depth = omega (arith, c.loop-behind.invariant.depth, t.place); awaits = seen (unseen (opened c.loop-behind.invariant.awaits) (absent classes.Enclosed (lexeme c.args.tokens.now.source) (lexemes c.args.tokens.now) c.loop-behind.next c.in_ok-behind.ensures c.in_default.is)) t.takes refl }

pub returns-in_err-behind-3 : goal.returns-in_err-behind-3
returns-in_err-behind-3 c = fault_skipped (parts.Balanced 0) (lexemes c.args.tokens.now) c.args.cursor _ _ (misses_here (lexemes c.args.tokens.now) c.args.cursor c.loop-behind.next (mark marks.Close) _ c.loop-behind.invariant.ends (unseen (unseen (opened c.loop-behind.invariant.awaits) (absent classes.Enclosed (lexeme c.args.tokens.now.source) (lexemes c.args.tokens.now) c.loop-behind.next c.in_ok-behind.ensures c.in_default.is)) (absent (mark marks.Open) (lexeme c.args.tokens.now.source) (lexemes c.args.tokens.now) c.loop-behind.next c.in_ok-behind-2.ensures c.in_default-2.is)) refl (λ t. refl) c.in_err-behind-3.ensures) c.from_residual-in_err-behind-3.ensures.1

pub returns-then-depth-eq0 : goal.returns-then-depth-eq0
returns-then-depth-eq0 c = record { forward = omega (arith, c.loop-behind.invariant.forward, c.in_ok-behind-3.ensures.place); ends = omega (arith, c.in_ok-behind-3.ensures.place, c.in_ok-behind-3.ensures.within); reads = decided (seen (unseen (unseen (opened c.loop-behind.invariant.awaits) (absent classes.Enclosed (lexeme c.args.tokens.now.source) (lexemes c.args.tokens.now) c.loop-behind.next c.in_ok-behind.ensures c.in_default.is)) (absent (mark marks.Open) (lexeme c.args.tokens.now.source) (lexemes c.args.tokens.now) c.loop-behind.next c.in_ok-behind-2.ensures c.in_default-2.is)) c.in_ok-behind-3.ensures.takes refl) (none_left c.loop-behind.depth c.if-depth-eq0.true) }

pub loop-behind-preserved : goal.loop-behind-preserved
loop-behind-preserved c = record {
  forward = omega (arith, c.loop-behind.invariant.forward, c.in_ok-behind-3.ensures.place);
  ends = omega (arith, c.in_ok-behind-3.ensures.place, c.in_ok-behind-3.ensures.within);
  depth = omega (arith, c.loop-behind.invariant.depth, c.in_ok-behind-3.ensures.place);
  awaits = as_many _ _ (less_one c.loop-behind.depth) (declined (seen (unseen (unseen (opened c.loop-behind.invariant.awaits) (absent classes.Enclosed (lexeme c.args.tokens.now.source) (lexemes c.args.tokens.now) c.loop-behind.next c.in_ok-behind.ensures c.in_default.is)) (absent (mark marks.Open) (lexeme c.args.tokens.now.source) (lexemes c.args.tokens.now) c.loop-behind.next c.in_ok-behind-2.ensures c.in_default-2.is)) c.in_ok-behind-3.ensures.takes refl) (some_left c.loop-behind.depth c.if-depth-eq0.false));
}
