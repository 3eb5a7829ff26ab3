-- What stands behind a name, whether parentheses may or not.
use Rattle.std.proofs.Common.{Bool, true, false, ◌≡◌, ◌≤◌, arith, refl, ◌∙◌, ap, sym, subst, List, [], ◌∷◌, Option, Some, Result, Ok, Err}
use Rattle.std.specs.Result.{IsErrAnd}
use Rattle.spark_base.specs.declared.numbers.ExprNo.{ExprNo}
use Rattle.spark_base.specs.declared.numbers.Span.{Span}
use Rattle.ada_tree.specs.declared.token.Mark.TheVariants as marks
use Rattle.ada_tree.specs.declared.expressions.ExprKind.{ExprKind}
use Rattle.ada_grammar.specs.declared.nodes.Built.{Built}
use Rattle.ada_grammar.specs.declared.nodes.Form.{Form}
use Rattle.ada_grammar.specs.declared.tokens.Class.TheVariants as classes
use Rattle.ada_grammar.specs.declared.tokens.Cursor.{Cursor}
use Rattle.ada_grammar.specs.declared.tokens.Fault.{Fault}
use Rattle.ada_grammar.specs.Lexemes.{Lexeme}
use Rattle.ada_grammar.specs.Phrases as phrases
use Rattle.ada_grammar.specs.Phrases.{Phrase, Tree, named}
use Rattle.ada_grammar.specs.Built.{tree_at, trees_at}
use Rattle.ada_grammar.specs.Parts.{Part, Body, Suffixes, MayOpen, BehindTick, ArgumentsFrom, Gives, Take, Call, Rest, Or, mark}
use Rattle.ada_grammar.specs.Fronts.{Point}
use Rattle.ada_grammar.specs.Reading.{Awaits, point, Fails}
use Rattle.ada_grammar.specs.Taking.{NotFirst, Takes}
use Rattle.ada_grammar.proofs.Steps.{start, opened, seen, unseen, tail, good, ends_in}
use Rattle.ada_grammar.proofs.Answering.{fails, fails_last}
use Rattle.ada_exprs.specs.Steps.{MaybeSuffixed, Suffixed}

-- the reader that was called fails
pub refuses : {part inner : Part} (ts : List Lexeme) (cursor middle : Cursor) {k : Phrase → Body} (e : Fault)
    → Awaits part (point ts cursor) (point ts middle) (Call inner k) → good part inner k → Fails inner ts middle e → Fails part ts cursor e
refuses ts cursor middle e s check i = fails ts cursor middle [] e (Err e) s check i refl

-- the reader that is called last fails
pub refuses_last : {part inner : Part} (ts : List Lexeme) (cursor middle : Cursor) (e : Fault)
    → Awaits part (point ts cursor) (point ts middle) (Rest inner) → ends_in part inner ≡ true → Fails inner ts middle e → Fails part ts cursor e
refuses_last ts cursor middle e s check i = fails_last ts cursor middle [] e (Err e) s check i refl

-- a fault of a suffix is handed on
pub suffix_not : (m : Bool) (a : Phrase) (ts : List Lexeme) (cursor : Cursor) (built : List Tree) (e : Fault) (result : Result (Option (Built × Cursor × Bool)) Fault) → Fails (Suffixes m a) ts cursor e → IsErrAnd result (λ z. z ≡ e) → MaybeSuffixed m a ts cursor built result
suffix_not m a ts cursor built e (Ok x) h is = absurd is
suffix_not m a ts cursor built e (Err z) h is = subst (λ (z : Fault). Fails (Suffixes m a) ts cursor z) (sym is) h

-- a dot stands behind the name
pub dotted : (m : Bool) (a : Phrase) {p q : Point} {t : Lexeme} → Takes (mark marks.Dot) t p q → Awaits (Suffixes m a) p q (Take classes.Word (λ n. Rest (Suffixes true (phrases.selected a n))))
dotted true a {p} h = seen (start (Suffixes true a) p) h refl
dotted false a {p} h = seen (start (Suffixes false a) p) h refl

-- a tick does
pub ticked : (m : Bool) (a : Phrase) {p q : Point} {t : Lexeme} → NotFirst (mark marks.Dot) p.rest → Takes (mark marks.Tick) t p q → Awaits (Suffixes m a) p q (Rest (BehindTick a))
ticked true a {p} other h = seen (unseen (start (Suffixes true a) p) other) h refl
ticked false a {p} other h = seen (unseen (start (Suffixes false a) p) other) h refl

-- neither does
pub untied : (m : Bool) (a : Phrase) {p : Point} → NotFirst (mark marks.Dot) p.rest → NotFirst (mark marks.Tick) p.rest → Awaits (Suffixes m a) p p (Rest (MayOpen m a))
untied m a {p} other further = unseen (unseen (start (Suffixes m a) p) other) further

-- where no parentheses may stand, the name ends
pub ends : {part : Part} {p q : Point} (m : Bool) (a : Phrase) → m ≡ false → Awaits part p q (Rest (MayOpen m a)) → Awaits part p q (Gives a)
ends true a e s = cc
ends false a e s = opened s

-- where they may, they stand there or the name ends
pub may_open : {part : Part} {p q : Point} (m : Bool) (a : Phrase) → m ≡ true → Awaits part p q (Rest (MayOpen m a)) → Awaits part p q (Or (Take (mark marks.Open) (λ o. Call (ArgumentsFrom a) (λ n. Rest (Suffixes true n)))) (Gives a))
may_open true a e s = opened s
may_open false a e s = cc

-- what stands behind the tick is the suffix
pub by_tick : (m : Bool) (a : Phrase) (ts : List Lexeme) (cursor next : Cursor) (built : List Tree) (x : Built × Cursor × Bool)
    → Awaits (Suffixes m a) (point ts cursor) (point ts next) (Rest (BehindTick a)) → cursor.at ≤ next.at → Suffixed (BehindTick a) ts next built (Ok x) → MaybeSuffixed m a ts cursor built (Ok (Some x))
by_tick m a ts cursor next built (y, end, opens) s h i = record { within = i.within; forward = omega (arith, i.forward, h); ends = i.ends; awaits = tail s i.awaits refl }
