-- Of each file one thing is told.
use Rattle.std.proofs.Common.{◌≡◌, ℕ, ◌≤◌, length, drop, List, [], ◌∷◌, ◌++◌, Option, Some, None, refl, arith, sym, ap, ◌∙◌, subst, append_assoc}
use Rattle.std.proofs.lemmas.Option.{none-some}
use Rattle.std.proofs.lemmas.List.{length-drop}
use Rattle.spark_messages.specs.declared.messages.Message.{Message}
use Rattle.ada_tree.specs.declared.token.Tokens.{Tokens}
use Rattle.ada_grammar.specs.declared.tokens.Nesting.{Nesting}
use Rattle.ada_grammar.specs.Lexemes.{Lexeme, lexemes, sort}
use Rattle.ada_grammar.specs.Limits.{outermost, step, walk, walk_on}
use Rattle.ada_grammar.specs.Phrases.{Phrase, Tree}
use Rattle.ada_grammar.specs.Parts.{File}
use Rattle.ada_grammar.specs.Spelling.{Spells}
use Rattle.ada_grammar.specs.Fronts.{Bars, Viable}
use Rattle.ada_grammar.specs.Answer.{IsLimit, Longest}
use Rattle.ada_grammar.specs.Refusals.{limit_message, syntax_message}
use Rattle.ada_grammar.proofs.Ahead.{heads, lexemes_length}
use Rattle.ada_grammar.proofs.Steps.{walk_append}
use Rattle.spark_parser.specs.Parsed.{ForLimit, ForSyntax, IsFile, IsNoFile, IsRefused, Told, nothing, reads, refuses}

-- Two ways to part one list

data Order (u r v s : List Lexeme) : Type 0 where
  same : u ≡ v → r ≡ s → Order u r v s
  before : (t : Lexeme) (x : List Lexeme) → v ≡ u ++ t ∷ x → r ≡ t ∷ (x ++ s) → Order u r v s
  behind : (t : Lexeme) (x : List Lexeme) → u ≡ v ++ t ∷ x → s ≡ t ∷ (x ++ r) → Order u r v s

tails : (t w : Lexeme) (a b : List Lexeme) → t ∷ a ≡ w ∷ b → a ≡ b
tails t w a b e = cc

longer : (t w : Lexeme) {u r v s : List Lexeme} → t ≡ w → Order u r v s → Order (t ∷ u) r (w ∷ v) s
longer t w {u} {r} {v} {s} e (same a b) = same (ap (λ (z : Lexeme). z ∷ u) e ∙ ap (λ (z : List Lexeme). w ∷ z) a) b
longer t w {u} {r} {v} {s} e (before k x a b) = before k x (ap (λ (z : List Lexeme). w ∷ z) a ∙ ap (λ (z : Lexeme). z ∷ (u ++ k ∷ x)) (sym e)) b
longer t w {u} {r} {v} {s} e (behind k x a b) = behind k x (ap (λ (z : List Lexeme). t ∷ z) a ∙ ap (λ (z : Lexeme). z ∷ (v ++ k ∷ x)) e) b

order : (u r v s : List Lexeme) → u ++ r ≡ v ++ s → Order u r v s
order [] r [] s e = same refl e
order [] r (t ∷ v) s e = before t v refl e
order (t ∷ u) r [] s e = behind t u refl (sym e)
order (t ∷ u) r (w ∷ v) s e = longer t w (heads t w (u ++ r) (v ++ s) e) (order u r v s (tails t w (u ++ r) (v ++ s) e))

-- a list that goes on behind a token, with a list behind it
on : (u : List Lexeme) (t : Lexeme) (x v : List Lexeme) → (u ++ t ∷ x) ++ v ≡ (u ++ t ∷ []) ++ (x ++ v)
on u t x v = append_assoc u (t ∷ x) v ∙ sym (append_assoc u (t ∷ []) (x ++ v))

-- nothing longer than the longest front is viable
none_longer : {ts u r : List Lexeme} → Longest File (outermost 0) ts u r → (t : Lexeme) (x z : List Lexeme) → r ≡ t ∷ z → Viable File (u ++ t ∷ x) → ⊥
none_longer {ts} {u} {r} f t x z e h = f.longest t z e (h.0, x ++ h.1, subst (λ (z : List Lexeme). Spells File h.0 z) (on u t x h.1) h.2)

none_on : (x : List Lexeme) → walk_on None x ≡ None
none_on [] = refl
none_on (t ∷ x) = none_on x

-- behind a token that passes a limit nothing is within it
none_past : {level : Nesting} (u : List Lexeme) (t : Lexeme) (x : List Lexeme) → walk (outermost 0) u ≡ Some level → step level (sort t) ≡ None → {ends : Nesting} → walk (outermost 0) (u ++ t ∷ x) ≡ Some ends → ⊥
none_past {level} u t x walked passes {ends} h =
    none-some ends (sym (walk_append (outermost 0) level u (t ∷ x) walked ∙ (ap (λ (z : Option Nesting). walk_on z x) passes ∙ none_on x)) ∙ h)

-- One refusal

-- a file that is read passes no limit
limit_of_none : {tokens : Tokens} {m : Message} {ends : Nesting} → walk (outermost 0) (lexemes tokens) ≡ Some ends → IsLimit File (outermost 0) tokens 0 m → ⊥
limit_of_none {tokens} {m} {ends} h l =
    none_past l.bars.word l.bars.token l.bars.further l.bars.walked l.bars.passes
    (sym (ap (λ (z : List Lexeme). walk (outermost 0) z) (l.bars.splits ∙ ap (λ (z : List Lexeme). l.bars.word ++ z) l.bars.joins)) ∙ h)

-- a file that is refused for a limit is not refused for its syntax
limit_or_syntax : {tokens : Tokens} {m n : Message} → IsNoFile tokens m → IsLimit File (outermost 0) tokens 0 n → ⊥
limit_or_syntax {tokens} {m} {n} i l = apart (order i.word (drop i.place (lexemes tokens)) b.word (b.token ∷ b.further) (sym i.front.splits ∙ (b.splits ∙ ap (λ (z : List Lexeme). b.word ++ z) b.joins)))
  where
    b : Bars File (record { rest = drop 0 (lexemes tokens); level = outermost 0 }) (drop l.place (lexemes tokens))
    b = l.bars

    apart : Order i.word (drop i.place (lexemes tokens)) b.word (b.token ∷ b.further) → ⊥
    apart (same e f) = none_longer i.front b.token [] b.further f (subst (λ (z : List Lexeme). Viable File (z ++ b.token ∷ [])) (sym e) b.viable)
    apart (before t x e f) = none_longer i.front t (x ++ b.token ∷ []) (x ++ b.token ∷ b.further) f
        (subst (λ (z : List Lexeme). Viable File z) (append_assoc i.word (t ∷ x) (b.token ∷ [])) (subst (λ (z : List Lexeme). Viable File (z ++ b.token ∷ [])) e b.viable))
    apart (behind t x e f) = none_past b.word b.token x b.walked b.passes
        (sym (ap (λ (z : List Lexeme). walk (outermost 0) z) (e ∙ ap (λ (z : Lexeme). b.word ++ z ∷ x) (sym (heads b.token t b.further (x ++ drop i.place (lexemes tokens)) f)))) ∙ i.front.within)

-- what is left tells the place
one_place : (ts : List Lexeme) (i j : ℕ) → i ≤ length ts → j ≤ length ts → drop i ts ≡ drop j ts → i ≡ j
one_place ts i j h k e = omega (arith, h, k, length-drop i ts, length-drop j ts, ap (λ (z : List Lexeme). length z) e)

one_syntax : {tokens : Tokens} {m n : Message} → IsNoFile tokens m → IsNoFile tokens n → m ≡ n
one_syntax {tokens} {m} {n} i j = i.message ∙ (ap (λ (z : ℕ). syntax_message tokens z) place ∙ sym j.message)
  where
    left : Order i.word (drop i.place (lexemes tokens)) j.word (drop j.place (lexemes tokens)) → drop i.place (lexemes tokens) ≡ drop j.place (lexemes tokens)
    left (same e f) = f
    left (before t x e f) = absurd (none_longer i.front t x (x ++ drop j.place (lexemes tokens)) f (subst (λ (z : List Lexeme). Viable File z) e j.front.viable))
    left (behind t x e f) = absurd (none_longer j.front t x (x ++ drop i.place (lexemes tokens)) f (subst (λ (z : List Lexeme). Viable File z) e i.front.viable))

    place : i.place ≡ j.place
    place = one_place (lexemes tokens) i.place j.place (omega (arith, i.ends, lexemes_length tokens)) (omega (arith, j.ends, lexemes_length tokens))
        (left (order i.word (drop i.place (lexemes tokens)) j.word (drop j.place (lexemes tokens)) (sym i.front.splits ∙ j.front.splits)))

one_limit : {tokens : Tokens} {m n : Message} → IsLimit File (outermost 0) tokens 0 m → IsLimit File (outermost 0) tokens 0 n → m ≡ n
one_limit {tokens} {m} {n} k l = k.message ∙ (ap (λ (z : ℕ). limit_message tokens z) place ∙ sym l.message)
  where
    a : Bars File (record { rest = drop 0 (lexemes tokens); level = outermost 0 }) (drop k.place (lexemes tokens))
    a = k.bars

    b : Bars File (record { rest = drop 0 (lexemes tokens); level = outermost 0 }) (drop l.place (lexemes tokens))
    b = l.bars

    left : Order a.word (a.token ∷ a.further) b.word (b.token ∷ b.further) → a.token ∷ a.further ≡ b.token ∷ b.further
    left (same e f) = f
    left (before t x e f) = absurd (none_past a.word a.token x a.walked a.passes
        (sym (ap (λ (z : List Lexeme). walk (outermost 0) z) (e ∙ ap (λ (z : Lexeme). a.word ++ z ∷ x) (sym (heads a.token t a.further (x ++ b.token ∷ b.further) f)))) ∙ b.walked))
    left (behind t x e f) = absurd (none_past b.word b.token x b.walked b.passes
        (sym (ap (λ (z : List Lexeme). walk (outermost 0) z) (e ∙ ap (λ (z : Lexeme). b.word ++ z ∷ x) (sym (heads b.token t b.further (x ++ a.token ∷ a.further) f)))) ∙ a.walked))

    joins : a.word ++ a.token ∷ a.further ≡ b.word ++ b.token ∷ b.further
    joins = sym (a.splits ∙ ap (λ (z : List Lexeme). a.word ++ z) a.joins) ∙ (b.splits ∙ ap (λ (z : List Lexeme). b.word ++ z) b.joins)

    place : k.place ≡ l.place
    place = one_place (lexemes tokens) k.place l.place (omega (arith, k.ends, lexemes_length tokens)) (omega (arith, l.ends, lexemes_length tokens))
        (a.joins ∙ (left (order a.word (a.token ∷ a.further) b.word (b.token ∷ b.further) joins) ∙ sym b.joins))

one_refusal : {tokens : Tokens} {m n : Message} → IsRefused tokens m → IsRefused tokens n → m ≡ n
one_refusal (ForSyntax i) (ForSyntax j) = one_syntax i j
one_refusal (ForSyntax i) (ForLimit l) = absurd (limit_or_syntax i l)
one_refusal (ForLimit l) (ForSyntax i) = absurd (limit_or_syntax i l)
one_refusal (ForLimit k) (ForLimit l) = one_limit k l

read_or_refused : {tokens : Tokens} {units : List Tree} {m : Message} → IsFile tokens units → IsRefused tokens m → ⊥
read_or_refused f (ForSyntax i) = i.none f.phrase f.spells
read_or_refused f (ForLimit l) = limit_of_none f.within l

one_list : {tokens : Tokens} {us vs : List Tree} → IsFile tokens us → IsFile tokens vs → us ≡ vs
one_list f g = f.gives ∙ (ap (λ (z : Phrase). z.children.units) (g.one f.phrase f.spells) ∙ sym g.gives)

both : {us vs : List Tree} {xs ys : List Tree} → us ≡ vs → xs ≡ ys → us ++ xs ≡ vs ++ ys
both {us} {vs} {xs} {ys} e f = ap (λ (z : List Tree). z ++ xs) e ∙ ap (λ (z : List Tree). vs ++ z) f

more_refusals : {m n : Message} {ms ns : List Message} → m ≡ n → ms ≡ ns → m ∷ ms ≡ n ∷ ns
more_refusals {m} {n} {ms} {ns} e f = ap (λ (z : Message). z ∷ ms) e ∙ ap (λ (z : List Message). n ∷ z) f

pub one_told : {all : List Tokens} {us vs : List Tree} {ms ns : List Message} → Told all us ms → Told all vs ns → (us ≡ vs) × (ms ≡ ns)
one_told nothing nothing = (refl, refl)
one_told (reads f a) (reads g b) = let z = one_told a b in (both (one_list f g) z.0, z.1)
one_told (reads f a) (refuses r b) = absurd (read_or_refused f r)
one_told (refuses r a) (reads f b) = absurd (read_or_refused f r)
one_told (refuses r a) (refuses q b) = let z = one_told a b in (z.0, more_refusals (one_refusal r q) z.1)
