-- The test of nesting decides whether lines are those of a list of statements.
use Rattle.std.proofs.Common.{◌≡◌, ℕ, zero, suc, ◌+◌, Bool, true, false, List, [], ◌∷◌, length, Option, Some, None, IsTrue, refl, sym, ap, subst, ◌∙◌, arith}
use Rattle.std.specs.Prelude.{nat_lt, ◌&&◌}
use Rattle.std.proofs.lemmas.Bool.{lt-ltb, ltb-true}
use Rattle.spark_messages.proofs.Bools.{both}
use Rattle.first_path.specs.declared.nested.Side.{Side}
use Rattle.first_path.specs.declared.nested.Side.TheVariants as side
use Rattle.first_path.specs.declared.source.Line.{Line}
use Rattle.first_path.specs.declared.source.Line.TheVariants as line
use Rattle.first_path.specs.declared.source.Test.{Test}
use Rattle.first_path.specs.Nested.{Statements, Last, More, Statement, Null, Assign, If, IfElse, statements_then, statement_then, FitAll, Fits, AreNested}
use Rattle.first_path.specs.Nesting.{nests}

below : (n m : ℕ) → suc m + n ≡ 128 → nat_lt n 128 ≡ true
below n m e = lt-ltb n 128 (omega (arith, e))

and_true : (a b : Bool) → a ≡ true → (a && b) ≡ b
and_true a b e = ap (λ (x : Bool). x && b) e

mutual
  -- the lines of a list of statements leave a list that has a statement
  all_pass : (room : ℕ) (ss : Statements) (sides : List Side) (has : Bool) (rest : List Line) → room + length sides ≡ 128 → FitAll room ss → nests sides has (statements_then ss rest) ≡ nests sides true rest
  all_pass room (Last s) sides has rest e fit = one_passes room s sides has rest e fit
  all_pass room (More s ss) sides has rest e fit =
      one_passes room s sides has (statements_then ss rest) e fit.0 ∙ all_pass room ss sides true rest e fit.1

  one_passes : (room : ℕ) (s : Statement) (sides : List Side) (has : Bool) (rest : List Line) → room + length sides ≡ 128 → Fits room s → nests sides has (statement_then s rest) ≡ nests sides true rest
  one_passes room Null sides has rest e fit = refl
  one_passes room (Assign target value) sides has rest e fit = refl
  one_passes zero (If test main) sides has rest e fit = absurd fit
  one_passes (suc room) (If test main) sides has rest e fit =
      and_true (nat_lt (length sides) 128) _ (below (length sides) room e)
      ∙ all_pass room main (side.Then ∷ sides) false (line.EndIf ∷ rest) (omega (arith, e)) fit
  one_passes zero (IfElse test main other) sides has rest e fit = absurd fit
  one_passes (suc room) (IfElse test main other) sides has rest e fit =
      and_true (nat_lt (length sides) 128) _ (below (length sides) room e)
      ∙ all_pass room main (side.Then ∷ sides) false (line.Else ∷ statements_then other (line.EndIf ∷ rest)) (omega (arith, e)) fit.0
      ∙ all_pass room other (side.Else ∷ sides) false (line.EndIf ∷ rest) (omega (arith, e)) fit.1

-- the rest of a list
abbrev tail_then : Option Statements → List Line → List Line
tail_then None rest = rest
tail_then (Some ss) rest = statements_then ss rest

abbrev else_then : Option Statements → List Line → List Line
else_then None rest = rest
else_then (Some ss) rest = line.Else ∷ statements_then ss rest

abbrev FitTail : ℕ → Option Statements → Type 0
FitTail room None = Unit {0}
FitTail room (Some ss) = FitAll room ss

-- a list has a statement, or one comes
abbrev Comes : Bool → Option Statements → Type 0
Comes true t = Unit {0}
Comes false None = ⊥
Comes false (Some ss) = Unit {0}

-- which lines end what is open
abbrev Awaits : ℕ → List Side → Bool → List Line → Type 0
Awaits room [] has ls = (t : Option Statements) × (FitTail room t × Comes has t × (ls ≡ tail_then t []))
Awaits room (side.Then ∷ ss) has ls =
    (t : Option Statements) × ((u : Option Statements) × ((after : List Line) ×
    (FitTail room t × Comes has t × FitTail room u × (ls ≡ tail_then t (else_then u (line.EndIf ∷ after))) × Awaits (suc room) ss true after)))
Awaits room (side.Else ∷ ss) has ls =
    (t : Option Statements) × ((after : List Line) ×
    (FitTail room t × Comes has t × (ls ≡ tail_then t (line.EndIf ∷ after)) × Awaits (suc room) ss true after))

abbrev front : Statement → Option Statements → Statements
front s None = Last s
front s (Some ss) = More s ss

front_then : (s : Statement) (t : Option Statements) (rest : List Line) → statement_then s (tail_then t rest) ≡ statements_then (front s t) rest
front_then s None rest = refl
front_then s (Some ss) rest = refl

front_fits : (room : ℕ) (s : Statement) (t : Option Statements) → Fits room s → FitTail room t → FitAll room (front s t)
front_fits room s None h k = h
front_fits room s (Some ss) h k = (h, k)

comes : (has : Bool) (ss : Statements) → Comes has (Some ss)
comes true ss = tt
comes false ss = tt

-- a statement before
before : (room : ℕ) (s : Statement) (sides : List Side) (has : Bool) (ls : List Line) → Fits room s → Awaits room sides true ls → Awaits room sides has (statement_then s ls)
before room s [] has ls fit (t, (f, c, e)) =
    (Some (front s t), (front_fits room s t fit f, comes has (front s t), ap (statement_then s) e ∙ front_then s t []))
before room s (side.Then ∷ ss) has ls fit (t, (u, (after, (f, c, g, e, w)))) =
    (Some (front s t), (u, (after, (front_fits room s t fit f, comes has (front s t), g, ap (statement_then s) e ∙ front_then s t (else_then u (line.EndIf ∷ after)), w))))
before room s (side.Else ∷ ss) has ls fit (t, (after, (f, c, e, w))) =
    (Some (front s t), (after, (front_fits room s t fit f, comes has (front s t), ap (statement_then s) e ∙ front_then s t (line.EndIf ∷ after), w)))

-- an if, by what ends it
whole_if : (room : ℕ) (test : Test) (sides : List Side) (has : Bool) (ls : List Line) → Awaits room (side.Then ∷ sides) false ls → Awaits (suc room) sides has (line.If test ∷ ls)
whole_if room test sides has ls (None, (u, (after, (f, c, g, e, w)))) = absurd c
whole_if room test sides has ls (Some main, (None, (after, (f, c, g, e, w)))) =
    subst (λ (x : List Line). Awaits (suc room) sides has (line.If test ∷ x)) (sym e) (before (suc room) (If test main) sides has after f w)
whole_if room test sides has ls (Some main, (Some other, (after, (f, c, g, e, w)))) =
    subst (λ (x : List Line). Awaits (suc room) sides has (line.If test ∷ x)) (sym e) (before (suc room) (IfElse test main other) sides has after (f, g) w)

else_part : (room : ℕ) (sides : List Side) (has : Bool) (ls : List Line) → has ≡ true → Awaits room (side.Else ∷ sides) false ls → Awaits room (side.Then ∷ sides) has (line.Else ∷ ls)
else_part room sides has ls h (None, (after, (f, c, e, w))) = absurd c
else_part room sides has ls h (Some other, (after, (f, c, e, w))) =
    (None, (Some other, (after, (tt, subst (λ (x : Bool). Comes x None) (sym h) tt, f, ap (λ (x : List Line). line.Else ∷ x) e, w))))

end_part : (room : ℕ) (s : Side) (sides : List Side) (has : Bool) (ls : List Line) → has ≡ true → Awaits (suc room) sides true ls → Awaits room (s ∷ sides) has (line.EndIf ∷ ls)
end_part room side.Then sides has ls h w = (None, (None, (ls, (tt, subst (λ (x : Bool). Comes x None) (sym h) tt, tt, refl, w))))
end_part room side.Else sides has ls h w = (None, (ls, (tt, subst (λ (x : Bool). Comes x None) (sym h) tt, refl, w)))

-- lines that pass end what is open
awaits : (room : ℕ) (sides : List Side) (has : Bool) (ls : List Line) → room + length sides ≡ 128 → nests sides has ls ≡ true → Awaits room sides has ls
awaits room [] has [] e h = (None, (tt, subst (λ (x : Bool). Comes x None) (sym h) tt, refl))
awaits room (s ∷ ss) has [] e h = absurd cc
awaits room sides has (line.Null ∷ ls) e h = before room Null sides has ls tt (awaits room sides true ls e h)
awaits room sides has (line.Assign target value ∷ ls) e h = before room (Assign target value) sides has ls tt (awaits room sides true ls e h)
awaits zero sides has (line.If test ∷ ls) e h = absurd (let l = ltb-true (length sides) 128 (both (nat_lt (length sides) 128) _ h).0 in omega (arith, e, l))
awaits (suc room) sides has (line.If test ∷ ls) e h =
    whole_if room test sides has ls (awaits room (side.Then ∷ sides) false ls (omega (arith, e)) (both (nat_lt (length sides) 128) _ h).1)
awaits room [] has (line.Else ∷ ls) e h = absurd cc
awaits room (side.Then ∷ ss) has (line.Else ∷ ls) e h =
    else_part room ss has ls (both has _ h).0 (awaits room (side.Else ∷ ss) false ls e (both has _ h).1)
awaits room (side.Else ∷ ss) has (line.Else ∷ ls) e h = absurd cc
awaits room [] has (line.EndIf ∷ ls) e h = absurd cc
awaits room (s ∷ ss) has (line.EndIf ∷ ls) e h =
    end_part room s ss has ls (both has _ h).0 (awaits (suc room) ss true ls (omega (arith, e)) (both has _ h).1)

of_awaits : (ls : List Line) → Awaits 128 [] false ls → AreNested ls
of_awaits ls (None, (f, c, e)) = absurd c
of_awaits ls (Some ss, (f, c, e)) = record { statements = ss; written = e; fit = f }

pub nested : (ls : List Line) (b : Bool) → b ≡ nests [] false ls → IsTrue b → AreNested ls
nested ls b e h = of_awaits ls (awaits 128 [] false ls refl (sym e ∙ h))

pub denied_nested : (ls : List Line) (b : Bool) → b ≡ nests [] false ls → b ≡ false → AreNested ls → ⊥
denied_nested ls b e h n =
    let p : nests [] false ls ≡ true = ap (nests [] false) n.written ∙ all_pass 128 n.statements [] false [] refl n.fit in
    let q : true ≡ false = sym p ∙ sym e ∙ h in
    cc
