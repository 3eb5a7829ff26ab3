-- What the limits know in an expression, and what a token does to it.
use Rattle.std.proofs.Common.{◌≡◌, ◌⊎◌, inl, inr, ℕ, zero, suc, ◌+◌, ◌-◌, ◌<◌, ◌≤◌, Bool, true, false, ◌||◌, if◌then◌else◌, nat_lt, nat_eq, get_or, List, [], ◌∷◌, Option, Some, None, refl, sym, ◌∙◌, ap, subst, arith}
use Rattle.std.proofs.lemmas.Bool.{ltb-false, ltb-true, eqb-true, le-ltb, ne_eqb}
use Rattle.ada_tree.specs.declared.token.Mark.{Mark}
use Rattle.ada_tree.specs.declared.token.Mark.TheVariants as marks
use Rattle.ada_tree.specs.declared.words.Reserved.{Reserved}
use Rattle.ada_tree.specs.declared.words.Reserved.TheVariants as words
use Rattle.ada_grammar.specs.declared.tokens.Class.{Class}
use Rattle.ada_grammar.specs.declared.tokens.Class.TheVariants as classes
use Rattle.ada_grammar.specs.declared.tokens.Last.{Last}
use Rattle.ada_grammar.specs.declared.tokens.Last.TheVariants as lasts
use Rattle.ada_grammar.specs.declared.tokens.LoopHead.TheVariants as loop_heads
use Rattle.ada_grammar.specs.declared.tokens.Nesting.{Nesting}
use Rattle.ada_grammar.specs.declared.weights.Weight.{Weight}
use Rattle.ada_grammar.specs.declared.weights.Weight.TheVariants as weights
use Rattle.ada_grammar.specs.Sorts.{Sort, WordSort, NumberSort, ReservedSort, MarkSort, is_in, is_word, is_relational, is_adding, is_multiplying}
use Rattle.ada_grammar.specs.Numbers.{mark_number, same_mark}
use Rattle.ada_grammar.specs.Limits.{most_operators, most_open, with_last, with_open, closed, weighed, ended, counted, contained, member, outside, behind_dots, behind_range, behind_then, behind_else, divided, in_for_head, with_count, with_depth, is_end, is_not, is_and, is_or, is_is, is_tick, is_parameter, anew, weight_of, last_of, step}
use Rattle.ada_grammar.specs.Lexemes.{Lexeme, sort}
use Rattle.ada_grammar.proofs.EverySort.{one_word}
use Rattle.grammar_laws.proofs.Tests.{if_true, if_false, if_same, none_some, some_same, went}

-- how deep a place lies in the parentheses of an expression, how many operators stand before it, the last token where it
-- is known, and whether it is behind the word in, with no parentheses between
pub record State : Type 0 where
  pub deep : ℕ
  pub count : ℕ
  pub last : Option Last
  pub member : Bool

abbrev pub Known : Option Last → Last → Type 0
Known None l = is_end l ≡ false
Known (Some k) l = l ≡ k

-- the limits know this at a place of an expression that began at z, with so many parentheses open
pub record Tracks (z : Nesting) (d : ℕ) (s : State) (n : Nesting) : Type 0 where
  pub depth : n.depth ≡ d + s.deep
  pub operators : n.operators ≡ z.operators + s.count
  pub most : n.operators ≤ most_operators
  pub compounds : n.compounds ≡ z.compounds
  pub loops : n.loops ≡ z.loops
  pub in_statements : n.in_statements ≡ z.in_statements
  pub head : n.head ≡ z.head
  pub skips : n.skips ≡ false
  pub last : Known s.last n.last
  pub parted : n.parted ≤ d + 1
  pub fewer : n.parted ≤ z.parted
  pub member : s.member ≡ true → n.parted ≤ n.depth

abbrev pub inside : ℕ → Bool
inside zero = false
inside (suc n) = true

abbrev pub was_not : Option Last → Bool
was_not (Some lasts.Not) = true
was_not l = false

abbrev pub was_and : Option Last → Bool
was_and (Some lasts.And) = true
was_and l = false

abbrev pub was_or : Option Last → Bool
was_or (Some lasts.Or) = true
was_or l = false

abbrev pub was_tick : Option Last → Bool
was_tick (Some lasts.Tick) = true
was_tick l = false

abbrev pub was_other : Option Last → Bool
was_other (Some lasts.Other) = true
was_other l = false

abbrev pub goes : Option Last → Bool
goes (Some lasts.End) = false
goes l = true

abbrev pub counted_on : State → State
counted_on s = record s { count = s.count + 1 }

-- what a token of this weight does; None where no expression has it there
abbrev pub moved : Weight → State → Option State
moved weights.Nothing s = Some s
moved weights.Operator s = Some (counted_on s)
moved weights.Divides s = if was_other s.last then Some (counted_on s) else None
moved weights.Contains s =
    if was_not s.last then Some (record s { member = true }) else
    (if was_other s.last then Some (record (counted_on s) { member = true }) else None)
moved weights.Dots s = if s.member || inside s.deep then Some s else None
moved weights.Ranges s = if was_tick s.last then Some s else None
moved weights.Then s = if was_and s.last || inside s.deep then Some s else None
moved weights.Else s = if was_or s.last || inside s.deep then Some s else None
moved weights.Parts s = if inside s.deep then Some s else None
moved weights.Branches s = if inside s.deep then Some s else None
moved weights.Opens s = Some (record s { deep = s.deep + 1; member = false })
moved weights.Closes s = if inside s.deep then Some (record s { deep = s.deep - 1; member = false }) else None
moved w s = None

abbrev pub last_is : Last → Option State → Option State
last_is l None = None
last_is l (Some s) = Some (record s { last = Some l })

abbrev pub moves_on : Sort → State → Option State
moves_on t s = if goes s.last then last_is (last_of t) (moved (weight_of t) s) else None

-- what a token of the class does
abbrev pub moves : Class → State → Option State
moves classes.Word s = if goes s.last then last_is lasts.Other (Some s) else None
moves classes.Number s = if goes s.last then last_is lasts.Other (Some s) else None
moves classes.Relational s = if goes s.last then last_is lasts.Other (Some (counted_on s)) else None
moves classes.Adding s = if goes s.last then last_is lasts.Other (Some (counted_on s)) else None
moves classes.Multiplying s = if was_other s.last then last_is lasts.Other (Some (counted_on s)) else None
moves classes.AttributeName s = if was_tick s.last then last_is lasts.Other (Some s) else None
moves (classes.Reserved w) s = moves_on (ReservedSort w) s
moves (classes.Mark m) s = moves_on (MarkSort m) s
moves c s = None

-- a test that passed
passed : {A : Type 0} (b : Bool) (x y : A) → (if b then Some x else None) ≡ Some y → (b ≡ true) × (x ≡ y)
passed true x y e = (refl, cc)
passed false x y e = cc

last_known : (l : Option Last) (k : Last) → goes l ≡ true → Known l k → is_end k ≡ false
last_known None k e h = h
last_known (Some lasts.End) k e h = cc
last_known (Some l) k e h = ap is_end h ∙ other l e
  where
    other : (l : Last) → goes (Some l) ≡ true → is_end l ≡ false
    other lasts.End e = cc
    other l e = refl

inside_deep : (n : ℕ) → inside n ≡ true → 0 < n
inside_deep zero e = cc
inside_deep (suc n) e = omega arith

or_cases : (a b : Bool) → (a || b) ≡ true → (a ≡ true) ⊎ (b ≡ true)
or_cases true b e = inl refl
or_cases false b e = inr e

was_other_last : (l : Option Last) (k : Last) → was_other l ≡ true → Known l k → k ≡ lasts.Other
was_other_last None k e h = cc
was_other_last (Some lasts.Other) k e h = h
was_other_last (Some l) k e h = cc

was_not_last : (l : Option Last) (k : Last) → was_not l ≡ true → Known l k → k ≡ lasts.Not
was_not_last None k e h = cc
was_not_last (Some lasts.Not) k e h = h
was_not_last (Some l) k e h = cc

was_and_last : (l : Option Last) (k : Last) → was_and l ≡ true → Known l k → k ≡ lasts.And
was_and_last None k e h = cc
was_and_last (Some lasts.And) k e h = h
was_and_last (Some l) k e h = cc

was_or_last : (l : Option Last) (k : Last) → was_or l ≡ true → Known l k → k ≡ lasts.Or
was_or_last None k e h = cc
was_or_last (Some lasts.Or) k e h = h
was_or_last (Some l) k e h = cc

was_tick_last : (l : Option Last) (k : Last) → was_tick l ≡ true → Known l k → k ≡ lasts.Tick
was_tick_last None k e h = cc
was_tick_last (Some lasts.Tick) k e h = h
was_tick_last (Some l) k e h = cc

goes_other : (l : Option Last) → was_other l ≡ true → goes l ≡ true
goes_other None e = refl
goes_other (Some lasts.End) e = cc
goes_other (Some l) e = refl

goes_tick : (l : Option Last) → was_tick l ≡ true → goes l ≡ true
goes_tick None e = refl
goes_tick (Some lasts.End) e = cc
goes_tick (Some l) e = refl

ended_same : (n : Nesting) (v : Weight) → n.skips ≡ false → is_end n.last ≡ false → ended n v ≡ n
ended_same n v a b = if_false n.skips n (if is_end n.last then closed n v else n) a ∙ if_false (is_end n.last) (closed n v) n b

-- the state and the nesting that came out
came : (z : Nesting) (d : ℕ) (s x : State) (n m : Nesting) → Some s ≡ Some x → Some n ≡ Some m → Tracks z d s n → Tracks z d x m
came z d s x n m e f t = subst (λ (i : State). Tracks z d i m) (some_same s x e) (subst (λ (i : Nesting). Tracks z d s i) (some_same n m f) t)

settled : (k : Last) (o : Option Nesting) (n m : Nesting) → o ≡ Some n → with_last k o ≡ Some m → Some (record n { last = k }) ≡ Some m
settled k o n m p e = sym (ap (λ (i : Option Nesting). with_last k i) p) ∙ e

settled_if : (k : Last) (b : Bool) (n m : Nesting) → with_last k (if b then Some n else None) ≡ Some m → (b ≡ true) × (Some (record n { last = k }) ≡ Some m)
settled_if k true n m e = (refl, e)
settled_if k false n m e = cc

-- a token that counts nothing
keeps : (k : Last) (z : Nesting) (d : ℕ) (s : State) (n : Nesting) → Tracks z d s n → Tracks z d (record s { last = Some k }) (record n { last = k })
keeps k z d s n t = record {
  depth = t.depth;
  operators = t.operators;
  most = t.most;
  compounds = t.compounds;
  loops = t.loops;
  in_statements = t.in_statements;
  head = t.head;
  skips = t.skips;
  last = refl;
  parted = t.parted;
  fewer = t.fewer;
  member = t.member;
}

-- an operator
grown : (k : Last) (z : Nesting) (d : ℕ) (s : State) (n : Nesting) → Tracks z d s n → nat_lt n.operators most_operators ≡ true
    → Tracks z d (record (counted_on s) { last = Some k }) (record (with_count n (n.operators + 1) n.parted) { last = k })
grown k z d s n t e =
    let below : n.operators < most_operators = ltb-true n.operators most_operators e in
    record {
      depth = t.depth;
      operators = omega arith;
      most = omega arith;
      compounds = t.compounds;
      loops = t.loops;
      in_statements = t.in_statements;
      head = t.head;
      skips = t.skips;
      last = refl;
      parted = t.parted;
      fewer = t.fewer;
      member = t.member;
    }

-- the word in, before it is counted
joined_at : (b : Bool) (z : Nesting) (d : ℕ) (s : State) (n : Nesting) → b ≡ nat_lt n.depth n.parted → Tracks z d s n → Tracks z d (record s { member = true }) (if b then with_count n n.operators 0 else n)
joined_at true z d s n e t = record {
  depth = t.depth;
  operators = t.operators;
  most = t.most;
  compounds = t.compounds;
  loops = t.loops;
  in_statements = t.in_statements;
  head = t.head;
  skips = t.skips;
  last = t.last;
  parted = omega arith;
  fewer = omega arith;
  member = λ i. omega arith;
}
joined_at false z d s n e t = record {
  depth = t.depth;
  operators = t.operators;
  most = t.most;
  compounds = t.compounds;
  loops = t.loops;
  in_statements = t.in_statements;
  head = t.head;
  skips = t.skips;
  last = t.last;
  parted = t.parted;
  fewer = t.fewer;
  member = λ i. ltb-false n.depth n.parted (sym e);
}

joined : (z : Nesting) (d : ℕ) (s : State) (n : Nesting) → Tracks z d s n → Tracks z d (record s { member = true }) (member n)
joined z d s n t = joined_at (nat_lt n.depth n.parted) z d s n refl t

no_head : (n : Nesting) → is_parameter n.head ≡ false → in_for_head n ≡ false
no_head n e = at (nat_eq n.depth 0)
  where
    at : (b : Bool) → (if b then is_parameter n.head else false) ≡ false
    at true = e
    at false = refl

-- not outside all parentheses
within : (z : Nesting) (d : ℕ) (s : State) (n : Nesting) → Tracks z d s n → inside s.deep ≡ true → nat_eq n.depth 0 ≡ false
within z d s n t e = let deep = inside_deep s.deep e in let depth = t.depth in ne_eqb n.depth 0 (λ i. absurd (omega arith))

contains_at : (a b : Bool) (k : Last) (z : Nesting) (d : ℕ) (s x : State) (n m : Nesting) → a ≡ was_not s.last → b ≡ was_other s.last → is_parameter z.head ≡ false → Tracks z d s n
    → last_is k (if a then Some (record s { member = true }) else (if b then Some (record (counted_on s) { member = true }) else None)) ≡ Some x
    → with_last k (contained n) ≡ Some m → Tracks z d x m
contains_at a b k z d s x n m ea eb head t h e =
    let free : in_for_head n ≡ false = no_head n (ap is_parameter t.head ∙ head) in
    let f : with_last k (if is_not n.last then Some (member n) else counted (member n)) ≡ Some m =
    sym (ap (λ (o : Option Nesting). with_last k o) (if_false (in_for_head n) (Some (anew (with_open n n.compounds n.loops loop_heads.Scheme))) (if is_not n.last then Some (member n) else counted (member n)) free)) ∙ e in
    by a b ea eb h f
  where
    by : (a b : Bool) → a ≡ was_not s.last → b ≡ was_other s.last
        → last_is k (if a then Some (record s { member = true }) else (if b then Some (record (counted_on s) { member = true }) else None)) ≡ Some x
        → with_last k (if is_not n.last then Some (member n) else counted (member n)) ≡ Some m → Tracks z d x m
    by true b ea eb h f =
        let same : is_not n.last ≡ true = ap is_not (was_not_last s.last n.last (sym ea) t.last) in
        came z d (record s { member = true; last = Some k }) x (record (member n) { last = k }) m h
        (settled k (if is_not n.last then Some (member n) else counted (member n)) (member n) m (if_true (is_not n.last) (Some (member n)) (counted (member n)) same) f)
        (keeps k z d (record s { member = true }) (member n) (joined z d s n t))
    by false true ea eb h f =
        let other : is_not n.last ≡ false = ap is_not (was_other_last s.last n.last (sym eb) t.last) in
        let g : with_last k (counted (member n)) ≡ Some m = sym (ap (λ (o : Option Nesting). with_last k o) (if_false (is_not n.last) (Some (member n)) (counted (member n)) other)) ∙ f in
        let c = settled_if k (nat_lt (member n).operators most_operators) (with_count (member n) ((member n).operators + 1) (member n).parted) m g in
        came z d (record (counted_on s) { member = true; last = Some k }) x (record (with_count (member n) ((member n).operators + 1) (member n).parted) { last = k }) m h c.1
        (grown k z d (record s { member = true }) (member n) (joined z d s n t) c.0)
    by false false ea eb h f = none_some x h

last_passed : (k : Last) (b : Bool) (s x : State) → last_is k (if b then Some s else None) ≡ Some x → (b ≡ true) × (Some (record s { last = Some k }) ≡ Some x)
last_passed k true s x e = (refl, e)
last_passed k false s x e = cc

-- two dots in parentheses part nothing
deep_parted : (z : Nesting) (d : ℕ) (s : State) (n : Nesting) → Tracks z d s n → inside s.deep ≡ true → n.parted ≤ n.depth
deep_parted z d s n t e = let deep = inside_deep s.deep e in let depth = t.depth in let parted = t.parted in omega arith

deeper : (k : Last) (z : Nesting) (d : ℕ) (s : State) (n : Nesting) → Tracks z d s n → Tracks z d (record s { deep = s.deep + 1; member = false; last = Some k }) (record (with_depth n (n.depth + 1)) { last = k })
deeper k z d s n t = record {
  depth = omega arith;
  operators = t.operators;
  most = t.most;
  compounds = t.compounds;
  loops = t.loops;
  in_statements = t.in_statements;
  head = t.head;
  skips = t.skips;
  last = refl;
  parted = t.parted;
  fewer = t.fewer;
  member = λ e. cc;
}

higher : (k : Last) (z : Nesting) (d : ℕ) (s : State) (n : Nesting) → Tracks z d s n → inside s.deep ≡ true → Tracks z d (record s { deep = s.deep - 1; member = false; last = Some k }) (record (with_depth n (n.depth - 1)) { last = k })
higher k z d s n t e = let deep = inside_deep s.deep e in record {
  depth = omega arith;
  operators = t.operators;
  most = t.most;
  compounds = t.compounds;
  loops = t.loops;
  in_statements = t.in_statements;
  head = t.head;
  skips = t.skips;
  last = refl;
  parted = t.parted;
  fewer = t.fewer;
  member = λ e. cc;
}

-- what a token of this weight does, where nothing ends
weighs : (v : Weight) (k : Last) (z : Nesting) (d : ℕ) (s x : State) (n m : Nesting) → is_parameter z.head ≡ false → Tracks z d s n → last_is k (moved v s) ≡ Some x → with_last k (weighed n v) ≡ Some m → Tracks z d x m
weighs weights.Nothing k z d s x n m head t h e =
    came z d (record s { last = Some k }) x (record n { last = k }) m h
    (settled k (weighed n weights.Nothing) n m (if_false n.skips (Some n) (if nat_eq n.depth 0 then Some n else Some n) t.skips ∙ if_same (nat_eq n.depth 0) (Some n)) e) (keeps k z d s n t)
weighs weights.Operator k z d s x n m head t h e =
    let f : with_last k (counted n) ≡ Some m = sym (ap (λ (o : Option Nesting). with_last k o) (if_false n.skips (Some n) (counted n) t.skips)) ∙ e in
    let c = settled_if k (nat_lt n.operators most_operators) (with_count n (n.operators + 1) n.parted) m f in
    came z d (record (counted_on s) { last = Some k }) x (record (with_count n (n.operators + 1) n.parted) { last = k }) m h c.1 (grown k z d s n t c.0)
weighs weights.Divides k z d s x n m head t h e =
    let p = last_passed k (was_other s.last) (counted_on s) x h in
    let other : is_is n.last ≡ false = ap is_is (was_other_last s.last n.last p.0 t.last) in
    let f : with_last k (counted n) ≡ Some m = sym (ap (λ (o : Option Nesting). with_last k o) (if_false n.skips (Some n) (divided n) t.skips ∙ if_false (is_is n.last) (Some n) (counted n) other)) ∙ e in
    let c = settled_if k (nat_lt n.operators most_operators) (with_count n (n.operators + 1) n.parted) m f in
    came z d (record (counted_on s) { last = Some k }) x (record (with_count n (n.operators + 1) n.parted) { last = k }) m p.1 c.1 (grown k z d s n t c.0)
weighs weights.Contains k z d s x n m head t h e =
    contains_at (was_not s.last) (was_other s.last) k z d s x n m refl refl head t h
    (sym (ap (λ (o : Option Nesting). with_last k o) (if_false n.skips (Some n) (contained n) t.skips)) ∙ e)
weighs weights.Dots k z d s x n m head t h e =
    let p = last_passed k (s.member || inside s.deep) s x h in
    let low : n.parted ≤ n.depth = elim (or_cases s.member (inside s.deep) p.0) [ inl i ↦ t.member i | inr i ↦ deep_parted z d s n t i ] in
    let still : behind_dots n ≡ n = if_false (nat_lt n.depth n.parted) (with_count n 0 n.parted) n (le-ltb n.depth n.parted low) in
    came z d (record s { last = Some k }) x (record n { last = k }) m p.1
    (settled k (weighed n weights.Dots) n m (if_false n.skips (Some n) (Some (behind_dots n)) t.skips ∙ ap (λ (i : Nesting). Some i) still) e) (keeps k z d s n t)
weighs weights.Ranges k z d s x n m head t h e =
    let p = last_passed k (was_tick s.last) s x h in
    let tick : is_tick n.last ≡ true = ap is_tick (was_tick_last s.last n.last p.0 t.last) in
    let still : behind_range n ≡ n = if_true (is_tick n.last) n (with_count n 0 n.parted) tick in
    came z d (record s { last = Some k }) x (record n { last = k }) m p.1
    (settled k (weighed n weights.Ranges) n m (if_false n.skips (Some n) (Some (behind_range n)) t.skips ∙ ap (λ (i : Nesting). Some i) still) e) (keeps k z d s n t)
weighs weights.Then k z d s x n m head t h e =
    let p = last_passed k (was_and s.last || inside s.deep) s x h in
    let still : (if nat_eq n.depth 0 then Some (behind_then n) else Some n) ≡ Some n = elim (or_cases (was_and s.last) (inside s.deep) p.0) [
      | inl i ↦ ap (λ (j : Nesting). if nat_eq n.depth 0 then Some j else Some n) (if_true (is_and n.last) n (anew n) (ap is_and (was_and_last s.last n.last i t.last))) ∙ if_same (nat_eq n.depth 0) (Some n)
      | inr i ↦ if_false (nat_eq n.depth 0) (Some (behind_then n)) (Some n) (within z d s n t i)
    ] in
    came z d (record s { last = Some k }) x (record n { last = k }) m p.1
    (settled k (weighed n weights.Then) n m (if_false n.skips (Some n) (if nat_eq n.depth 0 then Some (behind_then n) else Some n) t.skips ∙ still) e) (keeps k z d s n t)
weighs weights.Else k z d s x n m head t h e =
    let p = last_passed k (was_or s.last || inside s.deep) s x h in
    let still : (if nat_eq n.depth 0 then Some (behind_else n) else Some n) ≡ Some n = elim (or_cases (was_or s.last) (inside s.deep) p.0) [
      | inl i ↦ ap (λ (j : Nesting). if nat_eq n.depth 0 then Some j else Some n) (if_true (is_or n.last) n (anew n) (ap is_or (was_or_last s.last n.last i t.last))) ∙ if_same (nat_eq n.depth 0) (Some n)
      | inr i ↦ if_false (nat_eq n.depth 0) (Some (behind_else n)) (Some n) (within z d s n t i)
    ] in
    came z d (record s { last = Some k }) x (record n { last = k }) m p.1
    (settled k (weighed n weights.Else) n m (if_false n.skips (Some n) (if nat_eq n.depth 0 then Some (behind_else n) else Some n) t.skips ∙ still) e) (keeps k z d s n t)
weighs weights.Parts k z d s x n m head t h e =
    let p = last_passed k (inside s.deep) s x h in
    came z d (record s { last = Some k }) x (record n { last = k }) m p.1
    (settled k (weighed n weights.Parts) n m (if_false n.skips (Some n) (if nat_eq n.depth 0 then outside n weights.Parts else Some n) t.skips
    ∙ if_false (nat_eq n.depth 0) (outside n weights.Parts) (Some n) (within z d s n t p.0)) e) (keeps k z d s n t)
weighs weights.Branches k z d s x n m head t h e =
    let p = last_passed k (inside s.deep) s x h in
    came z d (record s { last = Some k }) x (record n { last = k }) m p.1
    (settled k (weighed n weights.Branches) n m (if_false n.skips (Some n) (if nat_eq n.depth 0 then outside n weights.Branches else Some n) t.skips
    ∙ if_false (nat_eq n.depth 0) (outside n weights.Branches) (Some n) (within z d s n t p.0)) e) (keeps k z d s n t)
weighs weights.Opens k z d s x n m head t h e =
    let c = settled_if k (nat_lt n.depth most_open) (with_depth n (n.depth + 1)) m e in
    came z d (record s { deep = s.deep + 1; member = false; last = Some k }) x (record (with_depth n (n.depth + 1)) { last = k }) m h c.1 (deeper k z d s n t)
weighs weights.Closes k z d s x n m head t h e =
    let p = last_passed k (inside s.deep) (record s { deep = s.deep - 1; member = false }) x h in
    came z d (record s { deep = s.deep - 1; member = false; last = Some k }) x (record (with_depth n (n.depth - 1)) { last = k }) m p.1 e (higher k z d s n t p.0)
weighs v k z d s x n m head t h e = none_some x h

-- what a token of this sort does
sort_moves : (τ : Sort) (z : Nesting) (d : ℕ) (s x : State) (n m : Nesting) → is_parameter z.head ≡ false → Tracks z d s n → moves_on τ s ≡ Some x → step n τ ≡ Some m → Tracks z d x m
unfolding step
sort_moves τ z d s x n m head t h e =
    let g : (goes s.last ≡ true) × (last_is (last_of τ) (moved (weight_of τ) s) ≡ Some x) = went (goes s.last) (last_is (last_of τ) (moved (weight_of τ) s)) x h in
    let same : ended n (weight_of τ) ≡ n = ended_same n (weight_of τ) t.skips (last_known s.last n.last g.0 t.last) in
    weighs (weight_of τ) (last_of τ) z d s x n m head t g.1 (sym (ap (λ (i : Nesting). with_last (last_of τ) (weighed i (weight_of τ))) same) ∙ e)

abbrev marks_in_order : List Mark
marks_in_order = marks.Ampersand ∷ marks.Tick ∷ marks.Open ∷ marks.Close ∷ marks.Star ∷ marks.Plus ∷ marks.Comma ∷ marks.Minus ∷ marks.Dot ∷ marks.Slash ∷ marks.Colon ∷ marks.Semicolon ∷ marks.Less ∷ marks.Equal ∷ marks.Greater ∷ marks.Bar ∷ marks.Arrow ∷ marks.Dots ∷ marks.Power ∷ marks.Becomes ∷ marks.NotEqual ∷ marks.AtLeast ∷ marks.AtMost ∷ marks.OpenLabel ∷ marks.CloseLabel ∷ marks.Box ∷ []

mark_named : (a : Mark) → get_or marks_in_order (mark_number a) marks.Ampersand ≡ a
mark_named marks.Ampersand = refl
mark_named a = refl

pub one_mark : (a b : Mark) → same_mark a b ≡ true → a ≡ b
one_mark a b e = sym (mark_named a) ∙ (ap (λ n. get_or marks_in_order n marks.Ampersand) (eqb-true (mark_number a) (mark_number b) e) ∙ mark_named b)

relational : (m : Mark) (s x : State) → is_relational m ≡ true → moves classes.Relational s ≡ Some x → moves_on (MarkSort m) s ≡ Some x
relational marks.Equal s x i h = h
relational marks.NotEqual s x i h = h
relational marks.Less s x i h = h
relational marks.AtMost s x i h = h
relational marks.Greater s x i h = h
relational marks.AtLeast s x i h = h
relational m s x i h = cc

adding : (m : Mark) (s x : State) → is_adding m ≡ true → moves classes.Adding s ≡ Some x → moves_on (MarkSort m) s ≡ Some x
adding marks.Plus s x i h = h
adding marks.Minus s x i h = h
adding m s x i h = cc

-- behind a token that is known to be no other, the same as behind any
plainly : (s x : State) → moves classes.Multiplying s ≡ Some x → (if goes s.last then last_is lasts.Other (Some (counted_on s)) else None) ≡ Some x
plainly s x h =
    let p = passed (was_other s.last) (record (counted_on s) { last = Some lasts.Other }) x h in
    if_true (goes s.last) (Some (record (counted_on s) { last = Some lasts.Other })) None (goes_other s.last p.0) ∙ ap (λ (i : State). Some i) p.1

dividing : (s x : State) → moves classes.Multiplying s ≡ Some x → moves_on (ReservedSort words.Mod) s ≡ Some x
dividing s x h =
    let p = passed (was_other s.last) (record (counted_on s) { last = Some lasts.Other }) x h in
    if_true (goes s.last) (last_is lasts.Other (if was_other s.last then Some (counted_on s) else None)) None (goes_other s.last p.0)
    ∙ (ap (λ (i : Option State). last_is lasts.Other i) (if_true (was_other s.last) (Some (counted_on s)) None p.0) ∙ ap (λ (i : State). Some i) p.1)

multiplying : (τ : Sort) (s x : State) → is_multiplying τ ≡ true → moves classes.Multiplying s ≡ Some x → moves_on τ s ≡ Some x
multiplying (MarkSort marks.Star) s x i h = plainly s x h
multiplying (MarkSort marks.Slash) s x i h = plainly s x h
multiplying (ReservedSort words.Mod) s x i h = dividing s x h
multiplying (ReservedSort words.Rem) s x i h = plainly s x h
multiplying τ s x i h = cc

attribute : (s x : State) → moves classes.AttributeName s ≡ Some x → (if goes s.last then last_is lasts.Other (Some s) else None) ≡ Some x
attribute s x h =
    let p = passed (was_tick s.last) (record s { last = Some lasts.Other }) x h in
    if_true (goes s.last) (Some (record s { last = Some lasts.Other })) None (goes_tick s.last p.0) ∙ ap (λ (i : State). Some i) p.1

range : (s x : State) → moves classes.AttributeName s ≡ Some x → moves_on (ReservedSort words.Range) s ≡ Some x
range s x h =
    let p = passed (was_tick s.last) (record s { last = Some lasts.Other }) x h in
    if_true (goes s.last) (last_is lasts.Other (if was_tick s.last then Some s else None)) None (goes_tick s.last p.0)
    ∙ (ap (λ (i : Option State). last_is lasts.Other i) (if_true (was_tick s.last) (Some s) None p.0) ∙ ap (λ (i : State). Some i) p.1)

is_any_word : (τ : Sort) (s x : State) → is_word τ ≡ true → (if goes s.last then last_is lasts.Other (Some s) else None) ≡ Some x → moves_on τ s ≡ Some x
is_any_word (WordSort r) s x i h = h
is_any_word τ s x i h = cc

is_attribute : (τ : Sort) (s x : State) → is_in classes.AttributeName τ ≡ true → moves classes.AttributeName s ≡ Some x → moves_on τ s ≡ Some x
is_attribute (ReservedSort b) s x i h = subst (λ (w : Reserved). moves_on (ReservedSort w) s ≡ Some x) (one_word words.Range b i) (range s x h)
is_attribute (WordSort r) s x i h = attribute s x h
is_attribute τ s x i h = cc

is_this_word : (w : Reserved) (τ : Sort) (s x : State) → is_in (classes.Reserved w) τ ≡ true → moves_on (ReservedSort w) s ≡ Some x → moves_on τ s ≡ Some x
is_this_word w (ReservedSort b) s x i h = subst (λ (v : Reserved). moves_on (ReservedSort v) s ≡ Some x) (one_word w b i) h
is_this_word w τ s x i h = cc

is_this_mark : (m : Mark) (τ : Sort) (s x : State) → is_in (classes.Mark m) τ ≡ true → moves_on (MarkSort m) s ≡ Some x → moves_on τ s ≡ Some x
is_this_mark m (MarkSort b) s x i h = subst (λ (v : Mark). moves_on (MarkSort v) s ≡ Some x) (one_mark m b i) h
is_this_mark m τ s x i h = cc

is_number : (τ : Sort) (s x : State) → is_in classes.Number τ ≡ true → moves classes.Number s ≡ Some x → moves_on τ s ≡ Some x
is_number NumberSort s x i h = h
is_number τ s x i h = cc

is_comparing : (τ : Sort) (s x : State) → is_in classes.Relational τ ≡ true → moves classes.Relational s ≡ Some x → moves_on τ s ≡ Some x
is_comparing (MarkSort m) s x i h = relational m s x i h
is_comparing τ s x i h = cc

is_summing : (τ : Sort) (s x : State) → is_in classes.Adding τ ≡ true → moves classes.Adding s ≡ Some x → moves_on τ s ≡ Some x
is_summing (MarkSort m) s x i h = adding m s x i h
is_summing τ s x i h = cc

class_moves : (c : Class) (τ : Sort) (s x : State) → is_in c τ ≡ true → moves c s ≡ Some x → moves_on τ s ≡ Some x
class_moves classes.Word τ s x i h = is_any_word τ s x i h
class_moves classes.Number τ s x i h = is_number τ s x i h
class_moves classes.Relational τ s x i h = is_comparing τ s x i h
class_moves classes.Adding τ s x i h = is_summing τ s x i h
class_moves classes.Multiplying τ s x i h = multiplying τ s x i h
class_moves classes.AttributeName τ s x i h = is_attribute τ s x i h
class_moves (classes.Reserved w) τ s x i h = is_this_word w τ s x i h
class_moves (classes.Mark m) τ s x i h = is_this_mark m τ s x i h
class_moves c τ s x i h = none_some x h

-- what a token of a class does
pub stepped : (c : Class) (t : Lexeme) (z : Nesting) (d : ℕ) (s x : State) (n m : Nesting) → is_in c (sort t) ≡ true → is_parameter z.head ≡ false → Tracks z d s n → moves c s ≡ Some x → step n (sort t) ≡ Some m → Tracks z d x m
stepped c t z d s x n m i head k h e = sort_moves (sort t) z d s x n m head k (class_moves c (sort t) s x i h) e
