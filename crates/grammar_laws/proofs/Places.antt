-- What the limits know at a place among statements and declarations, and what a token does to it.
use Rattle.std.proofs.Common.{◌≡◌, ◌⊎◌, inl, inr, ℕ, zero, suc, ◌+◌, ◌-◌, ◌<◌, ◌≤◌, Bool, true, false, not, ◌&&◌, if◌then◌else◌, nat_lt, nat_eq, nat_le, Option, Some, None, refl, sym, ◌∙◌, ap, subst, arith}
use Rattle.std.proofs.lemmas.Bool.{ltb-true, leb-true, leb-false, ne_eqb}
use Rattle.ada_grammar.specs.declared.tokens.Last.{Last}
use Rattle.ada_grammar.specs.declared.tokens.Last.TheVariants as lasts
use Rattle.ada_grammar.specs.declared.tokens.LoopHead.{LoopHead}
use Rattle.ada_grammar.specs.declared.tokens.LoopHead.TheVariants as heads
use Rattle.ada_grammar.specs.declared.tokens.Nesting.{Nesting}
use Rattle.ada_grammar.specs.declared.weights.Weight.{Weight}
use Rattle.ada_grammar.specs.declared.weights.Weight.TheVariants as weights
use Rattle.ada_grammar.specs.Limits as limits
use Rattle.ada_grammar.specs.Limits.{most_operators, most_open, most_compounds, most_loops, with_last, with_open, with_count, with_depth, with_statements, with_skips, weighed, ended, counts, counted, member, outside, anew, is_end, is_and, is_or, is_not, is_is, is_tick, is_parameter, is_headed, in_for_head}
use Rattle.grammar_laws.proofs.Tracks.{Known}
use Rattle.grammar_laws.proofs.Tests.{if_true, if_false, if_same, some_same, went, and_parts, not_true}

-- what is known: whether tokens are skipped, whether the depth is known from the ground, how many parentheses, compound
-- statements and loops are open beside those from before, the head of a loop, whether in statements, the last token where
-- it is known, and how many dots may part at most
pub record Place : Type 0 where
  pub skips : Bool
  pub ground : Bool
  pub deep : ℕ
  pub opened : ℕ
  pub loops : ℕ
  pub head : LoopHead
  pub inside : Bool
  pub last : Option Last
  pub parted : ℕ

-- the limits know this but the last token, where so many compound statements, loops and parentheses were open before
pub record Held (c l d : ℕ) (s : Place) (n : Nesting) : Type 0 where
  pub depth : n.depth ≡ d + s.deep
  pub compounds : n.compounds ≡ c + s.opened
  pub loops : n.loops ≡ l + s.loops
  pub head : n.head ≡ s.head
  pub in_statements : n.in_statements ≡ s.inside
  pub skips : n.skips ≡ s.skips
  pub parted : n.parted ≤ s.parted
  pub operators : n.operators ≤ most_operators
  pub ground : s.ground ≡ true → d ≡ 0

-- and the last token
pub record Keeps (c l d : ℕ) (s : Place) (n : Nesting) : Type 0 where
  pub held : Held c l d s n
  pub last : s.skips ≡ false → Known s.last n.last

abbrev pub more_than_none : ℕ → Bool
more_than_none zero = false
more_than_none (suc n) = true

abbrev pub was_end : Option Last → Bool
was_end (Some lasts.End) = true
was_end l = false

abbrev pub one_at_least : ℕ → ℕ
one_at_least n = if nat_le n 1 then 1 else n

-- what end closes, by the token behind it
abbrev pub closed_by : Weight → Place → Option Place
closed_by weights.Record s = Some s
closed_by weights.Branches s = if more_than_none s.opened then Some (record s { opened = s.opened - 1 }) else None
closed_by weights.Loops s =
    if more_than_none s.opened && more_than_none s.loops then Some (record s { opened = s.opened - 1; loops = s.loops - 1 }) else None
closed_by w s = if more_than_none s.opened then Some (record s { opened = s.opened - 1 }) else None

abbrev pub ended_by : Weight → Place → Option Place
ended_by w s = if was_end s.last then closed_by w s else Some s

abbrev pub renewed : Place → Place
renewed s = record s { parted = 1 }

-- on the ground, and in no parentheses
abbrev pub at_ground : Place → Bool
at_ground s = s.ground && not (more_than_none s.deep)

-- what a token of this weight does where nothing is skipped
abbrev pub plain_by : Weight → Place → Option Place
plain_by weights.Nothing s = Some s
plain_by weights.Record s = Some s
plain_by weights.Operator s = Some s
plain_by weights.Divides s = Some s
plain_by weights.Dots s = Some s
plain_by weights.Ranges s = Some s
plain_by weights.Contains s =
    if is_parameter s.head then (if at_ground s then Some (renewed (record s { head = heads.Scheme })) else None) else Some s
plain_by weights.With s = if at_ground s then Some (record s { skips = true }) else None
plain_by weights.Pragma s = Some (record s { skips = true })
plain_by weights.Parts s = Some (record s { parted = one_at_least s.parted })
plain_by weights.Then s = Some (record s { parted = one_at_least s.parted })
plain_by weights.Else s = Some (record s { parted = one_at_least s.parted })
plain_by weights.Indexes s = if at_ground s then Some (record s { parted = 2 }) else None
plain_by weights.Begins s = Some (renewed s)
plain_by weights.Ends s = Some (renewed s)
plain_by weights.Opens s = Some (record s { deep = s.deep + 1 })
plain_by weights.Closes s = if more_than_none s.deep then Some (record s { deep = s.deep - 1 }) else None
plain_by weights.Branches s =
    if at_ground s then (if was_end s.last then Some (renewed s) else Some (renewed (record s { opened = s.opened + 1 }))) else None
plain_by weights.While s =
    if at_ground s && not (was_end s.last)
    then Some (renewed (record s { opened = s.opened + 1; loops = s.loops + 1; head = heads.Scheme })) else None
plain_by weights.For s =
    if at_ground s && not (was_end s.last)
    then Some (renewed (record s { opened = s.opened + 1; loops = s.loops + 1; head = heads.Parameter })) else None
plain_by weights.Loops s =
    if at_ground s then (if was_end s.last then Some (renewed s) else
    (if is_headed s.head then Some (renewed (record s { head = heads.Nothing }))
    else Some (renewed (record s { opened = s.opened + 1; loops = s.loops + 1; head = heads.Nothing })))) else None
plain_by weights.Declares s =
    if at_ground s && not (was_end s.last) then Some (renewed (record s { opened = s.opened + 1; inside = false })) else None
plain_by weights.Enters s =
    if at_ground s && not (was_end s.last) then
    (if s.inside then Some (renewed (record s { opened = s.opened + 1 })) else Some (renewed (record s { inside = true }))) else None

-- the same where tokens are skipped
abbrev pub skipped_by : Weight → Place → Option Place
skipped_by weights.Opens s = Some (record s { deep = s.deep + 1 })
skipped_by weights.Closes s = if more_than_none s.deep then Some (record s { deep = s.deep - 1 }) else None
skipped_by weights.Ends s = if more_than_none s.deep then Some s else (if s.ground then Some (renewed (record s { skips = false })) else None)
skipped_by w s = Some s

abbrev pub then_plain : Weight → Option Place → Option Place
then_plain w None = None
then_plain w (Some s) = plain_by w s

abbrev pub weighed_by : Weight → Place → Option Place
weighed_by w s = if s.skips then skipped_by w s else then_plain w (ended_by w s)

abbrev pub last_put : Last → Option Place → Option Place
last_put l None = None
last_put l (Some s) = Some (record s { last = Some l })

one_more : (n : ℕ) → more_than_none n ≡ true → 0 < n
one_more zero e = cc
one_more (suc n) e = omega arith

none_more : (n : ℕ) → more_than_none n ≡ false → n ≡ 0
none_more zero e = refl
none_more (suc n) e = cc

abbrev Either : {A : Type 0} → Bool → Option A → Option A → A → Type 0
Either b o p x = ((b ≡ true) × (o ≡ Some x)) ⊎ ((b ≡ false) × (p ≡ Some x))

either : {A : Type 0} (b : Bool) (o p : Option A) (x : A) → (if b then o else p) ≡ Some x → Either b o p x
either true o p x e = inl (refl, e)
either false o p x e = inr (refl, e)

-- what a token gives, in two ways
give : (c l d : ℕ) (s y : Place) (n m : Nesting) (o : Option Nesting) → Some s ≡ Some y → o ≡ Some n → o ≡ Some m → Held c l d s n → Held c l d y m
give c l d s y n m o e p g t = subst (λ (i : Place). Held c l d i m) (some_same s y e) (subst (λ (i : Nesting). Held c l d s i) (some_same n m (sym p ∙ g)) t)

held_if : (b : Bool) (c l d : ℕ) (s : Place) (n m : Nesting) → Held c l d s n → Held c l d s m → Held c l d s (if b then n else m)
held_if true c l d s n m t u = t
held_if false c l d s n m t u = u

if_some : (b : Bool) (n m : Nesting) → (if b then Some n else Some m) ≡ Some (if b then n else m)
if_some true n m = refl
if_some false n m = refl

ground_depth : (c l d : ℕ) (s : Place) (n : Nesting) → Held c l d s n → at_ground s ≡ true → nat_eq n.depth 0 ≡ true
ground_depth c l d s n t e =
    let p = and_parts s.ground (not (more_than_none s.deep)) e in
    let zero_deep = none_more s.deep (not_true (more_than_none s.deep) p.1) in
    let d_zero = t.ground p.0 in
    let depth = t.depth in
    let all : n.depth ≡ 0 = omega arith in
    ap (λ (i : ℕ). nat_eq i 0) all

was_end_last : (l : Option Last) (k : Last) → was_end l ≡ true → Known l k → is_end k ≡ true
was_end_last None k e h = cc
was_end_last (Some lasts.End) k e h = ap is_end h
was_end_last (Some l) k e h = cc

no_end_last : (l : Option Last) (k : Last) → was_end l ≡ false → Known l k → is_end k ≡ false
no_end_last None k e h = h
no_end_last (Some lasts.End) k e h = cc
no_end_last (Some l) k e h = ap is_end h ∙ other l e
  where
    other : (l : Last) → was_end (Some l) ≡ false → is_end l ≡ false
    other lasts.End e = cc
    other l e = refl

one_least : (p : ℕ) → 1 ≤ one_at_least p
one_least p = at (nat_le p 1) refl
  where
    at : (b : Bool) → b ≡ nat_le p 1 → 1 ≤ (if b then 1 else p)
    at true e = omega arith
    at false e = let more = leb-false p 1 (sym e) in omega arith

one_wide : (p : ℕ) → p ≤ one_at_least p
one_wide p = at (nat_le p 1) refl
  where
    at : (b : Bool) → b ≡ nat_le p 1 → p ≤ (if b then 1 else p)
    at true e = let less = leb-true p 1 (sym e) in omega arith
    at false e = omega arith

-- an expression begins
held_anew : (c l d : ℕ) (s : Place) (n : Nesting) → Held c l d s n → Held c l d (renewed s) (anew n)
held_anew c l d s n t = record { depth = t.depth; compounds = t.compounds; loops = t.loops; head = t.head; in_statements = t.in_statements; skips = t.skips; parted = omega arith; operators = omega arith; ground = t.ground }

held_count : (c l d : ℕ) (s : Place) (n : Nesting) → Held c l d s n → Held c l d s (with_count n 0 n.parted)
held_count c l d s n t = record { depth = t.depth; compounds = t.compounds; loops = t.loops; head = t.head; in_statements = t.in_statements; skips = t.skips; parted = t.parted; operators = omega arith; ground = t.ground }

held_more : (c l d : ℕ) (s : Place) (n : Nesting) → Held c l d s n → nat_lt n.operators most_operators ≡ true → Held c l d s (with_count n (n.operators + 1) n.parted)
held_more c l d s n t e = let below : n.operators < most_operators = ltb-true n.operators most_operators e in record { depth = t.depth; compounds = t.compounds; loops = t.loops; head = t.head; in_statements = t.in_statements; skips = t.skips; parted = t.parted; operators = omega arith; ground = t.ground }

held_member : (c l d : ℕ) (s : Place) (n : Nesting) → Held c l d s n → Held c l d s (member n)
held_member c l d s n t = held_if (nat_lt n.depth n.parted) c l d s (with_count n n.operators 0) n none t
  where
    none : Held c l d s (with_count n n.operators 0)
    none = record { depth = t.depth; compounds = t.compounds; loops = t.loops; head = t.head; in_statements = t.in_statements; skips = t.skips; parted = omega arith; operators = t.operators; ground = t.ground }

held_wide : (c l d : ℕ) (s : Place) (n : Nesting) → Held c l d s n → Held c l d (record s { parted = one_at_least s.parted }) n
held_wide c l d s n t = let wide = one_wide s.parted in let parted = t.parted in record { depth = t.depth; compounds = t.compounds; loops = t.loops; head = t.head; in_statements = t.in_statements; skips = t.skips; parted = omega arith; operators = t.operators; ground = t.ground }

held_new : (c l d : ℕ) (s : Place) (n : Nesting) → Held c l d s n → Held c l d (record s { parted = one_at_least s.parted }) (anew n)
held_new c l d s n t = let least = one_least s.parted in record { depth = t.depth; compounds = t.compounds; loops = t.loops; head = t.head; in_statements = t.in_statements; skips = t.skips; parted = omega arith; operators = omega arith; ground = t.ground }

held_deeper : (c l d : ℕ) (s : Place) (n : Nesting) → Held c l d s n → Held c l d (record s { deep = s.deep + 1 }) (with_depth n (n.depth + 1))
held_deeper c l d s n t = record { depth = omega arith; compounds = t.compounds; loops = t.loops; head = t.head; in_statements = t.in_statements; skips = t.skips; parted = t.parted; operators = t.operators; ground = t.ground }

held_higher : (c l d : ℕ) (s : Place) (n : Nesting) → Held c l d s n → more_than_none s.deep ≡ true → Held c l d (record s { deep = s.deep - 1 }) (with_depth n (n.depth - 1))
held_higher c l d s n t e = let some = one_more s.deep e in let depth = t.depth in record { depth = omega arith; compounds = t.compounds; loops = t.loops; head = t.head; in_statements = t.in_statements; skips = t.skips; parted = t.parted; operators = t.operators; ground = t.ground }

-- one more is open, of compound statements alone and of loops with this head
held_opened : (c l d : ℕ) (s : Place) (n : Nesting) → Held c l d s n → Held c l d (renewed (record s { opened = s.opened + 1 })) (with_open (anew n) (n.compounds + 1) n.loops n.head)
held_opened c l d s n t = record { depth = t.depth; compounds = omega arith; loops = t.loops; head = t.head; in_statements = t.in_statements; skips = t.skips; parted = omega arith; operators = omega arith; ground = t.ground }

held_looped : (h : LoopHead) (c l d : ℕ) (s : Place) (n : Nesting) → Held c l d s n
    → Held c l d (renewed (record s { opened = s.opened + 1; loops = s.loops + 1; head = h })) (with_open (anew n) (n.compounds + 1) (n.loops + 1) h)
held_looped h c l d s n t = record { depth = t.depth; compounds = omega arith; loops = omega arith; head = refl; in_statements = t.in_statements; skips = t.skips; parted = omega arith; operators = omega arith; ground = t.ground }

-- what a token does outside parentheses, where nothing is skipped
out_path : (n : Nesting) (b : Bool) (p : Option Nesting) → n.skips ≡ false → nat_eq n.depth 0 ≡ true → (if n.skips then Some n else (if nat_eq n.depth 0 then p else Some n)) ≡ p
out_path n b p h z = if_false n.skips (Some n) (if nat_eq n.depth 0 then p else Some n) h ∙ if_true (nat_eq n.depth 0) p (Some n) z

abbrev pub Plain : Weight → Type 0
Plain v = (c l d : ℕ) (s y : Place) (n m : Nesting) → Held c l d s n → s.skips ≡ false → Known s.last n.last → plain_by v s ≡ Some y → weighed n v ≡ Some m → Held c l d y m

-- nothing is skipped
no_skip : (c l d : ℕ) (s : Place) (n : Nesting) → Held c l d s n → s.skips ≡ false → n.skips ≡ false
no_skip c l d s n t e = t.skips ∙ e

plain_nothing : Plain weights.Nothing
plain_nothing c l d s y n m t h k f g = give c l d (s) y (n) m (weighed n weights.Nothing) f (if_false n.skips (Some n) (if nat_eq n.depth 0 then Some n else Some n) (no_skip c l d s n t h) ∙ if_same (nat_eq n.depth 0) (Some n)) g (t)

plain_record : Plain weights.Record
plain_record c l d s y n m t h k f g = give c l d (s) y (n) m (weighed n weights.Record) f (if_false n.skips (Some n) (if nat_eq n.depth 0 then Some n else Some n) (no_skip c l d s n t h) ∙ if_same (nat_eq n.depth 0) (Some n)) g (t)

plain_operator : Plain weights.Operator
plain_operator c l d s y n m t h k f g = let p = went (nat_lt n.operators most_operators) (Some (with_count n (n.operators + 1) n.parted)) m (sym (if_false n.skips (Some n) (counted n) (no_skip c l d s n t h)) ∙ g) in
    give c l d s y (with_count n (n.operators + 1) n.parted) m (Some (with_count n (n.operators + 1) n.parted)) f refl p.1 (held_more c l d s n t p.0)

plain_divides : Plain weights.Divides
plain_divides c l d s y n m t h k f g = elim (either (is_is n.last) (Some n) (counted n) m (sym (if_false n.skips (Some n) (limits.divided n) (no_skip c l d s n t h)) ∙ g)) [
  | inl p ↦ give c l d s y n m (Some n) f refl p.1 t
  | inr p ↦ let q = went (nat_lt n.operators most_operators) (Some (with_count n (n.operators + 1) n.parted)) m p.1 in
      give c l d s y (with_count n (n.operators + 1) n.parted) m (Some (with_count n (n.operators + 1) n.parted)) f refl q.1 (held_more c l d s n t q.0)
]

plain_dots : Plain weights.Dots
plain_dots c l d s y n m t h k f g = give c l d (s) y (limits.behind_dots n) m (weighed n weights.Dots) f (if_false n.skips (Some n) (Some (limits.behind_dots n)) (no_skip c l d s n t h)) g (held_if (nat_lt n.depth n.parted) c l d s (with_count n 0 n.parted) n (held_count c l d s n t) t)

plain_ranges : Plain weights.Ranges
plain_ranges c l d s y n m t h k f g = give c l d (s) y (limits.behind_range n) m (weighed n weights.Ranges) f (if_false n.skips (Some n) (Some (limits.behind_range n)) (no_skip c l d s n t h)) g (held_if (is_tick n.last) c l d s n (with_count n 0 n.parted) t (held_count c l d s n t))

plain_pragma : Plain weights.Pragma
plain_pragma c l d s y n m t h k f g = give c l d (record s { skips = true }) y (with_skips n true) m (weighed n weights.Pragma) f (if_false n.skips (Some n) (Some (with_skips n true)) (no_skip c l d s n t h)) g (record { depth = t.depth; compounds = t.compounds; loops = t.loops; head = t.head; in_statements = t.in_statements; skips = refl; parted = t.parted; operators = t.operators; ground = t.ground })

plain_begins : Plain weights.Begins
plain_begins c l d s y n m t h k f g = give c l d (renewed s) y (anew n) m (weighed n weights.Begins) f (if_false n.skips (Some n) (Some (anew n)) (no_skip c l d s n t h)) g (held_anew c l d s n t)

plain_ends : Plain weights.Ends
plain_ends c l d s y n m t h k f g = give c l d (renewed s) y (anew n) m (weighed n weights.Ends) f (if_false n.skips (Some (limits.skipped n weights.Ends)) (Some (anew n)) (no_skip c l d s n t h)) g (held_anew c l d s n t)

plain_parts : Plain weights.Parts
plain_parts c l d s y n m t h k f g = give c l d (record s { parted = one_at_least s.parted }) y (if nat_eq n.depth 0 then anew n else n) m (weighed n weights.Parts) f (if_false n.skips (Some n) (if nat_eq n.depth 0 then Some (anew n) else Some n) (no_skip c l d s n t h) ∙ if_some (nat_eq n.depth 0) (anew n) n) g (held_if (nat_eq n.depth 0) c l d (record s { parted = one_at_least s.parted }) (anew n) n (held_new c l d s n t) (held_wide c l d s n t))

plain_then : Plain weights.Then
plain_then c l d s y n m t h k f g = give c l d (record s { parted = one_at_least s.parted }) y (if nat_eq n.depth 0 then limits.behind_then n else n) m (weighed n weights.Then) f (if_false n.skips (Some n) (if nat_eq n.depth 0 then Some (limits.behind_then n) else Some n) (no_skip c l d s n t h) ∙ if_some (nat_eq n.depth 0) (limits.behind_then n) n) g (held_if (nat_eq n.depth 0) c l d (record s { parted = one_at_least s.parted }) (limits.behind_then n) n (held_if (is_and n.last) c l d (record s { parted = one_at_least s.parted }) n (anew n) (held_wide c l d s n t) (held_new c l d s n t)) (held_wide c l d s n t))

plain_else : Plain weights.Else
plain_else c l d s y n m t h k f g = give c l d (record s { parted = one_at_least s.parted }) y (if nat_eq n.depth 0 then limits.behind_else n else n) m (weighed n weights.Else) f (if_false n.skips (Some n) (if nat_eq n.depth 0 then Some (limits.behind_else n) else Some n) (no_skip c l d s n t h) ∙ if_some (nat_eq n.depth 0) (limits.behind_else n) n) g (held_if (nat_eq n.depth 0) c l d (record s { parted = one_at_least s.parted }) (limits.behind_else n) n (held_if (is_or n.last) c l d (record s { parted = one_at_least s.parted }) n (anew n) (held_wide c l d s n t) (held_new c l d s n t)) (held_wide c l d s n t))

plain_with : Plain weights.With
plain_with c l d s y n m t h k f g = let p = went (at_ground s) (Some (record s { skips = true })) y f in
    give c l d (record s { skips = true }) y (with_skips n true) m (weighed n weights.With) p.1 (out_path n true (Some (with_skips n true)) (no_skip c l d s n t h) (ground_depth c l d s n t p.0)) g (record { depth = t.depth; compounds = t.compounds; loops = t.loops; head = t.head; in_statements = t.in_statements; skips = refl; parted = t.parted; operators = t.operators; ground = t.ground })

plain_indexes : Plain weights.Indexes
plain_indexes c l d s y n m t h k f g = let p = went (at_ground s) (Some (record s { parted = 2 })) y f in
    give c l d (record s { parted = 2 }) y (with_count n 0 2) m (weighed n weights.Indexes) p.1 (out_path n true (Some (with_count n 0 2)) (no_skip c l d s n t h) (ground_depth c l d s n t p.0)) g (record { depth = t.depth; compounds = t.compounds; loops = t.loops; head = t.head; in_statements = t.in_statements; skips = t.skips; parted = omega arith; operators = omega arith; ground = t.ground })

plain_opens : Plain weights.Opens
plain_opens c l d s y n m t h k f g = let p = went (nat_lt n.depth most_open) (Some (with_depth n (n.depth + 1))) m g in
    give c l d (record s { deep = s.deep + 1 }) y (with_depth n (n.depth + 1)) m (Some (with_depth n (n.depth + 1))) f refl p.1 (held_deeper c l d s n t)

plain_closes : Plain weights.Closes
plain_closes c l d s y n m t h k f g = let p = went (more_than_none s.deep) (Some (record s { deep = s.deep - 1 })) y f in
    give c l d (record s { deep = s.deep - 1 }) y (with_depth n (n.depth - 1)) m (Some (with_depth n (n.depth - 1))) p.1 refl g (held_higher c l d s n t p.0)

-- the word in, behind the parameter of a loop or not
plain_contains : Plain weights.Contains
plain_contains c l d s y n m t h k f g =
    let e : limits.contained n ≡ Some m = sym (if_false n.skips (Some n) (limits.contained n) (no_skip c l d s n t h)) ∙ g in
    elim (either (is_parameter s.head) (if at_ground s then Some (renewed (record s { head = heads.Scheme })) else None) (Some s) y f) [
      | inl p ↦
          let q = went (at_ground s) (Some (renewed (record s { head = heads.Scheme }))) y p.1 in
          let stands : in_for_head n ≡ true = if_true (nat_eq n.depth 0) (is_parameter n.head) false (ground_depth c l d s n t q.0) ∙ (ap is_parameter t.head ∙ p.0) in
          give c l d (renewed (record s { head = heads.Scheme })) y (anew (with_open n n.compounds n.loops heads.Scheme)) m (limits.contained n) q.1
          (if_true (in_for_head n) (Some (anew (with_open n n.compounds n.loops heads.Scheme))) (if is_not n.last then Some (member n) else counted (member n)) stands) e
          (record { depth = t.depth; compounds = t.compounds; loops = t.loops; head = refl; in_statements = t.in_statements; skips = t.skips; parted = omega arith; operators = omega arith; ground = t.ground })
      | inr p ↦
          let stands : in_for_head n ≡ false = no_head (nat_eq n.depth 0) (is_parameter n.head) (ap is_parameter t.head ∙ p.0) in
          let i : (if is_not n.last then Some (member n) else counted (member n)) ≡ Some m =
          sym (if_false (in_for_head n) (Some (anew (with_open n n.compounds n.loops heads.Scheme))) (if is_not n.last then Some (member n) else counted (member n)) stands) ∙ e in
          elim (either (is_not n.last) (Some (member n)) (counted (member n)) m i) [
            | inl q ↦ give c l d s y (member n) m (Some (member n)) p.1 refl q.1 (held_member c l d s n t)
            | inr q ↦
                let j = went (nat_lt (member n).operators most_operators) (Some (with_count (member n) ((member n).operators + 1) (member n).parted)) m q.1 in
                give c l d s y (with_count (member n) ((member n).operators + 1) (member n).parted) m (Some (with_count (member n) ((member n).operators + 1) (member n).parted)) p.1 refl j.1
                (held_more c l d s (member n) (held_member c l d s n t) j.0)
          ]
    ]
  where
    no_head : (a b : Bool) → b ≡ false → (if a then b else false) ≡ false
    no_head true b e = e
    no_head false b e = refl

-- an expression or a statement begins
begun_end : (c l d : ℕ) (s : Place) (n : Nesting) (o : Option Nesting) → was_end s.last ≡ true → Known s.last n.last → (if is_end n.last then Some (anew n) else o) ≡ Some (anew n)
begun_end c l d s n o e k = if_true (is_end n.last) (Some (anew n)) o (was_end_last s.last n.last e k)

begun_other : (c l d : ℕ) (s : Place) (n : Nesting) (o : Option Nesting) → was_end s.last ≡ false → Known s.last n.last → (if is_end n.last then Some (anew n) else o) ≡ o
begun_other c l d s n o e k = if_false (is_end n.last) (Some (anew n)) o (no_end_last s.last n.last e k)

loops_two : (h : LoopHead) (c l d : ℕ) (s y : Place) (n m : Nesting) → Held c l d s n → Some (renewed (record s { opened = s.opened + 1; loops = s.loops + 1; head = h })) ≡ Some y → limits.looped (anew n) h ≡ Some m → Held c l d y m
loops_two h c l d s y n m t f g =
    let p = went (nat_lt n.loops most_loops) (if nat_lt n.compounds most_compounds then Some (with_open (anew n) (n.compounds + 1) (n.loops + 1) h) else None) m g in
    let q = went (nat_lt n.compounds most_compounds) (Some (with_open (anew n) (n.compounds + 1) (n.loops + 1) h)) m p.1 in
    give c l d (renewed (record s { opened = s.opened + 1; loops = s.loops + 1; head = h })) y (with_open (anew n) (n.compounds + 1) (n.loops + 1) h) m (Some (with_open (anew n) (n.compounds + 1) (n.loops + 1) h)) f refl q.1 (held_looped h c l d s n t)

opens_one : (c l d : ℕ) (s y : Place) (n m : Nesting) → Held c l d s n → Some (renewed (record s { opened = s.opened + 1 })) ≡ Some y → limits.compounded (anew n) ≡ Some m → Held c l d y m
opens_one c l d s y n m t f g =
    let p = went (nat_lt n.compounds most_compounds) (Some (with_open (anew n) (n.compounds + 1) n.loops n.head)) m g in
    give c l d (renewed (record s { opened = s.opened + 1 })) y (with_open (anew n) (n.compounds + 1) n.loops n.head) m (Some (with_open (anew n) (n.compounds + 1) n.loops n.head)) f refl p.1 (held_opened c l d s n t)

plain_branches : Plain weights.Branches
plain_branches c l d s y n m t h k f g =
    let p = went (at_ground s) (if was_end s.last then Some (renewed s) else Some (renewed (record s { opened = s.opened + 1 }))) y f in
    let e : limits.begun n weights.Branches ≡ Some m = sym (out_path n true (limits.begun n weights.Branches) (no_skip c l d s n t h) (ground_depth c l d s n t p.0)) ∙ g in
    elim (either (was_end s.last) (Some (renewed s)) (Some (renewed (record s { opened = s.opened + 1 }))) y p.1) [
      | inl q ↦ give c l d (renewed s) y (anew n) m (limits.begun n weights.Branches) q.1 (begun_end c l d s n (limits.compounded (anew n)) q.0 k) e (held_anew c l d s n t)
      | inr q ↦ opens_one c l d s y n m t q.1 (sym (begun_other c l d s n (limits.compounded (anew n)) q.0 k) ∙ e)
    ]

plain_while : Plain weights.While
plain_while c l d s y n m t h k f g =
    let p = went (at_ground s && not (was_end s.last)) (Some (renewed (record s { opened = s.opened + 1; loops = s.loops + 1; head = heads.Scheme }))) y f in
    let q = and_parts (at_ground s) (not (was_end s.last)) p.0 in
    let e : limits.begun n weights.While ≡ Some m = sym (out_path n true (limits.begun n weights.While) (no_skip c l d s n t h) (ground_depth c l d s n t q.0)) ∙ g in
    loops_two heads.Scheme c l d s y n m t p.1 (sym (begun_other c l d s n (limits.looped (anew n) heads.Scheme) (not_true (was_end s.last) q.1) k) ∙ e)

plain_for : Plain weights.For
plain_for c l d s y n m t h k f g =
    let p = went (at_ground s && not (was_end s.last)) (Some (renewed (record s { opened = s.opened + 1; loops = s.loops + 1; head = heads.Parameter }))) y f in
    let q = and_parts (at_ground s) (not (was_end s.last)) p.0 in
    let e : limits.begun n weights.For ≡ Some m = sym (out_path n true (limits.begun n weights.For) (no_skip c l d s n t h) (ground_depth c l d s n t q.0)) ∙ g in
    loops_two heads.Parameter c l d s y n m t p.1 (sym (begun_other c l d s n (limits.looped (anew n) heads.Parameter) (not_true (was_end s.last) q.1) k) ∙ e)

plain_loops : Plain weights.Loops
plain_loops c l d s y n m t h k f g =
    let rest = if is_headed s.head then Some (renewed (record s { head = heads.Nothing })) else Some (renewed (record s { opened = s.opened + 1; loops = s.loops + 1; head = heads.Nothing })) in
    let p = went (at_ground s) (if was_end s.last then Some (renewed s) else rest) y f in
    let e : limits.begun n weights.Loops ≡ Some m = sym (out_path n true (limits.begun n weights.Loops) (no_skip c l d s n t h) (ground_depth c l d s n t p.0)) ∙ g in
    elim (either (was_end s.last) (Some (renewed s)) rest y p.1) [
      | inl q ↦ give c l d (renewed s) y (anew n) m (limits.begun n weights.Loops) q.1 (begun_end c l d s n (limits.loop_begun (anew n)) q.0 k) e (held_anew c l d s n t)
      | inr q ↦
          let i : limits.loop_begun (anew n) ≡ Some m = sym (begun_other c l d s n (limits.loop_begun (anew n)) q.0 k) ∙ e in
          elim (either (is_headed s.head) (Some (renewed (record s { head = heads.Nothing }))) (Some (renewed (record s { opened = s.opened + 1; loops = s.loops + 1; head = heads.Nothing }))) y q.1) [
            | inl r ↦ give c l d (renewed (record s { head = heads.Nothing })) y (with_open (anew n) n.compounds n.loops heads.Nothing) m (limits.loop_begun (anew n)) r.1
                (if_true (is_headed n.head) (Some (with_open (anew n) n.compounds n.loops heads.Nothing)) (limits.looped (anew n) heads.Nothing) (ap is_headed t.head ∙ r.0)) i
                (record { depth = t.depth; compounds = t.compounds; loops = t.loops; head = refl; in_statements = t.in_statements; skips = t.skips; parted = omega arith; operators = omega arith; ground = t.ground })
            | inr r ↦ loops_two heads.Nothing c l d s y n m t r.1
                (sym (if_false (is_headed n.head) (Some (with_open (anew n) n.compounds n.loops heads.Nothing)) (limits.looped (anew n) heads.Nothing) (ap is_headed t.head ∙ r.0)) ∙ i)
          ]
    ]

declared_some : (o : Option Nesting) (m : Nesting) → limits.declared o ≡ Some m → (x : Nesting) × (o ≡ Some x) × (Some (with_statements x false) ≡ Some m)
declared_some None m e = cc
declared_some (Some x) m e = (x, refl, e)

leaves_statements : (c l d : ℕ) (s : Place) (n : Nesting) → Held c l d s n → Held c l d (record s { inside = false }) (with_statements n false)
leaves_statements c l d s n t = record { depth = t.depth; compounds = t.compounds; loops = t.loops; head = t.head; in_statements = refl; skips = t.skips; parted = t.parted; operators = t.operators; ground = t.ground }

plain_declares : Plain weights.Declares
plain_declares c l d s y n m t h k f g =
    let p = went (at_ground s && not (was_end s.last)) (Some (renewed (record s { opened = s.opened + 1; inside = false }))) y f in
    let q = and_parts (at_ground s) (not (was_end s.last)) p.0 in
    let e : limits.begun n weights.Declares ≡ Some m = sym (out_path n true (limits.begun n weights.Declares) (no_skip c l d s n t h) (ground_depth c l d s n t q.0)) ∙ g in
    let i = declared_some (limits.compounded (anew n)) m (sym (begun_other c l d s n (limits.declared (limits.compounded (anew n))) (not_true (was_end s.last) q.1) k) ∙ e) in
    give c l d (renewed (record s { opened = s.opened + 1; inside = false })) y (with_statements i.0 false) m (Some (with_statements i.0 false)) p.1 refl i.2
    (leaves_statements c l d (renewed (record s { opened = s.opened + 1 })) i.0 (opens_one c l d s (renewed (record s { opened = s.opened + 1 })) n i.0 t refl i.1))

plain_enters : Plain weights.Enters
plain_enters c l d s y n m t h k f g =
    let p = went (at_ground s && not (was_end s.last)) (if s.inside then Some (renewed (record s { opened = s.opened + 1 })) else Some (renewed (record s { inside = true }))) y f in
    let q = and_parts (at_ground s) (not (was_end s.last)) p.0 in
    let e : limits.begun n weights.Enters ≡ Some m = sym (out_path n true (limits.begun n weights.Enters) (no_skip c l d s n t h) (ground_depth c l d s n t q.0)) ∙ g in
    let i : limits.entered (anew n) ≡ Some m = sym (begun_other c l d s n (limits.entered (anew n)) (not_true (was_end s.last) q.1) k) ∙ e in
    elim (either s.inside (Some (renewed (record s { opened = s.opened + 1 }))) (Some (renewed (record s { inside = true }))) y p.1) [
      | inl r ↦ opens_one c l d s y n m t r.1 (sym (if_true n.in_statements (limits.compounded (anew n)) (Some (with_statements (anew n) true)) (t.in_statements ∙ r.0)) ∙ i)
      | inr r ↦ give c l d (renewed (record s { inside = true })) y (with_statements (anew n) true) m (limits.entered (anew n)) r.1
          (if_false n.in_statements (limits.compounded (anew n)) (Some (with_statements (anew n) true)) (t.in_statements ∙ r.0)) i
          (record { depth = t.depth; compounds = t.compounds; loops = t.loops; head = t.head; in_statements = refl; skips = t.skips; parted = omega arith; operators = omega arith; ground = t.ground })
    ]

pub plain : (v : Weight) → Plain v
plain weights.Nothing = plain_nothing
plain weights.Record = plain_record
plain weights.Operator = plain_operator
plain weights.Divides = plain_divides
plain weights.Dots = plain_dots
plain weights.Ranges = plain_ranges
plain weights.Pragma = plain_pragma
plain weights.Begins = plain_begins
plain weights.Ends = plain_ends
plain weights.Parts = plain_parts
plain weights.Then = plain_then
plain weights.Else = plain_else
plain weights.With = plain_with
plain weights.Indexes = plain_indexes
plain weights.Opens = plain_opens
plain weights.Closes = plain_closes
plain weights.Contains = plain_contains
plain weights.Branches = plain_branches
plain weights.While = plain_while
plain weights.For = plain_for
plain weights.Loops = plain_loops
plain weights.Declares = plain_declares
plain weights.Enters = plain_enters

-- what end closes
held_closed : (c l d : ℕ) (s : Place) (n : Nesting) → Held c l d s n → more_than_none s.opened ≡ true → Held c l d (record s { opened = s.opened - 1 }) (with_open n (n.compounds - 1) n.loops n.head)
held_closed c l d s n t e = let some = one_more s.opened e in let compounds = t.compounds in record { depth = t.depth; compounds = omega arith; loops = t.loops; head = t.head; in_statements = t.in_statements; skips = t.skips; parted = t.parted; operators = t.operators; ground = t.ground }

held_closed_loop : (c l d : ℕ) (s : Place) (n : Nesting) → Held c l d s n → (more_than_none s.opened && more_than_none s.loops) ≡ true
    → Held c l d (record s { opened = s.opened - 1; loops = s.loops - 1 }) (with_open n (n.compounds - 1) (n.loops - 1) n.head)
held_closed_loop c l d s n t e =
    let p = and_parts (more_than_none s.opened) (more_than_none s.loops) e in
    let some = one_more s.opened p.0 in
    let some_loop = one_more s.loops p.1 in
    let compounds = t.compounds in
    let loops = t.loops in
    record { depth = t.depth; compounds = omega arith; loops = omega arith; head = t.head; in_statements = t.in_statements; skips = t.skips; parted = t.parted; operators = t.operators; ground = t.ground }

compounds_some : (c l d : ℕ) (s : Place) (n : Nesting) → Held c l d s n → more_than_none s.opened ≡ true → nat_eq n.compounds 0 ≡ false
compounds_some c l d s n t e = let some = one_more s.opened e in let compounds = t.compounds in ne_eqb n.compounds 0 (λ i. absurd (omega arith))

-- the place and the nesting behind an end, of which the last token stays
abbrev Ended : Weight → Type 0
Ended v = (c l d : ℕ) (s y : Place) (n : Nesting) → Held c l d s n → closed_by v s ≡ Some y → Held c l d y (limits.closed n v) × (y.last ≡ s.last) × ((limits.closed n v).last ≡ n.last) × (y.skips ≡ s.skips)

closes_one : (c l d : ℕ) (s y : Place) (n : Nesting) → Held c l d s n → (if more_than_none s.opened then Some (record s { opened = s.opened - 1 }) else None) ≡ Some y
    → Held c l d y (with_open n (n.compounds - 1) n.loops n.head) × (y.last ≡ s.last) × (y.skips ≡ s.skips)
closes_one c l d s y n t f =
    let p = went (more_than_none s.opened) (Some (record s { opened = s.opened - 1 })) y f in
    let e = some_same (record s { opened = s.opened - 1 }) y p.1 in
    (subst (λ (i : Place). Held c l d i (with_open n (n.compounds - 1) n.loops n.head)) e (held_closed c l d s n t p.0), ap (λ (i : Place). i.last) (sym e), ap (λ (i : Place). i.skips) (sym e))

closes_left : (c l d : ℕ) (s y : Place) (n : Nesting) → Held c l d s n → (if more_than_none s.opened then Some (record s { opened = s.opened - 1 }) else None) ≡ Some y
    → Held c l d y (limits.left n) × (y.last ≡ s.last) × ((limits.left n).last ≡ n.last) × (y.skips ≡ s.skips)
closes_left c l d s y n t f =
    let p = went (more_than_none s.opened) (Some (record s { opened = s.opened - 1 })) y f in
    let x = closes_one c l d s y n t f in
    let e : limits.left n ≡ with_open n (n.compounds - 1) n.loops n.head = if_false (nat_eq n.compounds 0) (with_statements n false) (with_open n (n.compounds - 1) n.loops n.head) (compounds_some c l d s n t p.0) in
    (subst (λ (i : Nesting). Held c l d y i) (sym e) x.0, x.1, ap (λ (i : Nesting). i.last) e, x.2)

ended_at : (v : Weight) → Ended v
ended_at weights.Record c l d s y n t f = let e = some_same s y f in (subst (λ (i : Place). Held c l d i n) e t, ap (λ (i : Place). i.last) (sym e), refl, ap (λ (i : Place). i.skips) (sym e))
ended_at weights.Branches c l d s y n t f = let x = closes_one c l d s y n t f in (x.0, x.1, refl, x.2)
ended_at weights.Loops c l d s y n t f =
    let p = went (more_than_none s.opened && more_than_none s.loops) (Some (record s { opened = s.opened - 1; loops = s.loops - 1 })) y f in
    let e = some_same (record s { opened = s.opened - 1; loops = s.loops - 1 }) y p.1 in
    (subst (λ (i : Place). Held c l d i (with_open n (n.compounds - 1) (n.loops - 1) n.head)) e (held_closed_loop c l d s n t p.0), ap (λ (i : Place). i.last) (sym e), refl, ap (λ (i : Place). i.skips) (sym e))
ended_at v c l d s y n t f = closes_left c l d s y n t f

-- what skipped tokens do
abbrev Skipped : Weight → Type 0
Skipped v = (c l d : ℕ) (s y : Place) (n m : Nesting) → Held c l d s n → n.skips ≡ true → skipped_by v s ≡ Some y → weighed n v ≡ Some m → Held c l d y m

still_skips : (c l d : ℕ) (s y : Place) (n m : Nesting) (o : Option Nesting) → Held c l d s n → n.skips ≡ true → Some s ≡ Some y → (if n.skips then Some n else o) ≡ Some m → Held c l d y m
still_skips c l d s y n m o t h f g = give c l d s y n m (if n.skips then Some n else o) f (if_true n.skips (Some n) o h) g t

skipped_at : (v : Weight) → Skipped v
skipped_at weights.Opens c l d s y n m t h f g =
    let p = went (nat_lt n.depth most_open) (Some (with_depth n (n.depth + 1))) m g in
    give c l d (record s { deep = s.deep + 1 }) y (with_depth n (n.depth + 1)) m (Some (with_depth n (n.depth + 1))) f refl p.1 (held_deeper c l d s n t)
skipped_at weights.Closes c l d s y n m t h f g =
    let p = went (more_than_none s.deep) (Some (record s { deep = s.deep - 1 })) y f in
    give c l d (record s { deep = s.deep - 1 }) y (with_depth n (n.depth - 1)) m (Some (with_depth n (n.depth - 1))) p.1 refl g (held_higher c l d s n t p.0)
skipped_at weights.Ends c l d s y n m t h f g =
    let e : Some (limits.skipped n weights.Ends) ≡ Some m = sym (if_true n.skips (Some (limits.skipped n weights.Ends)) (Some (anew n)) h) ∙ g in
    elim (either (more_than_none s.deep) (Some s) (if s.ground then Some (renewed (record s { skips = false })) else None) y f) [
      | inl p ↦ give c l d s y n m (Some (limits.skipped n weights.Ends)) p.1
          (ap (λ (i : Nesting). Some i) (if_false (nat_eq n.depth 0) (anew (with_skips n false)) n (deep_none c l d s n t p.0))) e t
      | inr p ↦
          let q = went s.ground (Some (renewed (record s { skips = false }))) y p.1 in
          let zero_deep = none_more s.deep p.0 in
          let d_zero = t.ground q.0 in
          let depth = t.depth in
          let all : n.depth ≡ 0 = omega arith in
          give c l d (renewed (record s { skips = false })) y (anew (with_skips n false)) m (Some (limits.skipped n weights.Ends)) q.1
          (ap (λ (i : Nesting). Some i) (if_true (nat_eq n.depth 0) (anew (with_skips n false)) n (ap (λ (i : ℕ). nat_eq i 0) all))) e
          (record { depth = t.depth; compounds = t.compounds; loops = t.loops; head = t.head; in_statements = t.in_statements; skips = refl; parted = omega arith; operators = omega arith; ground = t.ground })
    ]
  where
    deep_none : (c l d : ℕ) (s : Place) (n : Nesting) → Held c l d s n → more_than_none s.deep ≡ true → nat_eq n.depth 0 ≡ false
    deep_none c l d s n t e = let some = one_more s.deep e in let depth = t.depth in ne_eqb n.depth 0 (λ i. absurd (omega arith))
skipped_at weights.Nothing c l d s y n m t h f g = still_skips c l d s y n m (counts n weights.Nothing) t h f g
skipped_at weights.Dots c l d s y n m t h f g = still_skips c l d s y n m (counts n weights.Dots) t h f g
skipped_at weights.Contains c l d s y n m t h f g = still_skips c l d s y n m (counts n weights.Contains) t h f g
skipped_at weights.Divides c l d s y n m t h f g = still_skips c l d s y n m (counts n weights.Divides) t h f g
skipped_at weights.Operator c l d s y n m t h f g = still_skips c l d s y n m (counts n weights.Operator) t h f g
skipped_at weights.Ranges c l d s y n m t h f g = still_skips c l d s y n m (counts n weights.Ranges) t h f g
skipped_at weights.Begins c l d s y n m t h f g = still_skips c l d s y n m (counts n weights.Begins) t h f g
skipped_at weights.Parts c l d s y n m t h f g = still_skips c l d s y n m (counts n weights.Parts) t h f g
skipped_at weights.Then c l d s y n m t h f g = still_skips c l d s y n m (counts n weights.Then) t h f g
skipped_at weights.Else c l d s y n m t h f g = still_skips c l d s y n m (counts n weights.Else) t h f g
skipped_at weights.Indexes c l d s y n m t h f g = still_skips c l d s y n m (counts n weights.Indexes) t h f g
skipped_at weights.Branches c l d s y n m t h f g = still_skips c l d s y n m (counts n weights.Branches) t h f g
skipped_at weights.While c l d s y n m t h f g = still_skips c l d s y n m (counts n weights.While) t h f g
skipped_at weights.For c l d s y n m t h f g = still_skips c l d s y n m (counts n weights.For) t h f g
skipped_at weights.Loops c l d s y n m t h f g = still_skips c l d s y n m (counts n weights.Loops) t h f g
skipped_at weights.Declares c l d s y n m t h f g = still_skips c l d s y n m (counts n weights.Declares) t h f g
skipped_at weights.Enters c l d s y n m t h f g = still_skips c l d s y n m (counts n weights.Enters) t h f g
skipped_at weights.Record c l d s y n m t h f g = still_skips c l d s y n m (counts n weights.Record) t h f g
skipped_at weights.With c l d s y n m t h f g = still_skips c l d s y n m (counts n weights.With) t h f g
skipped_at weights.Pragma c l d s y n m t h f g = still_skips c l d s y n m (counts n weights.Pragma) t h f g

put_some : (k : Last) (o : Option Place) (x : Place) → last_put k o ≡ Some x → (y : Place) × (o ≡ Some y) × (record y { last = Some k } ≡ x)
put_some k None x e = cc
put_some k (Some y) x e = (y, refl, some_same (record y { last = Some k }) x e)

with_some : (k : Last) (o : Option Nesting) (m : Nesting) → with_last k o ≡ Some m → (n : Nesting) × (o ≡ Some n) × (record n { last = k } ≡ m)
with_some k None m e = cc
with_some k (Some n) m e = (n, refl, some_same (record n { last = k }) m e)

lasted : (k : Last) (c l d : ℕ) (s x : Place) (n m : Nesting) → Held c l d s n → record s { last = Some k } ≡ x → record n { last = k } ≡ m → Keeps c l d x m
lasted k c l d s x n m t e f =
    subst (λ (i : Place). Keeps c l d i m) e (subst (λ (i : Nesting). Keeps c l d (record s { last = Some k }) i) f
    (record { held = record { depth = t.depth; compounds = t.compounds; loops = t.loops; head = t.head; in_statements = t.in_statements; skips = t.skips; parted = t.parted; operators = t.operators; ground = t.ground }; last = λ h. refl }))

plain_ended : (v : Weight) (c l d : ℕ) (s y : Place) (n m : Nesting) → Keeps c l d s n → s.skips ≡ false → then_plain v (ended_by v s) ≡ Some y → weighed (ended n v) v ≡ Some m → Held c l d y m
plain_ended v c l d s y n m t h f g =
    let real : ended n v ≡ (if is_end n.last then limits.closed n v else n) = if_false n.skips n (if is_end n.last then limits.closed n v else n) (t.held.skips ∙ h) in
    by (was_end s.last) refl f (sym (ap (λ (i : Nesting). weighed i v) real) ∙ g)
  where
    plain_some : (o : Option Place) → then_plain v o ≡ Some y → (x : Place) × (o ≡ Some x) × (plain_by v x ≡ Some y)
    plain_some None e = cc
    plain_some (Some x) e = (x, refl, e)

    by : (b : Bool) → b ≡ was_end s.last → then_plain v (if b then closed_by v s else Some s) ≡ Some y → weighed (if is_end n.last then limits.closed n v else n) v ≡ Some m → Held c l d y m
    by true e f g =
        let p = plain_some (closed_by v s) f in
        let x = ended_at v c l d s p.0 n t.held p.1 in
        let closes : (if is_end n.last then limits.closed n v else n) ≡ limits.closed n v = if_true (is_end n.last) (limits.closed n v) n (was_end_last s.last n.last (sym e) (t.last h)) in
        plain v c l d p.0 y (limits.closed n v) m x.0 (x.3 ∙ h)
        (subst (λ (i : Option Last). Known i (limits.closed n v).last) (sym x.1) (subst (λ (i : Last). Known s.last i) (sym x.2) (t.last h)))
        p.2 (sym (ap (λ (i : Nesting). weighed i v) closes) ∙ g)
    by false e f g =
        let p = plain_some (Some s) f in
        let same : s ≡ p.0 = some_same s p.0 p.1 in
        let closes : (if is_end n.last then limits.closed n v else n) ≡ n = if_false (is_end n.last) (limits.closed n v) n (no_end_last s.last n.last (sym e) (t.last h)) in
        plain v c l d s y n m t.held h (t.last h) (subst (λ (i : Place). plain_by v i ≡ Some y) (sym same) p.2) (sym (ap (λ (i : Nesting). weighed i v) closes) ∙ g)

-- what a token of this weight does
pub weighed_at : (v : Weight) (k : Last) (c l d : ℕ) (s x : Place) (n m : Nesting) → Keeps c l d s n → last_put k (weighed_by v s) ≡ Some x → with_last k (weighed (ended n v) v) ≡ Some m → Keeps c l d x m
weighed_at v k c l d s x n m t f g =
    let p = put_some k (weighed_by v s) x f in
    let q = with_some k (weighed (ended n v) v) m g in
    lasted k c l d p.0 x q.0 m (by s.skips refl p.0 p.1 q.0 q.1) p.2 q.2
  where
    by : (b : Bool) → b ≡ s.skips → (y : Place) → (if b then skipped_by v s else then_plain v (ended_by v s)) ≡ Some y → (i : Nesting) → weighed (ended n v) v ≡ Some i → Held c l d y i
    by true e y f i g =
        let skips : n.skips ≡ true = t.held.skips ∙ sym e in
        skipped_at v c l d s y n i t.held skips f (sym (ap (λ (j : Nesting). weighed j v) (if_true n.skips n (if is_end n.last then limits.closed n v else n) skips)) ∙ g)
    by false e y f i g = plain_ended v c l d s y n i t (sym e) f g
