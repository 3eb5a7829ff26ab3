-- The steps of a reader, once for all parts.
use Rattle.std.proofs.Common.{◌≡◌, ◌⊎◌, inl, inr, Bool, true, false, not, ◌||◌, ◌&&◌, if◌then◌else◌, List, [], ◌∷◌, ◌++◌, Option, Some, refl, sym, ◌∙◌, ap, subst, append_assoc, append-nil}
use Rattle.ada_grammar.specs.declared.tokens.Class.{Class}
use Rattle.ada_grammar.specs.declared.tokens.Nesting.{Nesting}
use Rattle.ada_grammar.specs.Sorts.{is_in}
use Rattle.ada_grammar.specs.Lexemes.{Lexeme, sort}
use Rattle.ada_grammar.specs.Limits.{step, step_on, walk, walk_on}
use Rattle.ada_grammar.specs.Phrases.{Phrase}
use Rattle.ada_grammar.specs.Parts.{Part, Body, Never, Gives, Take, Call, Rest, Or, When}
use Rattle.ada_grammar.specs.Grammar.{rule}
use Rattle.ada_grammar.specs.Spelling.{Fits, gives, take, call, rest, left, right, yes, no, Spells}
use Rattle.ada_grammar.specs.More.{more}
use Rattle.ada_grammar.specs.Fronts.{Point, Viable, Bars}
use Rattle.ada_grammar.specs.Reading.{At, Free, Awaits, Reads}
use Rattle.ada_grammar.specs.Taking.{NotFirst, Takes, Stops}
use Rattle.ada_grammar.proofs.EverySort.{all_sorts, same_class, and_left, and_right, by_sort, one_class}
use Rattle.ada_grammar.proofs.Begins.{only_if, holds, first, null, Starts, starts, sample_phrase, sample, inhabited, Sentence, sentence}

-- tokens that are read stand as they do
at_more : (k r r' w : List Lexeme) → r ≡ k ++ r' → At r' w → At r (k ++ w)
at_more [] r r' w e at = subst (λ (x : List Lexeme). At x w) (sym e) at
at_more (t ∷ k) r r' w e at = subst (λ (x : List Lexeme). At x (t ∷ (k ++ w))) (sym e) refl

at_head : {t : Lexeme} (r w : List Lexeme) → At r (t ∷ w) → (further : List Lexeme) × (r ≡ t ∷ further)
at_head [] w at = absurd at
at_head (s ∷ r) w at = (r, ap (λ (x : Lexeme). x ∷ r) at)

-- a walk over two lists is one after the other
walk_on_append : (n : Option Nesting) (u v : List Lexeme) → walk_on n (u ++ v) ≡ walk_on (walk_on n u) v
walk_on_append n [] v = refl
walk_on_append n (t ∷ u) v = walk_on_append (step_on n (sort t)) u v

pub walk_append : (n m : Nesting) (u v : List Lexeme) → walk n u ≡ Some m → walk n (u ++ v) ≡ walk m v
walk_append n m u v e = walk_on_append (Some n) u v ∙ ap (λ (z : Option Nesting). walk_on z v) e

-- at the beginning all of the part is still to come
pub start : (part : Part) (p : Point) → Awaits part p p (rule part)
start part p = record {
  word = [];
  splits = refl;
  walked = refl;
  viable = (sample_phrase part, (sample part).0, (sample part).1);
  made = λ y v h. h;
  only = λ y s r w at e free h. (s, refl, e, h);
}

-- what is known of the rest excludes some of it
choose : {part : Part} {p q : Point} {b c : Body} → Awaits part p q b
    → ((y : Phrase) (v : List Lexeme) → Fits c y v → Fits b y v)
    → ((y : Phrase) (v r : List Lexeme) → At q.rest (v ++ r) → Free (more part) r → Fits b y v → Fits c y v)
    → Awaits part p q c
choose {part} {p} {q} {b} {c} a into back = record {
  word = a.word;
  splits = a.splits;
  walked = a.walked;
  viable = a.viable;
  made = λ y v h. a.made y v (into y v h);
  only = λ y s r w at e free h.
      let x = a.only y s r w at e free h in
      (x.0, x.1, x.2, back y x.0 r (subst (λ (z : List Lexeme). At q.rest z) (sym x.2) at) free x.3);
}

-- the first token decides what the rest is, and is read
next : {part : Part} {p q z : Point} {t : Lexeme} {b c : Body} → Awaits part p q b → q.rest ≡ t ∷ z.rest → step q.level (sort t) ≡ Some z.level → Sentence c
    → ((y : Phrase) (v : List Lexeme) → Fits c y v → Fits b y (t ∷ v))
    → ((y : Phrase) (v r w : List Lexeme) → v ++ r ≡ t ∷ w → Free (more part) r → Fits b y v → (u : List Lexeme) × (v ≡ t ∷ u) × Fits c y u)
    → Awaits part p z c
next {part} {p} {q} {z} {t} {b} {c} a joins stepped some into back = record {
  word = a.word ++ (t ∷ []);
  splits = a.splits ∙ (ap (λ (x : List Lexeme). a.word ++ x) joins ∙ sym (append_assoc a.word (t ∷ []) z.rest));
  walked = walk_append p.level q.level a.word (t ∷ []) a.walked ∙ stepped;
  viable = (some.0, some.1, subst (λ (x : List Lexeme). Spells part some.0 x) (sym (append_assoc a.word (t ∷ []) some.1)) (a.made some.0 (t ∷ some.1) (into some.0 some.1 some.2)));
  made = λ y v h. subst (λ (x : List Lexeme). Spells part y x) (sym (append_assoc a.word (t ∷ []) v)) (a.made y (t ∷ v) (into y v h));
  only = λ y s r w at e free h.
      let x = a.only y s r (t ∷ w) (subst (λ (k : List Lexeme). At k (t ∷ w)) (sym joins) refl) (e ∙ append_assoc a.word (t ∷ []) w) free h in
      let k = back y x.0 r w x.2 free x.3 in
      let cut : t ∷ (k.0 ++ r) ≡ t ∷ w = sym (ap (λ (n : List Lexeme). n ++ r) k.1) ∙ x.2 in
      (k.0, x.1 ∙ (ap (λ (n : List Lexeme). a.word ++ n) k.1 ∙ sym (append_assoc a.word (t ∷ []) k.0)), (cc), k.2);
}

-- one of two bodies
abbrev pub is_never : Body → Bool
is_never Never = true
is_never _ = false

abbrev pub choice : Body → Body → Body
choice b c = if is_never b then c else (if is_never c then b else Or b c)

empty : (b : Body) {y : Phrase} {w : List Lexeme} → is_never b ≡ true → Fits b y w → ⊥
empty Never e h = elim h [ ]
empty (Gives x) e h = cc
empty (Take s k) e h = cc
empty (Call p k) e h = cc
empty (Rest p) e h = cc
empty (Or b c) e h = cc
empty (When d b c) e h = cc

choice_left_at : (m n : Bool) (b c : Body) {y : Phrase} {w : List Lexeme} → (m ≡ true → ⊥) → Fits b y w → Fits (if m then c else (if n then b else Or b c)) y w
choice_left_at true n b c other h = absurd (other refl)
choice_left_at false true b c other h = h
choice_left_at false false b c other h = left h

choice_left : (b c : Body) {y : Phrase} {w : List Lexeme} → Fits b y w → Fits (choice b c) y w
choice_left b c h = choice_left_at (is_never b) (is_never c) b c (λ e. empty b e h) h

choice_right_at : (m n : Bool) (b c : Body) {y : Phrase} {w : List Lexeme} → (n ≡ true → ⊥) → Fits c y w → Fits (if m then c else (if n then b else Or b c)) y w
choice_right_at true n b c other h = h
choice_right_at false true b c other h = absurd (other refl)
choice_right_at false false b c other h = right h

choice_right : (b c : Body) {y : Phrase} {w : List Lexeme} → Fits c y w → Fits (choice b c) y w
choice_right b c h = choice_right_at (is_never b) (is_never c) b c (λ e. empty c e h) h

or_cases : {b c : Body} {y : Phrase} {w : List Lexeme} → Fits (Or b c) y w → Fits b y w ⊎ Fits c y w
or_cases (left h) = inl h
or_cases (right h) = inr h

choice_cases_at : (m n : Bool) (b c : Body) {y : Phrase} {w : List Lexeme} → Fits (if m then c else (if n then b else Or b c)) y w → Fits b y w ⊎ Fits c y w
choice_cases_at true n b c h = inr h
choice_cases_at false true b c h = inl h
choice_cases_at false false b c h = or_cases h

choice_cases : (b c : Body) {y : Phrase} {w : List Lexeme} → Fits (choice b c) y w → Fits b y w ⊎ Fits c y w
choice_cases b c h = choice_cases_at (is_never b) (is_never c) b c h

when_cases : (d : Bool) {b c : Body} {y : Phrase} {w : List Lexeme} → Fits (When d b c) y w → ((d ≡ true) × Fits b y w) ⊎ ((d ≡ false) × Fits c y w)
when_cases true (yes h) = inl (refl, h)
when_cases false (no h) = inr (refl, h)

when_yes : (d : Bool) {b c : Body} {y : Phrase} {w : List Lexeme} → d ≡ true → Fits b y w → Fits (When d b c) y w
when_yes true e h = yes h
when_yes false e h = cc

when_no : (d : Bool) {b c : Body} {y : Phrase} {w : List Lexeme} → d ≡ false → Fits c y w → Fits (When d b c) y w
when_no true e h = cc
when_no false e h = no h

if_true : (m : Bool) (b c : Body) {y : Phrase} {w : List Lexeme} → m ≡ true → Fits b y w → Fits (if m then b else c) y w
if_true true b c e h = h
if_true false b c e h = cc

if_cases : (m : Bool) (b : Body) {y : Phrase} {w : List Lexeme} → Fits (if m then b else Never) y w → (m ≡ true) × Fits b y w
if_cases true b h = (refl, h)
if_cases false b h = elim h [ ]

-- a test, unless nothing is left either way
abbrev pub tested : Bool → Body → Body → Body
tested d b c = if is_never b then (if is_never c then Never else When d b c) else When d b c

tested_at : (m n : Bool) (d : Bool) (b c : Body) {y : Phrase} {w : List Lexeme} → (m ≡ true → is_never b ≡ true) → (n ≡ true → is_never c ≡ true) → Fits (When d b c) y w → Fits (if m then (if n then Never else When d b c) else When d b c) y w
tested_at true true d b c f g h = absurd (elim (when_cases d h) [ inl x ↦ empty b (f refl) x.1 | inr x ↦ empty c (g refl) x.1 ])
tested_at true false d b c f g h = h
tested_at false n d b c f g h = h

into_tested : (d : Bool) (b c : Body) {y : Phrase} {w : List Lexeme} → Fits (When d b c) y w → Fits (tested d b c) y w
into_tested d b c h = tested_at (is_never b) (is_never c) d b c (λ e. e) (λ e. e) h

untested_at : (m n : Bool) (d : Bool) (b c : Body) {y : Phrase} {w : List Lexeme} → Fits (if m then (if n then Never else When d b c) else When d b c) y w → Fits (When d b c) y w
untested_at true true d b c h = elim h [ ]
untested_at true false d b c h = h
untested_at false n d b c h = h

tested_cases : (d : Bool) (b c : Body) {y : Phrase} {w : List Lexeme} → Fits (tested d b c) y w → ((d ≡ true) × Fits b y w) ⊎ ((d ≡ false) × Fits c y w)
tested_cases d b c h = when_cases d (untested_at (is_never b) (is_never c) d b c h)

-- what is left behind a token of this class
abbrev pub after : Class → Lexeme → Body → Body
after c t Never = Never
after c t (Gives y) = Never
after c t (Take x k) = if same_class c x then k t else Never
after c t (Call p k) = Never
after c t (Rest p) = Never
after c t (Or b d) = choice (after c t b) (after c t d)
after c t (When d b e) = tested d (after c t b) (after c t e)

-- no token of the class begins the body, and an end before it is excluded
abbrev pub closed : Part → Class → Body → Bool
closed part c b = all_sorts (λ s. only_if (is_in c s) (not (first b s) && only_if (null b) (more part s)))

-- a token of the class, where one stands, is one that is taken in front
abbrev pub ready : Part → Class → Body → Bool
ready part c Never = true
ready part c (Gives y) = closed part c (Gives y)
ready part c (Take x k) = same_class c x || closed part c (Take x k)
ready part c (Call p k) = closed part c (Call p k)
ready part c (Rest p) = closed part c (Rest p)
ready part c (Or b d) = ready part c b && ready part c d
ready part c (When d b e) = ready part c b && ready part c e

into_after : (c : Class) (t : Lexeme) (b : Body) {y : Phrase} {v : List Lexeme} → is_in c (sort t) ≡ true → Fits (after c t b) y v → Fits b y (t ∷ v)
into_after c t Never e h = elim h [ ]
into_after c t (Gives x) e h = elim h [ ]
into_after c t (Take x k) e h = let z = if_cases (same_class c x) (k t) h in take (subst (λ (i : Class). is_in i (sort t) ≡ true) (one_class c x z.0) e) z.1
into_after c t (Call p k) e h = elim h [ ]
into_after c t (Rest p) e h = elim h [ ]
into_after c t (Or b d) e h = elim (choice_cases (after c t b) (after c t d) h) [ inl g ↦ left (into_after c t b e g) | inr g ↦ right (into_after c t d e g) ]
into_after c t (When d b f) e h = elim (tested_cases d (after c t b) (after c t f) h) [ inl g ↦ when_yes d g.0 (into_after c t b e g.1) | inr g ↦ when_no d g.0 (into_after c t f e g.1) ]

not_both : (a b : Bool) → (not a && b) ≡ true → a ≡ true → ⊥
not_both true b m h = cc
not_both false b m h = cc

true_false : (a : Bool) → a ≡ true → a ≡ false → ⊥
true_false true e f = cc
true_false false e f = cc

-- where the body is closed to the class, nothing that fits it stands before such a token
closed_out : (part : Part) (c : Class) (t : Lexeme) (b : Body) (v r w : List Lexeme) → is_in c (sort t) ≡ true → closed part c b ≡ true → v ++ r ≡ t ∷ w → Free (more part) r → Starts b v → ⊥
closed_out part c t b [] r w is m e free s =
    let here = holds (is_in c (sort t)) (not (first b (sort t)) && only_if (null b) (more part (sort t))) (by_sort (λ s. only_if (is_in c s) (not (first b s) && only_if (null b) (more part s))) m (sort t)) is in
    let goes : more part (sort t) ≡ true = holds (null b) (more part (sort t)) (and_right (not (first b (sort t))) (only_if (null b) (more part (sort t))) here) s in
    let stops : more part (sort t) ≡ false = subst (λ (z : List Lexeme). Free (more part) z) e free in
    true_false (more part (sort t)) goes stops
closed_out part c t b (x ∷ v) r w is m e free s =
    let same : x ≡ t = cc in
    let here = holds (is_in c (sort t)) (not (first b (sort t)) && only_if (null b) (more part (sort t))) (by_sort (λ s. only_if (is_in c s) (not (first b s) && only_if (null b) (more part s))) m (sort t)) is in
    not_both (first b (sort t)) (only_if (null b) (more part (sort t))) here (subst (λ (z : Lexeme). first b (sort z) ≡ true) same s)

-- the token in front of a take
taken : (part : Part) (c : Class) (t : Lexeme) (x : Class) (k : Lexeme → Body) (m : Bool) {y : Phrase} (u : Lexeme) (v r w : List Lexeme) → m ≡ same_class c x → is_in c (sort t) ≡ true → (m || closed part c (Take x k)) ≡ true → (u ∷ v) ++ r ≡ t ∷ w → Free (more part) r
    → is_in x (sort u) ≡ true → Fits (k u) y v → (z : List Lexeme) × (u ∷ v ≡ t ∷ z) × Fits (if m then k t else Never) y z
taken part c t x k true {y} u v r w i is m e free found h =
    let same : u ≡ t = cc in
    (v, ap (λ (z : Lexeme). z ∷ v) same, subst (λ (z : Lexeme). Fits (k z) y v) same h)
taken part c t x k false {y} u v r w i is m e free found h = absurd (closed_out part c t (Take x k) (u ∷ v) r w is m e free found)

-- behind the token
behind : (part : Part) (c : Class) (t : Lexeme) {b : Body} {y : Phrase} {v : List Lexeme} (r w : List Lexeme) → is_in c (sort t) ≡ true → ready part c b ≡ true → v ++ r ≡ t ∷ w → Free (more part) r → Fits b y v
    → (u : List Lexeme) × (v ≡ t ∷ u) × Fits (after c t b) y u
behind part c t r w is m e free (gives {y}) = absurd (closed_out part c t (Gives y) [] r w is m e free refl)
behind part c t r w is m e free (take {c = x} {rest = k} {t = u} {y} {w = v} found h) = taken part c t x k (same_class c x) u v r w refl is m e free found h
behind part c t r w is m e free (call {p} {rest = k} {a} {y} {u} {v} h g) = absurd (closed_out part c t (Call p k) (u ++ v) r w is m e free (starts (call {p = p} {rest = k} {v = v} h g)))
behind part c t r w is m e free (rest {p} {y} {w = v} h) = absurd (closed_out part c t (Rest p) v r w is m e free (starts (rest {p = p} h)))
behind part c t r w is m e free (left {b} {c = d} h) =
    let z = behind part c t r w is (and_left (ready part c b) (ready part c d) m) e free h in (z.0, z.1, choice_left (after c t b) (after c t d) z.2)
behind part c t r w is m e free (right {b} {c = d} h) =
    let z = behind part c t r w is (and_right (ready part c b) (ready part c d) m) e free h in (z.0, z.1, choice_right (after c t b) (after c t d) z.2)
behind part c t r w is m e free (yes {b} {c = d} h) =
    let z = behind part c t r w is (and_left (ready part c b) (ready part c d) m) e free h in (z.0, z.1, into_tested true (after c t b) (after c t d) (yes z.2))
behind part c t r w is m e free (no {b} {c = d} h) =
    let z = behind part c t r w is (and_right (ready part c b) (ready part c d) m) e free h in (z.0, z.1, into_tested false (after c t b) (after c t d) (no z.2))

-- the token that was looked for is there, and is read
pub seen : {part : Part} {p q z : Point} {b : Body} {c : Class} {t : Lexeme} → Awaits part p q b → Takes c t q z → (ready part c b && inhabited (after c t b)) ≡ true → Awaits part p z (after c t b)
seen {part} {p} {q} {z} {b} {c} {t} a e m = next a e.begins.joins e.stepped (sentence (after c t b) (and_right (ready part c b) (inhabited (after c t b)) m))
    (λ y v h. into_after c t b e.begins.sort h)
    (λ y v r w is free h. behind part c t r w e.begins.sort (and_left (ready part c b) (inhabited (after c t b)) m) is free h)

-- the token that was looked for is there, and passes a limit
pub stopped : {part : Part} {p q : Point} {b : Body} {c : Class} → Awaits part p q b → Stops c q → ((t : Lexeme) → inhabited (after c t b) ≡ true) → Bars part p q.rest
stopped {part} {p} {q} {b} {c} a e m =
    let some = sentence (after c e.token b) (m e.token) in
    record {
      word = a.word;
      token = e.token;
      further = e.further;
      joins = e.begins.joins;
      splits = a.splits;
      viable = (some.0, some.1, subst (λ (x : List Lexeme). Spells part some.0 x) (sym (append_assoc a.word (e.token ∷ []) some.1)) (a.made some.0 (e.token ∷ some.1) (into_after c e.token b e.begins.sort some.2)));
      level = q.level;
      walked = a.walked;
      passes = e.stepped;
    }

-- a body that surely begins with a token of the class
abbrev pub always : Class → Body → Bool
always c b = not (null b) && all_sorts (λ s. only_if (first b s) (is_in c s))

abbrev pub unless : Bool → Body → Body
unless m b = if m then Never else b

-- what is left where no token of this class stands
abbrev pub without : Class → Body → Body
without c Never = Never
without c (Gives y) = Gives y
without c (Take x k) = unless (always c (Take x k)) (Take x k)
without c (Call p k) = unless (always c (Call p k)) (Call p k)
without c (Rest p) = unless (always c (Rest p)) (Rest p)
without c (Or b d) = choice (without c b) (without c d)
without c (When d b e) = tested d (without c b) (without c e)

not_null : (a b : Bool) → (not a && b) ≡ true → a ≡ true → ⊥
not_null true b m h = cc
not_null false b m h = cc

absent : (c : Class) (b : Body) (r v q : List Lexeme) → always c b ≡ true → At r (v ++ q) → NotFirst c r → Starts b v → ⊥
absent c b r [] q m at other s = not_null (null b) (all_sorts (λ s. only_if (first b s) (is_in c s))) m s
absent c b r (t ∷ v) q m at other s =
    let z = at_head r (v ++ q) at in
    let is = holds (first b (sort t)) (is_in c (sort t)) (by_sort (λ s. only_if (first b s) (is_in c s)) (and_right (not (null b)) (all_sorts (λ s. only_if (first b s) (is_in c s))) m) (sort t)) s in
    true_false (is_in c (sort t)) is (other.other t z.0 z.1)

stays : (c : Class) (b : Body) (m : Bool) {y : Phrase} (r v q : List Lexeme) → (m ≡ true → always c b ≡ true) → At r (v ++ q) → NotFirst c r → Starts b v → Fits b y v → Fits (unless m b) y v
stays c b true r v q m at other s h = absurd (absent c b r v q (m refl) at other s)
stays c b false r v q m at other s h = h

still : (c : Class) (r q : List Lexeme) {b : Body} {y : Phrase} {v : List Lexeme} → At r (v ++ q) → NotFirst c r → Fits b y v → Fits (without c b) y v
still c r q at other gives = gives
still c r q at other (take {c = x} {rest = k} {t} {y} {w} is h) = stays c (Take x k) (always c (Take x k)) r (t ∷ w) q (λ e. e) at other is (take is h)
still c r q at other (call {p} {rest = k} {a} {y} {u} {v} h g) =
    let all : Fits (Call p k) y (u ++ v) = call h g in
    stays c (Call p k) (always c (Call p k)) r (u ++ v) q (λ e. e) at other (starts all) all
still c r q at other (rest {p} {y} {w} h) =
    let all : Fits (Rest p) y w = rest h in
    stays c (Rest p) (always c (Rest p)) r w q (λ e. e) at other (starts all) all
still c r q at other (left {b} {c = d} h) = choice_left (without c b) (without c d) (still c r q at other h)
still c r q at other (right {b} {c = d} h) = choice_right (without c b) (without c d) (still c r q at other h)
still c r q at other (yes {b} {c = d} h) = into_tested true (without c b) (without c d) (yes (still c r q at other h))
still c r q at other (no {b} {c = d} h) = into_tested false (without c b) (without c d) (no (still c r q at other h))

kept : (m : Bool) (b : Body) {y : Phrase} {w : List Lexeme} → Fits (unless m b) y w → Fits b y w
kept true b h = elim h [ ]
kept false b h = h

back_from : (c : Class) (b : Body) {y : Phrase} {v : List Lexeme} → Fits (without c b) y v → Fits b y v
back_from c Never h = h
back_from c (Gives x) h = h
back_from c (Take x k) h = kept (always c (Take x k)) (Take x k) h
back_from c (Call p k) h = kept (always c (Call p k)) (Call p k) h
back_from c (Rest p) h = kept (always c (Rest p)) (Rest p) h
back_from c (Or b d) h = elim (choice_cases (without c b) (without c d) h) [ inl g ↦ left (back_from c b g) | inr g ↦ right (back_from c d g) ]
back_from c (When d b e) h = elim (tested_cases d (without c b) (without c e) h) [ inl g ↦ when_yes d g.0 (back_from c b g.1) | inr g ↦ when_no d g.0 (back_from c e g.1) ]

-- the token that was looked for is not there
pub unseen : {part : Part} {p q : Point} {b : Body} {c : Class} → Awaits part p q b → NotFirst c q.rest → Awaits part p q (without c b)
unseen {part} {p} {q} {b} {c} a other = choose a (λ y v h. back_from c b h) (λ y v r at free h. still c q.rest r at other h)

-- what a test of a phrase decides
pub decided : {part : Part} {p q : Point} {d : Bool} {b c : Body} → Awaits part p q (When d b c) → d ≡ true → Awaits part p q b
decided {part} {p} {q} {d} {b} {c} a e = choose a (λ y v h. when_yes d e h) (λ y v r at free h. is_yes d e h)
  where
    is_yes : (d : Bool) {b c : Body} {y : Phrase} {v : List Lexeme} → d ≡ true → Fits (When d b c) y v → Fits b y v
    is_yes true e (yes h) = h
    is_yes false e h = cc

pub declined : {part : Part} {p q : Point} {d : Bool} {b c : Body} → Awaits part p q (When d b c) → d ≡ false → Awaits part p q c
declined {part} {p} {q} {d} {b} {c} a e = choose a (λ y v h. when_no d e h) (λ y v r at free h. is_no d e h)
  where
    is_no : (d : Bool) {b c : Body} {y : Phrase} {v : List Lexeme} → d ≡ false → Fits (When d b c) y v → Fits c y v
    is_no true e h = cc
    is_no false e (no h) = h

is_rest : {p : Part} {y : Phrase} {v : List Lexeme} → Fits (Rest p) y v → Fits (rule p) y v
is_rest (rest h) = h

-- a rest under its own rule
pub opened : {part inner : Part} {p q : Point} → Awaits part p q (Rest inner) → Awaits part p q (rule inner)
opened {part} {inner} a = choose a (λ y v h. rest h) (λ y v r at free h. is_rest h)

-- a part is to be read as a whole
pub whole : (part : Part) (p : Point) → Awaits part p p (Rest part)
whole part p = choose (start part p) (λ y v h. is_rest h) (λ y v r at free h. rest h)

-- what stands behind a part that is called is no token with which the part could go on
abbrev pub follows : Part → Part → Body → Bool
follows part p b = all_sorts (λ s. only_if (more p s) (not (first b s) && only_if (null b) (more part s)))

follow_end : (a f n m : Bool) → only_if a (not f && only_if n m) ≡ true → n ≡ true → m ≡ false → a ≡ false
follow_end false f n m e h k = refl
follow_end true true n m e h k = cc
follow_end true false true m e h k = cc
follow_end true false false m e h k = cc

follow_on : (a f n m : Bool) → only_if a (not f && only_if n m) ≡ true → f ≡ true → a ≡ false
follow_on false f n m e h = refl
follow_on true true n m e h = cc
follow_on true false n m e h = cc

free_behind : (part p : Part) (b : Body) (v r : List Lexeme) → follows part p b ≡ true → Starts b v → Free (more part) r → Free (more p) (v ++ r)
free_behind part p b [] [] m h free = tt
free_behind part p b [] (t ∷ r) m h free = follow_end (more p (sort t)) (first b (sort t)) (null b) (more part (sort t)) (by_sort (λ s. only_if (more p s) (not (first b s) && only_if (null b) (more part s))) m (sort t)) h free
free_behind part p b (t ∷ v) r m h free = follow_on (more p (sort t)) (first b (sort t)) (null b) (more part (sort t)) (by_sort (λ s. only_if (more p s) (not (first b s) && only_if (null b) (more part s))) m (sort t)) h

abbrev Parted : Part → (Phrase → Body) → Phrase → List Lexeme → Type 0
Parted p k y w = (a : Phrase) × (u : List Lexeme) × (v : List Lexeme) × (w ≡ u ++ v) × Spells p a u × Fits (k a) y v

parted : {p : Part} {k : Phrase → Body} {y : Phrase} {w : List Lexeme} → Fits (Call p k) y w → Parted p k y w
parted (call {a} {y} {u} {v} h g) = (a, u, v, refl, h, g)

-- a part may be called here
abbrev pub good : Part → Part → (Phrase → Body) → Type 0
good part p k = (b : Phrase) → (follows part p (k b) && inhabited (k b)) ≡ true

gives_is : {a y : Phrase} {v : List Lexeme} → Fits (Gives a) y v → (y ≡ a) × (v ≡ [])
gives_is gives = (refl, refl)

-- what a part's reader read, the reader that called it has read
pub done : {part inner : Part} {p q z : Point} {k : Phrase → Body} {a : Phrase} → Awaits part p q (Call inner k) → Reads inner q z a → good part inner k → Awaits part p z (k a)
done {part} {inner} {p} {q} {z} {k} {a} s i check = record {
  word = s.word ++ i.word;
  splits = s.splits ∙ (ap (λ (x : List Lexeme). s.word ++ x) i.splits ∙ sym (append_assoc s.word i.word z.rest));
  walked = walk_append p.level q.level s.word i.word s.walked ∙ i.walked;
  viable = let c = sentence (k a) (and_right (follows part inner (k a)) (inhabited (k a)) (check a)) in (c.0, c.1, made_of c.0 c.1 c.2);
  made = made_of;
  only = λ y x r w at e free h.
      let m = s.only y x r (i.word ++ w) (at_more i.word q.rest z.rest w i.splits at) (e ∙ append_assoc s.word i.word w) free h in
      let c = parted m.3 in
      let cut : c.1 ++ (c.2 ++ r) ≡ i.word ++ w = sym (append_assoc c.1 c.2 r) ∙ (sym (ap (λ (n : List Lexeme). n ++ r) c.3) ∙ m.2) in
      let n = i.only c.0 c.1 (c.2 ++ r) w at cut (free_behind part inner (k c.0) c.2 r (and_left (follows part inner (k c.0)) (inhabited (k c.0)) (check c.0)) (starts c.5) free) c.4 in
      let g = gives_is n.3 in
      let all : c.1 ≡ i.word = n.1 ∙ (ap (λ (n : List Lexeme). i.word ++ n) g.1 ∙ append-nil i.word) in
      let off : c.2 ++ r ≡ w = sym (ap (λ (n : List Lexeme). n ++ (c.2 ++ r)) g.1) ∙ n.2 in
      (c.2, m.1 ∙ (ap (λ (n : List Lexeme). s.word ++ n) (c.3 ∙ ap (λ (n : List Lexeme). n ++ c.2) all) ∙ sym (append_assoc s.word i.word c.2)), off, subst (λ (b : Phrase). Fits (k b) y c.2) g.0 c.5);
}
  where
    made_of : (y : Phrase) (v : List Lexeme) → Fits (k a) y v → Spells part y ((s.word ++ i.word) ++ v)
    made_of y v h =
        let own = subst (λ (z : List Lexeme). Spells inner a z) (append-nil i.word) (i.made a [] gives) in
        subst (λ (z : List Lexeme). Spells part y z) (sym (append_assoc s.word i.word v)) (s.made y (i.word ++ v) (call own h))

-- with what a called part begins, the caller begins
viable_in : (part : Part) {inner : Part} {k : Phrase → Body} (u v : List Lexeme) → ((y : Phrase) (w : List Lexeme) → Fits (Call inner k) y w → Spells part y (u ++ w)) → Viable inner v → good part inner k → Viable part (u ++ v)
viable_in part {inner} {k} u v made n check =
    let z = sentence (k n.0) (and_right (follows part inner (k n.0)) (inhabited (k n.0)) (check n.0)) in (
      z.0,
      n.1 ++ z.1,
      subst (λ (x : List Lexeme). Spells part z.0 x) (ap (λ (x : List Lexeme). u ++ x) (append_assoc v n.1 z.1) ∙ sym (append_assoc u v (n.1 ++ z.1)))
          (made z.0 ((v ++ n.1) ++ z.1) (call n.2 z.2)),
    )

-- the reader that was called sticks
pub stuck : {part inner : Part} {p q z : Point} {k : Phrase → Body} → Awaits part p q (Call inner k) → Awaits inner q z Never → good part inner k → Awaits part p z Never
stuck {part} {inner} {p} {q} {z} {k} s i check = record {
  word = s.word ++ i.word;
  splits = s.splits ∙ (ap (λ (x : List Lexeme). s.word ++ x) i.splits ∙ sym (append_assoc s.word i.word z.rest));
  walked = walk_append p.level q.level s.word i.word s.walked ∙ i.walked;
  viable = viable_in part s.word i.word s.made i.viable check;
  made = λ y v h. elim h [ ];
  only = λ y x r w at e free h.
      let m = s.only y x r (i.word ++ w) (at_more i.word q.rest z.rest w i.splits at) (e ∙ append_assoc s.word i.word w) free h in
      let c = parted m.3 in
      let cut : c.1 ++ (c.2 ++ r) ≡ i.word ++ w = sym (append_assoc c.1 c.2 r) ∙ (sym (ap (λ (n : List Lexeme). n ++ r) c.3) ∙ m.2) in
      let n = i.only c.0 c.1 (c.2 ++ r) w at cut (free_behind part inner (k c.0) c.2 r (and_left (follows part inner (k c.0)) (inhabited (k c.0)) (check c.0)) (starts c.5) free) c.4 in
      elim n.3 [ ];
}

-- what may go on with these tokens may with those of the caller
abbrev pub ends_in : Part → Part → Bool
ends_in part inner = all_sorts (λ s. only_if (more inner s) (more part s))

smaller : (a b : Bool) → only_if a b ≡ true → b ≡ false → a ≡ false
smaller true b e h = cc
smaller false b e h = refl

free_wider : (part inner : Part) (r : List Lexeme) → ends_in part inner ≡ true → Free (more part) r → Free (more inner) r
free_wider part inner [] m free = tt
free_wider part inner (t ∷ r) m free = smaller (more inner (sort t)) (more part (sort t)) (by_sort (λ s. only_if (more inner s) (more part s)) m (sort t)) free

-- the reader that is called last reads on, or sticks
pub tail : {part inner : Part} {p q z : Point} {b : Body} → Awaits part p q (Rest inner) → Awaits inner q z b → ends_in part inner ≡ true → Awaits part p z b
tail {part} {inner} {p} {q} {z} {b} a i check = let s = opened a in record {
  word = s.word ++ i.word;
  splits = s.splits ∙ (ap (λ (x : List Lexeme). s.word ++ x) i.splits ∙ sym (append_assoc s.word i.word z.rest));
  walked = walk_append p.level q.level s.word i.word s.walked ∙ i.walked;
  viable = (i.viable.0, i.viable.1, subst (λ (z : List Lexeme). Spells part i.viable.0 z) (sym (append_assoc s.word i.word i.viable.1)) (s.made i.viable.0 (i.word ++ i.viable.1) i.viable.2));
  made = λ y v h. subst (λ (z : List Lexeme). Spells part y z) (sym (append_assoc s.word i.word v)) (s.made y (i.word ++ v) (i.made y v h));
  only = λ y x r w at e free h.
      let m = s.only y x r (i.word ++ w) (at_more i.word q.rest z.rest w i.splits at) (e ∙ append_assoc s.word i.word w) free h in
      let n = i.only y m.0 r w at m.2 (free_wider part inner r check free) m.3 in
      (n.0, m.1 ∙ (ap (λ (x : List Lexeme). s.word ++ x) n.1 ∙ sym (append_assoc s.word i.word n.0)), n.2, n.3);
}

-- a phrase by another name
pub go_as : {part : Part} {p q : Point} (inner : Phrase → Body) {x y : Phrase} → y ≡ x → Awaits part p q (inner x) → Awaits part p q (inner y)
go_as {part} {p} {q} inner {x} {y} e s = subst (λ (z : Phrase). Awaits part p q (inner z)) (sym e) s

-- the limit that stops the reader that was called stops its caller
bars_on : {part inner : Part} {p q : Point} {r : List Lexeme} (u : List Lexeme) → p.rest ≡ u ++ q.rest → walk p.level u ≡ Some q.level → (i : Bars inner q r) → Viable part (u ++ (i.word ++ i.token ∷ [])) → Bars part p r
bars_on {part} {inner} {p} {q} {r} u splits walked i viable = record {
  word = u ++ i.word;
  token = i.token;
  further = i.further;
  joins = i.joins;
  splits = splits ∙ (ap (λ (x : List Lexeme). u ++ x) i.splits ∙ sym (append_assoc u i.word r));
  viable = subst (λ (z : List Lexeme). Viable part z) (sym (append_assoc u i.word (i.token ∷ []))) viable;
  level = i.level;
  walked = walk_append p.level q.level u i.word walked ∙ i.walked;
  passes = i.passes;
}

pub barred : {part inner : Part} {p q : Point} {r : List Lexeme} {k : Phrase → Body} → Awaits part p q (Call inner k) → Bars inner q r → good part inner k → Bars part p r
barred {part} {inner} {p} {q} {r} {k} s i check = bars_on s.word s.splits s.walked i (viable_in part s.word (i.word ++ i.token ∷ []) s.made i.viable check)

pub barred_last : {part inner : Part} {p q : Point} {r : List Lexeme} → Awaits part p q (Rest inner) → Bars inner q r → Bars part p r
barred_last {part} {inner} {p} {q} {r} s i = bars_on s.word s.splits s.walked i
    (i.viable.0, i.viable.1, subst (λ (z : List Lexeme). Spells part i.viable.0 z) (sym (append_assoc s.word (i.word ++ i.token ∷ []) i.viable.1)) (s.made i.viable.0 ((i.word ++ i.token ∷ []) ++ i.viable.1) (rest i.viable.2)))
