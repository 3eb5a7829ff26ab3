-- What fits a body, by its cases; and a part that is called is its rule, written out.
use Rattle.std.proofs.Common.{◌≡◌, ◌⊎◌, inl, inr, Bool, true, false, List, [], ◌∷◌, ◌++◌, refl, sym, ◌∙◌, ap, subst, append_assoc}
use Rattle.ada_grammar.specs.declared.tokens.Class.{Class}
use Rattle.ada_grammar.specs.Sorts.{is_in}
use Rattle.ada_grammar.specs.Lexemes.{Lexeme, sort}
use Rattle.ada_grammar.specs.Phrases.{Phrase}
use Rattle.ada_grammar.specs.Parts.{Part, Body, Never, Gives, Take, Call, Rest, Or, When}
use Rattle.ada_grammar.specs.Grammar.{rule}
use Rattle.ada_grammar.specs.Spelling.{Fits, gives, take, call, rest, left, right, yes, no, Spells}

pub given_of : {x y : Phrase} {w : List Lexeme} → Fits (Gives x) y w → (y ≡ x) × (w ≡ [])
given_of gives = (refl, refl)

abbrev pub Taken : Class → (Lexeme → Body) → Phrase → List Lexeme → Type 0
Taken c k y w = (t : Lexeme) × (v : List Lexeme) × (w ≡ t ∷ v) × (is_in c (sort t) ≡ true) × Fits (k t) y v

pub taken_of : {c : Class} {k : Lexeme → Body} {y : Phrase} {w : List Lexeme} → Fits (Take c k) y w → Taken c k y w
taken_of (take {t} {w = v} is h) = (t, v, refl, is, h)

abbrev pub Parted : Part → (Phrase → Body) → Phrase → List Lexeme → Type 0
Parted p k y w = (a : Phrase) × (u : List Lexeme) × (v : List Lexeme) × (w ≡ u ++ v) × Spells p a u × Fits (k a) y v

pub parted_of : {p : Part} {k : Phrase → Body} {y : Phrase} {w : List Lexeme} → Fits (Call p k) y w → Parted p k y w
parted_of (call {a} {u} {v} h g) = (a, u, v, refl, h, g)

pub rest_of : {p : Part} {y : Phrase} {w : List Lexeme} → Fits (Rest p) y w → Spells p y w
rest_of (rest h) = h

pub either_of : {b c : Body} {y : Phrase} {w : List Lexeme} → Fits (Or b c) y w → Fits b y w ⊎ Fits c y w
either_of (left h) = inl h
either_of (right h) = inr h

pub tested_of : (d : Bool) {b c : Body} {y : Phrase} {w : List Lexeme} → Fits (When d b c) y w → ((d ≡ true) × Fits b y w) ⊎ ((d ≡ false) × Fits c y w)
tested_of true (yes h) = inl (refl, h)
tested_of false (no h) = inr (refl, h)

pub when_true : (d : Bool) {b c : Body} {y : Phrase} {w : List Lexeme} → d ≡ true → Fits b y w → Fits (When d b c) y w
when_true true e h = yes h
when_true false e h = cc

pub when_false : (d : Bool) {b c : Body} {y : Phrase} {w : List Lexeme} → d ≡ false → Fits c y w → Fits (When d b c) y w
when_false true e h = cc
when_false false e h = no h

-- the word in parts
pub spread : {b : Body} {y : Phrase} {w : List Lexeme} (v : List Lexeme) → w ≡ v → Fits b y v → Fits b y w
spread {b} {y} v e h = subst (λ (z : List Lexeme). Fits b y z) (sym e) h

-- what comes behind a part, in another form
pub called : {p : Part} {k m : Phrase → Body} {y : Phrase} {w : List Lexeme} → ((a : Phrase) (v : List Lexeme) → Fits (k a) y v → Fits (m a) y v) → Fits (Call p k) y w → Fits (Call p m) y w
called f (call {a} {v} h g) = call h (f a v g)

-- a choice behind a part
pub call_either : {p : Part} {k m : Phrase → Body} {y : Phrase} {w : List Lexeme} → Fits (Call p (λ a. Or (k a) (m a))) y w → Fits (Call p k) y w ⊎ Fits (Call p m) y w
call_either {p} {k} {m} {y} h = let x = parted_of h in
    elim (either_of x.5) [ inl g ↦ inl (spread (x.1 ++ x.2) x.3 (call x.4 g)) | inr g ↦ inr (spread (x.1 ++ x.2) x.3 (call x.4 g)) ]

-- the body, and another behind its phrase
abbrev pub then : Body → (Phrase → Body) → Body
then Never k = Never
then (Gives x) k = k x
then (Take c f) k = Take c (λ t. then (f t) k)
then (Call p f) k = Call p (λ a. then (f a) k)
then (Rest p) k = Call p k
then (Or b c) k = Or (then b k) (then c k)
then (When d b c) k = When d (then b k) (then c k)

abbrev pub Two : Body → (Phrase → Body) → Phrase → List Lexeme → Type 0
Two b k y w = (a : Phrase) × (u : List Lexeme) × (v : List Lexeme) × (w ≡ u ++ v) × Fits b a u × Fits (k a) y v

join : {b : Body} (k : Phrase → Body) {a y : Phrase} {u : List Lexeme} (v : List Lexeme) → Fits b a u → Fits (k a) y v → Fits (then b k) y (u ++ v)
join k v gives g = g
join k v (take is h) g = take is (join k v h g)
join k v (call {u = m} {v = n} h i) g = spread (m ++ (n ++ v)) (append_assoc m n v) (call h (join k v i g))
join k v (rest h) g = call h g
join k v (left h) g = left (join k v h g)
join k v (right h) g = right (join k v h g)
join k v (yes h) g = yes (join k v h g)
join k v (no h) g = no (join k v h g)

wider : {b c : Body} {k : Phrase → Body} {y : Phrase} {w : List Lexeme} → ((a : Phrase) (u : List Lexeme) → Fits b a u → Fits c a u) → Two b k y w → Two c k y w
wider f x = (x.0, x.1, x.2, x.3, f x.0 x.1 x.4, x.5)

two : (b : Body) {k : Phrase → Body} {y : Phrase} {w : List Lexeme} → Fits (then b k) y w → Two b k y w
two Never h = elim h [ ]
two (Gives x) {k} {y} {w} h = (x, [], w, refl, gives, h)
two (Take c f) h = let x = taken_of h in let z = two (f x.0) x.4 in
    (z.0, x.0 ∷ z.1, z.2, x.2 ∙ ap (λ (n : List Lexeme). x.0 ∷ n) z.3, take x.3 z.4, z.5)
two (Call p f) h = let x = parted_of h in let z = two (f x.0) x.5 in
    (z.0, x.1 ++ z.1, z.2, x.3 ∙ (ap (λ (n : List Lexeme). x.1 ++ n) z.3 ∙ sym (append_assoc x.1 z.1 z.2)), call x.4 z.4, z.5)
two (Rest p) h = let x = parted_of h in (x.0, x.1, x.2, x.3, rest x.4, x.5)
two (Or b c) h = elim (either_of h) [ inl g ↦ wider (λ a u i. left i) (two b g) | inr g ↦ wider (λ a u i. right i) (two c g) ]
two (When d b c) h = elim (tested_of d h) [ inl g ↦ wider (λ a u i. when_true d g.0 i) (two b g.1) | inr g ↦ wider (λ a u i. when_false d g.0 i) (two c g.1) ]

-- the rule of a part, written out where it is called
pub written : {p : Part} {k : Phrase → Body} {y : Phrase} {w : List Lexeme} → Fits (Call p k) y w → Fits (then (rule p) k) y w
written {p} {k} {y} h = let x = parted_of h in spread (x.1 ++ x.2) x.3 (join k x.2 x.4 x.5)

pub named : (p : Part) {k : Phrase → Body} {y : Phrase} {w : List Lexeme} → Fits (then (rule p) k) y w → Fits (Call p k) y w
named p h = let x = two (rule p) h in spread (x.1 ++ x.2) x.3 (call x.4 x.5)
