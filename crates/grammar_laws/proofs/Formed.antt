-- What the form of a phrase tells of the tokens that spell it.
use Rattle.std.proofs.Common.{◌≡◌, Bool, true, false, List, [], ◌∷◌, ◌++◌, refl, sym, ◌∙◌, ap, subst, append-nil}
use Rattle.ada_tree.specs.declared.expressions.LogicalOperator.{LogicalOperator}
use Rattle.ada_tree.specs.declared.expressions.LogicalOperator.TheVariants as logical
use Rattle.ada_tree.specs.declared.token.TokenKind.{TokenKind}
use Rattle.ada_tree.specs.declared.token.TokenKind.TheVariants as kinds
use Rattle.ada_grammar.specs.declared.nodes.Form.{Form}
use Rattle.ada_grammar.specs.declared.nodes.Form.TheVariants as forms
use Rattle.ada_grammar.specs.Sorts.{is_in}
use Rattle.ada_grammar.specs.Lexemes.{Lexeme, sort}
use Rattle.ada_grammar.specs.Phrases as phrases
use Rattle.ada_grammar.specs.Phrases.{Phrase, Tree}
use Rattle.spark_base.specs.declared.numbers.Span.{Span}
use Rattle.ada_grammar.specs.Parts.{Part, Expr, Continued, RestOfExpr, BehindAnd, BehindOr, Opened, Begun, Chain, Rel, RestOfRel, Membership, Simple, Signed, Sums, Term, Products, Factor, Powered, Primary, Parens, InParens, NamedFrom, BehindExpr, Items, LastItem, Associations, Name, Suffixes, MayOpen, BehindTick, BehindAttribute, ValuesFrom, Values, ArgumentsFrom, Arguments, UnitName, Points, Body, Never, Gives, Take, Call, Rest, Or, When}
use Rattle.ada_grammar.specs.Grammar.{rule}
use Rattle.ada_grammar.specs.Spelling.{Fits, gives, take, call, rest, left, right, yes, no, Spells}

-- what holds of each sentence of a body, if the claim of each part holds of its sentences
abbrev pub Holds : (Part → Phrase → List Lexeme → Type 0) → Body → (Phrase → List Lexeme → Type 0) → Type 0
Holds f Never q = Unit {0}
Holds f (Gives y) q = q y []
Holds f (Take c k) q = (t : Lexeme) → is_in c (sort t) ≡ true → Holds f (k t) (λ y w. q y (t ∷ w))
Holds f (Call p k) q = (a : Phrase) (u : List Lexeme) → Spells p a u → f p a u → Holds f (k a) (λ y w. q y (u ++ w))
Holds f (Rest p) q = (a : Phrase) (u : List Lexeme) → Spells p a u → f p a u → q a u
Holds f (Or b c) q = Holds f b q × Holds f c q
Holds f (When d b c) q = (d ≡ true → Holds f b q) × (d ≡ false → Holds f c q)

pub each : (f : Part → Phrase → List Lexeme → Type 0) → ((p : Part) → Holds f (rule p) (f p)) → {b : Body} {y : Phrase} {w : List Lexeme} → Fits b y w → (q : Phrase → List Lexeme → Type 0) → Holds f b q → q y w
each f all gives q h = h
each f all (take {t} is g) q h = each f all g (λ y w. q y (t ∷ w)) (h t is)
each f all (call {p} {a} {u} g i) q h = each f all i (λ y w. q y (u ++ w)) (h a u g (each f all g (f p) (all p)))
each f all (rest {p} {y} {w} g) q h = h y w g (each f all g (f p) (all p))
each f all (left g) q h = each f all g q h.0
each f all (right g) q h = each f all g q h.1
each f all (yes g) q h = each f all g q (h.0 refl)
each f all (no g) q h = each f all g q (h.1 refl)

pub nothing : (f : Part → Phrase → List Lexeme → Type 0) (b : Body) → Holds f b (λ y w. Unit {0})
nothing f Never = tt
nothing f (Gives y) = tt
nothing f (Take c k) = λ t is. nothing f (k t)
nothing f (Call p k) = λ a u s h. nothing f (k a)
nothing f (Rest p) = λ a u s h. tt
nothing f (Or b c) = (nothing f b, nothing f c)
nothing f (When d b c) = (λ e. nothing f b, λ e. nothing f c)

-- a mark, or a Range attribute
abbrev pub is_named : Form → Bool
is_named forms.Identifier = true
is_named forms.Mark = true
is_named forms.RangeAttribute = true
is_named f = false

-- a phrase with such a form is a name, and a mark where the form is that of a mark
abbrev pub Whole : Phrase → List Lexeme → Type 0
Whole y w = is_named y.form ≡ true → Spells Name y w × (phrases.is_mark y.form ≡ true → Spells UnitName y w)

-- one that goes on from a phrase and has such a form adds nothing
abbrev pub Goes : Phrase → Phrase → List Lexeme → Type 0
Goes a y w = is_named y.form ≡ true → (y ≡ a) × (w ≡ [])

abbrev pub Unnamed : Phrase → Type 0
Unnamed y = is_named y.form ≡ true → ⊥

abbrev pub Unmarked : Phrase → Type 0
Unmarked y = phrases.is_mark y.form ≡ true → ⊥

abbrev pub Pointed : Phrase → Phrase → List Lexeme → Type 0
Pointed a y w = phrases.is_mark y.form ≡ true → (phrases.is_mark a.form ≡ true) × Spells (Points a) y w

abbrev pub Made : Part → Phrase → List Lexeme → Type 0
Made Expr y w = Whole y w
Made (Continued a) y w = Goes a y w
Made (RestOfExpr a) y w = Goes a y w
Made (BehindAnd a o) y w = Unnamed y
Made (BehindOr a o) y w = Unnamed y
Made (Opened operator a o) y w = Unnamed y
Made (Begun operator a o) y w = Unnamed y
Made (Chain operator a) y w = Goes a y w
Made Rel y w = Whole y w
Made (RestOfRel a) y w = Goes a y w
Made (Membership is_not a) y w = Unnamed y
Made Simple y w = Whole y w
Made Signed y w = Whole y w
Made (Sums a) y w = Goes a y w
Made Term y w = Whole y w
Made (Products a) y w = Goes a y w
Made Factor y w = Whole y w
Made Powered y w = Whole y w
Made Primary y w = Whole y w
Made (Parens o) y w = Unnamed y
Made (InParens o) y w = Unnamed y
Made (NamedFrom o c) y w = Unnamed y
Made (BehindExpr o e) y w = Unnamed y
Made (Items o items) y w = Unnamed y
Made (LastItem o items) y w = Unnamed y
Made (Associations o associations) y w = Unnamed y
Made (Suffixes may_open a) y w = Pointed a y w
Made (MayOpen may_open a) y w = Pointed a y w
Made (BehindTick a) y w = Unmarked y
Made (BehindAttribute a n) y w = Unmarked y
Made (ValuesFrom a n) y w = Unmarked y
Made (Values first n values) y w = Unmarked y
Made (ArgumentsFrom a) y w = Unmarked y
Made (Arguments first arguments) y w = Unmarked y
Made (Points a) y w =
    Spells (Suffixes true a) y w
    × (phrases.is_identifier y.form ≡ true → (y ≡ a) × (w ≡ []))
    × (phrases.is_mark a.form ≡ true → phrases.is_mark y.form ≡ true)
Made p y w = Unit {0}

pub contrary : (f : Bool) → f ≡ false → f ≡ true → ⊥
contrary true e h = cc
contrary false e h = cc

false_true : false ≡ true → ⊥
false_true e = cc

-- nothing goes on from a phrase that is no name and is one
lost : (a y : Phrase) (v : List Lexeme) → is_named a.form ≡ false → Goes a y v → Unnamed y
lost a y v f goes m = contrary (is_named a.form) f (subst (λ (z : Phrase). is_named z.form ≡ true) (goes m).0 m)

unnamed_on : (a y : Phrase) (v : List Lexeme) → Unnamed a → Goes a y v → Unnamed y
unnamed_on a y v f goes m = f (subst (λ (z : Phrase). is_named z.form ≡ true) (goes m).0 m)

unnamed_goes : (a y : Phrase) (v : List Lexeme) → Unnamed y → Goes a y v
unnamed_goes a y v f m = absurd (f m)

goes_on : (a b y : Phrase) (u v : List Lexeme) → Goes a b u → Goes b y v → Goes a y (u ++ v)
goes_on a b y u v f g m =
    let e = g m in
    let d = f (subst (λ (z : Phrase). is_named z.form ≡ true) e.0 m) in
    (e.0 ∙ d.0, ap (λ (z : List Lexeme). z ++ v) d.1 ∙ e.1)

-- a name to which nothing is added
kept : (a y : Phrase) (u v : List Lexeme) → Whole a u → Goes a y v → Whole y (u ++ v)
kept a y u v f g m =
    let e = g m in
    let word : u ++ v ≡ u = ap (λ (z : List Lexeme). u ++ z) e.1 ∙ append-nil u in
    (subst (λ (z : List Lexeme). Whole y z) (sym word) (subst (λ (z : Phrase). Whole z u) (sym e.0) f)) m

unnamed : (y : Phrase) (w : List Lexeme) → Unnamed y → Whole y w
unnamed y w f m = absurd (f m)

end : (a : Phrase) → Goes a a []
end a m = (refl, refl)

pub marks_named : (f : Form) → phrases.is_mark f ≡ true → is_named f ≡ true
marks_named forms.Identifier e = refl
marks_named forms.Mark e = refl
marks_named f e = cc

pub identifiers_marks : (f : Form) → phrases.is_identifier f ≡ true → phrases.is_mark f ≡ true
identifiers_marks forms.Identifier e = refl
identifiers_marks f e = cc

pub ranges_named : (f : Form) → phrases.is_range f ≡ true → is_named f ≡ true
ranges_named forms.RangeAttribute e = refl
ranges_named f e = cc

pub ranges_no_marks : (f : Form) → phrases.is_range f ≡ true → phrases.is_mark f ≡ false
ranges_no_marks forms.RangeAttribute e = refl
ranges_no_marks f e = cc

selected_marks : (f : Form) → phrases.is_mark (phrases.selected_form f) ≡ true → phrases.is_mark f ≡ true
selected_marks forms.Identifier e = refl
selected_marks forms.Mark e = refl
selected_marks f e = cc

marks_selected : (f : Form) → phrases.is_mark f ≡ true → phrases.is_mark (phrases.selected_form f) ≡ true
marks_selected forms.Identifier e = refl
marks_selected forms.Mark e = refl
marks_selected f e = cc

selected_other : (f : Form) → phrases.is_identifier (phrases.selected_form f) ≡ false
selected_other forms.Identifier = refl
selected_other f = refl

attribute_other : (k : TokenKind) (a : Phrase) (n : Lexeme) → phrases.is_mark (phrases.attribute k a n).form ≡ false
attribute_other kinds.Word a n = refl
attribute_other k a n = refl

values_other : (k : TokenKind) (first : Span) (n : Lexeme) (values : List Tree) (z : Lexeme) → phrases.is_mark (phrases.attribute_of k first n values z).form ≡ false
values_other kinds.Word first n values z = refl
values_other k first n values z = refl

chain : (operator : LogicalOperator) (a : Phrase) → Holds Made (rule (Chain operator a)) (Made (Chain operator a))
chain logical.And a = (λ o is b u s f y v g goes. unnamed_goes a y (o ∷ (u ++ v)) (unnamed_on b y v f goes), end a)
chain logical.Or a = (λ o is b u s f y v g goes. unnamed_goes a y (o ∷ (u ++ v)) (unnamed_on b y v f goes), end a)
chain logical.Xor a = (λ o is b u s f y v g goes. unnamed_goes a y (o ∷ (u ++ v)) (unnamed_on b y v f goes), end a)
chain logical.AndThen a = (λ o is t also b u s f y v g goes. unnamed_goes a y (o ∷ t ∷ (u ++ v)) (unnamed_on b y v f goes), end a)
chain logical.OrElse a = (λ o is t also b u s f y v g goes. unnamed_goes a y (o ∷ t ∷ (u ++ v)) (unnamed_on b y v f goes), end a)

pub made : (p : Part) → Holds Made (rule p) (Made p)
made Expr = λ a u s f y v g goes. kept a y u v f goes
made (Continued a) = λ r u s f y v g goes. goes_on a r y u v f goes
made (RestOfExpr a) = (
  λ o is y v g f. unnamed_goes a y (o ∷ v) f,
  (λ o is y v g f. unnamed_goes a y (o ∷ v) f, (λ o is y v g f. unnamed_goes a y (o ∷ v) f, end a)),
)
made (BehindAnd a o) = (λ t is y v g f. f, λ y v g f. f)
made (BehindOr a o) = (λ t is y v g f. f, λ y v g f. f)
made (Opened operator a o) = λ b u s f y v g goes. unnamed_on b y v f goes
made (Begun operator a o) = λ b u s f m. false_true m
made (Chain operator a) = chain operator a
made Rel = λ a u s f y v g goes. kept a y u v f goes
made (RestOfRel a) = (
  λ o is b u s f m. absurd (false_true m),
  (λ n is i also y v g f. unnamed_goes a y (n ∷ i ∷ v) f, (λ i is y v g f. unnamed_goes a y (i ∷ v) f, end a)),
)
made (Membership is_not a) = λ low u s f. (λ d is high v g h m. false_true m, (λ e m. false_true m, λ e. tt))
made Simple = λ a u s f y v g goes. kept a y u v f goes
made Signed = (λ s is a u p f m. absurd (false_true m), λ y v g f. f)
made (Sums a) = (λ o is b u s f y v g goes m. absurd (lost (phrases.sum o a b) y v refl goes m), end a)
made Term = λ a u s f y v g goes. kept a y u v f goes
made (Products a) = (λ o is b u s f y v g goes m. absurd (lost (phrases.product o a b) y v refl goes m), end a)
made Factor = (λ t is a u s f m. absurd (false_true m), (λ t is a u s f m. absurd (false_true m), λ y v g f. f))
made Powered = λ a u s f. (λ o is b v g h m. absurd (false_true m), subst (λ (z : List Lexeme). Whole a z) (sym (append-nil u)) f)
made Primary = (
  λ t is m. absurd (false_true m),
  (λ t is y v g f m. (take is (rest g), λ e. take is (rest (f e).1)), λ o is y v g f. unnamed y (o ∷ v) f),
)
made (Parens o) = (λ t is c u s f z close m. false_true m, λ y v g f. f)
made (InParens o) = (λ t is y v g f. f, λ a u s f. (λ d is h v g i y x j k. k, λ e v g goes y x j k. k))
made (NamedFrom o c) = λ a u s f y v g h. h
made (BehindExpr o e) = (λ z is m. false_true m, (λ c is b u s f y v g h. h, λ y v g h. h))
made (Items o items) = (λ c is. (λ t also y v g h. h, λ b u s f y v g h. h), λ z is m. false_true m)
made (LastItem o items) = λ r is v u s f z also m. false_true m
made (Associations o associations) = (λ c is a u s f y v g h. h, λ z is m. false_true m)
made (Suffixes may_open a) = (
  λ d is n also y v g f m. (selected_marks a.form (f m).0, left (take is (take also (rest (f m).1)))),
  (λ t is y v g f m. absurd (f m), λ y v g f. f),
)
made (MayOpen true a) = (λ o is n u s f y v g goes m. absurd (f (goes m).0), λ m. (m, right gives))
made (MayOpen false a) = λ m. (m, right gives)
made (BehindTick a) = (λ n is y v g f. f, λ o is q u s f y v g goes m. false_true (goes m).0)
made (BehindAttribute a n) = (
  λ o is x u s f y v g goes m. f (goes m).0,
  λ y v g goes m. contrary (phrases.is_mark (phrases.attribute n.token.kind a n).form) (attribute_other n.token.kind a n) (goes m).0,
)
made (ValuesFrom a n) = λ b u s f y v g h. h
made (Values first n values) = (
  λ c is b u s f y v g h. h,
  λ z is m. contrary (phrases.is_mark (phrases.attribute_of n.token.kind first n values z).form) (values_other n.token.kind first n values z) m,
)
made (ArgumentsFrom a) = λ b u s f y v g h. h
made (Arguments first arguments) = (λ c is b u s f y v g h. h, λ z is m. false_true m)
made (Points a) = (
  λ d is n also y v g f. (
    left (take is (take also (rest f.0))),
    λ m. absurd (contrary (phrases.is_identifier (phrases.selected_form a.form)) (selected_other a.form) (subst (λ (z : Phrase). phrases.is_identifier z.form ≡ true) (f.1 m).0 m)),
    λ m. f.2 (marks_selected a.form m),
  ),
  (right (right (rest (right gives))), λ m. (refl, refl), λ m. m),
)
made p = nothing Made (rule p)

-- what its form tells of an expression
pub whole_simple : {a : Phrase} {u : List Lexeme} → Spells Simple a u → Whole a u
whole_simple s = each Made made s (Made Simple) (made Simple)

pub whole_expression : {a : Phrase} {u : List Lexeme} → Spells Expr a u → Whole a u
whole_expression s = each Made made s (Made Expr) (made Expr)

pub points : (a : Phrase) {y : Phrase} {w : List Lexeme} → Spells (Points a) y w → Made (Points a) y w
points a s = each Made made s (Made (Points a)) (made (Points a))
