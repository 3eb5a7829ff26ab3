-- The factored rules have the sentences of the plain ones.
use Rattle.std.proofs.Common.{◌≡◌, inl, inr, Bool, true, false, List, [], ◌∷◌, ◌++◌, refl, ◌∙◌, ap, subst, append-nil}
use Rattle.ada_tree.specs.declared.expressions.LogicalOperator.TheVariants as logical
use Rattle.ada_tree.specs.declared.token.Mark.TheVariants as marks
use Rattle.ada_grammar.specs.declared.tokens.Class.TheVariants as classes
use Rattle.ada_grammar.specs.Sorts.{is_in}
use Rattle.ada_grammar.specs.Lexemes.{Lexeme, sort}
use Rattle.ada_grammar.specs.Phrases as phrases
use Rattle.ada_grammar.specs.Phrases.{Phrase}
use Rattle.ada_grammar.specs.Parts.{Expr, Continued, RestOfExpr, Chain, Rel, Membership, Simple, Signed, Term, Factor, Powered, Primary, Parens, InParens, NamedFrom, BehindExpr, Association, Associations, Choice, Name, Argument, Drange, UnitName, Indication, IndicationFrom, Body, Gives, Call, Rest, Or, When, sign}
use Rattle.ada_grammar.specs.Spelling.{Fits, gives, take, call, rest, left, right, yes, no, Spells}
use Rattle.grammar_laws.specs.PlainRules as plain
use Rattle.grammar_laws.specs.PlainRules.{SaysTheSame}
use Rattle.grammar_laws.proofs.Fitting.{taken_of, parted_of, rest_of, either_of, tested_of, when_true, when_false, spread, called, call_either, written, named}
use Rattle.grammar_laws.proofs.Formed.{marks_named, identifiers_marks, ranges_named, ranges_no_marks, whole_simple, whole_expression, points}

ends : {b : Body} {y : Phrase} (u : List Lexeme) → Fits b y (u ++ []) → Fits b y u
ends {b} {y} u h = subst (λ (z : List Lexeme). Fits b y z) (append-nil u) h

primary : {a : Phrase} {u : List Lexeme} → Spells Name a u → Spells Primary a u
primary h = let x = taken_of h in spread (x.0 ∷ x.1) x.2 (right (left (take x.3 x.4)))

-- a name is a simple expression, and a simple expression an expression
name_simple : {a : Phrase} (u : List Lexeme) → Spells Name a u → Spells Simple a u
name_simple {a} u h =
    let powered : Spells Powered a u = ends u (call (primary h) (right gives)) in
    let factor : Spells Factor a u = right (right (rest powered)) in
    let term : Spells Term a u = ends u (call factor (rest (right gives))) in
    let signed : Spells Signed a u = right (rest term) in
    ends u (call signed (rest (right gives)))

simple_expression : {a : Phrase} (u : List Lexeme) → Spells Simple a u → Spells Expr a u
simple_expression {a} u h = ends u (call h (rest (call (right (right (right gives))) (rest (right (right (right gives)))))))

-- a mark is a name, and has the form of a mark
mark_name : {a : Phrase} {u : List Lexeme} → Spells UnitName a u → Spells Name a u × (phrases.is_mark a.form ≡ true)
mark_name h = let x = taken_of h in let z = points (phrases.identifier x.0) (rest_of x.4) in (spread (x.0 ∷ x.1) x.2 (take x.3 (rest z.0)), z.2 refl)

-- a mark with the form of an identifier is one
mark_word : {a : Phrase} {u : List Lexeme} → Spells UnitName a u → phrases.is_identifier a.form ≡ true → (t : Lexeme) × (is_in classes.Word (sort t) ≡ true) × (u ≡ t ∷ []) × (a ≡ phrases.identifier t)
mark_word h e = let x = taken_of h in let z = (points (phrases.identifier x.0) (rest_of x.4)).1 e in (x.0, x.3, x.2 ∙ ap (λ (v : List Lexeme). x.0 ∷ v) z.1, z.0)

-- what stands behind the first relation of an expression, by its operator
abbrev Chains : Phrase → Body
Chains a =
    Or (Rest (Chain logical.And a))
    (Or (Rest (Chain logical.Or a))
    (Or (Rest (Chain logical.Xor a))
    (Or (Rest (Chain logical.AndThen a))
    (Rest (Chain logical.OrElse a)))))

linked : (a y : Phrase) (v : List Lexeme) → Spells (RestOfExpr a) y v → Fits (Chains a) y v
linked a y v h = elim (either_of h) [
  | inl g ↦ let x = taken_of g in elim (either_of (rest_of x.4)) [
    | inl i ↦ let z = taken_of i in right (right (right (left (rest (left (spread (x.0 ∷ x.1) x.2 (take x.3 (spread (z.0 ∷ z.1) z.2 (take z.3 (rest_of z.4))))))))))
    | inr i ↦ left (rest (left (spread (x.0 ∷ x.1) x.2 (take x.3 (rest_of i)))))
  ]
  | inr g ↦ elim (either_of g) [
    | inl i ↦ let x = taken_of i in elim (either_of (rest_of x.4)) [
      | inl j ↦ let z = taken_of j in right (right (right (right (rest (left (spread (x.0 ∷ x.1) x.2 (take x.3 (spread (z.0 ∷ z.1) z.2 (take z.3 (rest_of z.4))))))))))
      | inr j ↦ right (left (rest (left (spread (x.0 ∷ x.1) x.2 (take x.3 (rest_of j))))))
    ]
    | inr i ↦ elim (either_of i) [
      | inl j ↦ let x = taken_of j in right (right (left (rest (left (spread (x.0 ∷ x.1) x.2 (take x.3 (rest_of x.4)))))))
      | inr j ↦ left (rest (right j))
    ]
  ]
]

unlinked : (a y : Phrase) (v : List Lexeme) → Fits (Chains a) y v → Spells (RestOfExpr a) y v
unlinked a y v h = elim (either_of h) [
  | inl g ↦ elim (either_of (rest_of g)) [
    | inl i ↦ let x = taken_of i in left (spread (x.0 ∷ x.1) x.2 (take x.3 (rest (right (rest x.4)))))
    | inr i ↦ none i
  ]
  | inr g ↦ elim (either_of g) [
    | inl i ↦ elim (either_of (rest_of i)) [
      | inl j ↦ let x = taken_of j in right (left (spread (x.0 ∷ x.1) x.2 (take x.3 (rest (right (rest x.4))))))
      | inr j ↦ none j
    ]
    | inr i ↦ elim (either_of i) [
      | inl j ↦ elim (either_of (rest_of j)) [
        | inl k ↦ let x = taken_of k in right (right (left (spread (x.0 ∷ x.1) x.2 (take x.3 (rest x.4)))))
        | inr k ↦ none k
      ]
      | inr j ↦ elim (either_of j) [
        | inl k ↦ elim (either_of (rest_of k)) [
          | inl l ↦ let x = taken_of l in let z = taken_of x.4 in
              left (spread (x.0 ∷ x.1) x.2 (take x.3 (rest (left (spread (z.0 ∷ z.1) z.2 (take z.3 (rest z.4)))))))
          | inr l ↦ none l
        ]
        | inr k ↦ elim (either_of (rest_of k)) [
          | inl l ↦ let x = taken_of l in let z = taken_of x.4 in
              right (left (spread (x.0 ∷ x.1) x.2 (take x.3 (rest (left (spread (z.0 ∷ z.1) z.2 (take z.3 (rest z.4))))))))
          | inr l ↦ none l
        ]
      ]
    ]
  ]
]
  where
    none : Fits (Gives a) y v → Spells (RestOfExpr a) y v
    none i = right (right (right i))

pub expressions : SaysTheSame Expr plain.expression
expressions y w = (to, from)
  where
    to : Spells Expr y w → Fits plain.expression y w
    to h =
        let by_relation : Fits (Call Rel (λ a. Rest (RestOfExpr a))) y w = named Rel (called (λ a v g. rest_of g) h) in
        by_chain (called (λ a v g. linked a y v (rest_of g)) by_relation)
      where
        by_chain : Fits (Call Rel Chains) y w → Fits plain.expression y w
        by_chain i = elim (call_either i) [
          | inl j ↦ left j
          | inr j ↦ elim (call_either j) [
            | inl k ↦ right (left k)
            | inr k ↦ elim (call_either k) [
              | inl l ↦ right (right (left l))
              | inr l ↦ elim (call_either l) [ inl m ↦ right (right (right (left m))) | inr m ↦ right (right (right (right m))) ]
            ]
          ]
        ]

    whole : Fits (Call Rel Chains) y w → Spells Expr y w
    whole i =
        let by_relation : Fits (Call Rel (λ a. Rest (RestOfExpr a))) y w = called (λ a v g. rest (unlinked a y v g)) i in
        called (λ a v g. rest g) (written by_relation)

    from : Fits plain.expression y w → Spells Expr y w
    from h = elim (either_of h) [
      | inl g ↦ whole (called (λ a v i. left i) g)
      | inr g ↦ elim (either_of g) [
        | inl i ↦ whole (called (λ a v j. right (left j)) i)
        | inr i ↦ elim (either_of i) [
          | inl j ↦ whole (called (λ a v k. right (right (left k))) j)
          | inr j ↦ elim (either_of j) [
            | inl k ↦ whole (called (λ a v l. right (right (right (left l)))) k)
            | inr k ↦ whole (called (λ a v l. right (right (right (right l)))) k)
          ]
        ]
      ]
    ]

pub choices : SaysTheSame Choice plain.choice
choices y w = (to, from)
  where
    to : Spells Choice y w → Fits plain.choice y w
    to h = elim (either_of h) [
      | inl g ↦ left g
      | inr g ↦ elim (call_either g) [ inl i ↦ right (left i) | inr i ↦ right (right (named Expr (called (λ a v j. j) i))) ]
    ]

    from : Fits plain.choice y w → Spells Choice y w
    from h = elim (either_of h) [
      | inl g ↦ left g
      | inr g ↦ elim (either_of g) [ inl i ↦ right (called (λ a v j. left j) i) | inr i ↦ right (called (λ a v j. right j) (written i)) ]
    ]

-- an aggregate with names begins with a choice
abbrev Named : Lexeme → Phrase → Body
Named o c = Rest (NamedFrom o c)

associated : (o : Lexeme) {y : Phrase} {w : List Lexeme} → Fits (Call Choice (Named o)) y w → Fits (Call Association (λ a. Rest (Associations o (a.tree ∷ [])))) y w
associated o h = named Association (called (λ c v g. rest_of g) h)

chosen : (o : Lexeme) {y : Phrase} {w : List Lexeme} → Fits (Call Association (λ a. Rest (Associations o (a.tree ∷ [])))) y w → Fits (Call Choice (Named o)) y w
chosen o h = called (λ c v g. rest g) (written h)

inside_to : (o : Lexeme) (y : Phrase) (w : List Lexeme) → Spells (InParens o) y w → Fits (plain.in_parentheses o) y w
inside_to o y w h = elim (either_of h) [
  | inl g ↦ right (right (associated o (named Choice (left g))))
  | inr g ↦ elim (call_either g) [
    | inl i ↦ right (right (associated o (named Choice (right (called (λ a v j. left j) i)))))
    | inr i ↦ behind (named Expr i)
  ]
]
  where
    behind : Fits (Call Expr (λ e. Rest (BehindExpr o e))) y w → Fits (plain.in_parentheses o) y w
    behind h = elim (call_either (called (λ e v g. rest_of g) h)) [
      | inl g ↦ left g
      | inr g ↦ elim (call_either g) [
        | inl i ↦ right (left i)
        | inr i ↦ right (right (associated o (named Choice (right (called (λ a v j. right j) (written i))))))
      ]
    ]

inside_from : (o : Lexeme) (y : Phrase) (w : List Lexeme) → Fits (plain.in_parentheses o) y w → Spells (InParens o) y w
inside_from o y w h = elim (either_of h) [
  | inl g ↦ behind (called (λ e v j. rest (left j)) g)
  | inr g ↦ elim (either_of g) [
    | inl i ↦ behind (called (λ e v j. rest (right (left j))) i)
    | inr i ↦ elim (either_of (written (chosen o i))) [ inl j ↦ left j | inr j ↦ from_choice j ]
  ]
]
  where
    behind : Fits (Call Expr (λ e. Rest (BehindExpr o e))) y w → Spells (InParens o) y w
    behind i = right (called (λ a v j. right j) (written i))

    from_choice : Fits (Call Simple (λ a. Or (sign marks.Dots (Call Simple (λ h. Named o (phrases.range_choice a h)))) (Call (Continued a) (λ e. Named o (phrases.value_choice e))))) y w → Spells (InParens o) y w
    from_choice i = elim (call_either i) [
      | inl j ↦ right (called (λ a v k. left k) j)
      | inr j ↦ behind (called (λ e v k. rest (right (right k))) (named Expr j))
    ]

pub parentheses : (o : Lexeme) → SaysTheSame (Parens o) (plain.parentheses o)
parentheses o y w = (
  λ h. elim (either_of h) [ inl g ↦ left g | inr g ↦ right (inside_to o y w (rest_of g)) ],
  λ h. elim (either_of h) [ inl g ↦ left g | inr g ↦ right (rest (inside_from o y w g)) ],
)

-- an argument without the name of a formal
unnamed : (d : Bool) (b : Body) (a : Phrase) {y : Phrase} {v : List Lexeme} → Fits (Gives (phrases.argument a)) y v → Fits (When d (Or b (Gives (phrases.argument a))) (Gives (phrases.argument a))) y v
unnamed true b a g = yes (right g)
unnamed false b a g = no g

pub arguments : SaysTheSame Argument plain.argument
arguments y w = (to, from)
  where
    to : Spells Argument y w → Fits plain.argument y w
    to h = let x = parted_of h in elim (tested_of (phrases.is_identifier x.0.form) x.5) [
      | inl g ↦ elim (either_of g.1) [
        | inl i ↦
            let mark = (whole_expression x.4 (marks_named x.0.form (identifiers_marks x.0.form g.0))).1 (identifiers_marks x.0.form g.0) in
            let z = mark_word mark g.0 in
            left (spread (z.0 ∷ x.2) (x.3 ∙ ap (λ (u : List Lexeme). u ++ x.2) z.2) (take z.1
            (subst (λ (a : Phrase). Fits (sign marks.Arrow (Call Expr (λ b. Gives (phrases.named_argument a b)))) y x.2) z.3 i)))
        | inr i ↦ right (spread (x.1 ++ x.2) x.3 (call x.4 i))
      ]
      | inr g ↦ right (spread (x.1 ++ x.2) x.3 (call x.4 g.1))
    ]

    from : Fits plain.argument y w → Spells Argument y w
    from h = elim (either_of h) [
      | inl g ↦
          let x = taken_of g in
          let name : Spells Name (phrases.identifier x.0) (x.0 ∷ []) = take x.3 (rest (right (right (rest (right gives))))) in
          spread (x.0 ∷ x.1) x.2 (call (simple_expression (x.0 ∷ []) (name_simple (x.0 ∷ []) name)) (yes (left x.4)))
      | inr g ↦ called (λ a v i. unnamed (phrases.is_identifier a.form) (sign marks.Arrow (Call Expr (λ b. Gives (phrases.named_argument a b)))) a i) g
    ]

pub ranges : SaysTheSame Drange plain.discrete_range
ranges y w = (to, from)
  where
    to : Spells Drange y w → Fits plain.discrete_range y w
    to h = elim (call_either h) [
      | inl g ↦ left g
      | inr g ↦ let x = parted_of g in elim (tested_of (phrases.is_mark x.0.form) x.5) [
        | inl i ↦ right (left (named Indication (spread (x.1 ++ x.2) x.3
            (call ((whole_simple x.4 (marks_named x.0.form i.0)).1 i.0) (named (IndicationFrom x.0) (rest_of i.1))))))
        | inr i ↦ elim (tested_of (phrases.is_range x.0.form) i.1) [
          | inl j ↦ right (right (spread (x.1 ++ x.2) x.3 (call (whole_simple x.4 (ranges_named x.0.form j.0)).0 (when_true (phrases.is_range x.0.form) j.0 j.1))))
          | inr j ↦ elim j.1 [ ]
        ]
      ]
    ]

    from : Fits plain.discrete_range y w → Spells Drange y w
    from h = elim (either_of h) [
      | inl g ↦ called (λ a v i. left i) g
      | inr g ↦ elim (either_of g) [
        | inl i ↦
            let x = parted_of (written i) in
            let m = mark_name x.4 in
            spread (x.1 ++ x.2) x.3 (call (name_simple x.1 m.0) (right (when_true (phrases.is_mark x.0.form) m.1 (rest (written x.5)))))
        | inr i ↦ let x = parted_of i in elim (tested_of (phrases.is_range x.0.form) x.5) [
          | inl j ↦ spread (x.1 ++ x.2) x.3 (call (name_simple x.1 x.4)
              (right (when_false (phrases.is_mark x.0.form) (ranges_no_marks x.0.form j.0) (when_true (phrases.is_range x.0.form) j.0 j.1))))
          | inr j ↦ elim j.1 [ ]
        ]
      ]
    ]

pub memberships : (is_not : Bool) (a : Phrase) → SaysTheSame (Membership is_not a) (plain.membership is_not a)
memberships is_not a y w = (to, from)
  where
    to : Spells (Membership is_not a) y w → Fits (plain.membership is_not a) y w
    to h = elim (call_either h) [
      | inl g ↦ left g
      | inr g ↦ let x = parted_of g in elim (tested_of (phrases.is_mark x.0.form) x.5) [
        | inl i ↦ right (spread (x.1 ++ x.2) x.3 (call ((whole_simple x.4 (marks_named x.0.form i.0)).1 i.0) i.1))
        | inr i ↦ elim i.1 [ ]
      ]
    ]

    from : Fits (plain.membership is_not a) y w → Spells (Membership is_not a) y w
    from h = elim (either_of h) [
      | inl g ↦ called (λ b v i. left i) g
      | inr g ↦
          let x = parted_of g in
          let m = mark_name x.4 in
          spread (x.1 ++ x.2) x.3 (call (name_simple x.1 m.0) (right (when_true (phrases.is_mark x.0.form) m.1 x.5)))
    ]
