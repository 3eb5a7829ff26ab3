-- What was found at the next token, and what a node over others stands for.
use Rattle.std.proofs.Common.{Bool, ◌≡◌, arith, ◌∙◌, ap, sym, subst, ℕ, ◌<◌, length, drop, List, [], ◌∷◌, Option, Some, None, Result, Ok, Err}
use Rattle.std.specs.Result.{IsErrAnd}
use Rattle.ada_tree.specs.declared.expressions.LogicalOperator.{LogicalOperator}
use Rattle.ada_grammar.specs.declared.tokens.Fault.{Fault}
use Rattle.ada_grammar.specs.Parts.{Part, Suffixes, RestOfExpr, Begun, Chain, Gives, Call, Rest}
use Rattle.ada_grammar.specs.Fronts.{Point}
use Rattle.ada_grammar.specs.Reading.{Awaits, point, Fails, Answers}
use Rattle.ada_exprs.specs.Steps.{Opens, IsOpened, Links, IsLinked, MaybeSuffixed, IsSuffixed, Suffixed}
use Rattle.spark_base.specs.declared.numbers.ExprNo.{ExprNo}
use Rattle.spark_base.specs.declared.numbers.Span.{Span}
use Rattle.ada_tree.specs.declared.expressions.ExprKind.{ExprKind}
use Rattle.ada_tree.specs.declared.expressions.ExprNode.{ExprNode}
use Rattle.ada_tree.specs.declared.token.Token.{Token}
use Rattle.ada_grammar.specs.declared.nodes.Built.{Built}
use Rattle.ada_grammar.specs.declared.nodes.Form.{Form}
use Rattle.ada_grammar.specs.declared.tokens.Class.{Class}
use Rattle.ada_grammar.specs.declared.tokens.Cursor.{Cursor}
use Rattle.ada_grammar.specs.Lexemes.{Lexeme}
use Rattle.ada_grammar.specs.Phrases.{Phrase, Tree, none, node, named, join}
use Rattle.ada_grammar.specs.Built.{AreBelow, Extends, phrase, trees, tree_at, trees_at}
use Rattle.ada_grammar.specs.Taking.{Accepts, NotFirst, Passes, Takes}
use Rattle.ada_grammar.proofs.NodeTrees.{stays}

-- a node over one other
pub over_one : (form : Form) (k : ExprKind) (cs : List Tree) (t : Span) {l : ExprKind} {s : Span} {x : Phrase} → x ≡ node form l s cs → l ≡ k → s ≡ t → x ≡ node form k t cs
over_one form k cs t {l} {s} e f g = e ∙ (ap (λ (z : ExprKind). node form z s cs) f ∙ ap (λ (z : Span). node form k z cs) g)

-- a node over two others, of which the first was there before
pub over_two : (first last : List ExprNode) (form : Form) (k : ExprKind) (a b : Built) {l : ExprKind} {s : Span} {x : Phrase} → x ≡ node form l s (tree_at (trees last) a.node ∷ tree_at (trees last) b.node ∷ []) → l ≡ k → s ≡ join a.span b.span
    → Extends first last → a.node.0 < length (trees first) → x ≡ node form k (join a.span b.span) (tree_at (trees first) a.node ∷ tree_at (trees last) b.node ∷ [])
over_two first last form k a b e f g grows h =
    over_one form k (tree_at (trees last) a.node ∷ tree_at (trees last) b.node ∷ []) (join a.span b.span) e f g ∙ ap (λ (z : Tree). node form k (join a.span b.span) (z ∷ tree_at (trees last) b.node ∷ [])) (stays a.node grows h)

-- a node over three others, of which the first was there before, and the second before the third
pub over_three : (first second last : List ExprNode) (form : Form) (k : ExprKind) (a b c : Built) {l : ExprKind} {s : Span} {x : Phrase} → x ≡ node form l s (tree_at (trees last) a.node ∷ tree_at (trees last) b.node ∷ tree_at (trees last) c.node ∷ []) → l ≡ k → s ≡ join a.span c.span
    → Extends first last → a.node.0 < length (trees first) → Extends second last → b.node.0 < length (trees second)
    → x ≡ node form k (join a.span c.span) (tree_at (trees first) a.node ∷ tree_at (trees second) b.node ∷ tree_at (trees last) c.node ∷ [])
over_three first second last form k a b c e f g grows h grows2 h2 =
    over_one form k (tree_at (trees last) a.node ∷ tree_at (trees last) b.node ∷ tree_at (trees last) c.node ∷ []) (join a.span c.span) e f g
    ∙ (ap (λ (z : Tree). node form k (join a.span c.span) (z ∷ tree_at (trees last) b.node ∷ tree_at (trees last) c.node ∷ [])) (stays a.node grows h)
    ∙ ap (λ (z : Tree). node form k (join a.span c.span) (tree_at (trees first) a.node ∷ z ∷ tree_at (trees last) c.node ∷ [])) (stays b.node grows2 h2))

-- a fault is handed on
pub hands_on : (part : Part) (ts : List Lexeme) (cursor : Cursor) (built : List Tree) (e : Fault) (result : Result (Built × Cursor) Fault) → Fails part ts cursor e → IsErrAnd result (λ z. z ≡ e) → Answers part ts cursor built result
hands_on part ts cursor built e (Ok x) h is = absurd is
hands_on part ts cursor built e (Err z) h is = subst (λ (z : Fault). Fails part ts cursor z) (sym is) h

pub unopened : (of : Token → Lexeme) (ts : List Lexeme) (cursor : Cursor) {o : Option (LogicalOperator × Token × Cursor)} → Opens of ts cursor (Ok o) → o ≡ None → (a : Phrase) → Awaits (RestOfExpr a) (point ts cursor) (point ts cursor) (Gives a)
unopened of ts cursor {o} h e = subst (λ (z : Option (LogicalOperator × Token × Cursor)). Opens of ts cursor (Ok z)) e h

pub opened_by : (of : Token → Lexeme) (ts : List Lexeme) (cursor : Cursor) {o : Option (LogicalOperator × Token × Cursor)} {operator : LogicalOperator} {t : Token} {next : Cursor} → Opens of ts cursor (Ok o) → o ≡ Some (operator, t, next) → IsOpened ts cursor operator (of t) next
opened_by of ts cursor {o} h e = subst (λ (z : Option (LogicalOperator × Token × Cursor)). Opens of ts cursor (Ok z)) e h

pub unlinked : (operator : LogicalOperator) (of : Token → Lexeme) (ts : List Lexeme) (cursor : Cursor) {o : Option (Token × Cursor)} → Links operator of ts cursor (Ok o) → o ≡ None → (a : Phrase) → Awaits (Chain operator a) (point ts cursor) (point ts cursor) (Gives a)
unlinked operator of ts cursor {o} h e = subst (λ (z : Option (Token × Cursor)). Links operator of ts cursor (Ok z)) e h

pub linked_by : (operator : LogicalOperator) (of : Token → Lexeme) (ts : List Lexeme) (cursor : Cursor) {o : Option (Token × Cursor)} {t : Token} {next : Cursor} → Links operator of ts cursor (Ok o) → o ≡ Some (t, next) → IsLinked operator ts cursor (of t) next
linked_by operator of ts cursor {o} h e = subst (λ (z : Option (Token × Cursor)). Links operator of ts cursor (Ok z)) e h

-- what is read of an operator, or why it is not
pub opens_not : (of : Token → Lexeme) (ts : List Lexeme) (cursor : Cursor) (e : Fault) (result : Result (Option (LogicalOperator × Token × Cursor)) Fault) → ((a : Phrase) → Fails (RestOfExpr a) ts cursor e) → IsErrAnd result (λ z. z ≡ e) → Opens of ts cursor result
opens_not of ts cursor e (Ok x) h is = absurd is
opens_not of ts cursor e (Err z) h is = λ a. subst (λ (z : Fault). Fails (RestOfExpr a) ts cursor z) (sym is) (h a)

pub links_not : (operator : LogicalOperator) (of : Token → Lexeme) (ts : List Lexeme) (cursor : Cursor) (e : Fault) (result : Result (Option (Token × Cursor)) Fault) → ((a : Phrase) → Fails (Chain operator a) ts cursor e) → IsErrAnd result (λ z. z ≡ e) → Links operator of ts cursor result
links_not operator of ts cursor e (Ok x) h is = absurd is
links_not operator of ts cursor e (Err z) h is = λ a. subst (λ (z : Fault). Fails (Chain operator a) ts cursor z) (sym is) (h a)

-- an operator of one word
pub links_one : (operator : LogicalOperator) (c : Class) (of : Token → Lexeme) (ts : List Lexeme) (cursor : Cursor) (result : Result (Option (Token × Cursor)) Fault)
    → ((a : Phrase) (t : Lexeme) (q : Point) → Takes c t (point ts cursor) q → Awaits (Chain operator a) (point ts cursor) q (Call (Begun operator a t) (λ b. Rest (Chain operator b))))
    → ((a : Phrase) → NotFirst c (drop cursor.at ts) → Awaits (Chain operator a) (point ts cursor) (point ts cursor) (Gives a))
    → ((a : Phrase) (e : Fault) → Passes c ts cursor e → Fails (Chain operator a) ts cursor e)
    → Accepts c of ts cursor result → Links operator of ts cursor result
links_one operator c of ts cursor (Ok None) there none fails h = λ a. none a h
links_one operator c of ts cursor (Ok (Some (t, next))) there none fails h = record { forward = omega (arith, h.place); ends = omega (arith, h.place, h.within); awaits = λ a. there a (of t) (point ts next) h.takes }
links_one operator c of ts cursor (Err e) there none fails h = λ a. fails a e h

-- the same operator by another name
pub links_as : (x y : LogicalOperator) (of : Token → Lexeme) (ts : List Lexeme) (cursor : Cursor) (result : Result (Option (Token × Cursor)) Fault) → x ≡ y → Links y of ts cursor result → Links x of ts cursor result
links_as x y of ts cursor result e h = subst (λ (z : LogicalOperator). Links z of ts cursor result) (sym e) h

pub below_two : {m : ℕ} {xs : List ExprNo} (a b : ExprNo) → xs ≡ a ∷ b ∷ [] → a.0 < m → b.0 < m → AreBelow m xs
below_two {m} {xs} a b e h g = subst (λ (z : List ExprNo). AreBelow m z) (sym e) (h, (g, tt))

pub trees_two : (built : List Tree) {xs : List ExprNo} (a b : ExprNo) → xs ≡ a ∷ b ∷ [] → trees_at built xs ≡ tree_at built a ∷ tree_at built b ∷ []
trees_two built {xs} a b e = ap (λ (z : List ExprNo). trees_at built z) e

pub stays_first : {old new : List ExprNode} {a : ExprNo} {ts : List Tree} → Extends old new → a.0 < length (trees old) → tree_at (trees new) a ∷ ts ≡ tree_at (trees old) a ∷ ts
stays_first {old} {new} {a} {ts} g h = ap (λ (z : Tree). z ∷ ts) (stays a g h)

pub below_one : {m : ℕ} {xs : List ExprNo} (a : ExprNo) → xs ≡ a ∷ [] → a.0 < m → AreBelow m xs
below_one {m} {xs} a e h = subst (λ (z : List ExprNo). AreBelow m z) (sym e) (h, tt)

pub trees_one : (built : List Tree) {xs : List ExprNo} (a : ExprNo) → xs ≡ a ∷ [] → trees_at built xs ≡ tree_at built a ∷ []
trees_one built {xs} a e = ap (λ (z : List ExprNo). trees_at built z) e

pub suffixed : (m : Bool) (a : Phrase) (ts : List Lexeme) (cursor : Cursor) (built : List Tree) {o : Option (Built × Cursor × Bool)} {x : Built} {next : Cursor} {opens : Bool} → MaybeSuffixed m a ts cursor built (Ok o) → o ≡ Some (x, next, opens) → IsSuffixed (Suffixes m a) ts cursor built x next opens
suffixed m a ts cursor built {o} h e = subst (λ (z : Option (Built × Cursor × Bool)). MaybeSuffixed m a ts cursor built (Ok z)) e h

pub unsuffixed : (m : Bool) (a : Phrase) (ts : List Lexeme) (cursor : Cursor) (built : List Tree) {o : Option (Built × Cursor × Bool)} → MaybeSuffixed m a ts cursor built (Ok o) → o ≡ None → Awaits (Suffixes m a) (point ts cursor) (point ts cursor) (Gives a)
unsuffixed m a ts cursor built {o} h e = subst (λ (z : Option (Built × Cursor × Bool)). MaybeSuffixed m a ts cursor built (Ok z)) e h

-- the phrase of a node that was there
pub phrase_stays : {old new : List ExprNode} → Extends old new → (x : Built) → x.node.0 < length (trees old) → phrase (trees new) x ≡ phrase (trees old) x
phrase_stays {old} {new} g x h = ap (λ (z : Tree). record { tree = z; span = x.span; form = x.form; children = none }) (stays x.node g h)

-- a node without children
pub over_none : (built : List Tree) {xs : List ExprNo} (form : Form) (k : ExprKind) (s : Span) {x : Phrase} → x ≡ node form k s (trees_at built xs) → xs ≡ [] → x ≡ node form k s []
over_none built {xs} form k s e f = e ∙ ap (λ (z : List ExprNo). node form k s (trees_at built z)) f

pub named_none : (built : List Tree) {xs : List ExprNo} (form : Form) (k : ExprKind) (t : Lexeme) (s : Span) {x : Phrase} → x ≡ named form k t s (trees_at built xs) → xs ≡ [] → x ≡ named form k t s []
named_none built {xs} form k t s e f = e ∙ ap (λ (z : List ExprNo). named form k t s (trees_at built z)) f

-- a fault behind a tick is handed on
pub tick_not : (part : Part) (ts : List Lexeme) (cursor : Cursor) (built : List Tree) (e : Fault) (result : Result (Built × Cursor × Bool) Fault) → Fails part ts cursor e → IsErrAnd result (λ z. z ≡ e) → Suffixed part ts cursor built result
tick_not part ts cursor built e (Ok x) h is = absurd is
tick_not part ts cursor built e (Err z) h is = subst (λ (z : Fault). Fails part ts cursor z) (sym is) h
