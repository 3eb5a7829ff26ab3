-- Behind an expression its operators are counted.
use Rattle.std.proofs.Common.{◌≡◌, ℕ, ◌+◌, ◌-◌, ◌≤◌, Bool, true, false, ◌&&◌, if◌then◌else◌, nat_le, List, [], ◌∷◌, ◌++◌, Option, Some, None, refl, sym, ◌∙◌, ap, subst, arith, leb-true}
use Rattle.ada_tree.specs.declared.expressions.LogicalOperator.{LogicalOperator}
use Rattle.ada_tree.specs.declared.expressions.LogicalOperator.TheVariants as logical
use Rattle.ada_tree.specs.declared.expressions.ExprKind.TheVariants as expressions
use Rattle.ada_tree.specs.declared.token.TokenKind.{TokenKind}
use Rattle.ada_grammar.specs.declared.nodes.Form.TheVariants as forms
use Rattle.ada_tree.specs.declared.token.TokenKind.TheVariants as kinds
use Rattle.ada_grammar.specs.declared.tokens.Last.{Last}
use Rattle.ada_grammar.specs.declared.tokens.Last.TheVariants as lasts
use Rattle.ada_grammar.specs.declared.tokens.Nesting.{Nesting}
use Rattle.ada_grammar.specs.Lexemes.{Lexeme, sort}
use Rattle.ada_grammar.specs.Limits.{is_end, is_parameter, step, step_on, walk, walk_on, outermost}
use Rattle.ada_grammar.specs.Phrases as phrases
use Rattle.ada_grammar.specs.Phrases.{Phrase, Tree, Root, With, with_all}
use Rattle.ada_grammar.specs.Parts.{Part, Expr, Continued, RestOfExpr, BehindAnd, BehindOr, Opened, Begun, Chain, Rel, RestOfRel, Membership, Simple, Signed, Sums, Term, Products, Factor, Powered, Primary, Parens, Condition, Arms, InParens, NamedFrom, BehindExpr, Items, LastItem, Association, Choices, Associations, Choice, Name, Suffixes, MayOpen, BehindTick, BehindAttribute, ValuesFrom, Values, ArgumentsFrom, Arguments, Argument, Body, Never, Gives, Take, Call, Rest, Or, When}
use Rattle.ada_grammar.specs.Grammar.{rule}
use Rattle.ada_grammar.specs.Spelling.{Fits, gives, take, call, rest, left, right, yes, no, Spells}
use Rattle.spark_base.specs.declared.numbers.Span.{Span}
use Rattle.grammar_laws.specs.Counting.{operators, MayBegin, IsCounted}
use Rattle.grammar_laws.proofs.Tracks.{State, Known, Tracks, was_and, was_or, was_tick, was_other, goes, moves, stepped}
use Rattle.ada_grammar.proofs.Begins.{only_if, holds}
use Rattle.ada_grammar.proofs.EverySort.{and_left, and_right}
use Rattle.grammar_laws.proofs.Tests.{if_false, some_same, false_true}

-- the parts of expressions
abbrev pub is_part : Part → Bool
is_part Expr = true
is_part (Continued a) = true
is_part (RestOfExpr a) = true
is_part (BehindAnd a o) = true
is_part (BehindOr a o) = true
is_part (Opened operator a o) = true
is_part (Begun operator a o) = true
is_part (Chain operator a) = true
is_part Rel = true
is_part (RestOfRel a) = true
is_part (Membership is_not a) = true
is_part Simple = true
is_part Signed = true
is_part (Sums a) = true
is_part Term = true
is_part (Products a) = true
is_part Factor = true
is_part Powered = true
is_part Primary = true
is_part (Parens o) = true
is_part (Condition t) = true
is_part (Arms t arms) = true
is_part (InParens o) = true
is_part (NamedFrom o c) = true
is_part (BehindExpr o e) = true
is_part (Items o items) = true
is_part (LastItem o items) = true
is_part Association = true
is_part (Choices first choices) = true
is_part (Associations o associations) = true
is_part Choice = true
is_part Name = true
is_part (Suffixes may_open a) = true
is_part (MayOpen may_open a) = true
is_part (BehindTick a) = true
is_part (BehindAttribute a n) = true
is_part (ValuesFrom a n) = true
is_part (Values first n values) = true
is_part (ArgumentsFrom a) = true
is_part (Arguments first arguments) = true
is_part Argument = true
is_part p = false

-- those that stand in parentheses and end behind them
abbrev pub closes : Part → Bool
closes (Parens o) = true
closes (InParens o) = true
closes (NamedFrom o c) = true
closes (BehindExpr o e) = true
closes (Items o items) = true
closes (LastItem o items) = true
closes (Associations o associations) = true
closes (ValuesFrom a n) = true
closes (Values first n values) = true
closes (ArgumentsFrom a) = true
closes (Arguments first arguments) = true
closes p = false

-- those that stand in parentheses
abbrev pub floor : Part → ℕ
floor (Condition t) = 1
floor (Arms t arms) = 1
floor Association = 1
floor (Choices first choices) = 1
floor Choice = 1
floor Argument = 1
floor p = if closes p then 1 else 0

abbrev pub roof : Part → ℕ
roof p = if closes p then 0 else floor p

-- the last token before a part, where it is always one
abbrev pub needed : Part → Option Last
needed (Continued a) = Some lasts.Other
needed (RestOfExpr a) = Some lasts.Other
needed (BehindAnd a o) = Some lasts.And
needed (BehindOr a o) = Some lasts.Or
needed (Chain operator a) = Some lasts.Other
needed (RestOfRel a) = Some lasts.Other
needed (Sums a) = Some lasts.Other
needed (Products a) = Some lasts.Other
needed (Suffixes may_open a) = Some lasts.Other
needed (MayOpen may_open a) = Some lasts.Other
needed (BehindTick a) = Some lasts.Tick
needed (BehindAttribute a n) = Some lasts.Other
needed p = None

-- only a membership stands behind in
abbrev pub behind_in : Part → Bool
behind_in (Membership is_not a) = true
behind_in p = false

abbrev pub all_operators : List Tree → ℕ
all_operators [] = 0
all_operators (t ∷ ts) = operators t + all_operators ts

-- the operators that stand before a part, of what it goes on from
abbrev pub before : Part → ℕ
before (Continued a) = operators a.tree
before (RestOfExpr a) = operators a.tree
before (BehindAnd a o) = operators a.tree + 1
before (BehindOr a o) = operators a.tree + 1
before (Opened operator a o) = operators a.tree + 1
before (Begun operator a o) = operators a.tree + 1
before (Chain operator a) = operators a.tree
before (RestOfRel a) = operators a.tree
before (Membership is_not a) = operators a.tree + 1
before (Sums a) = operators a.tree
before (Products a) = operators a.tree
before (Arms t arms) = all_operators arms
before (NamedFrom o c) = operators c.tree
before (BehindExpr o e) = operators e.tree
before (Items o items) = all_operators items
before (LastItem o items) = all_operators items
before (Choices first choices) = all_operators choices
before (Associations o associations) = all_operators associations
before (Suffixes may_open a) = operators a.tree
before (MayOpen may_open a) = operators a.tree
before (BehindTick a) = operators a.tree
before (BehindAttribute a n) = operators a.tree
before (ValuesFrom a n) = operators a.tree
before (Values first n values) = all_operators values
before (ArgumentsFrom a) = operators a.tree
before (Arguments first arguments) = all_operators arguments
before p = 0

abbrev pub begins : Part → State
begins p = record { deep = floor p; count = 0; last = needed p; member = behind_in p }

abbrev pub finishes : Part → ℕ → State
finishes p n = record { deep = roof p; count = n; last = Some lasts.Other; member = false }

-- a part may stand where this is known
abbrev pub serves : Option Last → Option Last → Bool
serves None l = goes l
serves (Some lasts.And) l = was_and l
serves (Some lasts.Or) l = was_or l
serves (Some lasts.Tick) l = was_tick l
serves (Some lasts.Other) l = was_other l
serves (Some k) l = false

abbrev pub fine : Part → State → Bool
fine q s = is_part q && (serves (needed q) s.last && (nat_le (floor q) s.deep && only_if (behind_in q) s.member))

-- what is known behind a part that stood there
abbrev pub behind : Part → State → ℕ → State
behind q s n = record { deep = (s.deep - floor q) + roof q; count = s.count + n; last = Some lasts.Other; member = if closes q then false else s.member }

abbrev pub Going : Option State → (State → Type 0) → Type 0
Going None f = ⊥
Going (Some s) f = f s

-- what is left to show of a body of a part, from a state on
abbrev pub Owes : Part → Body → State → Type 0
Owes p Never s = Unit {0}
Owes p (Gives y) s = (s.deep ≡ roof p) × (s.last ≡ Some lasts.Other) × (before p + s.count ≡ operators y.tree)
Owes p (Take c k) s = Going (moves c s) (λ x. (t : Lexeme) → Owes p (k t) x)
Owes p (Call q k) s = (fine q s ≡ true) × ((a : Phrase) (n : ℕ) → before q + n ≡ operators a.tree → Owes p (k a) (behind q s n))
Owes p (Rest q) s = (fine q s ≡ true) × ((s.deep - floor q) + roof q ≡ roof p) × (before q ≡ before p + s.count)
Owes p (Or b c) s = Owes p b s × Owes p c s
Owes p (When d b c) s = Owes p b s × Owes p c s

more_operators : (t : Tree) (ts : List Tree) → operators (with_all t ts) ≡ operators t + all_operators ts
more_operators t [] = omega arith
more_operators t (c ∷ cs) = let h = more_operators (With t c) cs in omega arith

one_more : (ts : List Tree) (t : Tree) → all_operators (ts ++ t ∷ []) ≡ all_operators ts + operators t
one_more [] t = omega arith
one_more (c ∷ cs) t = let h = one_more cs t in omega arith

attribute_operators : (k : TokenKind) (a : Phrase) (n : Lexeme) → operators (phrases.attribute k a n).tree ≡ operators a.tree
attribute_operators kinds.Word a n = omega arith
attribute_operators k a n = omega arith

values_operators : (k : TokenKind) (first : Span) (n : Lexeme) (values : List Tree) (z : Lexeme) → operators (phrases.attribute_of k first n values z).tree ≡ all_operators values
values_operators kinds.Word first n values z = let h = more_operators (phrases.attribute_of kinds.Word first n [] z).tree values in omega arith
values_operators k first n values z = let h = more_operators (phrases.attribute_of k first n [] z).tree values in omega arith

chain : (operator : LogicalOperator) (a : Phrase) → Owes (Chain operator a) (rule (Chain operator a)) (begins (Chain operator a))
chain logical.And a = (λ o. (refl, λ b n h. (refl, refl, omega arith)), (refl, refl, omega arith))
chain logical.Or a = (λ o. (refl, λ b n h. (refl, refl, omega arith)), (refl, refl, omega arith))
chain logical.Xor a = (λ o. (refl, λ b n h. (refl, refl, omega arith)), (refl, refl, omega arith))
chain logical.AndThen a = (λ o t. (refl, λ b n h. (refl, refl, omega arith)), (refl, refl, omega arith))
chain logical.OrElse a = (λ o t. (refl, λ b n h. (refl, refl, omega arith)), (refl, refl, omega arith))

pub owed : (p : Part) → is_part p ≡ true → Owes p (rule p) (begins p)
owed Expr e = (refl, λ a n h. (refl, refl, omega arith))
owed (Continued a) e = (refl, λ r n h. (refl, refl, omega arith))
owed (RestOfExpr a) e = (
  λ o. (refl, refl, omega arith),
  (λ o. (refl, refl, omega arith), (λ o. (refl, refl, omega arith), (refl, refl, omega arith))),
)
owed (BehindAnd a o) e = (λ t. (refl, refl, omega arith), (refl, refl, omega arith))
owed (BehindOr a o) e = (λ t. (refl, refl, omega arith), (refl, refl, omega arith))
owed (Opened operator a o) e = (refl, λ b n h. (refl, refl, omega arith))
owed (Begun operator a o) e = (refl, λ b n h. (refl, refl, omega arith))
owed (Chain operator a) e = chain operator a
owed Rel e = (refl, λ a n h. (refl, refl, omega arith))
owed (RestOfRel a) e = (
  λ o. (refl, λ b n h. (refl, refl, omega arith)),
  (λ o i. (refl, refl, omega arith), (λ i. (refl, refl, omega arith), (refl, refl, omega arith))),
)
owed (Membership is_not a) e = (refl, λ low n h. (λ d. (refl, λ high m g. (refl, refl, omega arith)), ((refl, refl, omega arith), tt)))
owed Simple e = (refl, λ a n h. (refl, refl, omega arith))
owed Signed e = (λ s. (refl, λ a n h. (refl, refl, omega arith)), (refl, refl, omega arith))
owed (Sums a) e = (λ o. (refl, λ b n h. (refl, refl, omega arith)), (refl, refl, omega arith))
owed Term e = (refl, λ a n h. (refl, refl, omega arith))
owed (Products a) e = (λ o. (refl, λ b n h. (refl, refl, omega arith)), (refl, refl, omega arith))
owed Factor e = (
  λ t. (refl, λ a n h. (refl, refl, omega arith)),
  (λ t. (refl, λ a n h. (refl, refl, omega arith)), (refl, refl, omega arith)),
)
owed Powered e = (refl, λ a n h. (λ o. (refl, λ b m g. (refl, refl, omega arith)), (refl, refl, omega arith)))
owed Primary e = (λ t. (refl, refl, omega arith), (λ t. (refl, refl, omega arith), λ o. (refl, refl, omega arith)))
owed (Parens o) e = (λ t. (refl, λ c n h z. (refl, refl, omega arith)), (refl, refl, omega arith))
owed (Condition t) e = (refl, λ c n h u. (refl, λ v m g. (refl, refl, omega arith)))
owed (Arms t arms) e = (
  λ i. (refl, λ c n h u. (refl, λ v m g. (refl, refl, (let a = one_more arms c.tree in let b = one_more (arms ++ c.tree ∷ []) v.tree in omega arith)))),
  λ i. (refl, λ v n h. (refl, refl, (let a = one_more arms v.tree in let b = more_operators (phrases.node forms.Simple expressions.Conditional (phrases.join t.token.span v.span) []).tree (arms ++ v.tree ∷ []) in omega arith))),
)
owed (InParens o) e = (
  λ t. (refl, refl, omega arith),
  (refl, λ a n h. (λ d. (refl, λ high m g. (refl, refl, omega arith)), (refl, λ x m g. (refl, refl, omega arith)))),
)
owed (NamedFrom o c) e = (refl, λ a n h. (refl, refl, omega arith))
owed (BehindExpr o x) e = (λ z. (refl, refl, omega arith), (λ c. (refl, λ b n h. (refl, refl, omega arith)), (refl, refl, omega arith)))
owed (Items o items) e = (
  λ c. (λ t. (refl, refl, omega arith), (refl, λ b n h. (refl, refl, (let a = one_more items b.tree in omega arith)))),
  λ z. (refl, refl, (let a = more_operators (phrases.positional false o [] z).tree items in omega arith)),
)
owed (LastItem o items) e = λ r. (refl, λ v n h z. (refl, refl, (let a = one_more items v.tree in let b = more_operators (phrases.positional true o [] z).tree (items ++ v.tree ∷ []) in omega arith)))
owed Association e = (refl, λ c n h. (refl, refl, omega arith))
owed (Choices first choices) e = (
  λ b. (refl, λ c n h. (refl, refl, (let a = one_more choices c.tree in omega arith))),
  λ r. (refl, λ v n h. (refl, refl, (let a = one_more choices v.tree in let b = more_operators (phrases.node forms.Simple expressions.Association (phrases.join first v.span) []).tree (choices ++ v.tree ∷ []) in omega arith))),
)
owed (Associations o associations) e = (
  λ c. (refl, λ x n h. (refl, refl, (let a = one_more associations x.tree in omega arith))),
  λ z. (refl, refl, (let a = more_operators (phrases.named_aggregate o [] z).tree associations in omega arith)),
)
owed Choice e = (
  λ t. (refl, refl, omega arith),
  (refl, λ a n h. (λ d. (refl, λ high m g. (refl, refl, omega arith)), (refl, λ x m g. (refl, refl, omega arith)))),
)
owed Name e = λ t. (refl, refl, omega arith)
owed (Suffixes may_open a) e = (λ d n. (refl, refl, omega arith), (λ t. (refl, refl, omega arith), (refl, refl, omega arith)))
owed (MayOpen true a) e = (λ o. (refl, λ n m h. (refl, refl, omega arith)), (refl, refl, omega arith))
owed (MayOpen false a) e = (refl, refl, omega arith)
owed (BehindTick a) e = (λ n. (refl, refl, omega arith), λ o. (refl, λ q n h. (refl, refl, omega arith)))
owed (BehindAttribute a n) e = (
  λ o. (refl, λ v m h. (refl, refl, omega arith)),
  (refl, refl, (let b = attribute_operators n.token.kind a n in omega arith)),
)
owed (ValuesFrom a n) e = (refl, λ b m h. (refl, refl, omega arith))
owed (Values first n values) e = (
  λ c. (refl, λ b m h. (refl, refl, (let a = one_more values b.tree in omega arith))),
  λ z. (refl, refl, (let a = values_operators n.token.kind first n values z in omega arith)),
)
owed (ArgumentsFrom a) e = (refl, λ b m h. (refl, refl, omega arith))
owed (Arguments first arguments) e = (
  λ c. (refl, λ b m h. (refl, refl, (let a = one_more arguments b.tree in omega arith))),
  λ z. (refl, refl, (let a = more_operators (phrases.applied first [] z).tree arguments in omega arith)),
)
owed Argument e = (refl, λ a n h. ((λ r. (refl, λ b m g. (refl, refl, omega arith)), (refl, refl, omega arith)), (refl, refl, omega arith)))
owed p e = false_true e

-- a walk over two lists
walk_none : (w : List Lexeme) (m : Nesting) → walk_on None w ≡ Some m → ⊥
walk_none [] m e = cc
walk_none (t ∷ w) m e = walk_none w m e

abbrev pub Between : Option Nesting → List Lexeme → Nesting → Type 0
Between o w m = (k : Nesting) × (o ≡ Some k) × (walk k w ≡ Some m)

pub between : (o : Option Nesting) (w : List Lexeme) (m : Nesting) → walk_on o w ≡ Some m → Between o w m
between None w m e = absurd (walk_none w m e)
between (Some k) w m e = (k, refl, e)

pub walk_parts : (o : Option Nesting) (u v : List Lexeme) → walk_on o (u ++ v) ≡ walk_on (walk_on o u) v
walk_parts o [] v = refl
walk_parts o (t ∷ u) v = walk_parts (step_on o (sort t)) u v

going : (o : Option State) (f : State → Type 0) → Going o f → (x : State) × (o ≡ Some x) × f x
going None f h = absurd h
going (Some x) f h = (x, refl, h)

floor_one : (p : Part) → floor p ≤ 1
floor_one Expr = omega arith
floor_one p = omega arith

pub serves_goes : (k l : Option Last) (x : Last) → serves k l ≡ true → Known l x → Known k x
serves_goes None None x e h = h
serves_goes None (Some lasts.End) x e h = cc
serves_goes None (Some l) x e h = ap is_end h ∙ other l e
  where
    other : (l : Last) → goes (Some l) ≡ true → is_end l ≡ false
    other lasts.End e = cc
    other l e = refl
serves_goes (Some lasts.And) (Some lasts.And) x e h = h
serves_goes (Some lasts.Or) (Some lasts.Or) x e h = h
serves_goes (Some lasts.Tick) (Some lasts.Tick) x e h = h
serves_goes (Some lasts.Other) (Some lasts.Other) x e h = h
serves_goes k l x e h = cc

-- a part begins where it may stand
pub enters : (q : Part) (z : Nesting) (d : ℕ) (s : State) (n : Nesting) → fine q s ≡ true → Tracks z d s n → Tracks n ((d + s.deep) - floor q) (begins q) n
enters q z d s n f t =
    let a = and_right (is_part q) (serves (needed q) s.last && (nat_le (floor q) s.deep && only_if (behind_in q) s.member)) f in
    let b = and_right (serves (needed q) s.last) (nat_le (floor q) s.deep && only_if (behind_in q) s.member) a in
    let low : floor q ≤ s.deep = leb-true (floor q) s.deep (and_left (nat_le (floor q) s.deep) (only_if (behind_in q) s.member) b) in
    let one = floor_one q in
    let depth = t.depth in
    let parted = t.parted in
    record {
      depth = omega arith;
      operators = omega arith;
      most = t.most;
      compounds = refl;
      loops = refl;
      in_statements = refl;
      head = refl;
      skips = t.skips;
      last = serves_goes (needed q) s.last n.last (and_left (serves (needed q) s.last) (nat_le (floor q) s.deep && only_if (behind_in q) s.member) a) t.last;
      parted = omega arith;
      fewer = omega arith;
      member = λ i. t.member (holds (behind_in q) s.member (and_right (nat_le (floor q) s.deep) (only_if (behind_in q) s.member) b) i);
    }

unless : (a b : Bool) → (if a then false else b) ≡ true → (a ≡ false) × (b ≡ true)
unless true b e = cc
unless false b e = (refl, e)

-- a part that was read, in the part that it stands in
leaves : (q : Part) (z : Nesting) (d : ℕ) (s : State) (n k : Nesting) (c : ℕ) → fine q s ≡ true → Tracks z d s n → Tracks n ((d + s.deep) - floor q) (finishes q c) k → Tracks z d (behind q s c) k
leaves q z d s n k c f t u =
    let a = and_right (is_part q) (serves (needed q) s.last && (nat_le (floor q) s.deep && only_if (behind_in q) s.member)) f in
    let b = and_right (serves (needed q) s.last) (nat_le (floor q) s.deep && only_if (behind_in q) s.member) a in
    let low : floor q ≤ s.deep = leb-true (floor q) s.deep (and_left (nat_le (floor q) s.deep) (only_if (behind_in q) s.member) b) in
    let depth = t.depth in
    let deeper = u.depth in
    let before_it = t.operators in
    let in_it = u.operators in
    let parted = t.parted in
    let fewer = t.fewer in
    let fewest = u.fewer in
    record {
      depth = omega arith;
      operators = omega arith;
      most = u.most;
      compounds = u.compounds ∙ t.compounds;
      loops = u.loops ∙ t.loops;
      in_statements = u.in_statements ∙ t.in_statements;
      head = u.head ∙ t.head;
      skips = u.skips;
      last = u.last;
      parted = omega arith;
      fewer = omega arith;
      member = λ i.
          let x = unless (closes q) s.member i in
          let same : roof q ≡ floor q = if_false (closes q) 0 (floor q) x.0 in
          let held : n.parted ≤ n.depth = t.member x.1 in
          omega arith;
    }

-- a part ends where it should
done : (p : Part) (z : Nesting) (d : ℕ) (s : State) (n : Nesting) (c : ℕ) → s.deep ≡ roof p → s.last ≡ Some lasts.Other → c ≡ s.count → Tracks z d s n → Tracks z d (finishes p c) n
done p z d s n c deep last count t =
    let depth = t.depth in
    let counts = t.operators in
    record {
      depth = omega arith;
      operators = omega arith;
      most = t.most;
      compounds = t.compounds;
      loops = t.loops;
      in_statements = t.in_statements;
      head = t.head;
      skips = t.skips;
      last = subst (λ (l : Option Last). Known l n.last) last t.last;
      parted = t.parted;
      fewer = t.fewer;
      member = λ e. false_true e;
    }

abbrev pub Found : Part → Nesting → ℕ → Phrase → Nesting → Type 0
Found p z d y m = (c : ℕ) × (before p + c ≡ operators y.tree) × Tracks z d (finishes p c) m

pub sound : (p : Part) {b : Body} {y : Phrase} {w : List Lexeme} → Fits b y w → (z : Nesting) (d : ℕ) (s : State) (n m : Nesting) → is_parameter z.head ≡ false → Owes p b s → Tracks z d s n → walk n w ≡ Some m → Found p z d y m
sound p (gives {y}) z d s n m head o t e =
    (s.count, o.2, subst (λ (x : Nesting). Tracks z d (finishes p s.count) x) (some_same n m e) (done p z d s n s.count o.0 o.1 refl t))
sound p (take {c} {rest = k} {t = i} {w} is g) z d s n m head o t e =
    let x = going (moves c s) (λ (x : State). (j : Lexeme) → Owes p (k j) x) o in
    let b = between (step n (sort i)) w m e in
    sound p g z d x.0 b.0 m head (x.2 i) (stepped c i z d s x.0 n b.0 is head t x.1 b.1) b.2
sound p (call {p = q} {rest = k} {a} {y} {u} {v} g i) z d s n m head o t e =
    let b = between (walk n u) v m (sym (walk_parts (Some n) u v) ∙ e) in
    let part = and_left (is_part q) (serves (needed q) s.last && (nat_le (floor q) s.deep && only_if (behind_in q) s.member)) o.0 in
    let r = sound q g n ((d + s.deep) - floor q) (begins q) n b.0 (ap is_parameter t.head ∙ head) (owed q part) (enters q z d s n o.0 t) b.1 in
    sound p i z d (behind q s r.0) b.0 m head (o.1 a r.0 r.1) (leaves q z d s n b.0 r.0 o.0 t r.2) b.2
sound p (rest {p = q} {y} g) z d s n m head o t e =
    let part = and_left (is_part q) (serves (needed q) s.last && (nat_le (floor q) s.deep && only_if (behind_in q) s.member)) o.0 in
    let r = sound q g n ((d + s.deep) - floor q) (begins q) n m (ap is_parameter t.head ∙ head) (owed q part) (enters q z d s n o.0 t) e in
    let all : before p + (s.count + r.0) ≡ operators y.tree = (let x = r.1 in let h = o.2 in omega arith) in
    (s.count + r.0, all, done p z d (behind q s r.0) m (s.count + r.0) o.1 refl refl (leaves q z d s n m r.0 o.0 t r.2))
sound p (left g) z d s n m head o t e = sound p g z d s n m head o.0 t e
sound p (right g) z d s n m head o t e = sound p g z d s n m head o.1 t e
sound p (yes g) z d s n m head o t e = sound p g z d s n m head o.0 t e
sound p (no g) z d s n m head o t e = sound p g z d s n m head o.1 t e

starts : (n : Nesting) → MayBegin n → Tracks n n.depth (begins Expr) n
starts n b =
    let parted = b.parted in
    record {
      depth = omega arith;
      operators = omega arith;
      most = b.operators;
      compounds = refl;
      loops = refl;
      in_statements = refl;
      head = refl;
      skips = b.skips;
      last = b.last;
      parted = parted;
      fewer = omega arith;
      member = λ e. false_true e;
    }

pub operators_counted : (x : Phrase) (w : List Lexeme) (n m : Nesting) → Spells Expr x w → MayBegin n → walk n w ≡ Some m → IsCounted n m x.tree
operators_counted x w n m s b e =
    let r = sound Expr s n n.depth (begins Expr) n m b.head (owed Expr refl) (starts n b) e in
    let all = r.1 in
    let depth = r.2.depth in
    let counts = r.2.operators in
    record {
      operators = omega arith;
      most = r.2.most;
      depth = omega arith;
      compounds = r.2.compounds;
      loops = r.2.loops;
      in_statements = r.2.in_statements;
      head = r.2.head;
    }

pub outermost_counted : (x : Phrase) (w : List Lexeme) (depth : ℕ) (m : Nesting) → Spells Expr x w → walk (outermost depth) w ≡ Some m → IsCounted (outermost depth) m x.tree
outermost_counted x w depth m s e = operators_counted x w (outermost depth) m s begin e
  where
    begin : MayBegin (outermost depth)
    begin = record { skips = refl; last = refl; head = refl; parted = omega arith; operators = omega arith }
