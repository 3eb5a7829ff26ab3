-- How the trees of nodes grow.
use Rattle.std.proofs.Common.{◌≡◌, ℕ, zero, suc, List, [], ◌∷◌, ◌++◌, refl, sym, ◌∙◌, ap, append_assoc, append-nil, subst, ◌<◌, ◌≤◌, ◌+◌, length, get_or, arith, length-append}
use Rattle.std.specs.List.{All}
use Rattle.std.proofs.lemmas.Option.{none-some, same_Some}
use Rattle.std.proofs.lemmas.List.Elements.{All-nil, All-cons}
use Rattle.std.proofs.Math.ListN.{get_or-append}
use Rattle.std.proofs.Math.Seq.{get_or-append_seam}
use Rattle.spark_base.specs.declared.numbers.ExprNo.{ExprNo}
use Rattle.ada_tree.specs.declared.expressions.ExprNode.{ExprNode}
use Rattle.ada_tree.specs.declared.units.Units.{Units}
use Rattle.ada_tree.specs.Tree.{IsOrdered}
use Rattle.ada_tree.proofs.Ordered.{Each, exprs_ordered}
use Rattle.ada_grammar.specs.Phrases.{Tree, nothing}
use Rattle.ada_grammar.specs.Built.{tree_at, trees_at, tree_of, trees_from, trees, AreBelow, AreOrdered, Extends, Adds}

trees_from_append : (built : List Tree) (ns ms : List ExprNode) → trees_from built (ns ++ ms) ≡ trees_from (trees_from built ns) ms
trees_from_append built [] ms = refl
trees_from_append built (n ∷ ns) ms = trees_from_append (built ++ tree_of built n ∷ []) ns ms

trees_from_length : (built : List Tree) (ns : List ExprNode) → length (trees_from built ns) ≡ length built + length ns
trees_from_length built [] = omega arith
trees_from_length built (n ∷ ns) = omega (arith, trees_from_length (built ++ tree_of built n ∷ []) ns, length-append built (tree_of built n ∷ []))

trees_from_more : (built : List Tree) (ns : List ExprNode) → (further : List Tree) × (trees_from built ns ≡ built ++ further)
trees_from_more built [] = ([], sym (append-nil built))
trees_from_more built (n ∷ ns) =
    let i = trees_from_more (built ++ tree_of built n ∷ []) ns in
    (tree_of built n ∷ i.0, i.1 ∙ append_assoc built (tree_of built n ∷ []) i.0)

-- as many trees as nodes
pub trees_length : (ns : List ExprNode) → length (trees ns) ≡ length ns
unfolding trees
trees_length ns = omega (arith, trees_from_length [] ns)

trees_more : (ns ms : List ExprNode) → (further : List Tree) × (trees (ns ++ ms) ≡ trees ns ++ further)
unfolding trees
trees_more ns ms = let i = trees_from_more (trees_from [] ns) ms in (i.0, trees_from_append [] ns ms ∙ i.1)

-- a tree that was built stays
pub stays : {old new : List ExprNode} (n : ExprNo) → Extends old new → n.0 < length (trees old) → tree_at (trees new) n ≡ tree_at (trees old) n
stays {old} {new} n g within =
    let i = trees_more old g.further in
    ap (λ (z : List ExprNode). tree_at (trees z) n) g.joins ∙ (ap (λ (z : List Tree). tree_at z n) i.1 ∙ get_or-append (trees old) i.0 nothing n.0 within)

pub longer : {old new : List ExprNode} → Extends old new → length (trees old) ≤ length (trees new)
longer {old} {new} g = omega (arith, trees_length old, trees_length new, ap (λ (z : List ExprNode). length z) g.joins, length-append old g.further)

-- a number that was there is there
pub within_on : {old new : List ExprNode} {n : ℕ} → Extends old new → n < length (trees old) → n < length (trees new)
within_on {old} {new} g h = omega (arith, longer g, h)

ordered_append : (m : ℕ) (ns ms : List ExprNode) → AreOrdered m ns → AreOrdered (m + length ns) ms → AreOrdered m (ns ++ ms)
ordered_append m [] ms a b = subst (λ (z : ℕ). AreOrdered z ms) (omega arith) b
ordered_append m (n ∷ ns) ms a b = (a.0, ordered_append (m + 1) ns ms a.1 (subst (λ (z : ℕ). AreOrdered z ms) (omega arith) b))

pub extends_same : (nodes : List ExprNode) → Extends nodes nodes
extends_same nodes = record { further = []; joins = sym (append-nil nodes); ordered = tt }

pub extends_on : {a b c : List ExprNode} → Extends a b → Extends b c → Extends a c
extends_on {a} {b} {c} x y = record {
  further = x.further ++ y.further;
  joins = y.joins ∙ (ap (λ (z : List ExprNode). z ++ y.further) x.joins ∙ append_assoc a x.further y.further);
  ordered = ordered_append (length a) x.further y.further x.ordered (subst (λ (z : ℕ). AreOrdered z y.further) (ap (λ (z : List ExprNode). length z) x.joins ∙ length-append a x.further) y.ordered);
}

trees_last : (ns : List ExprNode) (n : ExprNode) → trees (ns ++ n ∷ []) ≡ trees ns ++ tree_of (trees ns) n ∷ []
unfolding trees
trees_last ns n = trees_from_append [] ns (n ∷ [])

-- the tree of the node that was added
pub added_tree : {old new : List ExprNode} {n : ExprNode} {number : ExprNo} → Adds old new n number → tree_at (trees new) number ≡ tree_of (trees old) n
added_tree {old} {new} {n} {number} a =
    ap (λ (z : List ExprNode). tree_at (trees z) number) a.joins
    ∙ (ap (λ (z : List Tree). tree_at z number) (trees_last old n)
    ∙ (ap (λ (z : ℕ). get_or (trees old ++ tree_of (trees old) n ∷ []) z nothing) (a.place ∙ sym (trees_length old))
    ∙ get_or-append_seam (trees old) (tree_of (trees old) n) [] nothing))

pub added_within : {old new : List ExprNode} {n : ExprNode} {number : ExprNo} → Adds old new n number → number.0 < length (trees new)
added_within {old} {new} {n} {number} a = omega (arith, a.place, trees_length new, ap (λ (z : List ExprNode). length z) a.joins, length-append old (n ∷ []))

pub below_equal : {m k : ℕ} (ns : List ExprNo) → m ≡ k → AreBelow m ns → AreBelow k ns
below_equal ns e h = subst (λ (z : ℕ). AreBelow z ns) e h

pub below_as : (m : ℕ) (ns ms : List ExprNo) → ns ≡ ms → AreBelow m ms → AreBelow m ns
below_as m ns ms e h = subst (λ (z : List ExprNo). AreBelow m z) (sym e) h

-- the trees of a list of numbers stay
pub trees_at_stay : {old new : List ExprNode} (ns : List ExprNo) → Extends old new → AreBelow (length (trees old)) ns → trees_at (trees new) ns ≡ trees_at (trees old) ns
trees_at_stay [] g below = refl
trees_at_stay {old} {new} (n ∷ ns) g below =
    ap (λ (z : Tree). z ∷ trees_at (trees new) ns) (stays n g below.0) ∙ ap (λ (z : List Tree). tree_at (trees old) n ∷ z) (trees_at_stay ns g below.1)

pub trees_at_more : (built : List Tree) (ns : List ExprNo) (n : ExprNo) → trees_at built (ns ++ n ∷ []) ≡ trees_at built ns ++ tree_at built n ∷ []
trees_at_more built [] n = refl
trees_at_more built (m ∷ ns) n = ap (λ (z : List Tree). tree_at built m ∷ z) (trees_at_more built ns n)

pub below_more : {m k : ℕ} (ns : List ExprNo) (n : ExprNo) → AreBelow m ns → m ≤ k → n.0 < k → AreBelow k (ns ++ n ∷ [])
below_more [] n below h g = (g, tt)
below_more (m ∷ ns) n below h g = (omega (arith, below.0, h), below_more ns n below.1 h g)

-- one number more, and its tree
pub items_more : {old new : List ExprNode} (ns : List ExprNo) (n : ExprNo) {ms : List ExprNo} → ms ≡ ns ++ n ∷ [] → Extends old new → AreBelow (length (trees old)) ns
    → trees_at (trees new) ms ≡ trees_at (trees old) ns ++ tree_at (trees new) n ∷ []
items_more {old} {new} ns n {ms} e g below =
    ap (λ (z : List ExprNo). trees_at (trees new) z) e ∙ (trees_at_more (trees new) ns n ∙ ap (λ (z : List Tree). z ++ tree_at (trees new) n ∷ []) (trees_at_stay ns g below))

pub items_below : {old new : List ExprNode} (ns : List ExprNo) (n : ExprNo) {ms : List ExprNo} → ms ≡ ns ++ n ∷ [] → Extends old new → AreBelow (length (trees old)) ns → n.0 < length (trees new)
    → AreBelow (length (trees new)) ms
items_below {old} {new} ns n {ms} e g below h = below_as (length (trees new)) ms (ns ++ n ∷ []) e (below_more ns n below (longer g) h)

-- Expressions that are added keep the order of all nodes

all_below : (bound : ℕ) (ns : List ExprNo) → AreBelow bound ns → All (λ (n : ExprNo). n.0 < bound) ns
all_below bound [] h = All-nil (λ (n : ExprNo). n.0 < bound)
all_below bound (n ∷ ns) h = All-cons (λ (n : ExprNo). n.0 < bound) n ns h.0 (all_below bound ns h.1)

each_below : (first : ℕ) (ns : List ExprNode) → AreOrdered first ns → Each (λ m x. AreBelow (first + m) x.exprs) ns
each_below first [] h m x e = absurd (none-some x e)
each_below first (n ∷ ns) h zero x e = subst (λ (z : ExprNode). AreBelow (first + 0) z.exprs) (same_Some n x e) (subst (λ (z : ℕ). AreBelow z n.exprs) (omega arith) h.0)
each_below first (n ∷ ns) h (suc m) x e = subst (λ (z : ℕ). AreBelow z x.exprs) (omega arith) (each_below (first + 1) ns h.1 m x e)

pub extends_ordered : {u : Units} {list : List ExprNode} → Extends u.exprs list → IsOrdered u → IsOrdered (record u { exprs = list })
extends_ordered {u} {list} g h =
    exprs_ordered g.further g.joins h
    (λ m x e. record {
      exprs_below = all_below (length u.exprs + m) x.exprs (each_below (length u.exprs) g.further g.ordered m x e);
      stmts_below = All-nil _;
      decls_below = All-nil _;
      aspects_below = All-nil _;
    })
