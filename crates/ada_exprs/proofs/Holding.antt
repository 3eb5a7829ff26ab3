-- What an expression that was read is worth to the children that hold it.
use Rattle.std.proofs.Common.{◌≡◌, refl, sym, subst, List, [], ◌∷◌, Result, Ok, Err}
use Rattle.std.specs.Result.{IsErrAnd}
use Rattle.ada_tree.specs.declared.units.Units.{Units}
use Rattle.ada_grammar.specs.declared.children.Children as held
use Rattle.ada_grammar.specs.declared.nodes.Built.{Built}
use Rattle.ada_grammar.specs.declared.tokens.Cursor.{Cursor}
use Rattle.ada_grammar.specs.declared.tokens.Fault.{Fault}
use Rattle.ada_grammar.specs.Lexemes.{Lexeme}
use Rattle.ada_grammar.specs.Phrases.{Tree, Children, with_expr}
use Rattle.ada_grammar.specs.Built.{phrase, trees, tree_at}
use Rattle.ada_grammar.specs.Parts.{Part}
use Rattle.ada_grammar.specs.Reading.{Done, Fails}
use Rattle.ada_grammar.specs.Standing.{ExprRef, Holds, Stands, expression, nowhere, Forth, FoundExpr, FindsExpr}

-- the node that was built is held behind the others
pub holds_read : (part : Part) (ts : List Lexeme) (cursor next : Cursor) (x : Built) {u : Units} {old new : held.Children} → Done part ts cursor (trees u.exprs) x next
    → ((v : Units) (ds : Children) (t : Tree) → Holds v old ds → Stands v (ExprRef x.node ∷ []) (t ∷ []) → Holds v new (with_expr ds t))
    → (ds : Children) → Holds u old ds → FoundExpr part ts cursor u new ds next
holds_read part ts cursor next x {u} {old} {new} d pushes ds h = record {
  phrase = phrase (trees u.exprs) x;
  holds = pushes u ds (tree_at (trees u.exprs) x.node) h (expression d.within refl nowhere);
  forward = d.forward;
  ends = d.ends;
  reads = d.reads;
}

-- a fault is handed on
pub finds_not : (part : Part) (ts : List Lexeme) (cursor : Cursor) (u : Units) (r : held.Children) (ds : Children) (e : Fault) (result : Result Cursor Fault)
    → Fails part ts cursor e → IsErrAnd result (λ z. z ≡ e) → FindsExpr part ts cursor u r ds result
finds_not part ts cursor u r ds e (Ok next) h is = absurd is
finds_not part ts cursor u r ds e (Err z) h is = subst (λ (z : Fault). Fails part ts cursor z) (sym is) h

pub goes_read : (part : Part) (ts : List Lexeme) (cursor next : Cursor) (x : Built) {built : List Tree} → Done part ts cursor built x next → Forth ts cursor next
goes_read part ts cursor next x d = record { forward = d.forward; ends = d.ends }
