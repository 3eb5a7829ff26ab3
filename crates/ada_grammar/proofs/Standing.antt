-- Trees that stand at numbers, while nodes are added.
use Rattle.std.proofs.Common.{◌≡◌, ℕ, zero, suc, ◌<◌, List, [], ◌∷◌, ◌++◌, map, Option, Some, None, length, refl, sym, ◌∙◌, ap, subst, arith, append_assoc, append-nil}
use Rattle.std.specs.Prelude.{slice_get}
use Rattle.std.proofs.lemmas.Option.{none-some, slice_get_within}
use Rattle.std.proofs.lemmas.List.{map-append}
use Rattle.std.specs.List.{All}
use Rattle.std.proofs.lemmas.List.Elements.{All-nil, All-cons}
use Rattle.spark_base.specs.declared.name.Name.{Name}
use Rattle.spark_base.specs.declared.numbers.Span.{Span}
use Rattle.spark_base.specs.declared.numbers.ExprNo.{ExprNo}
use Rattle.spark_base.specs.declared.numbers.StmtNo.{StmtNo}
use Rattle.spark_base.specs.declared.numbers.DeclNo.{DeclNo}
use Rattle.spark_base.specs.declared.numbers.AspectNo.{AspectNo}
use Rattle.ada_tree.specs.declared.expressions.ExprNode.{ExprNode}
use Rattle.ada_tree.specs.declared.statements.StmtNode.{StmtNode}
use Rattle.ada_tree.specs.declared.declarations.DeclNode.{DeclNode}
use Rattle.ada_tree.specs.declared.aspects.AspectNode.{AspectNode}
use Rattle.ada_tree.specs.declared.statements.StmtKind.{StmtKind}
use Rattle.ada_tree.specs.declared.declarations.DeclKind.{DeclKind}
use Rattle.ada_tree.specs.declared.aspects.AspectKind.{AspectKind}
use Rattle.ada_tree.specs.declared.units.UnitKind.{UnitKind}
use Rattle.ada_tree.specs.declared.units.Unit as declared_unit
use Rattle.ada_tree.specs.declared.units.Units.{Units}
use Rattle.ada_tree.specs.Tree as tree
use Rattle.ada_tree.specs.Tree.{IsOrdered, counts}
use Rattle.ada_tree.proofs.Ordered.{aspect_ordered, decl_ordered, stmt_ordered, unit_ordered}
use Rattle.ada_grammar.specs.declared.children.Children as held
use Rattle.ada_grammar.specs.Phrases.{OfStmt, OfDecl, OfAspect, OfUnit, Head, Tree, Root, with_all, Children, none, node_tree, with_expr, with_stmt, with_decl, with_aspect}
use Rattle.ada_grammar.specs.Built.{trees, tree_at, written, Extends}
use Rattle.ada_grammar.specs.Standing.{Ref, ExprRef, StmtRef, DeclRef, AspectRef, UnitRef, refs, stmt_node, decl_node, aspect_node, unit_node, node_at, IsBelow, AreUnder, Stands, nowhere, expression, over, Holds, Lengthens, Appends, Widens, Grows}
use Rattle.ada_grammar.proofs.NodeTrees.{stays, within_on, extends_same, extends_on, extends_ordered, trees_length}

-- Lists that grow

get_left : {A : Type 0} (xs ys : List A) (n : ℕ) (x : A) → slice_get xs n ≡ Some x → slice_get (xs ++ ys) n ≡ Some x
get_left [] ys n x e = absurd (none-some x e)
get_left (y ∷ xs) ys zero x e = e
get_left (y ∷ xs) ys (suc n) x e = get_left xs ys n x e

get_last : {A : Type 0} (xs : List A) (x : A) → slice_get (xs ++ x ∷ []) (length xs) ≡ Some x
get_last [] x = refl
get_last (y ∷ xs) x = get_last xs x

pub lengthens_same : {A : Type 0} (xs : List A) → Lengthens A xs xs
lengthens_same xs = record { further = []; joins = sym (append-nil xs) }

pub lengthens_on : {A : Type 0} {xs ys zs : List A} → Lengthens A xs ys → Lengthens A ys zs → Lengthens A xs zs
lengthens_on {A} {xs} {ys} {zs} g h = record {
  further = g.further ++ h.further;
  joins = h.joins ∙ (ap (λ (z : List A). z ++ h.further) g.joins ∙ append_assoc xs g.further h.further);
}

pub lengthens_appended : {A : Type 0} {xs ys : List A} {x : A} {n : ℕ} → Appends A xs ys x n → Lengthens A xs ys
lengthens_appended {A} {xs} {ys} {x} {n} a = record { further = x ∷ []; joins = a.joins }

appended_get : {A : Type 0} {xs ys : List A} {x : A} {n : ℕ} → Appends A xs ys x n → slice_get ys n ≡ Some x
appended_get {A} {xs} {ys} {x} {n} a = ap (λ (z : List A). slice_get z n) a.joins ∙ (ap (λ (z : ℕ). slice_get (xs ++ x ∷ []) z) a.place ∙ get_last xs x)

get_on : {A : Type 0} {xs ys : List A} (n : ℕ) (x : A) → Lengthens A xs ys → slice_get xs n ≡ Some x → slice_get ys n ≡ Some x
get_on {A} {xs} {ys} n x g e = ap (λ (z : List A). slice_get z n) g.joins ∙ get_left xs g.further n x e

-- Trees that grow

pub widens_same : (u : Units) → Widens u u
widens_same u = record { exprs = extends_same u.exprs; stmts = lengthens_same u.stmts; decls = lengthens_same u.decls; aspects = lengthens_same u.aspects; units = lengthens_same u.units }

pub widens_on : {u v w : Units} → Widens u v → Widens v w → Widens u w
widens_on {u} {v} {w} g h = record {
  exprs = extends_on g.exprs h.exprs;
  stmts = lengthens_on g.stmts h.stmts;
  decls = lengthens_on g.decls h.decls;
  aspects = lengthens_on g.aspects h.aspects;
  units = lengthens_on g.units h.units;
}

pub grows_same : (u : Units) → Grows u u
grows_same u = record { widens = widens_same u; units = refl }

pub grows_on : {u v w : Units} → Grows u v → Grows v w → Grows u w
grows_on {u} {v} {w} g h = record { widens = widens_on g.widens h.widens; units = h.units ∙ g.units }

-- a node that is there, by a function of what a list has at its number
node_on : {A : Type 0} {B : Type 0} {xs ys : List A} (f : Option A → Option B) (n : ℕ) (b : B) → f None ≡ None → Lengthens A xs ys → (o : Option A) → slice_get xs n ≡ o → f (slice_get xs n) ≡ Some b → f (slice_get ys n) ≡ Some b
node_on {A} {B} {xs} {ys} f n b empty g None e h = absurd (none-some b (sym empty ∙ (sym (ap f e) ∙ h)))
node_on {A} {B} {xs} {ys} f n b empty g (Some a) e h = ap f (get_on n a g e) ∙ (sym (ap f e) ∙ h)

node_within : {A : Type 0} {B : Type 0} (xs : List A) (f : Option A → Option B) (n : ℕ) (b : B) → f None ≡ None → (o : Option A) → slice_get xs n ≡ o → f (slice_get xs n) ≡ Some b → n < length xs
node_within {A} {B} xs f n b empty None e h = absurd (none-some b (sym empty ∙ (sym (ap f e) ∙ h)))
node_within {A} {B} xs f n b empty (Some a) e h = slice_get_within xs n a e

node_at_on : {u v : Units} (r : Ref) (h : Head) (cs : List Ref) → Widens u v → node_at u r ≡ Some (h, cs) → node_at v r ≡ Some (h, cs)
node_at_on {u} {v} (ExprRef n) h cs g e = e
node_at_on {u} {v} (StmtRef n) h cs g e = node_on stmt_node n.0 (h, cs) refl g.stmts (slice_get u.stmts n.0) refl e
node_at_on {u} {v} (DeclRef n) h cs g e = node_on decl_node n.0 (h, cs) refl g.decls (slice_get u.decls n.0) refl e
node_at_on {u} {v} (AspectRef n) h cs g e = node_on aspect_node n.0 (h, cs) refl g.aspects (slice_get u.aspects n.0) refl e
node_at_on {u} {v} (UnitRef n) h cs g e = node_on unit_node n (h, cs) refl g.units (slice_get u.units n) refl e

-- what stands there goes on to
pub stands_wide : {u v : Units} {rs : List Ref} {ts : List Tree} → Widens u v → Stands u rs ts → Stands v rs ts
stands_wide g nowhere = nowhere
stands_wide g (expression {n = n} within is rest) = expression (within_on g.exprs within) (is ∙ sym (stays n g.exprs within)) (stands_wide g rest)
stands_wide g (over {r = r} {h = h} {cs = cs} node below under is rest) = over (node_at_on r h cs g node) below (stands_wide g under) is (stands_wide g rest)

pub holds_on : {u v : Units} {r : held.Children} {d : Children} → IsOrdered v → Grows u v → Holds u r d → Holds v r d
holds_on {u} {v} {r} {d} o g h = record { ordered = o; exprs = stands_wide g.widens h.exprs; stmts = stands_wide g.widens h.stmts; decls = stands_wide g.widens h.decls; aspects = stands_wide g.widens h.aspects }

-- one list of numbers behind another
pub stands_append : {u : Units} {xs ys : List Ref} {ts us : List Tree} → Stands u xs ts → Stands u ys us → Stands u (xs ++ ys) (ts ++ us)
stands_append nowhere s = s
stands_append (expression within is rest) s = expression within is (stands_append rest s)
stands_append (over node below under is rest) s = over node below under is (stands_append rest s)

pub stands_push : {u : Units} {xs : List Ref} {ts : List Tree} {x : Ref} {t : Tree} → Stands u xs ts → Stands u (x ∷ []) (t ∷ []) → Stands u (xs ++ x ∷ []) (ts ++ t ∷ [])
stands_push a b = stands_append a b

-- the same numbers by another name
stands_as : {u : Units} {xs ys : List Ref} {ts : List Tree} → ys ≡ xs → Stands u xs ts → Stands u ys ts
stands_as {u} {xs} {ys} {ts} e s = subst (λ (z : List Ref). Stands u z ts) (sym e) s

-- the number is one of the list of its type
abbrev pub IsWithin : Units → Ref → Type 0
IsWithin u (ExprRef n) = n.0 < length (trees u.exprs)
IsWithin u (StmtRef n) = n.0 < length u.stmts
IsWithin u (DeclRef n) = n.0 < length u.decls
IsWithin u (AspectRef n) = n.0 < length u.aspects
IsWithin u (UnitRef n) = n < length u.units

abbrev pub AreWithin : Units → List Ref → Type 0
AreWithin u [] = Unit {0}
AreWithin u (r ∷ rs) = IsWithin u r × AreWithin u rs

node_is_within : (u : Units) (r : Ref) (h : Head) (cs : List Ref) → node_at u r ≡ Some (h, cs) → IsWithin u r
node_is_within u (ExprRef n) h cs e = absurd (none-some (h, cs) e)
node_is_within u (StmtRef n) h cs e = node_within u.stmts stmt_node n.0 (h, cs) refl (slice_get u.stmts n.0) refl e
node_is_within u (DeclRef n) h cs e = node_within u.decls decl_node n.0 (h, cs) refl (slice_get u.decls n.0) refl e
node_is_within u (AspectRef n) h cs e = node_within u.aspects aspect_node n.0 (h, cs) refl (slice_get u.aspects n.0) refl e
node_is_within u (UnitRef n) h cs e = node_within u.units unit_node n (h, cs) refl (slice_get u.units n) refl e

pub stands_within : {u : Units} {rs : List Ref} {ts : List Tree} → Stands u rs ts → AreWithin u rs
stands_within nowhere = tt
stands_within (expression within is rest) = (within, stands_within rest)
stands_within {u} (over {r = r} {h = h} {cs = cs} node below under is rest) = (node_is_within u r h cs node, stands_within rest)

-- each of these is below a number that no list has reached
abbrev IsAbove : Units → Ref → Type 0
IsAbove u (ExprRef n) = Unit {0}
IsAbove u (StmtRef n) = n.0 ≡ length u.stmts
IsAbove u (DeclRef n) = n.0 ≡ length u.decls
IsAbove u (AspectRef n) = n.0 ≡ length u.aspects
IsAbove u (UnitRef n) = n ≡ length u.units

is_below : (u : Units) (r s : Ref) → IsAbove u r → IsWithin u s → IsBelow r s
is_below u (StmtRef n) (StmtRef m) a w = omega (arith, a, w)
is_below u (DeclRef n) (DeclRef m) a w = omega (arith, a, w)
is_below u (AspectRef n) (AspectRef m) a w = omega (arith, a, w)
is_below u (UnitRef n) (UnitRef m) a w = omega (arith, a, w)
is_below u r s a w = tt

are_under : (u : Units) (r : Ref) (rs : List Ref) → IsAbove u r → AreWithin u rs → AreUnder r rs
are_under u r [] a w = tt
are_under u r (s ∷ rs) a w = (is_below u r s a w.0, are_under u r rs a w.1)

-- all children of a node that is added
stands_refs : {u : Units} {r : held.Children} {d : Children} → Holds u r d → Stands u (refs r.exprs r.stmts r.decls r.aspects) (d.exprs ++ (d.stmts ++ (d.decls ++ d.aspects)))
stands_refs {u} {r} {d} h = stands_append h.exprs (stands_append h.stmts (stands_append h.decls h.aspects))

stands_added : {u v : Units} (r : Ref) (h : Head) (c : held.Children) {d : Children} → IsAbove u r → Widens u v → node_at v r ≡ Some (h, refs c.exprs c.stmts c.decls c.aspects) → Holds u c d
    → Stands v (r ∷ []) (with_all (Root h) (d.exprs ++ (d.stmts ++ (d.decls ++ d.aspects))) ∷ [])
stands_added {u} {v} r h c {d} above g node holds =
    over node (are_under u r (refs c.exprs c.stmts c.decls c.aspects) above (stands_within (stands_refs holds))) (stands_wide g (stands_refs holds)) refl nowhere

-- the numbers of children that are held are there

within_all : {A : Type 0} (ref : A → Ref) (P : A → Type 0) (u : Units) → ((x : A) → IsWithin u (ref x) → P x) → (xs : List A) → AreWithin u (map ref xs) → All P xs
within_all ref P u go [] w = All-nil P
within_all ref P u go (x ∷ xs) w = All-cons P x xs (go x w.0) (within_all ref P u go xs w.1)

children_there : {u : Units} {r : held.Children} {d : Children} → Holds u r d → tree.AreBelow (counts u) r.exprs r.stmts r.decls r.aspects
children_there {u} {r} {d} h = record {
  exprs_below = within_all ExprRef (λ (n : ExprNo). n.0 < length u.exprs) u (λ n w. omega (arith, trees_length u.exprs, w)) r.exprs (stands_within h.exprs);
  stmts_below = within_all StmtRef (λ (n : StmtNo). n.0 < length u.stmts) u (λ n w. w) r.stmts (stands_within h.stmts);
  decls_below = within_all DeclRef (λ (n : DeclNo). n.0 < length u.decls) u (λ n w. w) r.decls (stands_within h.decls);
  aspects_below = within_all AspectRef (λ (n : AspectNo). n.0 < length u.aspects) u (λ n w. w) r.aspects (stands_within h.aspects);
}

-- A node more, and its number

pub stmts_grow : {u : Units} {list : List StmtNode} {x : StmtNode} {n : ℕ} → Appends StmtNode u.stmts list x n → Grows u (record u { stmts = list })
stmts_grow {u} a = record { widens = record { exprs = extends_same u.exprs; stmts = lengthens_appended a; decls = lengthens_same u.decls; aspects = lengthens_same u.aspects; units = lengthens_same u.units }; units = refl }

pub stmt_builds : {u : Units} {own into : held.Children} (kind : StmtKind) (span : Span) (name : Option Name) {list : List StmtNode} {numbers : List StmtNo} {n : ℕ}
    → Appends StmtNode u.stmts list (record { span = span; kind = kind; name = name; exprs = own.exprs; stmts = own.stmts; decls = own.decls; aspects = own.aspects }) n
    → numbers ≡ into.stmts ++ record { 0 = n } ∷ [] → (os ds : Children) → Holds u own os → Holds u into ds
    → Holds (record u { stmts = list }) (record into { stmts = numbers }) (with_stmt ds (node_tree (OfStmt kind) span (written name) os))
stmt_builds {u} {own} {into} kind span name {list} {numbers} {n} a e os ds under before =
    let o = stmt_ordered _ a.joins before.ordered (children_there under) in
    let h = holds_on o (stmts_grow a) before in
    record {
      ordered = o;
      exprs = h.exprs;
      stmts = stands_as (ap (λ (z : List StmtNo). map StmtRef z) e ∙ map-append StmtRef into.stmts (record { 0 = n } ∷ []))
          (stands_push h.stmts (stands_added (StmtRef (record { 0 = n })) (record { kind = OfStmt kind; span = span; name = written name }) own a.place (stmts_grow a).widens (ap stmt_node (appended_get a)) under));
      decls = h.decls;
      aspects = h.aspects;
    }

pub decls_grow : {u : Units} {list : List DeclNode} {x : DeclNode} {n : ℕ} → Appends DeclNode u.decls list x n → Grows u (record u { decls = list })
decls_grow {u} a = record { widens = record { exprs = extends_same u.exprs; stmts = lengthens_same u.stmts; decls = lengthens_appended a; aspects = lengthens_same u.aspects; units = lengthens_same u.units }; units = refl }

pub decl_builds : {u : Units} {own into : held.Children} (kind : DeclKind) (span : Span) (name : Option Name) {list : List DeclNode} {numbers : List DeclNo} {n : ℕ}
    → Appends DeclNode u.decls list (record { span = span; kind = kind; name = name; exprs = own.exprs; stmts = own.stmts; decls = own.decls; aspects = own.aspects }) n
    → numbers ≡ into.decls ++ record { 0 = n } ∷ [] → (os ds : Children) → Holds u own os → Holds u into ds
    → Holds (record u { decls = list }) (record into { decls = numbers }) (with_decl ds (node_tree (OfDecl kind) span (written name) os))
decl_builds {u} {own} {into} kind span name {list} {numbers} {n} a e os ds under before =
    let o = decl_ordered _ a.joins before.ordered (children_there under) in
    let h = holds_on o (decls_grow a) before in
    record {
      ordered = o;
      exprs = h.exprs;
      stmts = h.stmts;
      decls = stands_as (ap (λ (z : List DeclNo). map DeclRef z) e ∙ map-append DeclRef into.decls (record { 0 = n } ∷ []))
          (stands_push h.decls (stands_added (DeclRef (record { 0 = n })) (record { kind = OfDecl kind; span = span; name = written name }) own a.place (decls_grow a).widens (ap decl_node (appended_get a)) under));
      aspects = h.aspects;
    }

pub aspects_grow : {u : Units} {list : List AspectNode} {x : AspectNode} {n : ℕ} → Appends AspectNode u.aspects list x n → Grows u (record u { aspects = list })
aspects_grow {u} a = record { widens = record { exprs = extends_same u.exprs; stmts = lengthens_same u.stmts; decls = lengthens_same u.decls; aspects = lengthens_appended a; units = lengthens_same u.units }; units = refl }

pub aspect_builds : {u : Units} {own into : held.Children} (kind : AspectKind) (span : Span) (name : Option Name) {list : List AspectNode} {numbers : List AspectNo} {n : ℕ}
    → Appends AspectNode u.aspects list (record { span = span; kind = kind; name = name; exprs = own.exprs; stmts = own.stmts; decls = own.decls; aspects = own.aspects }) n
    → numbers ≡ into.aspects ++ record { 0 = n } ∷ [] → (os ds : Children) → Holds u own os → Holds u into ds
    → Holds (record u { aspects = list }) (record into { aspects = numbers }) (with_aspect ds (node_tree (OfAspect kind) span (written name) os))
aspect_builds {u} {own} {into} kind span name {list} {numbers} {n} a e os ds under before =
    let o = aspect_ordered _ a.joins before.ordered (children_there under) in
    let h = holds_on o (aspects_grow a) before in
    record {
      ordered = o;
      exprs = h.exprs;
      stmts = h.stmts;
      decls = h.decls;
      aspects = stands_as (ap (λ (z : List AspectNo). map AspectRef z) e ∙ map-append AspectRef into.aspects (record { 0 = n } ∷ []))
          (stands_push h.aspects (stands_added (AspectRef (record { 0 = n })) (record { kind = OfAspect kind; span = span; name = written name }) own a.place (aspects_grow a).widens (ap aspect_node (appended_get a)) under));
    }

pub units_widen : {u : Units} {list : List declared_unit.Unit} {x : declared_unit.Unit} {n : ℕ} → Appends declared_unit.Unit u.units list x n → Widens u (record u { units = list })
units_widen {u} a = record { exprs = extends_same u.exprs; stmts = lengthens_same u.stmts; decls = lengthens_same u.decls; aspects = lengthens_same u.aspects; units = lengthens_appended a }

pub unit_builds : {u : Units} {own : held.Children} (kind : UnitKind) (span : Span) (name : Option Name) (text : List ℕ) {list : List declared_unit.Unit} {n : ℕ}
    → Appends declared_unit.Unit u.units list (record { span = span; kind = kind; name = name; exprs = own.exprs; stmts = own.stmts; decls = own.decls; aspects = own.aspects }) n
    → written name ≡ Some text → (os : Children) → Holds u own os
    → Stands (record u { units = list }) (UnitRef (length u.units) ∷ []) (node_tree (OfUnit kind) span (Some text) os ∷ [])
unit_builds {u} {own} kind span name text {list} {n} a e os under =
    let s = stands_added (UnitRef n) (record { kind = OfUnit kind; span = span; name = written name }) own a.place (units_widen a) (ap unit_node (appended_get a)) under in
    subst (λ (z : ℕ). Stands (record u { units = list }) (UnitRef z ∷ []) (node_tree (OfUnit kind) span (Some text) os ∷ [])) a.place
    (subst (λ (z : Option (List ℕ)). Stands (record u { units = list }) (UnitRef n ∷ []) (node_tree (OfUnit kind) span z os ∷ [])) e s)

pub unit_keeps_order : {u : Units} {own : held.Children} (kind : UnitKind) (span : Span) (name : Option Name) {list : List declared_unit.Unit} {n : ℕ}
    → Appends declared_unit.Unit u.units list (record { span = span; kind = kind; name = name; exprs = own.exprs; stmts = own.stmts; decls = own.decls; aspects = own.aspects }) n
    → (os : Children) → Holds u own os → IsOrdered (record u { units = list })
unit_keeps_order kind span name a os under = unit_ordered _ a.joins under.ordered (children_there under)

-- one expression more
pub expr_holds : {u : Units} {into : held.Children} {numbers : List ExprNo} (n : ExprNo) → numbers ≡ into.exprs ++ n ∷ [] → (ds : Children) (t : Tree) → Holds u into ds → Stands u (ExprRef n ∷ []) (t ∷ [])
    → Holds u (record into { exprs = numbers }) (with_expr ds t)
expr_holds {u} {into} {numbers} n e ds t h s = record {
  ordered = h.ordered;
  exprs = stands_as (ap (λ (z : List ExprNo). map ExprRef z) e ∙ map-append ExprRef into.exprs (n ∷ [])) (stands_push h.exprs s);
  stmts = h.stmts;
  decls = h.decls;
  aspects = h.aspects;
}

pub exprs_grow : {u : Units} {list : List ExprNode} → Extends u.exprs list → Grows u (record u { exprs = list })
exprs_grow {u} g = record { widens = record { exprs = g; stmts = lengthens_same u.stmts; decls = lengthens_same u.decls; aspects = lengthens_same u.aspects; units = lengthens_same u.units }; units = refl }

-- what is held goes on to, where expressions are added
pub holds_extended : {u : Units} {r : held.Children} {d : Children} {list : List ExprNode} → Extends u.exprs list → Holds u r d → Holds (record u { exprs = list }) r d
holds_extended {u} {r} {d} {list} g h = holds_on (extends_ordered g h.ordered) (exprs_grow g) h

-- an expression that was built, where other expressions are added
pub built_holds : {u : Units} {into : held.Children} {list : List ExprNode} (n : ExprNo) (t : Tree) → Extends u.exprs list → n.0 < length (trees list) → t ≡ tree_at (trees list) n → (ds : Children) → Holds u into ds
    → Holds (record u { exprs = list }) into ds × Stands (record u { exprs = list }) (ExprRef n ∷ []) (t ∷ [])
built_holds {u} {into} {list} n t g within is ds h = (holds_extended g h, expression within is nowhere)

-- no children
pub holds_none : (u : Units) {r : held.Children} → r.exprs ≡ [] → r.stmts ≡ [] → r.decls ≡ [] → r.aspects ≡ [] → IsOrdered u → Holds u r none
holds_none u {r} a b c d o = record {
  ordered = o;
  exprs = stands_as (ap (λ (z : List ExprNo). map ExprRef z) a) nowhere;
  stmts = stands_as (ap (λ (z : List StmtNo). map StmtRef z) b) nowhere;
  decls = stands_as (ap (λ (z : List DeclNo). map DeclRef z) c) nowhere;
  aspects = stands_as (ap (λ (z : List AspectNo). map AspectRef z) d) nowhere;
}
