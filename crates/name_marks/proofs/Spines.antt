-- The prefixes of a name down, and up again.
use Rattle.std.proofs.Common.{◌≡◌, List, [], ◌∷◌, ◌++◌, Some, None, refl, sym, ap, ◌∙◌, subst}
use Rattle.spark_base.specs.declared.numbers.ExprNo.{ExprNo}
use Rattle.ada_tree.specs.declared.expressions.ExprNode.{ExprNode}
use Rattle.ada_forms.specs.Forms.{Expr, Number, Identifier, Selected, Applied, Attribute, RangeAttribute, Qualified, Argument, NamedArgument, Parenthesized, Unary, Binary, InRange, InMark, Conditional, Positional, Named, Association, ValueChoice, RangeChoice, OthersChoice, Indication, Constrained, SubtypeRange, BoundsRange, AttributeRange, EndName, Absent, expr_of}
use Rattle.name_findings.specs.Findings.{Told, add_all}
use Rattle.name_findings.proofs.Joined.{add_append}
use Rattle.name_marks.specs.Marks.{entity_of, found_of, own_found, unit_entity, unit_found, member_found}
use Rattle.name_marks.specs.Prefixes.{prefix_of, reversed, Spine}
use Rattle.seen_names.specs.declared.entities.Entity.{Entity}
use Rattle.seen_names.specs.Contexts.{Context}

reversed_snoc : {A : Type 0} (xs : List A) (x : A) → reversed (xs ++ x ∷ []) ≡ x ∷ reversed xs
reversed_snoc [] x = refl
reversed_snoc (y ∷ xs) x = ap (λ ys. ys ++ y ∷ []) (reversed_snoc xs x)

pub descended : (exprs : List ExprNode) (e at prefix : ExprNo) (above pushed : List ExprNo) → Spine exprs e (reversed above) at
    → prefix_of (expr_of exprs at) ≡ Some (expr_of exprs prefix) → pushed ≡ above ++ at ∷ [] → Spine exprs e (reversed pushed) prefix
descended exprs e at prefix above pushed spine child is =
    subst (λ xs. Spine exprs e xs prefix) (sym (ap reversed is ∙ reversed_snoc above at)) (child, spine)

-- behind what is found at the prefix stands what the node adds
pub one_more : (c : Context) (start : Told) (t : Expr) → add_all (add_all start (found_of c (prefix_of t))) (own_found c t) ≡ add_all start (unit_found c t)
one_more c start (Selected e at name prefix) = sym (add_append start (unit_found c prefix) (member_found c e at name (unit_entity c prefix)))
one_more c start (Number e at n) = refl
one_more c start (Identifier e at name) = refl
one_more c start (Applied e at prefix arguments) = refl
one_more c start (Attribute e at name prefix arguments) = refl
one_more c start (RangeAttribute e at prefix arguments) = refl
one_more c start (Qualified e at mark value) = refl
one_more c start (Argument e at value) = refl
one_more c start (NamedArgument e at formal value) = refl
one_more c start (Parenthesized e at inner) = refl
one_more c start (Unary e at operator operand) = refl
one_more c start (Binary e at operator place left right) = refl
one_more c start (InRange e at is_not value low high) = refl
one_more c start (InMark e at is_not value mark) = refl
one_more c start (Conditional e at condition rest) = refl
one_more c start (Positional e at has_others first rest) = refl
one_more c start (Named e at first rest) = refl
one_more c start (Association e at first rest) = refl
one_more c start (ValueChoice e at value) = refl
one_more c start (RangeChoice e at low high) = refl
one_more c start (OthersChoice e at) = refl
one_more c start (Indication e at mark) = refl
one_more c start (Constrained e at mark low high) = refl
one_more c start (SubtypeRange e at subtype) = refl
one_more c start (BoundsRange e at low high) = refl
one_more c start (AttributeRange e at attribute) = refl
one_more c start (EndName e at name) = refl
one_more c start (Absent e) = refl

-- what is known of e, or of the prefix of the next on the way up to it
abbrev pub IsRead : Context → List ExprNode → ExprNo → Told → List ExprNo → Entity → Told → Type 0
IsRead c exprs e start [] a found = (a ≡ unit_entity c (expr_of exprs e)) × (found ≡ add_all start (unit_found c (expr_of exprs e)))
IsRead c exprs e start (x ∷ xs) a found =
    (a ≡ entity_of c (prefix_of (expr_of exprs x))) × (found ≡ add_all start (found_of c (prefix_of (expr_of exprs x)))) × Spine exprs e xs x

-- behind a node that is read
pub read_at : (c : Context) (exprs : List ExprNode) (e x : ExprNo) (start : Told) (xs : List ExprNo) (a : Entity) (found : Told) → Spine exprs e xs x
    → a ≡ unit_entity c (expr_of exprs x) → found ≡ add_all start (unit_found c (expr_of exprs x)) → IsRead c exprs e start xs a found
read_at c exprs e x start [] a found spine h k =
    (h ∙ ap (λ (y : ExprNo). unit_entity c (expr_of exprs y)) spine, k ∙ ap (λ (y : ExprNo). add_all start (unit_found c (expr_of exprs y))) spine)
read_at c exprs e x start (y ∷ ys) a found spine h k =
    (h ∙ sym (ap (entity_of c) spine.0), k ∙ sym (ap (λ o. add_all start (found_of c o)) spine.0), spine.1)

pub read_pop : (c : Context) (exprs : List ExprNode) (e x : ExprNo) (start : Told) (above all : List ExprNo) (a : Entity) (found : Told) → all ≡ above ++ x ∷ []
    → IsRead c exprs e start (reversed all) a found
    → (a ≡ entity_of c (prefix_of (expr_of exprs x))) × (found ≡ add_all start (found_of c (prefix_of (expr_of exprs x)))) × Spine exprs e (reversed above) x
read_pop c exprs e x start above all a found is h = subst (λ xs. IsRead c exprs e start xs a found) (ap reversed is ∙ reversed_snoc above x) h

pub read_none : (c : Context) (exprs : List ExprNode) (e : ExprNo) (start : Told) (above : List ExprNo) (a : Entity) (found : Told) → above ≡ []
    → IsRead c exprs e start (reversed above) a found → (a ≡ unit_entity c (expr_of exprs e)) × (found ≡ add_all start (unit_found c (expr_of exprs e)))
read_none c exprs e start above a found is h = subst (λ xs. IsRead c exprs e start (reversed xs) a found) is h

-- the step at a node, over what was found at its prefix
pub step : (c : Context) (start before after : Told) (t : Expr) → before ≡ add_all start (found_of c (prefix_of t)) → after ≡ add_all before (own_found c t)
    → after ≡ add_all start (unit_found c t)
step c start before after t h k = k ∙ ap (λ b. add_all b (own_found c t)) h ∙ one_more c start t

-- at the lowest nothing was found before
pub first_step : (c : Context) (start after : Told) (t : Expr) → prefix_of t ≡ None → after ≡ add_all start (own_found c t) → after ≡ add_all start (unit_found c t)
first_step c start after t none k = step c start start after t (sym (ap (λ o. add_all start (found_of c o)) none)) k
