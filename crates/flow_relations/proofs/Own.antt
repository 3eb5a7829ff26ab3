-- Where each leaf is its own number, code stays what it is.
use Rattle.std.proofs.Common.{◌≡◌, ℕ, Option, Some, None, refl, ap, ◌∙◌}
use Rattle.spark_base.specs.declared.numbers.LeafNo.{LeafNo}
use Rattle.core_form.specs.Code.{Expr, Exprs, Spot, Spots, NoSpot, AndSpot, Actuals, NoActual, AndActual, Code, Constant, Load, Operation, Choice, Listed, Checked, Nothing, And, At, Skip, Then, Assign, Clear, Branch, Repeat, Exit, Called, Guard, Delay, ReadClock, Stop}
use Rattle.flow_relations.specs.Equation.{names_of}
use Rattle.flow_relations.specs.Renamed.{renamed, renamed_actuals, renamed_all, renamed_barrier, renamed_code, renamed_spot, renamed_spots}

module _ (place : ℕ → ℕ) (own : (v : ℕ) → place v ≡ v) where
  mutual
    own_expr : (e : Expr) → renamed place e ≡ e
    own_expr (Constant n) = refl
    own_expr (Load spot at) = ap (λ s. Load s at) (own_spot spot)
    own_expr (Operation op args) = ap (λ es. Operation op es) (own_exprs args)
    own_expr (Choice test a b) = rw (own_expr test, own_expr a, own_expr b) refl
    own_expr (Listed parts) = ap (λ es. Listed es) (own_exprs parts)
    own_expr (Checked e low high) = ap (λ x. Checked x low high) (own_expr e)

    own_exprs : (es : Exprs) → renamed_all place es ≡ es
    own_exprs Nothing = refl
    own_exprs (And e es) = rw (own_expr e, own_exprs es) refl

    own_spot : (spot : Spot) → renamed_spot place spot ≡ spot
    own_spot (At leaf part whole cells) = rw (own leaf, own_exprs part) refl

  own_spots : (spots : Spots) → renamed_spots place spots ≡ spots
  own_spots NoSpot = refl
  own_spots (AndSpot spot spots) = rw (own_spot spot, own_spots spots) refl

  own_actuals : (actuals : Actuals) → renamed_actuals place actuals ≡ actuals
  own_actuals NoActual = refl
  own_actuals (AndActual formal values spots at rest) = rw (own_exprs values, own_spots spots, own_actuals rest) refl

  own_barrier : (b : Option LeafNo) → renamed_barrier place b ≡ b
  own_barrier None = refl
  own_barrier (Some leaf) = ap (λ v. Some (record { 0 = v })) (own leaf.0)

  own_code : (c : Code) → renamed_code place c ≡ c
  own_code Skip = refl
  own_code (Then a b) = rw (own_code a, own_code b) refl
  own_code (Assign to e at) = rw (own_spot to, own_expr e) refl
  own_code (Clear leaf) = ap (λ v. Clear v) (own leaf)
  own_code (Branch e a b) = rw (own_expr e, own_code a, own_code b) refl
  own_code (Repeat a) = ap (λ x. Repeat x) (own_code a)
  own_code (Exit o) = refl
  own_code (Called b actuals at) = ap (λ x. Called b x at) (own_actuals actuals)
  own_code (Guard o barrier c) = rw (own_barrier barrier, own_code c) refl
  own_code (Delay e) = ap (λ x. Delay x) (own_expr e)
  own_code (ReadClock to) = ap (λ s. ReadClock s) (own_spot to)
  own_code Stop = refl

  -- the names by their own numbers
  pub own_names : (clock : ℕ) (c : Code) (v : ℕ) → names_of (place clock) (renamed_code place c) v ≡ names_of clock c v
  own_names clock c v = ap (λ x. names_of (place clock) x v) (own_code c) ∙ ap (λ k. names_of k c v) (own clock)
