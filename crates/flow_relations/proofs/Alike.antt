-- Expressions and places by two numberings that agree of the leaves that they name.
use Rattle.std.proofs.Common.{◌≡◌, ℕ, inl, inr, refl, ap}
use Rattle.core_form.specs.Code.{Expr, Exprs, Spot, Constant, Load, Operation, Choice, Listed, Checked, Nothing, And, At}
use Rattle.flow_facts.specs.Flow.{reads_of, reads_of_all, reads_of_spot}
use Rattle.flow_relations.specs.Renamed.{renamed, renamed_all, renamed_spot}

module _ (f g : ℕ → ℕ) where
  mutual
    pub expr_alike : (e : Expr) → ((v : ℕ) → reads_of e v → f v ≡ g v) → renamed f e ≡ renamed g e
    expr_alike (Constant c) h = refl
    expr_alike (Load spot at) h = ap (λ s. Load s at) (spot_alike spot h)
    expr_alike (Operation op args) h = ap (λ es. Operation op es) (all_alike args h)
    expr_alike (Choice test a b) h =
        let t = expr_alike test (λ v x. h v (inl x)) in
        let y = expr_alike a (λ v x. h v (inr (inl x))) in
        let n = expr_alike b (λ v x. h v (inr (inr x))) in
        cc
    expr_alike (Listed parts) h = ap (λ es. Listed es) (all_alike parts h)
    expr_alike (Checked e low high) h = ap (λ x. Checked x low high) (expr_alike e h)

    pub all_alike : (es : Exprs) → ((v : ℕ) → reads_of_all es v → f v ≡ g v) → renamed_all f es ≡ renamed_all g es
    all_alike Nothing h = refl
    all_alike (And e es) h = let x = expr_alike e (λ v y. h v (inl y)) in let xs = all_alike es (λ v y. h v (inr y)) in cc

    pub spot_alike : (spot : Spot) → ((v : ℕ) → reads_of_spot spot v → f v ≡ g v) → renamed_spot f spot ≡ renamed_spot g spot
    spot_alike (At leaf part whole cells) h = let x = h leaf (inl refl) in let xs = all_alike part (λ v y. h v (inr y)) in cc
