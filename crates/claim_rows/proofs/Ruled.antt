-- The equation of rules on facts.
use Rattle.std.proofs.Common.{ℕ, Bool, List, IsTrue, subst}
use Rattle.least_solution.specs.Least.{Among, IsListed, SeesCallees}
use Rattle.least_solution.specs.Rules.{Rule, follows}
use Rattle.summary_rows.specs.declared.layout.Layout.{Layout}
use Rattle.summary_rows.specs.Facts.{Fact}
use Rattle.summary_rows.specs.Layout.{facts}
use Rattle.claim_rows.specs.Placed.{AreOf}

module _ (l : Layout) (calls : ℕ → ℕ → Bool) (rules : List (Rule Fact)) (are : AreOf l calls rules) where
  pub rules_listed : IsListed (facts l) (follows rules)
  rules_listed R f x = subst (λ (g : Fact). Among g (facts l)) x.1.1.0 (are.makes x.0 x.1.0)

  pub rules_see : SeesCallees (λ (f : Fact). f.owner) (λ a b. IsTrue (calls a b)) (follows rules)
  rules_see R S f h x = (x.0, (x.1.0, (x.1.1.0, λ g a. h g (subst (λ (e : Fact). IsTrue (calls e.owner g.owner)) x.1.1.0 (are.needs x.0 x.1.0 g a)) (x.1.1.1 g a))))
