-- The equation that a list of rules gives.
use Rattle.std.proofs.Common.{ℕ, Bool, List, IsTrue, subst}
use Rattle.std.proofs.lemmas.Bool.{cases_eq}
use Rattle.least_solution.specs.Least.{applied, least, Among, IsListed, SeesCallees, Grows, IsFinite}
use Rattle.least_solution.specs.Rules.{Rule, AreRules, follows}
use Rattle.least_solution.proofs.Closed as closed

module _ {Fact : Type 0} (rules : List (Rule Fact)) where
  pub rules_grow : Grows (follows rules)
  rules_grow R S f h x = (x.0, (x.1.0, (x.1.1.0, λ g a. h g (x.1.1.1 g a))))

  -- a fact follows from what its rule needs
  pub rules_finite : IsFinite (follows rules)
  rules_finite R f x = (x.0.needs, x.1.1.1, (x.0, (x.1.0, (x.1.1.0, λ g a. a))))

module _ (all : List ℕ) (owner : ℕ → ℕ) (calls : ℕ → ℕ → Bool) (rules : List (Rule ℕ)) (are : AreRules all owner calls rules) where
  pub rules_listed : IsListed all (follows rules)
  rules_listed R f x = subst (λ k. Among k all) x.1.1.0 (are.listed x.0 x.1.0)

  pub rules_see : SeesCallees owner (λ b c. IsTrue (calls b c)) (follows rules)
  rules_see R S f h x = (x.0, (x.1.0, (x.1.1.0, λ g a. h g (subst (λ k. IsTrue (calls (owner k) (owner g))) x.1.1.0 (are.called x.0 x.1.0 g a)) (x.1.1.1 g a))))

  pub rules_applied : (n f : ℕ) → applied (follows rules) n f → least all (follows rules) f
  rules_applied = closed.applied_least all (follows rules) cases_eq rules_listed (rules_grow rules) (rules_finite rules)
