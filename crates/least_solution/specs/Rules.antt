-- An equation as a list of rules.
use Rattle.std.specs.Prelude.{◌≡◌, ℕ, List, Bool, IsTrue}
use Rattle.least_solution.specs.Least.{Among}

-- where all that it needs are facts, what it makes is one
pub record Rule (Fact : Type 0) : Type 0 where
  pub makes : Fact
  pub needs : List Fact

-- what the rules make of some facts
abbrev pub follows : {Fact : Type 0} → List (Rule Fact) → (Fact → Type 0) → Fact → Type 0
follows {Fact = Fact} rules R f =
    (rule : Rule Fact) × (Among rule rules × ((rule.makes ≡ f) × ((g : Fact) → Among g rule.needs → R g)))

-- Facts are numbers here. Each rule makes one of the list, and the owner of what it makes calls the owners of what it needs.
pub record AreRules (all : List ℕ) (owner : ℕ → ℕ) (calls : ℕ → ℕ → Bool) (rules : List (Rule ℕ)) : Type 0 where
  pub listed : (rule : Rule ℕ) → Among rule rules → Among rule.makes all
  pub called : (rule : Rule ℕ) → Among rule rules → (g : ℕ) → Among g rule.needs → IsTrue (calls (owner rule.makes) (owner g))
