-- What is asked of a system, in words of rows; and systems that rules give.
use Rattle.std.proofs.Common.{◌≡◌, ◌⊎◌, inl, inr, ℕ, Bool, List, [], ◌∷◌, length, Option, None, Some, eq-eqb, refl, sym, ap, ◌∙◌, subst, IsTrue}
use Rattle.std.specs.Prelude.{◌==◌}
use Rattle.std.proofs.lemmas.Bool.{false≢true, cases_eq, eqb-true}
use Rattle.least_solution.specs.Least.{Among, Grows, IsListed}
use Rattle.least_solution.specs.Rules.{Rule, follows}
use Rattle.least_solution.proofs.Applied.{applied_within}
use Rattle.least_solution.proofs.Closed as closed
use Rattle.least_solution.proofs.Members.{among_map}
use Rattle.least_solution.proofs.Rules.{rules_finite}
use Rattle.claim_core.specs.Bits.{Within, HasBit, Bit, IsSetIn}
use Rattle.claim_core.specs.System.{System, IsSystem, in_row, in_callee, owned_by, Solves, InLeast, IsLeast, Ruled, IsRuled, made_by, system_of}
use Rattle.claim_core.proofs.Words.{within_has}

pub owned : (test : ℕ → Bool) (o : Option ℕ) → IsTrue (owned_by test o) → (c : ℕ) × (o ≡ Some c) × IsTrue (test c)
owned test None h = absurd (false≢true h)
owned test (Some c) h = (c, refl, h)

pub row_owner : (sys : System) (b w : ℕ) → IsTrue (in_row sys b w) → sys.owner w ≡ Some b
row_owner sys b w h = let o = owned (λ c. c == b) (sys.owner w) h in o.1 ∙ ap Some (eqb-true o.0 b o.2)

pub owner_row : (sys : System) (b w : ℕ) → sys.owner w ≡ Some b → IsTrue (in_row sys b w)
owner_row sys b w e = subst (λ o. IsTrue (owned_by (λ c. c == b) o)) (sym e) (eq-eqb b b refl)

pub same_bit : (x y : Bit) → (x ≡ y) ⊎ (x ≡ y → ⊥)
same_bit x y = elim (cases_eq x.word y.word) [
  | inl e ↦ (elim (cases_eq x.place y.place) [
    | inl d ↦ inl (λ i. record { word = e i; place = d i })
    | inr n ↦ inr (λ q. n (ap (λ (z : Bit). z.place) q))
  ])
  | inr n ↦ inr (λ q. n (ap (λ (z : Bit). z.word) q))
]

module _ (sys : System) (laws : IsSystem sys) where
  -- more bits make no less
  pub equation_grows : Grows sys.equation
  equation_grows R S x h e = let o = laws.has_owner x (laws.listed R x e) in laws.sees R S x o.0 o.1 (λ y _. h y) e

  pub words_grow : (r s : ℕ → ℕ) → ((u : ℕ) → Within (r u) (s u)) → (x : Bit) → sys.equation (IsSetIn r) x → sys.equation (IsSetIn s) x
  words_grow r s h x e = equation_grows (IsSetIn r) (IsSetIn s) x (λ y. within_has (r y.word) (s y.word) y.place (h y.word)) e

  -- a body looks at the words of its callees alone
  pub words_see : (b : ℕ) (r s : ℕ → ℕ) → ((u : ℕ) → IsTrue (in_callee sys b u) → r u ≡ s u) → (x : Bit) → IsTrue (in_row sys b x.word)
      → sys.equation (IsSetIn r) x → sys.equation (IsSetIn s) x
  words_see b r s same x row e =
      laws.sees (IsSetIn r) (IsSetIn s) x b (row_owner sys b x.word row) (λ y callee h. subst (λ v. HasBit v y.place) (same y.word callee) h) e

  -- what follows from the least solution is in it
  pub least_closed : (x : Bit) → sys.equation (InLeast sys) x → InLeast sys x
  least_closed = closed.least_closed sys.facts sys.equation same_bit laws.listed equation_grows laws.finite

  -- rows in which each equation holds have all bits of the least solution
  pub least_first : (rows : ℕ → ℕ) → ((x : Bit) → sys.equation (IsSetIn rows) x → IsSetIn rows x) → (x : Bit) → InLeast sys x → IsSetIn rows x
  least_first rows h x = applied_within sys.equation equation_grows (IsSetIn rows) h (length sys.facts) x

  pub solves_all : (rows : ℕ → ℕ) → Solves sys rows → (x : Bit) → sys.equation (IsSetIn rows) x → IsSetIn rows x
  solves_all rows h x e = let o = laws.has_owner x (laws.listed (IsSetIn rows) x e) in h o.0 x (owner_row sys o.0 x.word o.1) e

  -- the words of the least solution are a solution
  pub least_solves : (rows : ℕ → ℕ) → IsLeast sys rows → Solves sys rows
  least_solves rows is b x row e = (is x).1 (least_closed x (equation_grows (IsSetIn rows) (InLeast sys) x (λ y h. (is y).0 h) e))

module _ (r : Ruled) (is : IsRuled r) where
  made_of : (rules : List (Rule Bit)) (x : Bit) → Among x (made_by rules) → (rule : Rule Bit) × Among rule rules × (rule.makes ≡ x)
  made_of [] x a = absurd a
  made_of (rule ∷ rules) x (inl e) = (rule, inl refl, sym e)
  made_of (rule ∷ rules) x (inr a) = let m = made_of rules x a in (m.0, inr m.1, m.2)

  made_listed : IsListed (made_by r.rules) (follows r.rules)
  made_listed R x e = subst (λ y. Among y (made_by r.rules)) e.1.1.0 (among_map (λ (rule : Rule Bit). rule.makes) e.0 r.rules e.1.0)

  pub rules_system : IsSystem (system_of r)
  rules_system = record {
    sees = λ R S x b o h e. (
      e.0,
      (
        e.1.0,
        (
          e.1.1.0,
          λ y a. h y
              (is.needs e.0 e.1.0 b (subst (λ z. r.owner z.word ≡ Some b) (sym e.1.1.0) o) y a) (e.1.1.1 y a),
        ),
      ),
    );
    listed = made_listed;
    finite = rules_finite r.rules;
    has_owner = λ x a. (let m = made_of r.rules x a in subst (λ z. (b : ℕ) × (r.owner z.word ≡ Some b)) m.2 (is.makes m.0 m.1));
    has_words = is.has_words;
    has_callers = is.has_callers;
  }
