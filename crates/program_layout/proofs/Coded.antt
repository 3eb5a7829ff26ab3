-- The code of bodies: what it names and knows stands in a body of the program.
use Rattle.std.proofs.Common.{◌≡◌, ℕ, ◌<◌, ◌≤◌, ◌⊎◌, ◌↔◌, None, Option, length, inl, inr, refl, subst, sym}
use Rattle.std.proofs.lemmas.Bool.{cases_lt}
use Rattle.std.proofs.lemmas.Option.{slice_get_past}
use Rattle.std.specs.Prelude.{slice_get}
use Rattle.spark_base.specs.declared.numbers.BodyNo.{BodyNo}
use Rattle.core_form.specs.declared.program.Program.{Program}
use Rattle.core_form.specs.Code.{Code, Skip, Then, Assign, Clear, Branch, Repeat, Exit, Called, Guard, Delay, ReadClock, Stop}
use Rattle.body_calls.specs.Callees.{HasCall}
use Rattle.flow_relations.specs.Equation.{clock_among, code_at_body, code_of_body, names_of}
use Rattle.flow_relations.specs.Summaries.{knows_of}

no_code : (p : Program) (b : ℕ) → length p.bodies ≤ b → code_of_body p b ≡ Stop
no_code p b g = rw (slice_get_past p.bodies b g, code_of_body) refl

pub named_within : (p : Program) (b v : ℕ) → names_of (clock_among p.vars) (code_of_body p b) v → b < length p.bodies
named_within p b v h = elim (cases_lt b (length p.bodies)) [
  | inl l ↦ l
  | inr g ↦ absurd (subst (λ (code : Code). names_of (clock_among p.vars) code v) (no_code p b g) h)
]

-- code knows of a leaf where it calls a body that is seen to speak of it
pub knows_called : (known : BodyNo → ℕ → Type 0) (code : Code) (v : ℕ) → knows_of known code v ↔
    ((c : BodyNo) × (HasCall code c.0 × known c v))
knows_called known Skip v = (λ h. absurd h, λ t. t.1.0)
knows_called known (Then a b) v = (
  λ h. elim h [
    | inl x ↦ (let t = (knows_called known a v).0 x in (t.0, (inl t.1.0, t.1.1)))
    | inr x ↦ (let t = (knows_called known b v).0 x in (t.0, (inr t.1.0, t.1.1)))
  ],
  λ t. elim t.1.0 [
    | inl x ↦ inl ((knows_called known a v).1 (t.0, (x, t.1.1)))
    | inr x ↦ inr
        ((knows_called known b v).1 (t.0, (x, t.1.1)))
  ],
)
knows_called known (Assign to e at) v = (λ h. absurd h, λ t. t.1.0)
knows_called known (Clear leaf) v = (λ h. absurd h, λ t. t.1.0)
knows_called known (Branch e a b) v = (
  λ h. elim h [
    | inl x ↦ (let t = (knows_called known a v).0 x in (t.0, (inl t.1.0, t.1.1)))
    | inr x ↦ (let t = (knows_called known b v).0 x in (t.0, (inr t.1.0, t.1.1)))
  ],
  λ t. elim t.1.0 [
    | inl x ↦ inl ((knows_called known a v).1 (t.0, (x, t.1.1)))
    | inr x ↦ inr
        ((knows_called known b v).1 (t.0, (x, t.1.1)))
  ],
)
knows_called known (Repeat a) v = knows_called known a v
knows_called known (Exit o) v = (λ h. absurd h, λ t. t.1.0)
knows_called known (Called b actuals at) v = (λ h. (b, (refl, h)), λ t. called b t.0 t.1.0 t.1.1)
  where
    called : (b c : BodyNo) → b.0 ≡ c.0 → known c v → known b v
    called b c e h = let d : b ≡ c = rw e refl in subst (λ (x : BodyNo). known x v) (sym d) h
knows_called known (Guard o barrier call) v = knows_called known call v
knows_called known (Delay e) v = (λ h. absurd h, λ t. t.1.0)
knows_called known (ReadClock to) v = (λ h. absurd h, λ t. t.1.0)
knows_called known Stop v = (λ h. absurd h, λ t. t.1.0)
