-- The flow of a call over any second part, and what is known of the calls of a body.
use Rattle.std.specs.Prelude.{ℕ, ◌+◌, ◌<◌, ◌≤◌, ◌^◌, cond, nat_eq, List, [], ◌∷◌, length}
use Rattle.spark_base.specs.declared.numbers.BodyNo.{BodyNo}
use Rattle.core_form.specs.Code.{Actuals, Next}
use Rattle.flow_facts.specs.Flow.{Flow, leaving, nowhere, seq}
use Rattle.call_flow.specs.declared.signatures.Signature.{Signature}
use Rattle.call_flow.specs.Calls.{actuals_in, actuals_out, dropped, knowing, last_name, passing_at}
use Rattle.call_flow.specs.Told.{IsKnown, known_told, name_in}
use Rattle.flow_relations.specs.declared.callees.Callee.{Callee}

-- what is passed lies within the leaves
pub record AreWithin (s : Signature) : Type 0 where
  pub ins : (n : ℕ) → (passing_at s n).first + (passing_at s n).ins ≤ length s.leaves
  pub backs : (n : ℕ) → (passing_at s n).first + (passing_at s n).backs ≤ length s.leaves

-- the three parts, without the names of the call's own
abbrev pub called_by : ℕ → Signature → Flow → Actuals → Flow
called_by void s second actuals =
    dropped void (last_name void s)
    (actuals_in void (last_name void s) s actuals (seq (last_name void s) second (actuals_out void (last_name void s) s actuals (leaving (last_name void s) Next))))

-- Callees, in numbers of the caller's frame

pub record IsCallee (void : ℕ) (c : Callee) : Type 0 where
  pub signature : AreWithin c.signature
  pub room : last_name void c.signature + 1 < 2 ^ 32
  pub known : IsKnown (last_name void c.signature) c.known

-- a call of one of them
abbrev pub call_of : ℕ → Callee → Actuals → Flow
call_of void c actuals = called_by void c.signature (knowing (last_name void c.signature) (name_in c.known.names.items) (known_told c.known)) actuals

-- a call of the first that is this body; of another body nothing is known, and its call is not gone through
abbrev pub calls_of : ℕ → List Callee → BodyNo → Actuals → Flow
calls_of void [] b actuals = nowhere
calls_of void (c ∷ cs) b actuals = cond (nat_eq c.body.0 b.0) (call_of void c actuals) (calls_of void cs b actuals)
