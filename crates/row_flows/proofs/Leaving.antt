-- No more loops are left than stand around a statement, whatever its calls do that go on alone.
use Rattle.std.proofs.Common.{◌≡◌, ℕ, zero, suc, ◌<◌, inl, inr, true, false, arith}
use Rattle.spark_base.specs.declared.numbers.BodyNo.{BodyNo}
use Rattle.core_form.specs.Code.{At, Actuals, Outcome, Next, Leaves, Returns, Code, Skip, Then, Assign, Clear, Branch, Repeat, Exit, Called, Guard, Delay, ReadClock, Stop}
use Rattle.core_form.specs.Exits.{ExitsIn}
use Rattle.call_flow.specs.declared.signatures.Signature.{Signature}
use Rattle.call_flow.specs.Calls.{calling, knowing, last_name, stands}
use Rattle.flow_facts.specs.Flow.{Flow, Summary, flow, unrolling}
use Rattle.flow_relations.proofs.Chains.{parts_alone}

-- a round leaves what the body leaves
rounds_leave : (void : ℕ) (f : Flow) (n : ℕ) (o : Outcome) → (unrolling void f n).can o → f.can o
rounds_leave void f zero o c = absurd c
rounds_leave void f (suc n) o (inl c) = c.1
rounds_leave void f (suc n) o (inr c) = rounds_leave void f n o c.1

module _ (void clock : ℕ) (call : BodyNo → Actuals → Flow) (alone : (b : BodyNo) (actuals : Actuals) (o : Outcome) → (call b actuals).can o → o ≡ Next) where
  pub leaves_in : (d : ℕ) (a : Code) → ExitsIn d a → (n : ℕ) → (flow void clock call a).can (Leaves n) → n < d
  leaves_in d Skip e n c = let z : Leaves n ≡ Next = c in absurd (cc)
  leaves_in d (Then a b) e n (inl c) = leaves_in d a e.0 n c.1
  leaves_in d (Then a b) e n (inr c) = leaves_in d b e.1 n c.1
  leaves_in d (Assign (At leaf part true count) x at) e n c = let z : Leaves n ≡ Next = c in absurd (cc)
  leaves_in d (Assign (At leaf part false count) x at) e n c = let z : Leaves n ≡ Next = c in absurd (cc)
  leaves_in d (Clear leaf) e n c = let z : Leaves n ≡ Next = c in absurd (cc)
  leaves_in d (Branch x a b) e n (inl c) = leaves_in d a e.0 n c
  leaves_in d (Branch x a b) e n (inr c) = leaves_in d b e.1 n c
  leaves_in d (Repeat a) e n c = let l : suc n < suc d = leaves_in (suc d) a e (suc n) (rounds_leave void (flow void clock call a) c.0 (Leaves (suc n)) c.1) in omega arith
  leaves_in d (Exit Next) e n c = let z : Leaves n ≡ Next = c in absurd (cc)
  leaves_in d (Exit (Leaves k)) e n c = let y : Leaves n ≡ Leaves k = c in let z : n ≡ k = cc in omega (arith, e)
  leaves_in d (Exit Returns) e n c = let z : Leaves n ≡ Returns = c in absurd (cc)
  leaves_in d (Called b actuals at) e n c = let z : Leaves n ≡ Next = alone b actuals (Leaves n) c in absurd (cc)
  leaves_in d (Guard o barrier b) e n c = leaves_in d b e n c
  leaves_in d (Delay x) e n c = let z : Leaves n ≡ Next = c in absurd (cc)
  leaves_in d (ReadClock (At leaf part true count)) e n c = let z : Leaves n ≡ Next = c in absurd (cc)
  leaves_in d (ReadClock (At leaf part false count)) e n c = let z : Leaves n ≡ Next = c in absurd (cc)
  leaves_in d Stop e n c = absurd c

-- a call goes on alone
pub calling_alone : (void : ℕ) (own : ℕ → ℕ) (s : Signature) (k : Summary) (actuals : Actuals) (o : Outcome) → (calling void own s k actuals).can o → o ≡ Next
calling_alone void own s k actuals o c = parts_alone void (last_name void s) s actuals (knowing (last_name void s) (stands own void s.leaves) k) (λ out h. h.0) o c
