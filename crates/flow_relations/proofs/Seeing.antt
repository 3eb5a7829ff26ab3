-- The equation looks at the rows of callees alone, and more known of these is more known of the caller.
use Rattle.std.proofs.Common.{ℕ, zero, suc, Bool, true, false, cond, Option, Some, None, inl, inr}
use Rattle.std.specs.Prelude.{slice_get}
use Rattle.spark_base.specs.declared.numbers.BodyNo.{BodyNo}
use Rattle.core_form.specs.declared.contract.Contract.{Contract}
use Rattle.core_form.specs.declared.program.Body.{Body}
use Rattle.core_form.specs.declared.program.Program.{Program}
use Rattle.core_form.specs.Code.{Code, Then, Clear, code_of}
use Rattle.flow_facts.specs.Flow.{Summary}
use Rattle.summary_rows.specs.declared.layout.Layout.{Layout}
use Rattle.summary_rows.specs.Facts.{Fact, Part, Returning, Reading, Writing, Keeping, Depending}
use Rattle.call_flow.specs.Calls.{IsCalled, IsLess}
use Rattle.call_flow.proofs.Grown.{calling_grows, flow_sees, row_grows}
use Rattle.flow_relations.specs.Equation.{clock_among, code_at_body, code_of_body, opened, starts_unset, whole_at, whole_code}
use Rattle.flow_relations.specs.Summaries.{calls_seen, equation_over, flow_with, row_leaf_of}
use Rattle.callee_view.specs.Seen.{contract_seen, known_of, of_body, row_told, seen, seen_by}
use Rattle.callee_view.specs.Signatures.{signature_of}

less_itself : (k : Summary) → IsLess k k
less_itself k = record { leaves = λ v. (λ x. x, λ x. x); returns = λ x. x; reads = λ v x. x; writes = λ v x. x; keeps = λ v x. x; depends = λ v w x. x }

known_less : (p : Program) (b : ℕ) (body : Body) (row more : Summary) → IsLess row more → (c : Option Contract) → IsLess (known_of p b body row c) (known_of p b body more c)
known_less p b body row more h None = h
known_less p b body row more h (Some c) = less_itself (known_of p b body row (Some c))

seen_by_less : (p : Program) (caller : Option Body) (b : ℕ) (row more : Summary) → IsLess row more → (o : Option Body) → IsLess (seen_by p caller b row o) (seen_by p caller b more o)
seen_by_less p caller b row more h None = h
seen_by_less p caller b row more h (Some body) = known_less p b body row more h (contract_seen caller body)

-- the facts of one body are within others
abbrev pub AreWithin : (Fact → Type 0) → (Fact → Type 0) → ℕ → Type 0
AreWithin R S b = (x : Part) → R (of_body b x) → S (of_body b x)

row_less : (l : Layout) (R S : Fact → Type 0) (b : ℕ) → AreWithin R S b → IsLess (row_told l R b) (row_told l S b)
row_less l R S b h = record {
  leaves = λ v. (λ x. x, λ x. x);
  returns = h Returning;
  reads = λ v. h (Reading v);
  writes = λ v. h (Writing v);
  keeps = λ v. h (Keeping v);
  depends = λ v w. h (Depending v w);
}

seen_less : (p : Program) (l : Layout) (R S : Fact → Type 0) (caller : Option Body) (b : BodyNo) → AreWithin R S b.0 → IsLess (seen p l R caller b) (seen p l S caller b)
unfolding seen
seen_less p l R S caller b h = seen_by_less p caller b.0 (row_told l R b.0) (row_told l S b.0) (row_less l R S b.0 h) (slice_get p.bodies b.0)

-- what the opening calls, the code calls
opened_calls : (b : ℕ) (unset : ℕ → Bool) (n first : ℕ) (code : Code) → IsCalled b (opened unset n first code) → IsCalled b code
opened_calls b unset zero first code k = k
opened_calls b unset (suc n) first code k = cases (unset first) (opened_calls b unset n (suc first) code) k
  where
    cases : (u : Bool) → (IsCalled b (opened unset n (suc first) code) → IsCalled b code)
        → IsCalled b (cond u (Then (Clear first) (opened unset n (suc first) code)) (opened unset n (suc first) code)) → IsCalled b code
    cases true f (inl x) = absurd x
    cases true f (inr x) = f x
    cases false f x = f x

whole_calls : (p : Program) (b c : ℕ) (o : Option Body) → IsCalled c (whole_at p b o) → IsCalled c (code_at_body p o)
whole_calls p b c None k = k
whole_calls p b c (Some body) k = opened_calls c (starts_unset p b body.formals) _ 0 (code_of p.exprs p.stmts body.code) k

-- the two laws at once
pub equation_sees : (p : Program) (l : Layout) (R S : Fact → Type 0) (b : ℕ) → ((c : ℕ) → IsCalled c (code_of_body p b) → AreWithin R S c)
    → IsLess (equation_over p l R b) (equation_over p l S b)
equation_sees p l R S b h =
    let caller = slice_get p.bodies b in
    row_grows (row_leaf_of l b) (flow_with p (calls_seen p l R caller) (whole_code p b)) (flow_with p (calls_seen p l S caller) (whole_code p b))
    (flow_sees _ (clock_among p.vars) (calls_seen p l R caller) (calls_seen p l S caller) (whole_code p b)
    (λ c x k. calling_grows _ (λ v. v) (signature_of p c.0) (seen p l R caller c) (seen p l S caller c)
    (seen_less p l R S caller c (h c.0 (whole_calls p b c.0 (slice_get p.bodies b) k))) x))
