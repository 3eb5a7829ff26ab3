-- The equations of all bodies: their facts stand in rows, and follow from finitely many facts of callees.
use Rattle.std.proofs.Common.{ℕ, ◌<◌, Option, Some, None, length, refl, arith}
use Rattle.std.specs.Prelude.{slice_get}
use Rattle.spark_base.specs.declared.numbers.BodyNo.{BodyNo}
use Rattle.core_form.specs.declared.contract.Contract.{Contract}
use Rattle.core_form.specs.declared.program.Body.{Body}
use Rattle.core_form.specs.declared.program.Program.{Program}
use Rattle.flow_facts.specs.Flow.{Summary}
use Rattle.least_solution.specs.Least.{IsListed, SeesCallees, Grows, IsFinite}
use Rattle.least_solution.proofs.Closed as closed
use Rattle.summary_rows.specs.declared.layout.Layout.{Layout}
use Rattle.summary_rows.specs.Facts.{Part, Returning, Reading, Writing, Keeping, Depending, Fact}
use Rattle.summary_rows.specs.Layout.{Stands, facts, outer_of}
use Rattle.summary_rows.proofs.Listed.{facts_listed, stands_listed}
use Rattle.claim_rows.proofs.Parts.{same_fact}
use Rattle.call_flow.specs.Calls.{IsCalled, IsLess}
use Rattle.callee_view.specs.Seen.{contract_seen, contract_told, known_of, of_body, row_told, seen, seen_by}
use Rattle.callee_view.specs.Signatures.{signature_of}
use Rattle.flow_relations.specs.Equation.{clock_among, code_of_body, whole_code}
use Rattle.flow_relations.specs.Summaries.{calls_seen, equation_over, flow_with, row_leaf_of}
use Rattle.flow_relations.proofs.Seeing.{equation_sees}
use Rattle.row_equations.specs.Packing.{holds}
use Rattle.row_equations.specs.Follow.{follows, least_row}
use Rattle.row_equations.proofs.Finite as finite

abbrev pub calls_of : Program → ℕ → ℕ → Type 0
calls_of p b c = IsCalled c (code_of_body p b)

abbrev owner_of : Fact → ℕ
owner_of f = f.owner

-- What follows stands in the row

row_stands : (p : Program) (l : Layout) (R : Fact → Type 0) (b : ℕ) (x : Part) → holds (equation_over p l R b) x → (n : ℕ) × Stands (outer_of l b) x n
row_stands p l R b Returning h = (_, refl)
row_stands p l R b (Reading v) h = (_, (h.0.0, (h.0.1, refl)))
row_stands p l R b (Writing v) h = (_, (h.0.0, (h.0.1, refl)))
row_stands p l R b (Keeping v) h = (_, (h.0.0, (h.0.1, refl)))
row_stands p l R b (Depending v w) h = (_, (h.0.0.0, (h.0.1.0, (h.0.0.1, (h.0.1.1, refl)))))

pub facts_stand : (p : Program) (l : Layout) (R : Fact → Type 0) (f : Fact) → follows p l R f
    → (f.owner < length l.outer) × ((n : ℕ) × Stands (outer_of l f.owner) f.part n)
unfolding follows
facts_stand p l R f h = (h.0, row_stands p l R f.owner f.part h.1)

pub listed : (p : Program) (l : Layout) → IsListed (facts l) (follows p l)
listed p l R f h =
    let s = facts_stand p l R f h in
    facts_listed 0 l.outer f.owner f.owner (omega arith) s.0 f.part (stands_listed (outer_of l f.owner) f.part s.1.0 s.1.1)

-- It follows from facts of callees

holds_more : (k m : Summary) → IsLess k m → (x : Part) → holds k x → holds m x
holds_more k m h Returning y = h.returns y
holds_more k m h (Reading v) y = h.reads v y
holds_more k m h (Writing v) y = h.writes v y
holds_more k m h (Keeping v) y = h.keeps v y
holds_more k m h (Depending v w) y = h.depends v w y

pub sees : (p : Program) (l : Layout) → SeesCallees owner_of (calls_of p) (follows p l)
unfolding follows
sees p l R S f h y =
    (y.0, holds_more (equation_over p l R f.owner) (equation_over p l S f.owner) (equation_sees p l R S f.owner (λ c k x. h (of_body c x) k)) f.part y.1)

pub grows : (p : Program) (l : Layout) → Grows (follows p l)
grows p l R S f h = sees p l R S f (λ g k. h g)

-- And from finitely many

row_good : (l : Layout) (b : ℕ) → finite.IsGoodSummary (λ R. row_told l R b)
row_good l b = record {
  leaves = λ R S v y. y;
  returns = finite.fact (of_body b Returning);
  reads = λ v. finite.fact (of_body b (Reading v));
  writes = λ v. finite.fact (of_body b (Writing v));
  keeps = λ v. finite.fact (of_body b (Keeping v));
  depends = λ v w. finite.fact (of_body b (Depending v w));
}

known_good : (p : Program) (l : Layout) (b : ℕ) (body : Body) (c : Option Contract) → finite.IsGoodSummary (λ R. known_of p b body (row_told l R b) c)
known_good p l b body None = row_good l b
known_good p l b body (Some c) = finite.fixed_summary (contract_told p b body c)

seen_by_good : (p : Program) (l : Layout) (caller : Option Body) (b : ℕ) (o : Option Body) → finite.IsGoodSummary (λ R. seen_by p caller b (row_told l R b) o)
seen_by_good p l caller b None = row_good l b
seen_by_good p l caller b (Some body) = known_good p l b body (contract_seen caller body)

seen_good : (p : Program) (l : Layout) (caller : Option Body) (b : BodyNo) → finite.IsGoodSummary (λ R. seen p l R caller b)
unfolding seen
seen_good p l caller b = seen_by_good p l caller b.0 (slice_get p.bodies b.0)

equation_good : (p : Program) (l : Layout) (b : ℕ) → finite.IsGoodSummary (λ R. equation_over p l R b)
equation_good p l b =
    let caller = slice_get p.bodies b in
    finite.row_good (row_leaf_of l b) (λ R. flow_with p (calls_seen p l R caller) (whole_code p b))
    (finite.flow_good (length p.leaves) (clock_among p.vars) (λ R. calls_seen p l R caller)
    (λ c x. finite.calling_good (length p.leaves) (λ v. v) (signature_of p c.0) (λ R. seen p l R caller c) (seen_good p l caller c) x) (whole_code p b))

holds_good : (K : (Fact → Type 0) → Summary) → finite.IsGoodSummary K → (x : Part) → finite.Good (λ R. holds (K R) x)
holds_good K k Returning = k.returns
holds_good K k (Reading v) = k.reads v
holds_good K k (Writing v) = k.writes v
holds_good K k (Keeping v) = k.keeps v
holds_good K k (Depending v w) = k.depends v w

pub is_finite : (p : Program) (l : Layout) → IsFinite (follows p l)
unfolding follows
is_finite p l R f y =
    let s = (holds_good (λ R. equation_over p l R f.owner) (equation_good p l f.owner) f.part).few R y.1 in
    (s.0, s.1.0, (y.0, s.1.1))

-- So the least solution meets the equations

pub least_closed : (p : Program) (l : Layout) (f : Fact) → follows p l (least_row p l) f → least_row p l f
least_closed p l f h = closed.least_closed (facts l) (follows p l) same_fact (listed p l) (grows p l) (is_finite p l) f h
