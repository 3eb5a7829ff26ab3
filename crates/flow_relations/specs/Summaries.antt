-- The row of a body whose code calls others, over the rows of these.
use Rattle.std.specs.Prelude.{ℕ, ◌⊎◌, Option, IsSomeAnd, slice_get, length}
use Rattle.spark_base.specs.declared.numbers.BodyNo.{BodyNo}
use Rattle.core_form.specs.declared.program.Body.{Body}
use Rattle.core_form.specs.declared.program.Program.{Program}
use Rattle.core_form.specs.Code.{Actuals, Code, Skip, Then, Assign, Clear, Branch, Repeat, Exit, Called, Guard, Delay, ReadClock, Stop}
use Rattle.core_form.specs.Fine.{home_of}
use Rattle.flow_facts.specs.Flow.{Flow, Summary, flow, row_of}
use Rattle.summary_rows.specs.declared.layout.Layout.{Layout}
use Rattle.summary_rows.specs.Facts.{Fact}
use Rattle.summary_rows.specs.Layout.{IsAt, outer_of}
use Rattle.call_flow.specs.Calls.{calling}
use Rattle.flow_relations.specs.Equation.{IsLibrary, IsPassed, clock_among, code_of_body, names_of, whole_code}
use Rattle.callee_view.specs.Seen.{seen}
use Rattle.callee_view.specs.Signatures.{signature_of}

-- what a caller knows of each call, where of each body its contract or these facts of rows are seen
abbrev pub calls_seen : Program → Layout → (Fact → Type 0) → Option Body → BodyNo → Actuals → Flow
calls_seen p l R caller b actuals = calling (length p.leaves) (λ v. v) (signature_of p b.0) (seen p l R caller b) actuals

-- the flow of code of a program, with what is known of calls
abbrev pub flow_with : Program → (BodyNo → Actuals → Flow) → Code → Flow
flow_with p call code = flow (length p.leaves) (clock_among p.vars) call code

-- a leaf of the row of a layout
abbrev pub row_leaf_of : Layout → ℕ → ℕ → Type 0
row_leaf_of l b v = (i : ℕ) × IsAt (outer_of l b) v i

-- the row that a body has by its code, where these facts of rows are told
abbrev pub equation_over : Program → Layout → (Fact → Type 0) → ℕ → Summary
equation_over p l R b = row_of (row_leaf_of l b) (flow_with p (calls_seen p l R (slice_get p.bodies b)) (whole_code p b))

-- Which leaves a row has

-- some callee is seen to speak of the leaf
abbrev pub knows_of : (BodyNo → ℕ → Type 0) → Code → ℕ → Type 0
knows_of known Skip v = ⊥
knows_of known (Then a b) v = knows_of known a v ⊎ knows_of known b v
knows_of known (Assign to e at) v = ⊥
knows_of known (Clear leaf) v = ⊥
knows_of known (Branch e a b) v = knows_of known a v ⊎ knows_of known b v
knows_of known (Repeat a) v = knows_of known a v
knows_of known (Exit o) v = ⊥
knows_of known (Called b actuals at) v = known b v
knows_of known (Guard o barrier c) v = knows_of known c v
knows_of known (Delay e) v = ⊥
knows_of known (ReadClock to) v = ⊥
knows_of known Stop v = ⊥

-- the library leaves that the code names and those of which callees are seen to speak, and the leaves of the formals and the result.
-- Of what a summary speaks does not depend on the facts
abbrev pub IsSummaryLeaf : Program → Layout → ℕ → ℕ → Type 0
IsSummaryLeaf p l b v = (IsSomeAnd (home_of p v) IsLibrary × (names_of (clock_among p.vars) (code_of_body p b) v
    ⊎ knows_of (λ c. (seen p l (λ f. ⊥) (slice_get p.bodies b) c).leaves) (code_of_body p b) v))
    ⊎ IsSomeAnd (home_of p v) (IsPassed b)
