-- The leaves of which a caller sees a body speak, in a list.
use Rattle.std.specs.Prelude.{ℕ, ◌↔◌, List, Option}
use Rattle.spark_base.specs.declared.numbers.BodyNo.{BodyNo}
use Rattle.spark_base.specs.declared.numbers.LeafNo.{LeafNo}
use Rattle.core_form.specs.declared.program.Body.{Body}
use Rattle.core_form.specs.declared.program.Program.{Program}
use Rattle.summary_rows.specs.declared.layout.Layout.{Layout}
use Rattle.summary_rows.specs.Layout.{IsAt}
use Rattle.callee_view.specs.Seen.{seen}

-- the list has these leaves and no others; which they are does not depend on the facts that rows tell
abbrev pub AreSeenLeaves : Program → Layout → Option Body → BodyNo → List LeafNo → Type 0
AreSeenLeaves p l caller b leaves = (v : ℕ) → (seen p l (λ f. ⊥) caller b).leaves v ↔ ((i : ℕ) × IsAt leaves v i)
