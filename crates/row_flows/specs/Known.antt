-- What a body knows of its callees, in numbers of its frame.
use Rattle.std.specs.Prelude.{◌≡◌, ℕ, ◌<◌, ◌⊎◌, All, List, map, slice_get, length}
use Rattle.spark_base.specs.declared.numbers.LeafNo.{LeafNo}
use Rattle.core_form.specs.declared.program.Program.{Program}
use Rattle.core_form.specs.Code.{Code}
use Rattle.summary_rows.specs.declared.rows.Rows.{Rows}
use Rattle.summary_rows.specs.Layout.{IsAt, told}
use Rattle.call_flow.specs.Calls.{stands}
use Rattle.callee_view.specs.Seen.{seen}
use Rattle.callee_view.specs.Shown.{IsAbout, Shows}
use Rattle.callee_view.specs.Signatures.{signature_of}
use Rattle.contract_facts.specs.Seeing.{AreSeenLeaves}
use Rattle.flow_facts.specs.Flow.{IsSame}
use Rattle.flow_relations.specs.declared.callees.Callee.{Callee}
use Rattle.flow_relations.specs.declared.frame.Places.{Places}
use Rattle.flow_relations.specs.CallsTold.{IsCallee, calls_of}
use Rattle.flow_relations.specs.Equation.{code_of_body, whole_code}
use Rattle.flow_relations.specs.Framing.{IsFrameLeaf, IsFraming, framed, place_at, spread_of}
use Rattle.flow_relations.specs.Summaries.{calls_seen, flow_with, row_leaf_of}
use Rattle.row_flows.specs.declared.facts.BodyView.{BodyView}

-- what the callee's record says is what the body sees of it
pub record IsCalleeOf (p : Program) (rows : Rows) (b : ℕ) (places : Places) (c : Callee) : Type 0 where
  pub sound : IsCallee places.void c
  pub signature : c.signature ≡ signature_of p c.body.0
  -- the leaves of which the body sees it speak, and their names in a call
  pub leaves : List LeafNo
  pub listed : AreSeenLeaves p rows.layout (slice_get p.bodies b) c.body leaves
  pub below : (v i : ℕ) → IsAt leaves v i → v < length p.leaves
  pub names : c.known.names.items ≡ map (λ (leaf : LeafNo). stands (place_at places) places.void c.signature.leaves leaf.0) leaves
  pub shows : Shows leaves c.known (seen p rows.layout (told rows) (slice_get p.bodies b) c.body)
  pub about : IsAbout leaves (seen p rows.layout (told rows) (slice_get p.bodies b) c.body)

-- the flow of code by the view's numbers is that with what the body sees of its callees
abbrev pub IsToldBy : Program → Rows → ℕ → BodyView → Code → Type 0
IsToldBy p rows b x code = IsSame
    (spread_of x.framing.frame (framed p (calls_of x.framing.places.void x.callees.items) x.framing.places code))
    (flow_with p (calls_seen p rows.layout (told rows) (slice_get p.bodies b)) code)

pub record IsViewOf (p : Program) (rows : Rows) (b : ℕ) (x : BodyView) : Type 0 where
  pub framing : IsFraming (length p.leaves) (λ v. IsFrameLeaf p b v ⊎ row_leaf_of rows.layout b v) x.framing
  pub callees : All (IsCallee x.framing.places.void) x.callees.items
  pub code : IsToldBy p rows b x (code_of_body p b)
  pub whole : IsToldBy p rows b x (whole_code p b)
