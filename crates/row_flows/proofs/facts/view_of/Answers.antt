use Rattle.std.proofs.Common.{inl, inr}
use Rattle.flow_relations.specs.Equation.{code_of_body, whole_code}
use Rattle.flow_relations.proofs.Framings.{framing_in}
use Rattle.row_flows.proofs.Calls.{code_calls, whole_calls, whole_names}
use Rattle.row_flows.proofs.Told.{code_told}
use Rattle.row_flows.proofs.facts.view_of.Goals as goal

pub returns : goal.returns
returns c =
    let p = c.args.program.now in
    let b = c.args.body.0 in
    let rows = c.args.rows.now in
    let list = c.in_ok-list.list in
    let r = c.in_ok-framing.framing in
    let cs = c.in_ok-callees.callees.items in
    let h = rw c.as_slice.ensures at c.in_ok-framing.ensures in
    let are = rw c.as_slice-2.ensures at c.in_ok-callees.ensures.bodies in
    let each = c.in_ok-callees.ensures.callees in
    record {
      framing = framing_in _ _ _ (λ v x. elim x [ inl y ↦ inl y | inr y ↦ inr (inl y) ]) r h;
      callees = λ i d l. (each i d l).sound;
      code = code_told p rows b r list h cs are each (code_of_body p b) (λ v x. inl x) (λ k x. (c.in_ok-list.ensures.names k).1 (code_calls p b k x));
      whole = code_told p rows b r list h cs are each (whole_code p b) (whole_names p b) (λ k x. (c.in_ok-list.ensures.names k).1 (whole_calls p b k x));
    }
