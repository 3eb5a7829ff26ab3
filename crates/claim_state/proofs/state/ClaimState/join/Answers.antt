use Rattle.std.proofs.Common.{ℕ, ◌≡◌, ◌<◌, ◌↔◌, List, [], length, refl, sym, ◌∙◌, subst, arith}
use Rattle.std.specs.Prelude.{slice_index_or}
use Rattle.std.proofs.lemmas.List.{get_or_read}
use Rattle.spark_base.specs.declared.numbers.BodyNo.{BodyNo}
use Rattle.call_lists.specs.Lists.{Names}
use Rattle.body_calls.specs.Callees.{Calls}
use Rattle.claim_state.specs.State.{claims_of}
use Rattle.claim_state.proofs.Calling.{callers_of, names_are}
use Rattle.claim_state.proofs.state.ClaimState.join.Goals as goal

pub returns-clause-done : goal.returns-clause-done
returns-clause-done c =
    let s = c.args.self.now in
    let p = s.program.now in
    let held : ℕ = c.in_ok-held.held.0 in
    let body = c.in_ok-held.ensures.body in
    let laid = c.requires.fit.layout.bodies in
    let size = c.requires.callers.size in
    let lt : held < length s.callers.items = omega (arith, body, laid, size) in
    let list : c.as_slice-callers.result.now ≡ slice_index_or s.callers.items held [] = c.as_slice-callers.ensures ∙ get_or_read s.callers.items held c.index.result.now lt c.index.ensures [] in
    let named : (a : ℕ) → Names c.as_slice-callers.result.now a ↔ Calls p a held =
    subst (λ (bs : List BodyNo). (a : ℕ) → Names bs a ↔ Calls p a held) (sym list) (λ a. c.requires.calling a held) in
    record {
      accepted = c.in_ok-held.ensures.accepted;
      claims = c.join.ensures.told (callers_of p)
          (names_are p c.as_slice-callers.result.now held ((claims_of s).workers c.args.worker).holds c.in_ok-held.ensures.holds named);
      program = refl;
      layout = refl;
      workers = c.join.ensures.as_many.workers;
    }
