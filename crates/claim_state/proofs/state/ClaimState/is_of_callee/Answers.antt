use Rattle.std.proofs.Common.{ℕ, ◌≡◌, ◌<◌, ◌↔◌, All, List, [], length, sym, ◌∙◌, subst, arith}
use Rattle.std.specs.Prelude.{slice_index_or}
use Rattle.std.proofs.lemmas.List.{get_or_read}
use Rattle.spark_base.specs.declared.numbers.BodyNo.{BodyNo}
use Rattle.call_lists.specs.Lists.{Names}
use Rattle.body_calls.specs.Callees.{Calls}
use Rattle.claim_state.proofs.Calling.{calls_decide, names_below}
use Rattle.claim_state.proofs.Found.{callee_is}
use Rattle.claim_state.proofs.state.ClaimState.is_of_callee.Goals as goal

pub returns : goal.returns
returns c =
    let s = c.args.self.now in
    let p = s.program.now in
    let l = s.layout.now in
    let b : ℕ = c.args.b.0 in
    let is = c.requires.state.fit.layout.layout in
    let laid = c.requires.state.fit.layout.bodies in
    let size = c.requires.state.callees.size in
    let body = c.requires.body in
    let lt : b < length s.callees.items = omega (arith, body, laid, size) in
    let e : c.as_slice.result.now ≡ slice_index_or s.callees.items b [] = c.as_slice.ensures ∙ get_or_read s.callees.items b c.index.result.now lt c.index.ensures [] in
    let named : (d : ℕ) → Names c.as_slice.result.now d ↔ Calls p b d =
    subst (λ (bs : List BodyNo). (d : ℕ) → Names bs d ↔ Calls p b d) (sym e) (λ d. c.requires.state.called b d) in
    let below : All (λ (x : BodyNo). x.0 < length p.bodies) c.as_slice.result.now =
    subst (λ (bs : List BodyNo). All (λ (x : BodyNo). x.0 < length p.bodies) bs) (sym e) (c.requires.state.callees.below b [] lt) in (
      (λ t. (let h = c.one_has_word.ensures.0 t in
          let n = names_below (length p.bodies) c.as_slice.result.now below h.0 h.1.0 in
          (callee_is p l is b c.args.w.0).1 (h.0, ((calls_decide p b h.0).1 ((named h.0).0 h.1.0), (omega (arith, n, laid), h.1.1))))),
      (λ t. (let h = (callee_is p l is b c.args.w.0).0 t in c.one_has_word.ensures.1 (h.0, ((named h.0).1 ((calls_decide p b h.0).0 h.1.0), h.1.1.1)))),
    )
