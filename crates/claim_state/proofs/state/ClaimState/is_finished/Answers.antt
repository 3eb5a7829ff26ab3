use Rattle.std.proofs.Common.{ℕ, ◌≡◌, ◌<◌, ◌↔◌, All, List, [], length, refl, sym, ◌∙◌, subst, arith}
use Rattle.std.specs.Prelude.{slice_index_or}
use Rattle.std.proofs.lemmas.Bool.{false≢true}
use Rattle.std.proofs.lemmas.List.{get_or_read}
use Rattle.spark_base.specs.declared.numbers.BodyNo.{BodyNo}
use Rattle.call_lists.specs.Lists.{Names}
use Rattle.body_calls.specs.Callees.{Calls}
use Rattle.claim_state.proofs.Calling.{calls_decide, names_below}
use Rattle.claim_state.proofs.Found.{callee_is}
use Rattle.claim_state.proofs.state.ClaimState.is_finished.Goals as goal

pub returns-then-not-has_read_callees : goal.returns-then-not-has_read_callees
returns-then-not-has_read_callees c =
    let s = c.args.self.now in
    let p = s.program.now in
    let l = s.layout.now in
    let b : ℕ = c.args.b.0 in
    let is = c.requires.state.fit.layout.layout in
    let laid = c.requires.state.fit.layout.bodies in
    let size = c.requires.state.callees.size in
    let body = c.requires.body in
    let lt : b < length s.callees.items = omega (arith, body, laid, size) in
    let e : c.as_slice.result.now ≡ slice_index_or s.callees.items b [] = c.as_slice.ensures ∙ get_or_read s.callees.items b c.index.result.now lt c.index.ensures [] in
    let named : (d : ℕ) → Names c.as_slice.result.now d ↔ Calls p b d =
    subst (λ (bs : List BodyNo). (d : ℕ) → Names bs d ↔ Calls p b d) (sym e) (λ d. c.requires.state.called b d) in
    let below : All (λ (x : BodyNo). x.0 < length p.bodies) c.as_slice.result.now =
    subst (λ (bs : List BodyNo). All (λ (x : BodyNo). x.0 < length p.bodies) bs) (sym e) (c.requires.state.callees.below b [] lt) in (
      (λ t. absurd (false≢true t)),
      (λ f. c.if-not-has_read_callees.ensures.1 (λ d w m row. (let n = names_below (length p.bodies) c.as_slice.result.now below d m in
          f.read w ((callee_is p l is b w).1 (d, ((calls_decide p b d).1 ((named d).0 m), (omega (arith, n, laid), row))))))),
    )

pub returns : goal.returns
returns c =
    let s = c.args.self.now in
    let p = s.program.now in
    let l = s.layout.now in
    let b : ℕ = c.args.b.0 in
    let is = c.requires.state.fit.layout.layout in
    let laid = c.requires.state.fit.layout.bodies in
    let size = c.requires.state.callees.size in
    let body = c.requires.body in
    let lt : b < length s.callees.items = omega (arith, body, laid, size) in
    let e : c.as_slice.result.now ≡ slice_index_or s.callees.items b [] = c.as_slice.ensures ∙ get_or_read s.callees.items b c.index.result.now lt c.index.ensures [] in
    let named : (d : ℕ) → Names c.as_slice.result.now d ↔ Calls p b d =
    subst (λ (bs : List BodyNo). (d : ℕ) → Names bs d ↔ Calls p b d) (sym e) (λ d. c.requires.state.called b d) in
    let below : All (λ (x : BodyNo). x.0 < length p.bodies) c.as_slice.result.now =
    subst (λ (bs : List BodyNo). All (λ (x : BodyNo). x.0 < length p.bodies) bs) (sym e) (c.requires.state.callees.below b [] lt) in (
      (λ t. record {
        read = λ w h. (let k = (callee_is p l is b w).0 h in c.if-not-has_read_callees.ensures.0 refl k.0 w ((named k.0).1 ((calls_decide p b k.0).0 k.1.0)) k.1.1.1);
        joined = c.has_joined-joined.ensures.0 t;
      }),
      (λ f. c.has_joined-joined.ensures.1 f.joined),
    )
