use Rattle.std.proofs.Common.{◌≡◌, suc, ◌-◌, ◌<◌, length, ◌∷◌, drop, get_or, arith, ap, sym, ◌∙◌}
use Rattle.std.proofs.Math.Seq.{drop-cons}
use Rattle.flow_facts.proofs.Same.{same_through}
use Rattle.flow_relations.proofs.Chains.{spots_same}
use Rattle.flow_relations.proofs.calls.prepend_outs.Goals as goal

pub loop-i-preserved : goal.loop-i-preserved
loop-i-preserved c =
    let i = c.loop-i.i in
    let within : i - 1 < length c.args.list.now = omega arith in
    let next : suc (i - 1) ≡ i = omega arith in
    let here : get_or c.args.list.now (i - 1) c.index-list-i.result ≡ c.index-list-i.result = sym c.index-list-i.is in
    let split : drop (i - 1) c.args.list.now ≡ c.index-list-i.result ∷ drop i c.args.list.now =
    drop-cons c.args.list.now (i - 1) c.index-list-i.result within ∙ (ap (λ n. get_or c.args.list.now (i - 1) c.index-list-i.result ∷ drop n c.args.list.now) next ∙ ap (λ x. x ∷ drop i c.args.list.now) here) in
    record {
      size = c.prepend_out.ensures.size;
      room = c.prepend_out.ensures.room;
      flow = rw split (same_through _ _ _ c.prepend_out.ensures.flow (spots_same c.args.big _ _ c.loop-i.invariant.flow _ _ _));
    }
