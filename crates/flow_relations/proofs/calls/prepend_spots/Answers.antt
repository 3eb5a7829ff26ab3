use Rattle.std.proofs.Common.{◌≡◌, suc, ◌+◌, ◌-◌, ◌<◌, ◌≤◌, ◌⊎◌, inl, inr, List, length, ◌∷◌, drop, get_or, arith, ap, ◌∙◌, subst, sym}
use Rattle.std.proofs.Math.Seq.{drop-cons}
use Rattle.std.proofs.lemmas.Bool.{cases_lt}
use Rattle.std.proofs.lemmas.List.{drop_all}
use Rattle.core_form.specs.declared.code.Place.{Place}
use Rattle.core_form.specs.Code.{NoSpot, expr_of, spots_at}
use Rattle.flow_facts.specs.Flow.{IsSame}
use Rattle.flow_facts.specs.Told.{told}
use Rattle.call_flow.specs.Calls.{spots_out}
use Rattle.flow_relations.specs.Framing.{place_at}
use Rattle.flow_relations.specs.Renamed.{renamed_spots}
use Rattle.flow_facts.proofs.Same.{same_itself, same_through, seq_same}
use Rattle.flow_relations.proofs.Chains.{spots_end}
use Rattle.flow_relations.proofs.calls.prepend_spots.Goals as goal

pub loop-i-preserved : goal.loop-i-preserved
loop-i-preserved c =
    let i = c.loop-i.i in
    let within : i - 1 < length c.args.list.now = omega arith in
    let next : suc (i - 1) ≡ i = omega arith in
    let count : c.args.count - (i - 1) ≡ suc (c.args.count - i) = omega arith in
    let name : c.args.first + i ≡ suc (c.args.first + (i - 1)) = omega arith in
    let here : get_or c.args.list.now (i - 1) c.index-list-i.result ≡ c.index-list-i.result = sym c.index-list-i.is in
    let split : drop (i - 1) c.args.list.now ≡ c.index-list-i.result ∷ drop i c.args.list.now =
    drop-cons c.args.list.now (i - 1) c.index-list-i.result within ∙ (ap (λ n. get_or c.args.list.now (i - 1) c.index-list-i.result ∷ drop n c.args.list.now) next ∙ ap (λ x. x ∷ drop i c.args.list.now) here) in
    let rest = subst (λ x. IsSame (told c.loop-i.rest) (spots_out c.args.big x (c.args.count - i) (renamed_spots (place_at c.args.places.now) (spots_at (expr_of c.args.program.now.exprs) (drop i c.args.list.now))) (told c.args.rest.now))) name c.loop-i.invariant.flow in
    record {
      size = c.prepend_spot.ensures.size;
      room = c.prepend_spot.ensures.room;
      flow = rw (split, count) (same_through _ _ _ c.prepend_spot.ensures.flow (seq_same _ _ _ _ (same_itself _) rest _));
    }

pub loop-i-init : goal.loop-i-init
loop-i-init c =
    let n = length c.args.list.now in
    let m = c.min-moved.result in
    let least = c.min-moved.ensures in
    let moved = λ (es : List Place). renamed_spots (place_at c.args.places.now) (spots_at (expr_of c.args.program.now.exprs) es) in
    let none : (c.args.count - m ≡ 0) ⊎ (moved (drop m c.args.list.now) ≡ NoSpot) = elim (cases_lt n c.args.count) [
      | inl l ↦ inr (ap moved (drop_all m c.args.list.now (let e : n ≤ m = omega (arith, least, l) in e)))
      | inr g ↦ inl (omega (arith, least, g))
    ] in
    let same = spots_end c.args.big (c.args.first + m) (c.args.count - m) (moved (drop m c.args.list.now)) (told c.args.rest.now) none in
    record {
      size = c.requires.size;
      room = c.requires.room;
      flow = subst (λ f. IsSame (told c.args.rest.now) f) (sym same) (same_itself (told c.args.rest.now));
    }
