use Rattle.std.proofs.Common.{◌≡◌, suc, ◌+◌, ◌-◌, ◌<◌, ◌≤◌, ◌⊎◌, inl, inr, List, length, ◌∷◌, drop, get_or, arith, ap, ◌∙◌, subst, sym}
use Rattle.std.proofs.Math.Seq.{drop-cons}
use Rattle.std.proofs.lemmas.Bool.{cases_lt}
use Rattle.std.proofs.lemmas.List.{drop_all}
use Rattle.spark_base.specs.declared.numbers.ExprNo.{ExprNo}
use Rattle.core_form.specs.Code.{Nothing, expr_of, exprs_at}
use Rattle.flow_facts.specs.Flow.{IsSame}
use Rattle.flow_facts.specs.Told.{told}
use Rattle.call_flow.specs.Calls.{values_in}
use Rattle.flow_relations.specs.Framing.{place_at}
use Rattle.flow_relations.specs.Renamed.{renamed_all}
use Rattle.flow_facts.proofs.Same.{same_itself, same_through, seq_same}
use Rattle.flow_relations.proofs.Chains.{values_end}
use Rattle.flow_relations.proofs.calls.prepend_values.Goals as goal

pub loop-i-preserved : goal.loop-i-preserved
loop-i-preserved c =
    let i = c.loop-i.i in
    let within : i - 1 < length c.args.values.now = omega arith in
    let next : suc (i - 1) ≡ i = omega arith in
    let count : c.args.count - (i - 1) ≡ suc (c.args.count - i) = omega arith in
    let name : c.args.first + i ≡ suc (c.args.first + (i - 1)) = omega arith in
    let split : drop (i - 1) c.args.values.now ≡ get_or c.args.values.now (i - 1) (record { 0 = 0 }) ∷ drop i c.args.values.now =
    drop-cons c.args.values.now (i - 1) (record { 0 = 0 }) within ∙ ap (λ n. get_or c.args.values.now (i - 1) (record { 0 = 0 }) ∷ drop n c.args.values.now) next in
    let rest = subst (λ x. IsSame (told c.loop-i.rest) (values_in c.args.big x (c.args.count - i) (renamed_all (place_at c.args.places.now) (exprs_at (expr_of c.args.program.now.exprs) (drop i c.args.values.now))) (told c.args.rest.now))) name c.loop-i.invariant.flow in
    record {
      size = c.prepend_value.ensures.size;
      room = c.prepend_value.ensures.room;
      flow = rw (split, count) (same_through _ _ _ c.prepend_value.ensures.flow (seq_same _ _ _ _ (same_itself _) rest _));
    }

pub loop-i-init : goal.loop-i-init
loop-i-init c =
    let n = length c.args.values.now in
    let m = c.min-moved.result in
    let least = c.min-moved.ensures in
    let moved = λ (es : List ExprNo). renamed_all (place_at c.args.places.now) (exprs_at (expr_of c.args.program.now.exprs) es) in
    let none : (c.args.count - m ≡ 0) ⊎ (moved (drop m c.args.values.now) ≡ Nothing) = elim (cases_lt n c.args.count) [
      | inl l ↦ inr (ap moved (drop_all m c.args.values.now (let e : n ≤ m = omega (arith, least, l) in e)))
      | inr g ↦ inl (omega (arith, least, g))
    ] in
    let same = values_end c.args.big (c.args.first + m) (c.args.count - m) (moved (drop m c.args.values.now)) (told c.args.rest.now) none in
    record {
      size = c.requires.size;
      room = c.requires.room;
      flow = subst (λ f. IsSame (told c.args.rest.now) f) (sym same) (same_itself (told c.args.rest.now));
    }
