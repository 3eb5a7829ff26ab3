use Rattle.std.proofs.Common.{◌≡◌, ◌+◌, ◌<◌, true, cond, nat_eq, length, [], ◌∷◌, drop, get_or, arith, add-one, ap, sym, subst, ◌∙◌}
use Rattle.std.proofs.Math.Seq.{drop-cons}
use Rattle.std.proofs.lemmas.List.{drop_all}
use Rattle.std.proofs.lemmas.Result.{IfOk-weaker}
use Rattle.core_form.specs.Code.{actuals_at, expr_of}
use Rattle.flow_facts.specs.Flow.{IsSame, nowhere}
use Rattle.flow_facts.specs.Told.{told}
use Rattle.flow_facts.proofs.Same.{same_through}
use Rattle.flow_relations.specs.CallsTold.{call_of, calls_of}
use Rattle.flow_relations.specs.Framing.{place_at}
use Rattle.flow_relations.specs.Renamed.{renamed_actuals}
use Rattle.flow_relations.proofs.callees.facts_of_call.Goals as goal

pub returns-then-eq-clause-flow : goal.returns-then-eq-clause-flow
returns-then-eq-clause-flow c =
    let i = c.loop-callee.callee-index in
    let void = c.args.places.now.void in
    let callees = c.args.callees.now in
    let item = c.callee-item.result in
    let b = c.args.body in
    let actuals = renamed_actuals (place_at c.args.places.now) (actuals_at (expr_of c.args.program.now.exprs) c.args.actuals.now) in
    let within : i < length callees = omega arith in
    let here : get_or callees i item ≡ item = sym c.callee-item.is in
    let split : drop i callees ≡ item ∷ drop (i + 1) callees = rw add-one (drop-cons callees i item within) ∙ ap (λ x. x ∷ drop (i + 1) callees) here in
    let equal : nat_eq item.body.0 b.0 ≡ true = grind (arith, c.if-eq.true, c.eq.ensures) in
    let first : calls_of void (drop i callees) b actuals ≡ call_of void item actuals =
    ap (λ cs. calls_of void cs b actuals) split ∙ ap (λ t. cond t (call_of void item actuals) (calls_of void (drop (i + 1) callees) b actuals)) equal in
    let found = subst (λ f. IsSame f (calls_of void callees b actuals)) first c.loop-callee.invariant in
    IfOk-weaker c.call_facts.result
    (λ f. IsSame (told f) (call_of void item actuals))
    (λ f. IsSame (told f) (calls_of void callees b actuals))
    (λ f h. same_through _ _ _ h found)
    c.call_facts.ensures.flow

pub returns-clause-flow : goal.returns-clause-flow
returns-clause-flow c =
    let i = c.loop-callee.callee-index in
    let void = c.args.places.now.void in
    let callees = c.args.callees.now in
    let b = c.args.body in
    let actuals = renamed_actuals (place_at c.args.places.now) (actuals_at (expr_of c.args.program.now.exprs) c.args.actuals.now) in
    let none : drop i callees ≡ [] = drop_all i callees (omega arith) in
    let found = subst (λ cs. IsSame (calls_of void cs b actuals) (calls_of void callees b actuals)) none c.loop-callee.invariant in
    IfOk-weaker c.no_facts.result
    (λ f. IsSame (told f) nowhere)
    (λ f. IsSame (told f) (calls_of void callees b actuals))
    (λ f h. same_through _ _ _ h found)
    c.no_facts.ensures.flow
