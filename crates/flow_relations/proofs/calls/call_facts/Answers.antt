use Rattle.std.proofs.Common.{◌≡◌, ℕ, ◌+◌, ap, subst}
use Rattle.std.proofs.lemmas.Result.{IfOk-weaker}
use Rattle.core_form.specs.Code.{Next, actuals_at, expr_of}
use Rattle.flow_facts.specs.Flow.{IsSame, leaving, seq}
use Rattle.flow_facts.specs.Told.{told}
use Rattle.flow_facts.proofs.Same.{same_through}
use Rattle.call_flow.specs.Calls.{actuals_in, actuals_out, dropped, knowing, last_name}
use Rattle.call_flow.specs.Told.{known_told, name_in}
use Rattle.flow_relations.specs.CallsTold.{called_by}
use Rattle.flow_relations.specs.Framing.{place_at}
use Rattle.flow_relations.specs.Renamed.{renamed_actuals}
use Rattle.flow_relations.proofs.Chains.{dropped_same, parts_alone, parts_same}
use Rattle.flow_relations.proofs.calls.call_facts.Goals as goal

pub dropped_facts-requires-clause-alone : goal.dropped_facts-requires-clause-alone
dropped_facts-requires-clause-alone c = λ o r.
    let void = c.args.places.now.void in
    let big = void + c.len.result in
    let s = c.args.signature.now in
    let list = renamed_actuals (place_at c.args.places.now) (actuals_at (expr_of c.args.program.now.exprs) c.args.actuals.now) in
    let second = knowing big (name_in c.args.known.now.names.items) (known_told c.args.known.now) in
    let done = parts_same void big s list (told c.in_ok-second.second) second (told c.in_ok-rest.rest) (told c.prepend_outs.new.rest) (told c.then_with.new.rest) (told c.prepend_ins.new.rest)
    c.in_ok-second.ensures.flow c.in_ok-rest.ensures.flow c.prepend_outs.ensures.flow c.in_ok-then_with.ensures.flow c.prepend_ins.ensures.flow in
    parts_alone void big s list second (λ out h. h.0) o ((done.can o).0 r)

pub returns-clause-flow : goal.returns-clause-flow
returns-clause-flow c =
    let void = c.args.places.now.void in
    let big = void + c.len.result in
    let s = c.args.signature.now in
    let list = renamed_actuals (place_at c.args.places.now) (actuals_at (expr_of c.args.program.now.exprs) c.args.actuals.now) in
    let known = λ (b : ℕ). knowing b (name_in c.args.known.now.names.items) (known_told c.args.known.now) in
    let whole = λ (b : ℕ). actuals_in void b s list (seq b (known b) (actuals_out void b s list (leaving b Next))) in
    let done = parts_same void big s list (told c.in_ok-second.second) (known big) (told c.in_ok-rest.rest) (told c.prepend_outs.new.rest) (told c.then_with.new.rest) (told c.prepend_ins.new.rest)
    c.in_ok-second.ensures.flow c.in_ok-rest.ensures.flow c.prepend_outs.ensures.flow c.in_ok-then_with.ensures.flow c.prepend_ins.ensures.flow in
    let size : big ≡ last_name void s = ap (λ n. void + n) c.len.ensures in
    IfOk-weaker c.dropped_facts.result
    (λ f. IsSame (told f) (dropped void big (told c.prepend_ins.new.rest)))
    (λ f. IsSame (told f) (called_by void s (known (last_name void s)) list))
    (λ f h. subst (λ b. IsSame (told f) (dropped void b (whole b))) size (same_through _ _ _ h (dropped_same void big _ _ done)))
    c.dropped_facts.ensures.flow
