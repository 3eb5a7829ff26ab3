use Rattle.std.proofs.Common.{drop}
use Rattle.core_form.specs.Code.{actuals_at, expr_of}
use Rattle.flow_facts.specs.Flow.{IsSame}
use Rattle.flow_relations.specs.CallsTold.{calls_of}
use Rattle.flow_relations.specs.Framing.{place_at}
use Rattle.flow_relations.specs.Renamed.{renamed_actuals}
use Rattle.flow_relations.proofs.callees.facts_of_call.Given as goal

abbrev pub invariant-loop-callee : goal.invariant-loop-callee
invariant-loop-callee l =
    let actuals = renamed_actuals (place_at l.places) (actuals_at (expr_of l.program.exprs) l.actuals) in
    IsSame (calls_of l.places.void (drop l.callee-index l.callees) l.body actuals) (calls_of l.places.void l.callees l.body actuals)
