use Rattle.std.proofs.Common.{◌+◌, drop}
use Rattle.core_form.specs.Code.{actuals_at, expr_of}
use Rattle.flow_facts.specs.Flow.{IsSame}
use Rattle.flow_facts.specs.Told.{AreSized, told}
use Rattle.call_flow.specs.Calls.{actuals_out}
use Rattle.flow_relations.specs.Framing.{place_at}
use Rattle.flow_relations.specs.Renamed.{renamed_actuals}
use Rattle.flow_relations.specs.Told.{HasRoom}
use Rattle.flow_relations.proofs.calls.prepend_outs.Given as goal

abbrev pub invariant-loop-i : goal.invariant-loop-i
invariant-loop-i l = record {
  size : AreSized (l.big + 1) l.rest;
  room : HasRoom (l.big + 1) l.room;
  flow : IsSame (told l.rest) (actuals_out l.places.void l.big l.signature (renamed_actuals (place_at l.places) (actuals_at (expr_of l.program.exprs) (drop l.i l.list))) (told l.initial.rest));
}
