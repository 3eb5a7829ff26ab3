use Rattle.std.proofs.Common.{◌+◌, ◌-◌, drop}
use Rattle.core_form.specs.Code.{expr_of, exprs_at}
use Rattle.flow_facts.specs.Flow.{IsSame}
use Rattle.flow_facts.specs.Told.{AreSized, told}
use Rattle.call_flow.specs.Calls.{values_in}
use Rattle.flow_relations.specs.Framing.{place_at}
use Rattle.flow_relations.specs.Renamed.{renamed_all}
use Rattle.flow_relations.specs.Told.{HasRoom}
use Rattle.flow_relations.proofs.calls.prepend_values.Given as goal

abbrev pub invariant-loop-i : goal.invariant-loop-i
invariant-loop-i l = record {
  size : AreSized (l.big + 1) l.rest;
  room : HasRoom (l.big + 1) l.room;
  flow : IsSame (told l.rest) (values_in l.big (l.first + l.i) (l.count - l.i) (renamed_all (place_at l.places) (exprs_at (expr_of l.program.exprs) (drop l.i l.values))) (told l.initial.rest));
}
