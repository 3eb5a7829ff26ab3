use Rattle.std.proofs.Common.{◌+◌, ◌-◌, drop}
use Rattle.core_form.specs.Code.{expr_of, spots_at}
use Rattle.flow_facts.specs.Flow.{IsSame}
use Rattle.flow_facts.specs.Told.{AreSized, told}
use Rattle.call_flow.specs.Calls.{spots_out}
use Rattle.flow_relations.specs.Framing.{place_at}
use Rattle.flow_relations.specs.Renamed.{renamed_spots}
use Rattle.flow_relations.specs.Told.{HasRoom}
use Rattle.flow_relations.proofs.calls.prepend_spots.Given as goal

abbrev pub invariant-loop-i : goal.invariant-loop-i
invariant-loop-i l = record {
  size : AreSized (l.big + 1) l.rest;
  room : HasRoom (l.big + 1) l.room;
  flow : IsSame (told l.rest) (spots_out l.big (l.first + l.i) (l.count - l.i) (renamed_spots (place_at l.places) (spots_at (expr_of l.program.exprs) (drop l.i l.list))) (told l.initial.rest));
}
