use Rattle.std.proofs.Common.{◌≡◌, ◌++◌, All, drop, map}
use Rattle.flow_relations.specs.declared.callees.Callee.{Callee}
use Rattle.row_flows.specs.Known.{IsCalleeOf}
use Rattle.row_flows.proofs.known.callees_from.Given as goal

abbrev pub invariant-loop-callee : goal.invariant-loop-callee
invariant-loop-callee l = record {
  bodies : map (λ (c : Callee). c.body) l.callees.items ++ drop l.callee-index l.list ≡ l.list;
  each : All (IsCalleeOf l.program l.rows l.caller.0 l.places) l.callees.items;
}
