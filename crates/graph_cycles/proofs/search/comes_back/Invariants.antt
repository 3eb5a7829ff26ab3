use Rattle.graph_cycles.proofs.Searched.{IsSearch, IsClosed}
use Rattle.graph_cycles.proofs.search.comes_back.Given as goal

abbrev pub invariant-loop-at : goal.invariant-loop-at
invariant-loop-at l = record {
  search : IsSearch l.graph l.node l.found;
  closed : IsClosed l.graph l.found l.at;
}
