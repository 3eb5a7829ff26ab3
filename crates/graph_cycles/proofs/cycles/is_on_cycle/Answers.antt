use Rattle.std.proofs.lemmas.Bool.{false≢true}
use Rattle.graph_cycles.proofs.Walks.{falls_off}
use Rattle.graph_cycles.proofs.cycles.is_on_cycle.Goals as goal

pub returns-then-all_fall : goal.returns-then-all_fall
returns-then-all_fall c = (
  λ t. absurd (false≢true t),
  λ h. absurd (falls_off c.args.graph.now c.args.ranks.now (c.requires c.if-is_ranked.true) c.args.node (c.all_fall.ensures c.if-all_fall.true) h),
)
