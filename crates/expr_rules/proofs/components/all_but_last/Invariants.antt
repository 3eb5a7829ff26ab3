use Rattle.std.proofs.Common.{◌≡◌, ◌++◌, drop}
use Rattle.expr_rules.specs.Aggregates.{all_but_last}
use Rattle.expr_rules.proofs.components.all_but_last.Given as goal

abbrev pub invariant-loop-next : goal.invariant-loop-next
invariant-loop-next l =
    l.front.items ++ all_but_last l.last (drop l.next-index l.rest) ≡ all_but_last l.fn.first l.rest
