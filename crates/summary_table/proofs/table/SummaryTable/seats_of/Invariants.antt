use Rattle.std.proofs.Common.{◌≡◌, ◌+◌, ◌<◌, length}
use Rattle.std.specs.Prelude.{All, None}
use Rattle.summary_table.specs.Views.{newcomer}
use Rattle.summary_table.proofs.table.SummaryTable.seats_of.Given as goal

abbrev pub invariant-loop-i : goal.invariant-loop-i
invariant-loop-i g l = record {
  table : l.first.token.table_id ≡ l.self.table.shared.table_id;
  some_left : 0 < (l.first.token.me.0).weight;
  weighed : (l.first.token.me.0).weight + l._i ≡ l.self.seats + 1;
  view : l.first.token.me.0 ≡ newcomer (l.first.token.me.0).weight;
  count : length l.seats.items + 1 ≡ l._i;
  each : All (λ s. (s.token.table_id ≡ l.self.table.shared.table_id) × ((s.token.me.0 ≡ newcomer 1) × (s.holds ≡ None))) l.seats.items;
}
