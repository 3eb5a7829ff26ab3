use Rattle.std.proofs.Common.{◌≡◌, ◌<◌, ◌⊎◌, ℕ, length, get_or}
use Rattle.std.specs.List.{Contains}
use Rattle.graph_cycles.specs.Found.{IsFound, IsKept, Stays}
use Rattle.graph_cycles.proofs.found.Found.add_all.Given as goal

abbrev pub invariant-loop-node : goal.invariant-loop-node
invariant-loop-node l = record {
  kept : IsKept l.self;
  room : length l.self.seen.items ≡ length l.initial.self.seen.items;
  stays : (i : ℕ) → i < length l.initial.self.order → Stays l.initial.self.order l.self.order i;
  keeps : (k : ℕ) → IsFound l.initial.self k → IsFound l.self k;
  has : (i : ℕ) → i < l.node-index → get_or l.nodes i 0 < length l.initial.self.seen.items → IsFound l.self (get_or l.nodes i 0);
  only : (k : ℕ) → IsFound l.self k → IsFound l.initial.self k ⊎ Contains l.nodes k;
}
