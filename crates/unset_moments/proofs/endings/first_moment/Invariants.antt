use Rattle.std.proofs.Common.{◌≡◌, ◌<◌, length}
use Rattle.flow_bits.specs.Sets.{Tells}
use Rattle.unset_moments.specs.Moments.{loose_first}
use Rattle.unset_moments.proofs.endings.first_moment.Given as goal

abbrev pub invariant-loop-leaf : goal.invariant-loop-leaf
invariant-loop-leaf l = record {
  size : length l.row ≡ l.count;
  set : Tells l.row (λ v. (v < l.leaf) × loose_first l.program v);
}
