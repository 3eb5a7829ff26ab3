use Rattle.std.proofs.Common.{ℕ, ◌<◌, ◌≤◌, length}
use Rattle.flow_bits.specs.Sets.{Has}
use Rattle.used_modes.specs.Added.{Adds}
use Rattle.depends_check.specs.DependsCheck.{IsSource}
use Rattle.depends_check.proofs.used.note_all_sources.Given as goal

abbrev pub invariant-loop-leaf : goal.invariant-loop-leaf
invariant-loop-leaf l = record {
  within : l.leaf ≤ length l.leaves;
  added : Adds l.initial.items l.items (λ i. (leaf : ℕ) × ((leaf < l.leaf) × (Has l.leaves leaf × IsSource l.program l.rows l.number.0
      l.body leaf i)));
}
