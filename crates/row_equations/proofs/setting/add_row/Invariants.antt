use Rattle.std.proofs.Common.{◌≡◌, ℕ, ◌+◌, ◌<◌, ◌⊎◌, ◌↔◌}
use Rattle.std.specs.Prelude.{IsSomeAnd}
use Rattle.flow_bits.specs.Sets.{Relates}
use Rattle.summary_rows.specs.Bits.{Bit}
use Rattle.row_equations.specs.Packing.{number_at}
use Rattle.row_equations.proofs.setting.add_row.Given as goal

abbrev pub invariant-loop-j : goal.invariant-loop-j
invariant-loop-j l = (n : ℕ) → Bit l.words n
    ↔ (Bit l.initial.words n ⊎ ((i : ℕ) × ((i < l.j) × ((n ≡ l.first + i) × IsSomeAnd (number_at l.numbers i) (Relates l.depends l.«from»)))))
