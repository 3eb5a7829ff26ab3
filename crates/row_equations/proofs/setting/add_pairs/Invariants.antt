use Rattle.std.proofs.Common.{ℕ, ◌+◌, ◌*◌, ◌<◌, ◌⊎◌, ◌↔◌, length}
use Rattle.std.specs.Prelude.{IsSomeAnd}
use Rattle.flow_bits.specs.Sets.{Relates}
use Rattle.summary_rows.specs.Bits.{Bit}
use Rattle.row_equations.specs.Packing.{AtNumber, number_at}
use Rattle.row_equations.proofs.setting.add_pairs.Given as goal

abbrev pub invariant-loop-i : goal.invariant-loop-i
invariant-loop-i l = (n : ℕ) → Bit l.words n ↔ (Bit l.initial.words n ⊎ ((i : ℕ) × ((i < l.i)
    × IsSomeAnd (number_at l.numbers i) (λ k. AtNumber l.numbers (l.first + i * length l.numbers) (Relates l.depends k) n))))
