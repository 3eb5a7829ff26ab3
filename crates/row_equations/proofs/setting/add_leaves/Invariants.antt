use Rattle.std.proofs.Common.{◌≡◌, ℕ, ◌+◌, ◌<◌, ◌⊎◌, ◌↔◌}
use Rattle.flow_bits.specs.Sets.{Has}
use Rattle.summary_rows.specs.Bits.{Bit}
use Rattle.summary_rows.specs.Layout.{IsAt}
use Rattle.row_equations.proofs.setting.add_leaves.Given as goal

abbrev pub invariant-loop-i : goal.invariant-loop-i
invariant-loop-i l = (n : ℕ) → Bit l.words n
    ↔ (Bit l.initial.words n ⊎ ((i : ℕ) × ((i < l.i) × ((v : ℕ) × (IsAt l.outer v i × ((n ≡ l.first + i) × Has l.«set» v))))))
