use Rattle.std.proofs.Common.{ℕ, ◌<◌}
use Rattle.std.specs.Prelude.{IfSome, IfNone}
use Rattle.initializes_check.specs.InitializesCheck.{IsItemOf}
use Rattle.initializes_check.proofs.moments.last_of.Given as goal

abbrev pub invariant-loop-n : goal.invariant-loop-n
invariant-loop-n l = record {
  some : IfSome l.last (λ n. (n < l.n) × (IsItemOf l.program l.«package».0 n × ((m : ℕ) → n < m → m < l.n → IsItemOf l.program l.«package».0 m → ⊥)));
  none : IfNone l.last ((m : ℕ) → m < l.n → IsItemOf l.program l.«package».0 m → ⊥);
}
