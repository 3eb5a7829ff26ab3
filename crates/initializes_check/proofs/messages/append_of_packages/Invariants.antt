use Rattle.std.proofs.Common.{ℕ}
use Rattle.std.specs.Prelude.{IsSomeAnd, slice_get}
use Rattle.spark_messages.specs.declared.messages.Message.{Message}
use Rattle.used_modes.specs.Added.{Adds}
use Rattle.initializes_check.specs.InitializesCheck.{IsOfPackage, loose_by}
use Rattle.initializes_check.proofs.Counted.{Below}
use Rattle.initializes_check.proofs.messages.append_of_packages.Given as goal

abbrev pub invariant-loop-k : goal.invariant-loop-k
invariant-loop-k l = Adds l.initial.list l.list
    (Below (λ (n : ℕ) (m : Message). IsSomeAnd (slice_get l.program.packages n) (λ k. IsOfPackage l.program (loose_by l.moments) n k m)) l.k)
