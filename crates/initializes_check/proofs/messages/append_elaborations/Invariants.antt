use Rattle.std.proofs.Common.{ℕ}
use Rattle.std.specs.Prelude.{IsSomeAnd, slice_get}
use Rattle.spark_messages.specs.declared.messages.Message.{Message}
use Rattle.used_modes.specs.Added.{Adds}
use Rattle.used_modes.specs.UsedModes.{row_of}
use Rattle.initializes_check.specs.InitializesCheck.{IsOfElaboration, loose_by, reads_outside}
use Rattle.initializes_check.proofs.Counted.{Below}
use Rattle.initializes_check.proofs.messages.append_elaborations.Given as goal

abbrev pub invariant-loop-n : goal.invariant-loop-n
invariant-loop-n l = Adds l.initial.list l.list (Below (λ (n : ℕ) (m : Message). IsSomeAnd (slice_get l.program.order n) (λ b.
    IsOfElaboration l.program (row_of l.rows) (reads_outside l.program l.rows) (loose_by l.moments n) b m)) l.n)
