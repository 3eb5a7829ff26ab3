use Rattle.std.proofs.Common.{ℕ}
use Rattle.used_modes.specs.UsedModes.{row_of}
use Rattle.spark_messages.specs.declared.messages.Message.{Message}
use Rattle.used_modes.specs.Added.{Adds}
use Rattle.initializes_check.specs.InitializesCheck.{IsForeignWrite}
use Rattle.initializes_check.proofs.Counted.{Below}
use Rattle.initializes_check.proofs.starts.append_foreign_writes.Given as goal

abbrev pub invariant-loop-leaf : goal.invariant-loop-leaf
invariant-loop-leaf l = Adds l.initial.list l.list (Below (λ (n : ℕ) (m : Message). IsForeignWrite l.program (row_of l.rows l.number.0) l.body n m) l.leaf)
