use Rattle.std.proofs.Common.{ℕ}
use Rattle.flow_bits.specs.Sets.{Has}
use Rattle.spark_messages.specs.declared.messages.Message.{Message}
use Rattle.used_modes.specs.Added.{Adds}
use Rattle.initializes_check.specs.InitializesCheck.{IsUnsetThen}
use Rattle.initializes_check.proofs.Counted.{Below}
use Rattle.initializes_check.proofs.starts.append_unset_leaves.Given as goal

abbrev pub invariant-loop-leaf : goal.invariant-loop-leaf
invariant-loop-leaf l = Adds l.initial.list l.list (Below (λ (n : ℕ) (m : Message). IsUnsetThen l.program (Has l.reads) (Has l.unset) l.body l.name n m) l.leaf)
