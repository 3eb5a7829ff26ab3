use Rattle.std.proofs.Common.{ℕ, Some}
use Rattle.core_form.specs.declared.program.Item.{Item}
use Rattle.flow_bits.specs.Sets.{Has}
use Rattle.spark_messages.specs.declared.messages.Message.{Message}
use Rattle.used_modes.specs.Added.{Adds}
use Rattle.initializes_check.specs.InitializesCheck.{IsNotListed}
use Rattle.initializes_check.proofs.Counted.{Below}
use Rattle.initializes_check.proofs.unlisted.append_unlisted_vars.Given as goal

abbrev pub invariant-loop-var : goal.invariant-loop-var
invariant-loop-var l = Adds l.initial.list l.list
    (Below (λ (n : ℕ) (m : Message). IsNotListed l.program (Has l.unset) l.number.0 (Some l.place) l.items (Item.Whole (record { 0 = n })) m) l.var)
