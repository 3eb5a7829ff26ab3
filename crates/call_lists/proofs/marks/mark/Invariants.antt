use Rattle.std.proofs.Common.{ℕ, ◌⊎◌, ◌↔◌}
use Rattle.call_lists.specs.Lists.{NamesBelow, Has}
use Rattle.call_lists.proofs.marks.mark.Given as goal

abbrev pub invariant-loop-b : goal.invariant-loop-b
invariant-loop-b l = (c : ℕ) → Has l.marks c ↔ (Has l.initial.marks c ⊎ NamesBelow l.b-index l.list c)
