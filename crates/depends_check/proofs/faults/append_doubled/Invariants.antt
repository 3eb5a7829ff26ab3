use Rattle.std.proofs.Common.{ℕ, ◌<◌, ◌↔◌, take}
use Rattle.std.specs.List.{Contains}
use Rattle.core_form.specs.declared.program.Item.{Item}
use Rattle.used_modes.specs.Added.{Adds}
use Rattle.depends_check.specs.DependsCheck.{IsDoubled, IsMentioned}
use Rattle.depends_check.specs.declared.sides.Side.{Side}
use Rattle.depends_check.proofs.faults.append_doubled.Given as goal

abbrev pub invariant-loop-pair : goal.invariant-loop-pair
invariant-loop-pair l = record {
  before : (o : Item) → Contains l.before o ↔ IsMentioned l.program Side.Output (take l.pair-index l.pairs) o;
  added : Adds l.initial.list l.list (λ m. (k : ℕ) × ((k < l.pair-index) × IsDoubled l.program l.body l.pairs k m));
}
