use Rattle.std.proofs.Common.{◌↔◌, drop}
use Rattle.initializes_check.specs.InitializesCheck.{IsListed}
use Rattle.initializes_check.proofs.unlisted.is_listed.Given as goal

abbrev pub invariant-loop-listed : goal.invariant-loop-listed
invariant-loop-listed l = IsListed l.program (drop l.listed-index l.items) l.item ↔ IsListed l.program l.items l.item
