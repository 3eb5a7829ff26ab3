use Rattle.std.proofs.Common.{◌≡◌, length, take}
use Rattle.use_table.proofs.members.UseTable.close_uses.Given as goal

abbrev pub invariant-loop-self : goal.invariant-loop-self
invariant-loop-self g l = record {
  named : l.self.named ≡ l.fn.self.named;
  uses : take l.count l.self.uses ≡ take l.count l.fn.self.uses;
}

abbrev pub decreases-loop-self : goal.decreases-loop-self
decreases-loop-self g l = length l.self.uses
