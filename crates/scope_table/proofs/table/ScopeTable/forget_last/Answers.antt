use Rattle.std.proofs.Common.{arith}
use Rattle.scope_table.proofs.Entries.{popped_within, popped_told, popped_hides}
use Rattle.scope_table.proofs.table.ScopeTable.forget_last.Goals as goal

pub index_mut-requires : goal.index_mut-requires
index_mut-requires g c =
    let l = popped_within c.self.inside.heads.items c.self.inside.entries.items c.pop.new.self.items c.in-Some.entry c.in-Some.ensures.items c.self.invariant.0 c.self.invariant.1 in
    grind (arith, l, c.self.inside.heads.ok)

pub invariant_of-self : goal.invariant_of-self
invariant_of-self g c = (
  popped_told c.self.inside.heads.items c.self.inside.entries.items c.pop.new.self.items c.in-Some.entry c.in-Some.ensures.items c.self.invariant.0 c.self.invariant.1,
  popped_hides c.self.inside.heads.items c.self.inside.entries.items c.pop.new.self.items c.in-Some.entry c.in-Some.ensures.items c.self.invariant.0 c.self.invariant.1,
)
