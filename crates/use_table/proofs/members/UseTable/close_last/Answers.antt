use Rattle.std.proofs.Common.{arith}
use Rattle.std.proofs.lemmas.List.{get_or_read}
use Rattle.use_table.proofs.Counts.{closed_within, closed_counted, closed_tells}
use Rattle.use_table.proofs.members.UseTable.close_last.Goals as goal

pub index_mut-requires : goal.index_mut-requires
index_mut-requires g c =
    let l = closed_within c.self.inside.counts.items c.self.inside.uses.items c.pop.new.self.items c.in-Some.used c.in-Some.ensures.items c.self.invariant in
    grind (arith, l, c.self.inside.counts.ok)

pub overflow_sub-index_mut : goal.overflow_sub-index_mut
overflow_sub-index_mut g c =
    let l = closed_within c.self.inside.counts.items c.self.inside.uses.items c.pop.new.self.items c.in-Some.used c.in-Some.ensures.items c.self.invariant in
    let n = closed_counted c.self.inside.counts.items c.self.inside.uses.items c.pop.new.self.items c.in-Some.used c.in-Some.ensures.items c.self.invariant in
    let e = get_or_read c.self.inside.counts.items c.in-Some.used c.index_mut.result.now l c.index_mut.ensures.value 0 in
    omega (arith, n, e)

pub invariant_of-self : goal.invariant_of-self
invariant_of-self g c =
    let l = closed_within c.self.inside.counts.items c.self.inside.uses.items c.pop.new.self.items c.in-Some.used c.in-Some.ensures.items c.self.invariant in
    closed_tells c.self.inside.counts.items c.self.inside.uses.items c.pop.new.self.items c.in-Some.used c.in-Some.ensures.items c.self.invariant
    c.index_mut.result.now (get_or_read c.self.inside.counts.items c.in-Some.used c.index_mut.result.now l c.index_mut.ensures.value 0)
