use Rattle.std.proofs.Common.{◌∙◌, ap, sym, arith}
use Rattle.std.proofs.lemmas.List.{get_or_read}
use Rattle.use_table.specs.Uses.{times}
use Rattle.use_table.proofs.Counts.{opened, times_le}
use Rattle.use_table.proofs.members.UseTable.open_use.Goals as goal

pub overflow_add-index_mut : goal.overflow_add-index_mut
overflow_add-index_mut g c =
    let r = get_or_read c.make_room.new.counts.items c.args.used c.index_mut.result.now c.in_ok-make_room.ensures.room c.index_mut.ensures.value 0 in
    let s = c.make_room.ensures.same c.args.used in
    let t = c.self.invariant c.args.used in
    let n = times_le c.args.used c.self.inside.uses.items in
    grind (arith, r, s, t, n, c.self.inside.uses.small, c.self.inside.uses.ok)

pub invariant_of-self-2 : goal.invariant_of-self-2
invariant_of-self-2 g c p =
    let r = get_or_read c.make_room.new.counts.items c.args.used c.index_mut.result.now c.in_ok-make_room.ensures.room c.index_mut.ensures.value 0 in
    opened c.self.inside.counts.items c.make_room.new.counts.items c.self.inside.uses.items c.args.used c.index_mut.result.now c.in_ok-make_room.ensures.room c.make_room.ensures.same c.self.invariant r p
    ∙ ap (times p) (sym c.in_ok-push.ensures.items)
