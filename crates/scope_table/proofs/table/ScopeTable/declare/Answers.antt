use Rattle.scope_table.specs.declared.table.Entry.{Entry}
use Rattle.scope_table.proofs.Entries.{pushed_told, pushed_hides}
use Rattle.scope_table.proofs.table.ScopeTable.declare.Goals as goal

pub invariant_of-self-2 : goal.invariant_of-self-2
invariant_of-self-2 g c =
    let entry : Entry g.row.T.Denot = record { opened = c.args.opened; hidden = c.index-hidden.result.now } in (
      pushed_told c.self.inside.heads.items c.make_room.new.heads.items c.push.new.self.items c.self.inside.entries.items entry c.in_ok-push.ensures.items c.in_ok-make_room.ensures.room c.make_room.ensures.same c.index-hidden.ensures c.self.invariant.0 c.self.invariant.1,
      pushed_hides c.self.inside.heads.items c.make_room.new.heads.items c.push.new.self.items c.self.inside.entries.items entry c.in_ok-push.ensures.items c.in_ok-make_room.ensures.room c.make_room.ensures.same c.index-hidden.ensures c.self.invariant.0 c.self.invariant.1,
    )
