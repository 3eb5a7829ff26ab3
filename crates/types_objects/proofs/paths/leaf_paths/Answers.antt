use Rattle.std.proofs.Common.{◌<◌, ◌++◌, sym, ap, ◌∙◌, arith}
use Rattle.types_objects.specs.Types.{reversed, steps_left}
use Rattle.types_objects.proofs.NestedFields.{taken, taken_steps, taken_there}
use Rattle.types_objects.proofs.paths.leaf_paths.Goals as goal

pub look-requires-clause-next : goal.look-requires-clause-next
look-requires-clause-next c = (taken_there c.args.types.now.list c.loop-next.search.stack.items c.pop.new.self.items c.in-Some.next c.in-Some.ensures.items c.loop-next.invariant.1).0

pub look-requires-clause-there : goal.look-requires-clause-there
look-requires-clause-there c = (taken_there c.args.types.now.list c.loop-next.search.stack.items c.pop.new.self.items c.in-Some.next c.in-Some.ensures.items c.loop-next.invariant.1).1

pub loop-next-smaller : goal.loop-next-smaller
loop-next-smaller c =
    let less = c.in_ok-search.ensures.told.less in
    let whole = taken_steps c.args.types.now.list c.loop-next.search.stack.items c.pop.new.self.items c.in-Some.next c.in-Some.ensures.items in
    let falls : steps_left c.args.types.now.list (reversed c.in_ok-search.search.stack.items) < steps_left c.args.types.now.list (reversed c.loop-next.search.stack.items) = omega (arith, less, whole) in
    falls

pub loop-next-preserved : goal.loop-next-preserved
loop-next-preserved c = (
  c.in_ok-search.ensures.told.told
      ∙ ap (λ ps. c.loop-next.search.found.items ++ ps) (sym (taken c.args.types.now.list c.loop-next.search.stack.items c.pop.new.self.items c.in-Some.next c.in-Some.ensures.items))
      ∙ c.loop-next.invariant.0,
  c.in_ok-search.ensures.told.there,
)
