use Rattle.std.proofs.Common.{arith}
use Rattle.types_objects.proofs.NestedFields.{pushed_field}
use Rattle.types_objects.proofs.paths.push_others.Goals as goal

pub loop-i-preserved : goal.loop-i-preserved
loop-i-preserved c =
    pushed_field c.args.prefix.now c.args.fields.now c.loop-i.i c.index-fields-i.result c.in_ok-joined.field-0 c.loop-i.stack.items c.push.new.self.items c.args.stack.items
    (omega arith) (omega arith) c.index-fields-i.is c.in_ok-joined.ensures c.loop-i.invariant c.in_ok-push.ensures.items
