use Rattle.std.proofs.Common.{None, ap}
use Rattle.spark_base.specs.declared.name.Name.{Name}
use Rattle.types_objects.proofs.predefined.scalar.Goals as goal

pub returns : goal.returns
returns c = ap (λ (name : Name). record { name = name; decl = None; form = c.args.form; leaves = 1 }) c.in_ok-named.ensures
