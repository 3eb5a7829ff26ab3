use Rattle.core_operators.proofs.Equal.{uneven}
use Rattle.core_operators.proofs.operators.are_equal.Goals as goal

pub returns-then-a-b : goal.returns-then-a-b
returns-then-a-b c = uneven c.args.a.now c.args.b.now c.if-a-b.true
