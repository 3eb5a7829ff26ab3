use Rattle.ada_grammar.proofs.Standing.{expr_holds}
use Rattle.ada_grammar.proofs.children.add_expr.Goals as goal

pub returns : goal.returns
returns c = λ u. expr_holds c.args.number c.in_ok-push.ensures.ok
