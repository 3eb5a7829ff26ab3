use Rattle.std.proofs.Common.{Result, subst}
use Rattle.ada_grammar.specs.declared.nodes.Built.{Built}
use Rattle.ada_grammar.specs.declared.tokens.Cursor.{Cursor}
use Rattle.ada_grammar.specs.declared.tokens.Fault.{Fault}
use Rattle.ada_grammar.specs.Built.{trees}
use Rattle.ada_grammar.specs.Reading.{Answers}
use Rattle.ada_exprs.proofs.Holding.{goes_read, holds_read, finds_not}
use Rattle.ada_exprs.proofs.parts.hold.Goals as goal

pub returns-in_err-built-clause-holds : goal.returns-in_err-built-clause-holds
returns-in_err-built-clause-holds c = λ part ts cursor u ds h a.
    finds_not part ts cursor u c.args.into.now ds c.in_err-built.field-0.0 c.from_residual.result (subst (λ (z : Result (Built × Cursor) Fault). Answers part ts cursor (trees u.exprs) z) c.in_err-built.was a) c.from_residual.ensures.1

pub returns-clause-holds : goal.returns-clause-holds
returns-clause-holds c = λ part ts cursor u ds h a.
    holds_read part ts cursor c.in_ok-built.next c.in_ok-built.built (subst (λ (z : Result (Built × Cursor) Fault). Answers part ts cursor (trees u.exprs) z) c.in_ok-built.was a) c.in_ok-add_expr.ensures ds h

pub returns-clause-goes : goal.returns-clause-goes
returns-clause-goes c = λ part ts cursor built a. goes_read part ts cursor c.in_ok-built.next c.in_ok-built.built (subst (λ (z : Result (Built × Cursor) Fault). Answers part ts cursor built z) c.in_ok-built.was a)
