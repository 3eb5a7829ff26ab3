use Rattle.ada_exprs.proofs.Telling.{failed, told_read}
use Rattle.ada_exprs.proofs.calls.told.Goals as goal

pub returns-in-Ok : goal.returns-in-Ok
returns-in-Ok c = told_read c.args.tokens.now c.args.answer c.in-Ok.read c.in-Ok.next c.in-Ok.is

pub returns-in-Err : goal.returns-in-Err
returns-in-Err c = λ part cursor built h. c.phase_fault.ensures part cursor (failed c.args.tokens.now c.args.answer c.in-Err.fault c.in-Err.is part cursor built h)
