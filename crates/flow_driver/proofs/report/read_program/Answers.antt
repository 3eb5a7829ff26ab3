use Rattle.flow_driver.proofs.ReadingSources.{read_one}
use Rattle.flow_driver.proofs.report.read_program.Goals as goal

pub returns-in_ok-program-in-Some-clause-reading : goal.returns-in_ok-program-in-Some-clause-reading
returns-in_ok-program-in-Some-clause-reading c =
    read_one c.args.bytes c.in-Some.source c.in_ok-program-in-Some.program (rw c.in-Some.is at c.in_ok-source.ensures.some)
    (c.sources_are_one.ensures (record { 0 = 0 }) c.args.bytes) c.in_ok-program-in-Some.ensures.some c.in_ok-program-in-Some.ensures.none

pub returns-in-None-clause-reading : goal.returns-in-None-clause-reading
returns-in-None-clause-reading c = λ s h. (rw c.in-None.is at c.in_ok-source.ensures.none) s h.spells
