use Rattle.std.proofs.Common.{List, ◌++◌, drop}
use Rattle.spark_messages.specs.declared.messages.Message.{Message}
use Rattle.flow_driver.specs.Report.{AreMessagesFrom}
use Rattle.flow_driver.proofs.report.messages_found.Given as goal

-- the messages so far, and those on the bodies that are left, are those on all
abbrev pub invariant-loop-b : goal.invariant-loop-b
invariant-loop-b l = (rest : List Message) → AreMessagesFrom l.program l.b (drop l.b l.program.bodies) rest → AreMessagesFrom l.program 0 l.program.bodies (l.list ++ rest)
