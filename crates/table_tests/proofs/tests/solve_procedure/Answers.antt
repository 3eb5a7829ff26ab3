use Rattle.std.proofs.Common.{arith}
use Rattle.table_tests.proofs.Solving.{covers}
use Rattle.table_tests.proofs.tests.solve_procedure.Goals as goal

pub join_word-old-requires-clause-covered : goal.join_word-old-requires-clause-covered
join_word-old-requires-clause-covered c = covers 2 0 (omega arith) _
