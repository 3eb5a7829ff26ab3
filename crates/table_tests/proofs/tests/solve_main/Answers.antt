use Rattle.std.proofs.Common.{arith}
use Rattle.table_tests.proofs.Solving.{covers}
use Rattle.table_tests.proofs.tests.solve_main.Goals as goal

pub join_word-requires-clause-covered : goal.join_word-requires-clause-covered
join_word-requires-clause-covered c = covers 2 1 (omega arith) _
