use Rattle.std.proofs.Common.{arith}
use Rattle.table_tests.proofs.Solving.{covers}
use Rattle.table_tests.proofs.tests.read_back.Goals as goal

pub join_word-old-requires-clause-covered : goal.join_word-old-requires-clause-covered
join_word-old-requires-clause-covered c = covers 3 0 (omega arith) _
