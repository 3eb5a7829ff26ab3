use Rattle.std.proofs.Common.{◌≡◌, drop, true}
use Rattle.ada_lexer.specs.Runs.{based_len, moved_by}
use Rattle.ada_lexer.proofs.number.based_len.Given as goal

abbrev pub invariant-loop-i : goal.invariant-loop-i
invariant-loop-i l = based_len l.base true l.bytes ≡ moved_by l.i (based_len l.base l.due (drop l.i l.bytes))
