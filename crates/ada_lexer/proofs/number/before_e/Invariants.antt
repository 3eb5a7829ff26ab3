use Rattle.std.proofs.Common.{◌≡◌, ◌+◌, drop}
use Rattle.ada_lexer.specs.Cut.{before}
use Rattle.ada_lexer.specs.Classes.{is_e}
use Rattle.ada_lexer.proofs.number.before_e.Given as goal

abbrev pub invariant-loop-i : goal.invariant-loop-i
invariant-loop-i l = before is_e l.bytes ≡ l.i + before is_e (drop l.i l.bytes)
