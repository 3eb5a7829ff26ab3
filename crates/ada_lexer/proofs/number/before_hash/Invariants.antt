use Rattle.std.proofs.Common.{◌≡◌, ◌+◌, drop}
use Rattle.ada_lexer.specs.Cut.{before, is_hash}
use Rattle.ada_lexer.proofs.number.before_hash.Given as goal

abbrev pub invariant-loop-i : goal.invariant-loop-i
invariant-loop-i l = before is_hash l.bytes ≡ l.i + before is_hash (drop l.i l.bytes)
