use Rattle.std.proofs.Common.{◌≡◌, drop, false}
use Rattle.ada_lexer.specs.Runs.{close, moved_by}
use Rattle.ada_lexer.proofs.scan.text_end.Given as goal

abbrev pub invariant-loop-i : goal.invariant-loop-i
invariant-loop-i l = close false l.bytes ≡ moved_by l.i (close l.ended (drop l.i l.bytes))
