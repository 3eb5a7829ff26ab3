use Rattle.std.proofs.Common.{◌≡◌, drop}
use Rattle.ada_lexer.specs.Pieces.{every}
use Rattle.ada_lexer.specs.Classes.{is_plain}
use Rattle.ada_lexer.proofs.number.is_digits_alone.Given as goal

abbrev pub invariant-loop-b : goal.invariant-loop-b
invariant-loop-b l = every is_plain l.bytes ≡ every is_plain (drop l.b-index l.bytes)
