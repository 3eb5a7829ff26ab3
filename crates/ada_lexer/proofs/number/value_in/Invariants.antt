use Rattle.std.proofs.Common.{◌≡◌, ◌<◌, ◌^◌, drop}
use Rattle.ada_lexer.specs.Cut.{value_from}
use Rattle.ada_lexer.proofs.number.value_in.Given as goal

abbrev pub invariant-loop-b : goal.invariant-loop-b
invariant-loop-b l = (value_from l.base 0 l.bytes ≡ value_from l.base l.value (drop l.b-index l.bytes)) × (l.value < 2 ^ 128)
