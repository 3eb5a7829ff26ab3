use Rattle.std.proofs.Common.{take}
use Rattle.spark_parser.specs.Files.{AreSoFar}
use Rattle.spark_parser.proofs.calls.parse.Given as goal

-- the files so far, and what is told of them
abbrev pub invariant-loop-tokens : goal.invariant-loop-tokens
invariant-loop-tokens l = AreSoFar (take l.tokens-index l.all) l.units l.refusals
