use Rattle.std.proofs.Common.{◌≤◌, ◌-◌, length}
use Rattle.ada_grammar.specs.Lexemes.{lexemes}
use Rattle.spark_parser.specs.Files.{SoFar}
use Rattle.spark_parser.proofs.files.file.Given as goal

abbrev pub invariant-loop-so_far : goal.invariant-loop-so_far
invariant-loop-so_far l = record {
  ends : l.so_far.next.at ≤ length (lexemes l.tokens);
  so_far : SoFar (lexemes l.tokens) l.fn.cursor l.fn.units l.units l.so_far;
}

abbrev pub decreases-loop-so_far : goal.decreases-loop-so_far
decreases-loop-so_far l = length (lexemes l.tokens) - l.so_far.next.at
