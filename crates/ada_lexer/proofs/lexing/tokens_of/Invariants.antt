use Rattle.std.proofs.Common.{◌≡◌, ◌≤◌, ◌+◌, ◌-◌, drop, length, false}
use Rattle.ada_lexer.specs.Cut.{cut_from, after_tokens, place}
use Rattle.ada_lexer.proofs.lexing.tokens_of.Given as goal

abbrev pub invariant-loop-at : goal.invariant-loop-at
invariant-loop-at l = record {
  within : l.at ≤ length l.bytes;
  cut : after_tokens l.tokens (cut_from l.file l.bytes l.at 0 l.ticked (drop l.at l.bytes)) ≡ cut_from l.file l.bytes 0 0 false l.bytes;
  place : l.place ≡ place l.bytes l.at;
  line : l.place.line ≤ l.at + 1;
  col : l.place.col ≤ l.at + 1;
}

abbrev pub decreases-loop-at : goal.decreases-loop-at
decreases-loop-at l = length l.bytes - l.at
