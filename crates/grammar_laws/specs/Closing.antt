-- What the limits know before and behind statements.
use Rattle.std.specs.Prelude.{◌≡◌, ◌≤◌, true, false}
use Rattle.ada_grammar.specs.declared.tokens.LoopHead.TheVariants as heads
use Rattle.ada_grammar.specs.declared.tokens.Nesting.{Nesting}
use Rattle.ada_grammar.specs.Limits.{is_end, most_operators}

-- where a statement may begin: in statements, in no parentheses and no head of a loop; nothing is skipped, nothing ends
pub record InStatements (n : Nesting) : Type 0 where
  pub depth : n.depth ≡ 0
  pub in_statements : n.in_statements ≡ true
  pub head : n.head ≡ heads.Nothing
  pub skips : n.skips ≡ false
  pub last : is_end n.last ≡ false
  pub parted : n.parted ≤ 1
  pub operators : n.operators ≤ most_operators

-- from n to m all compound statements and loops that began have ended, and a statement may begin again
pub record IsClosed (n m : Nesting) : Type 0 where
  pub compounds : m.compounds ≡ n.compounds
  pub loops : m.loops ≡ n.loops
  pub again : InStatements m
