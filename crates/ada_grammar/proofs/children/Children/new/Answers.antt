use Rattle.ada_grammar.proofs.Standing.{holds_none}
use Rattle.ada_grammar.proofs.children.Children.new.Goals as goal

pub returns : goal.returns
returns c = λ u. holds_none u c.new.ensures c.new-2.ensures c.new-3.ensures c.new-4.ensures
