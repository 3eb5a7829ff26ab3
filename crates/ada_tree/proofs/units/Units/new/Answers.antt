use Rattle.ada_tree.proofs.Ordered.{no_trees}
use Rattle.ada_tree.proofs.units.Units.new.Goals as goal

pub returns-clause-ordered : goal.returns-clause-ordered
returns-clause-ordered c = no_trees _ c.new.ensures c.new-2.ensures c.new-3.ensures c.new-4.ensures c.new-5.ensures
