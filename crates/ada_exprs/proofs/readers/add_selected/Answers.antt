use Rattle.ada_exprs.proofs.Found.{below_one}
use Rattle.ada_exprs.proofs.readers.add_selected.Goals as goal

pub add_named-requires : goal.add_named-requires
add_named-requires c = record { below = below_one _ c.in_ok-children.ensures c.requires.left }
