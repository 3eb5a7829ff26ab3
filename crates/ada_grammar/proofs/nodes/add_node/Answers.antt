use Rattle.std.proofs.Common.{ap}
use Rattle.ada_grammar.specs.Phrases.{Tree, none}
use Rattle.ada_grammar.proofs.NodeTrees.{trees_length, added_tree, added_within, below_equal}
use Rattle.ada_grammar.proofs.nodes.add_node.Goals as goal

pub add-requires : goal.add-requires
add-requires c = record { below = below_equal _ (trees_length _) c.requires.below }

pub returns-clause-within : goal.returns-clause-within
returns-clause-within c = added_within c.in_ok-node.ensures.adds

pub returns-clause-builds : goal.returns-clause-builds
returns-clause-builds c = ap (λ (z : Tree). record { tree = z; span = c.args.span; form = c.args.form; children = none }) (added_tree c.in_ok-node.ensures.adds)
