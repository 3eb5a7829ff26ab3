use Rattle.std.proofs.Common.{◌∙◌}
use Rattle.core_form.specs.Code.{code_of}
use Rattle.first_lower.proofs.Listing.{codes_whole, each_below}
use Rattle.first_lower.proofs.code.add_sequence.Goals as goal

pub add_stmt-requires-clause-node : goal.add_stmt-requires-clause-node
add_stmt-requires-clause-node c = each_below _ c.args.list c.requires.within

pub returns-clause-code : goal.returns-clause-code
returns-clause-code c = c.in_ok-sequence.ensures.tree ∙ codes_whole (code_of c.args.nodes.now.exprs c.args.nodes.now.stmts) c.args.list
