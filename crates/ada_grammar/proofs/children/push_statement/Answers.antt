use Rattle.ada_grammar.proofs.Standing.{stmt_builds}
use Rattle.ada_grammar.proofs.children.push_statement.Goals as goal

pub returns-clause-builds : goal.returns-clause-builds
returns-clause-builds c = stmt_builds c.args.kind c.args.span c.args.name c.in_ok-at.ensures.appends c.in_ok-push.ensures.ok
