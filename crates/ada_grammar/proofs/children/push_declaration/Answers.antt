use Rattle.ada_grammar.proofs.Standing.{decl_builds}
use Rattle.ada_grammar.proofs.children.push_declaration.Goals as goal

pub returns-clause-builds : goal.returns-clause-builds
returns-clause-builds c = decl_builds c.args.kind c.args.span c.args.name c.in_ok-at.ensures.appends c.in_ok-push.ensures.ok
