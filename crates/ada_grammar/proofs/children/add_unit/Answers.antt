use Rattle.std.proofs.Common.{Some, ap, ◌∙◌}
use Rattle.ada_grammar.specs.Lexemes.{text_of}
use Rattle.ada_grammar.proofs.Standing.{unit_builds, unit_keeps_order}
use Rattle.ada_grammar.proofs.children.add_unit.Goals as goal

pub returns-clause-builds : goal.returns-clause-builds
returns-clause-builds c =
    unit_builds c.args.kind c.args.name.span (Some c.in_ok-text.text) (text_of c.args.tokens.now.source c.args.name) c.in_ok-append.ensures.appends (ap Some (c.in_ok-text.ensures.written ∙ c.text.ensures))

pub returns-clause-ordered : goal.returns-clause-ordered
returns-clause-ordered c = unit_keeps_order c.args.kind c.args.name.span (Some c.in_ok-text.text) c.in_ok-append.ensures.appends
