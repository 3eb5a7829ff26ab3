use Rattle.std.proofs.Common.{subst}
use Rattle.row_leaves.specs.declared.layout.Laid.{Laid}
use Rattle.row_leaves.specs.Laid.{IsLaid}
use Rattle.program_layout.proofs.Making.{first_without, layout_laid}
use Rattle.program_layout.proofs.laying.layout.Goals as goal

pub returns-in-Out-clause-layout : goal.returns-in-Out-clause-layout
returns-in-Out-clause-layout c = layout_laid c.args.program.now c.requires.fine c.in_ok-bodies.bodies c.in_ok-bodies.ensures c.in-Out.layout
    (subst (λ (laid : Laid). IsLaid c.in_ok-bodies.bodies laid) c.in-Out.is c.in_ok-layout.ensures)

pub returns-clause-refused : goal.returns-clause-refused
returns-clause-refused c =
    let laid = subst (λ (laid : Laid). IsLaid c.in_ok-bodies.bodies laid) c.in-TooLarge.is c.in_ok-layout.ensures in
    let first = first_without c.args.program.now c.requires.fine c.in_ok-bodies.bodies c.in_ok-bodies.ensures laid.0 c.in-TooLarge.body.0
    laid.1.0 laid.1.1 in
    (c.in-TooLarge.body.0, (laid.0, (first.0, (first.1, c.in_ok-refusal-in-TooLarge.ensures))))
