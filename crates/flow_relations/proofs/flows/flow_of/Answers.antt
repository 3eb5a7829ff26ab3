use Rattle.std.proofs.Common.{arith}
use Rattle.std.proofs.lemmas.Result.{IfOk-weaker}
use Rattle.core_form.specs.Code.{Leaves, code_of}
use Rattle.flow_relations.specs.Equation.{plain_flow}
use Rattle.flow_facts.specs.Flow.{IsSame}
use Rattle.flow_relations.specs.Framing.{spread_of}
use Rattle.flow_facts.specs.Told.{told}
use Rattle.flow_relations.specs.Told.{flow_told}
use Rattle.flow_relations.proofs.Framings.{body_spread}
use Rattle.flow_relations.proofs.Leaving.{leaves_within}
use Rattle.flow_facts.proofs.Same.{same_through}
use Rattle.flow_relations.proofs.flows.flow_of.Goals as goal

pub flow_from-requires-clause-none : goal.flow_from-requires-clause-none
flow_from-requires-clause-none c = λ n r.
    let p = c.args.program.now in
    let same = body_spread p c.args.body.0 c.at.result.now c.at.ensures c.in_ok-frame.field-0 c.in_ok-frame.ensures (told c.in_ok-facts.facts) c.in_ok-facts.ensures.flow in
    let l = leaves_within p 0 (code_of p.exprs p.stmts c.at.result.now.code) (c.requires.fine.exits _ _ c.at.ensures) n ((same.can (Leaves n)).0 r) in
    absurd (omega arith)

pub returns-clause-flow : goal.returns-clause-flow
returns-clause-flow c =
    let p = c.args.program.now in
    let same = body_spread p c.args.body.0 c.at.result.now c.at.ensures c.in_ok-frame.field-0 c.in_ok-frame.ensures (told c.in_ok-facts.facts) c.in_ok-facts.ensures.flow in
    rw c.at.ensures (
    IfOk-weaker c.flow_from.result
    (λ f. IsSame (flow_told f) (spread_of c.in_ok-frame.field-0.frame (told c.in_ok-facts.facts)))
    (λ f. IsSame (flow_told f) (plain_flow p (code_of p.exprs p.stmts c.at.result.now.code)))
    (λ f h. same_through _ _ _ h same)
    c.flow_from.ensures.flow)
