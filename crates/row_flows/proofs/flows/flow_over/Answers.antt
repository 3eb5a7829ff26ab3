use Rattle.std.proofs.lemmas.Result.{IfOk-weaker}
use Rattle.std.proofs.Common.{ap, sym, subst}
use Rattle.core_form.specs.Exits.{ExitsIn}
use Rattle.core_form.specs.Code.{code_of}
use Rattle.flow_facts.specs.Flow.{IsSame}
use Rattle.flow_facts.specs.Told.{told}
use Rattle.flow_facts.proofs.Same.{same_through}
use Rattle.flow_relations.specs.Equation.{code_at_body, code_of_body}
use Rattle.flow_relations.specs.Framing.{spread_of}
use Rattle.flow_relations.specs.Told.{flow_told}
use Rattle.row_flows.proofs.Calls.{code_within}
use Rattle.row_flows.proofs.Told.{by_leaf, told_by, view_leaves, view_told}
use Rattle.row_flows.proofs.flows.flow_over.Goals as goal

pub facts_of-requires-clause-in_range : goal.facts_of-requires-clause-in_range
facts_of-requires-clause-in_range c = code_within c.args.program.now c.args.body.0 c.at.result.now c.at.ensures c.requires.fine c.requires.in_range

pub flow_from-requires-clause-none : goal.flow_from-requires-clause-none
flow_from-requires-clause-none c = λ n r.
    let p = c.args.program.now in
    let b = c.args.body.0 in
    let x = c.in_ok-framing.field-0 in
    let code = code_of p.exprs p.stmts c.at.result.now.code in
    let is = ap (code_at_body p) c.at.ensures in
    let facts = subst (λ a. IsSame (told c.in_ok-facts.facts) (told_by p c.args.rows.now b x c.in_ok-framing.ensures a)) (sym is) (rw c.as_slice.ensures.value at c.in_ok-facts.ensures.flow) in
    let exits = subst (λ a. ExitsIn 0 a) (sym is) (c.requires.fine.exits b c.at.result.now c.at.ensures) in
    view_leaves p c.args.rows.now b x c.in_ok-framing.ensures (code_of_body p b) c.in_ok-framing.ensures.code exits (told c.in_ok-facts.facts) facts n r

pub returns-clause-flow : goal.returns-clause-flow
returns-clause-flow c =
    let p = c.args.program.now in
    let b = c.args.body.0 in
    let x = c.in_ok-framing.field-0 in
    let is = ap (code_at_body p) c.at.ensures in
    let facts = subst (λ a. IsSame (told c.in_ok-facts.facts) (told_by p c.args.rows.now b x c.in_ok-framing.ensures a)) (sym is) (rw c.as_slice.ensures.value at c.in_ok-facts.ensures.flow) in
    let same = view_told p c.args.rows.now b x c.in_ok-framing.ensures (code_of_body p b) c.in_ok-framing.ensures.code (told c.in_ok-facts.facts) facts in
    IfOk-weaker c.flow_from.result
    (λ f. IsSame (flow_told f) (spread_of x.framing.frame (told c.in_ok-facts.facts)))
    (λ f. IsSame (flow_told f) (by_leaf p c.args.rows.now b x c.in_ok-framing.ensures (code_of_body p b)))
    (λ f h. same_through _ _ _ h same)
    c.flow_from.ensures.flow
