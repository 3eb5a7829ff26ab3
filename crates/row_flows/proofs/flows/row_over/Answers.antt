use Rattle.std.proofs.lemmas.Result.{IfOk-weaker}
use Rattle.std.proofs.Common.{inr, arith}
use Rattle.core_form.specs.Code.{code_of}
use Rattle.flow_bits.specs.Sets.{Has}
use Rattle.flow_facts.specs.Flow.{IsSame, row_of}
use Rattle.flow_facts.specs.Told.{told}
use Rattle.summary_rows.specs.Layout.{told as rows_told}
use Rattle.flow_relations.specs.Equation.{whole_code}
use Rattle.flow_relations.specs.Framing.{place_at, spread_of}
use Rattle.flow_relations.specs.Summaries.{equation_over}
use Rattle.flow_relations.specs.Told.{IsRow}
use Rattle.flow_relations.proofs.Frames.{row_same, whole_is}
use Rattle.row_flows.proofs.Calls.{code_within}
use Rattle.row_flows.proofs.Told.{told_by, view_told}
use Rattle.row_flows.proofs.flows.row_over.Goals as goal

pub facts_of-requires-clause-in_range : goal.facts_of-requires-clause-in_range
facts_of-requires-clause-in_range c = code_within c.args.program.now c.args.body.0 c.at-node.result.now c.at-node.ensures c.requires.fine c.requires.in_range

pub row_from-requires-clause-inside : goal.row_from-requires-clause-inside
row_from-requires-clause-inside c = λ v h.
    let x = c.in_ok-framing.field-0 in
    let framing = c.in_ok-framing.ensures.framing in
    let k = framing.inside v (inr ((c.in_ok-named.ensures.set v).0 h)) in
    let l = k.number in
    (place_at x.framing.places v, (omega (arith, l, framing.framed.count), k.leaf))

pub returns-clause-row : goal.returns-clause-row
returns-clause-row c =
    let p = c.args.program.now in
    let b = c.args.body.0 in
    let rows = c.args.rows.now in
    let body = c.at-node.result.now in
    let x = c.in_ok-framing.field-0 in
    let h = c.in_ok-framing.ensures in
    let facts = told c.open_frame.new.facts in
    let opens = rw c.as_slice-2.ensures at c.open_frame.ensures.flow x.callees.items (code_of p.exprs p.stmts body.code) (rw c.as_slice.ensures.value at c.in_ok-facts.ensures.flow) in
    let whole : IsSame facts (told_by p rows b x h (whole_code p b)) = rw (whole_is p b body c.at-node.ensures) opens in
    let same = view_told p rows b x h (whole_code p b) h.whole facts whole in
    IfOk-weaker c.row_from.result
    (λ r. IsRow r (row_of (Has c.in_ok-named.named) (spread_of x.framing.frame facts)))
    (λ r. IsRow r (equation_over p rows.layout (rows_told rows) b))
    (λ r w. row_same r _ _ _ _ c.in_ok-named.ensures.set same w)
    c.row_from.ensures.row
