use Rattle.std.proofs.Common.{◌≡◌, ◌+◌, ◌↔◌, List, [], false, get_or, subst, sym, ◌∙◌}
use Rattle.std.proofs.lemmas.Option.{get_or_from_slice_get}
use Rattle.spark_base.specs.declared.numbers.BodyNo.{BodyNo}
use Rattle.spark_base.specs.declared.numbers.LeafNo.{LeafNo}
use Rattle.row_leaves.specs.Leaves.{IsRowLeaf}
use Rattle.row_leaves.specs.Search.{Spread, IsRowBelow}
use Rattle.row_leaves.proofs.Rows.{spread_row, row_grown}
use Rattle.row_leaves.proofs.leaves.add_leaf.Goals as goal

pub returns-clause-rows : goal.returns-clause-rows
returns-clause-rows c = λ b.
    let d = c.args.bodies.now in
    let v = c.args.v in
    let callers = c.args.callers.now in
    let spreads = c.at-spreads.result.now in
    let starts : c.as_slice-starts.result.now ≡ get_or d.holders v.0 [] =
    c.as_slice-starts.ensures ∙ sym (get_or_from_slice_get d.holders v.0 c.at-holders.result.now [] c.at-holders.ensures) in
    let rule : Spread spreads callers c.as_slice-starts.result.now b ↔ IsRowLeaf d b v.0 =
    subst (λ (bs : List BodyNo). Spread spreads callers bs b ↔ IsRowLeaf d b v.0) (sym starts)
    (spread_row d callers v.0 c.requires.callers spreads (get_or_from_slice_get d.library v.0 spreads false c.at-spreads.ensures) b) in
    let marks = c.in_ok-spread.ensures b in
    subst (λ (list : List LeafNo). IsRowBelow d b (v.0 + 1) list) (sym (c.in_ok-grow_marked.ensures.rows b))
    (row_grown d b v (get_or c.args.outer.now.items b []) (get_or c.spread.new.marks b false)
    (λ h. rule.0 (marks.0 h), λ t. marks.1 (rule.1 t)) (c.requires.rows b))
