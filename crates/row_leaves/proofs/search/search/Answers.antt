use Rattle.std.proofs.Common.{◌≡◌, ◌<◌, [], List, Some, length, arith, subst, sym, ◌∙◌}
use Rattle.std.specs.Prelude.{slice_get}
use Rattle.std.proofs.lemmas.List.{get_or_default}
use Rattle.std.proofs.lemmas.Option.{slice_get-get_or}
use Rattle.spark_base.specs.declared.numbers.BodyNo.{BodyNo}
use Rattle.row_leaves.specs.Search.{IsFound}
use Rattle.row_leaves.proofs.Found.{found_none, search_steps, search_ends}
use Rattle.row_leaves.proofs.search.search.Goals as goal

pub find_all-requires-clause-found : goal.find_all-requires-clause-found
find_all-requires-clause-found c = subst (λ (list : List BodyNo). IsFound c.args.marks.now list) (sym c.new-found.ensures.items) (found_none c.args.marks.now c.requires.none)

pub loop-at-preserved : goal.loop-at-preserved
loop-at-preserved c =
    let is = c.loop-at.invariant in
    let more = c.in_ok-find_all-2.ensures in
    let item = c.index.result.now in
    let found = c.loop-at.found.items in
    let at = c.loop-at.at in
    let size = is.size in
    let below : at < length found = (let t = c.loop-at-test.true in let e = c.len.ensures in omega (arith, t, e)) in
    let there = subst (λ (x : BodyNo). slice_get found at ≡ Some x) (sym c.index.ensures) (slice_get-get_or found at item below) in
    let marked : item.0 < length c.loop-at.marks = subst (λ (x : BodyNo). x.0 < length c.loop-at.marks) (sym c.index.ensures) (is.lists.below at item below) in
    let list = c.as_slice-list.ensures ∙ c.index-callers-index.is ∙ get_or_default c.args.callers.now item.0 c.index-callers-index.result [] (omega (arith, marked, size)) in
    let same = c.find_all-in-loop-at.auto.marks in
    search_steps c.args.callers.now c.args.starts.now c.loop-at.marks _ found _ at item c.as_slice-list.result.now is below
    there list (omega (arith, same)) more.found more.marks more.longer more.kept

pub returns : goal.returns
returns c = search_ends c.args.callers.now c.args.starts.now c.loop-at.marks c.loop-at.found.items c.loop-at.at c.loop-at.invariant
    (let f = c.loop-at-test.false in let e = c.len.ensures in omega (arith, f, e))
