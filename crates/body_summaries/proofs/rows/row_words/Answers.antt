use Rattle.std.proofs.Common.{◌≡◌, [], List, length, ap, sym, ◌∙◌, arith}
use Rattle.std.proofs.lemmas.Option.{get_or_from_slice_get}
use Rattle.spark_base.specs.declared.numbers.LeafNo.{LeafNo}
use Rattle.summary_rows.specs.Layout.{outer_of, row_size, told}
use Rattle.flow_relations.specs.Summaries.{equation_over}
use Rattle.body_summaries.proofs.Words.{leaf_within, row_fits, same_bits}
use Rattle.body_summaries.proofs.rows.row_words.Goals as goal

pub words_of_row-requires-clause-leaves : goal.words_of_row-requires-clause-leaves
words_of_row-requires-clause-leaves c k d h =
    let l = c.args.rows.now.layout in
    let e : outer_of l c.args.body.0 ≡ c.as_slice.result.now =
    get_or_from_slice_get l.outer c.args.body.0 c.at-outer.result.now [] c.at-outer.ensures ∙ sym c.as_slice.ensures in
    let w = leaf_within c.args.program.now c.args.rows.now c.requires.rows c.args.body.0 c.as_slice.result.now e k d h in
    let v = c.in_ok-row.ensures.size.void in
    omega (arith, w, v)

pub words_of_row-requires-clause-fits : goal.words_of_row-requires-clause-fits
words_of_row-requires-clause-fits c =
    let l = c.args.rows.now.layout in
    let e : outer_of l c.args.body.0 ≡ c.as_slice.result.now =
    get_or_from_slice_get l.outer c.args.body.0 c.at-outer.result.now [] c.at-outer.ensures ∙ sym c.as_slice.ensures in
    let b = c.requires.rows.bodies in
    let h = c.requires.in_range in
    row_fits l c.requires.rows.words.layout c.args.body.0 (omega (arith, b, h)) c.as_slice.result.now e

pub returns-clause-size : goal.returns-clause-size
returns-clause-size c =
    let l = c.args.rows.now.layout in
    let e : outer_of l c.args.body.0 ≡ c.as_slice.result.now =
    get_or_from_slice_get l.outer c.args.body.0 c.at-outer.result.now [] c.at-outer.ensures ∙ sym c.as_slice.ensures in
    c.in_ok-words.ensures.size ∙ sym (ap (λ (vs : List LeafNo). row_size (length vs)) e)

pub returns-clause-bits : goal.returns-clause-bits
returns-clause-bits c n =
    let l = c.args.rows.now.layout in
    let e : outer_of l c.args.body.0 ≡ c.as_slice.result.now =
    get_or_from_slice_get l.outer c.args.body.0 c.at-outer.result.now [] c.at-outer.ensures ∙ sym c.as_slice.ensures in
    same_bits c.in_ok-row.row (equation_over c.args.program.now l (told c.args.rows.now) c.args.body.0) c.in_ok-row.ensures.row
    c.as_slice.result.now (outer_of l c.args.body.0) e c.in_ok-words.words n (c.in_ok-words.ensures.bits n)
