use Rattle.std.proofs.Common.{ℕ, ◌≡◌, ◌+◌, ◌<◌, ◌^◌, ◌≤◌, [], List, length, ap, sym, ◌∙◌, subst}
use Rattle.std.proofs.lemmas.Option.{get_or_from_slice_get}
use Rattle.spark_base.specs.declared.numbers.LeafNo.{LeafNo}
use Rattle.summary_rows.specs.Layout.{first_of, outer_of, row_size}
use Rattle.summary_rows.proofs.Joined.{row_within}
use Rattle.body_summaries.proofs.Words.{row_fits}
use Rattle.claim_state.proofs.places.word_count.Goals as goal

pub row_size-requires : goal.row_size-requires
row_size-requires c =
    let l = c.args.layout.now in
    let e : outer_of l c.args.b.0 ≡ c.at.result.now = get_or_from_slice_get l.outer c.args.b.0 c.at.result.now [] c.at.ensures in
    subst (λ (n : ℕ). row_size n < 2 ^ 32) (sym c.len.ensures) (row_fits l c.requires.layout c.args.b.0 c.requires.in_range c.at.result.now e)

pub returns-clause-count : goal.returns-clause-count
returns-clause-count c =
    let l = c.args.layout.now in
    let e : outer_of l c.args.b.0 ≡ c.at.result.now = get_or_from_slice_get l.outer c.args.b.0 c.at.result.now [] c.at.ensures in
    c.row_size.ensures ∙ ap (λ (n : ℕ). row_size n) (c.len.ensures ∙ sym (ap (λ (vs : List LeafNo). length vs) e))

pub returns-clause-within : goal.returns-clause-within
returns-clause-within c =
    let l = c.args.layout.now in
    let e : outer_of l c.args.b.0 ≡ c.at.result.now = get_or_from_slice_get l.outer c.args.b.0 c.at.result.now [] c.at.ensures in
    let s : c.row_size.result ≡ row_size (length (outer_of l c.args.b.0)) = c.row_size.ensures ∙ ap (λ (n : ℕ). row_size n) (c.len.ensures ∙ sym (ap (λ (vs : List LeafNo). length vs) e)) in
    subst (λ (n : ℕ). first_of l c.args.b.0 + n ≤ l.words) (sym s) (row_within l c.requires.layout c.args.b.0 c.requires.in_range)
