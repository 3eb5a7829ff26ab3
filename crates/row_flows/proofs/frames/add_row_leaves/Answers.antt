use Rattle.std.proofs.Common.{◌≡◌, ◌<◌, ◌∙◌, inl, inr, [], get_or, refl, sym, subst}
use Rattle.std.proofs.lemmas.Option.{get_or_from_slice_get, slice_get-get_or}
use Rattle.summary_rows.specs.Layout.{IsAt, outer_of}
use Rattle.row_flows.specs.Frames.{IsIn}
use Rattle.row_flows.proofs.frames.add_row_leaves.Goals as goal

pub add_leaves-requires-clause-leaves : goal.add_leaves-requires-clause-leaves
add_leaves-requires-clause-leaves c = λ i d l.
    let b = c.args.body.0 in
    let layout = c.args.rows.now.layout in
    let outer = c.as_slice-outer.result.now in
    let same : outer_of layout b ≡ outer = get_or_from_slice_get layout.outer b c.at.result.now [] c.at.ensures ∙ sym c.as_slice-outer.ensures in
    let at = subst (λ xs. IsAt xs (get_or outer i d).0 i) (sym same) (slice_get-get_or outer i d l) in
    subst (λ n. (get_or outer i d).0 < n) (sym c.void_of.ensures) (c.requires.rows.leaves b (get_or outer i d).0 (i, at))

pub returns-clause-set : goal.returns-clause-set
returns-clause-set c = λ v.
    let b = c.args.body.0 in
    let layout = c.args.rows.now.layout in
    let outer = c.as_slice-outer.result.now in
    let same : outer_of layout b ≡ outer = get_or_from_slice_get layout.outer b c.at.result.now [] c.at.ensures ∙ sym c.as_slice-outer.ensures in (
      λ h. elim ((c.add_leaves.ensures.set v).0 h) [ inl x ↦ inl x | inr y ↦ inr (subst (λ xs. IsIn xs v) (sym same) y.0) ],
      λ h. (c.add_leaves.ensures.set v).1 (elim h [
        | inl x ↦ inl x
        | inr y ↦ inr (subst (λ xs. IsIn xs v) same y, (subst (λ n. v < n) (sym c.void_of.ensures) (c.requires.rows.leaves b v y), refl))
      ]),
    )
