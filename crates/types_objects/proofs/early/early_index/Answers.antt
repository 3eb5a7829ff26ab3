use Rattle.std.proofs.Common.{◌≡◌, sym, ap, ◌∙◌, subst}
use Rattle.ada_forms.specs.Forms.{expr_of, form_tree}
use Rattle.types_objects.specs.Early.{early_index, range_made}
use Rattle.types_objects.proofs.early.early_index.Goals as goal

pub returns-in_ok-made-in-BoundsRange : goal.returns-in_ok-made-in-BoundsRange
returns-in_ok-made-in-BoundsRange c =
    let u = c.args.units.now in
    let tree = c.expr_form.ensures.tree ∙ ap (form_tree (expr_of u.exprs) c.args.index c.expr_form.result.at) c.in-BoundsRange.is in
    subst (λ t. c.range_made-in-BoundsRange.result ≡ early_index c.args.types.now u c.args.known.now c.args.name.now c.args.d t) (sym tree)
    (c.range_made-in-BoundsRange.ensures ∙ ap (range_made c.args.types.now) c.in_ok-made-in-BoundsRange.ensures)
