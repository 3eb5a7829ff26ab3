use Rattle.std.proofs.Common.{◌≡◌, IfOk, sym, ap, ◌∙◌, subst}
use Rattle.ada_forms.specs.Forms.{expr_of, form_tree}
use Rattle.types_objects.specs.Made.{index_of}
use Rattle.types_objects.proofs.made.index_of.Goals as goal

pub returns-in-BoundsRange : goal.returns-in-BoundsRange
returns-in-BoundsRange c =
    let u = c.args.units.now in
    let tree = c.expr_form.ensures.tree ∙ ap (form_tree (expr_of u.exprs) c.args.index c.expr_form.result.at) c.in-BoundsRange.is in
    subst (λ t. IfOk c.index_between.result (λ m. m ≡ index_of c.args.types.now u c.args.known.now c.args.name.now c.args.d t)) (sym tree) c.index_between.ensures
