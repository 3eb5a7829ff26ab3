use Rattle.std.proofs.Common.{sym, ap, ◌∙◌}
use Rattle.ada_forms.specs.Declarations.{decl_tree}
use Rattle.ada_forms.specs.Forms.{expr_of}
use Rattle.types_objects.specs.Made.{made_by}
use Rattle.types_objects.proofs.Fine.{numeric_same}
use Rattle.types_objects.proofs.made.made_by.Goals as goal

pub returns-in_ok-copied-in-RangeType : goal.returns-in_ok-copied-in-RangeType
returns-in_ok-copied-in-RangeType c =
    let u = c.args.units.now in
    let tree = c.decl_form.ensures.tree ∙ ap (decl_tree (expr_of u.exprs) c.args.d c.decl_form.result.at) c.in-RangeType.is in
    c.numeric.ensures
    ∙ numeric_same c.args.n c.in_ok-copied-in-RangeType.field-0 _ c.args.d c.in_ok-formed-in-RangeType.formed _ c.in_ok-copied-in-RangeType.ensures c.in_ok-formed-in-RangeType.ensures
    ∙ sym (ap (made_by c.args.types.now u c.args.known.now c.args.n) tree)

pub returns-in_ok-copied-in-ModularType : goal.returns-in_ok-copied-in-ModularType
returns-in_ok-copied-in-ModularType c =
    let u = c.args.units.now in
    let tree = c.decl_form.ensures.tree ∙ ap (decl_tree (expr_of u.exprs) c.args.d c.decl_form.result.at) c.in-ModularType.is in
    c.numeric-in-ModularType.ensures
    ∙ numeric_same c.args.n c.in_ok-copied-in-ModularType.field-0 _ c.args.d c.in_ok-formed-in-ModularType.formed _ c.in_ok-copied-in-ModularType.ensures c.in_ok-formed-in-ModularType.ensures
    ∙ sym (ap (made_by c.args.types.now u c.args.known.now c.args.n) tree)
