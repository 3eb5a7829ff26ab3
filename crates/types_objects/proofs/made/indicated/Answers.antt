use Rattle.std.proofs.Common.{sym, ap, ◌∙◌}
use Rattle.ada_forms.specs.Forms.{expr_of, form_tree}
use Rattle.static_eval.specs.Known.{said}
use Rattle.types_objects.specs.Bounds.{of_subtype}
use Rattle.types_objects.specs.Firsts.{first_of}
use Rattle.types_objects.specs.Made.{indicated}
use Rattle.types_objects.proofs.Fine.{bounded_same}
use Rattle.types_objects.proofs.made.indicated.Goals as goal

pub returns-in_ok-copied-in-Constrained : goal.returns-in_ok-copied-in-Constrained
returns-in_ok-copied-in-Constrained c =
    let u = c.args.units.now in let k = c.args.known.now in
    let tree = c.expr_form.ensures.tree ∙ ap (form_tree (expr_of u.exprs) c.args.subtype c.expr_form.result.at) c.in-Constrained.is in
    let first = c.first_of-first.ensures ∙ ap (first_of c.args.types.now) c.type_of_mark-in-Constrained.ensures in
    let formed = c.in_ok-formed-in-Constrained.ensures ∙ ap (λ r. of_subtype r (said u k c.in-Constrained.low) (said u k c.in-Constrained.high)) c.range_of_mark.ensures in
    c.bounded.ensures
    ∙ bounded_same c.first_of-first.result _ c.in_ok-copied-in-Constrained.field-0 _ c.args.d c.in_ok-formed-in-Constrained.formed _ first c.in_ok-copied-in-Constrained.ensures formed
    ∙ sym (ap (indicated c.args.types.now u k c.args.name.now c.args.d) tree)
