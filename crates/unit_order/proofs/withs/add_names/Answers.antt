use Rattle.std.proofs.Common.{◌≡◌, ◌++◌, map, ap, sym, ◌∙◌}
use Rattle.std.proofs.lemmas.List.{map-append}
use Rattle.ada_forms.specs.Declarations.{decl_of, decl_tree}
use Rattle.ada_forms.specs.Forms.{expr_of}
use Rattle.unit_order.specs.Withs.{names_in}
use Rattle.unit_order.proofs.Steps.{exprs_listed}
use Rattle.unit_order.proofs.withs.add_names.Goals as goal

pub returns-in_ok-extend_from_slice : goal.returns-in_ok-extend_from_slice
returns-in_ok-extend_from_slice c =
    let u = c.args.units.now in
    let tree = expr_of u.exprs in
    let old = c.args.names.now.items in
    let list = c.in-With.list.now in
    let told : names_in (decl_of u c.args.d) ≡ map tree list =
    ap names_in (c.decl_form.ensures.tree ∙ ap (decl_tree tree c.args.d c.decl_form.result.at) c.in-With.is) ∙ exprs_listed (map tree list) in
    ap (map tree) c.in_ok-extend_from_slice.ensures.items ∙ map-append tree old list ∙ ap (λ es. map tree old ++ es) (sym told)
