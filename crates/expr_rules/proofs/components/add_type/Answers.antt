use Rattle.std.proofs.Common.{◌≡◌, ◌++◌, ◌∙◌, None, Some, slice_get, ap, sym, append-nil, arith}
use Rattle.expr_rules.proofs.Steps.{type_none, type_some}
use Rattle.expr_rules.proofs.components.add_type.Goals as goal

pub returns-in_ok-push : goal.returns-in_ok-push
returns-in_ok-push c =
    let fields = c.args.fields.now in
    let e : slice_get fields c.args.place ≡ Some (c.in-Some.field-0-0, c.in-Some.field) = grind (arith, c.at.ensures, c.in-Some.is, c.in-Some.field-is) in
    c.in_ok-push.ensures.ok ∙ ap (λ ts. c.args.types.now ++ ts) (sym (type_some fields c.args.place (c.in-Some.field-0-0, c.in-Some.field) e))

pub returns-in_default : goal.returns-in_default
returns-in_default c =
    let e : slice_get c.args.fields.now c.args.place ≡ None = grind (arith, c.at.ensures, c.in_default.is) in
    sym (ap (λ ts. c.args.types.now ++ ts) (type_none c.args.fields.now c.args.place e) ∙ append-nil c.args.types.now)
