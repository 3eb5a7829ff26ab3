use Rattle.std.proofs.Common.{◌++◌, ap, ◌∙◌, arith}
use Rattle.std.proofs.lemmas.List.{take_rest}
use Rattle.types_objects.specs.Types.{pending_of, reversed}
use Rattle.types_objects.proofs.NestedFields.{pushed_field}
use Rattle.types_objects.proofs.paths.push_fields.Goals as goal

pub returns-in_ok-push-in-len1-up : goal.returns-in_ok-push-in-len1-up
returns-in_ok-push-in-len1-up c =
    let others = c.in_ok-stack-in-len1-up.ensures ∙ ap (λ fs. pending_of c.args.prefix fs ++ reversed c.args.stack.items) (take_rest c.args.fields.now 1) in
    pushed_field c.args.prefix c.args.fields.now 1 c.first-item.result c.in_ok-extended-in-len1-up.field-0 c.in_ok-stack-in-len1-up.stack.items
    c.push.new.self.items c.args.stack.items (omega arith) (omega (arith, c.in-len1-up.len_at_least)) c.first-item.is c.in_ok-extended-in-len1-up.ensures
    others c.in_ok-push-in-len1-up.ensures.items
