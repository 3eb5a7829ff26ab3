use Rattle.std.proofs.Common.{◌≡◌, ◌∙◌, [], sym, true}
use Rattle.first_path.specs.Spelling.{package_body_then}
use Rattle.first_path.proofs.Denied.{passed}
use Rattle.first_path.proofs.One.{one_spec, one_package_body}
use Rattle.first_path.proofs.units.source.Goals as goal

pub returns-in_err-body-clause-err : goal.returns-in_err-body-clause-err
returns-in_err-body-clause-err c =
    passed _ c.in_err-body.field-0.0 c.from_residual-in_err-body.ensures.1 c.in_err-body.ensures.err (λ none s spelled.
    none s.body [] (one_spec c.in_ok-spec.spec s.spec c.spec.new.rest.items (package_body_then s.body []) (sym c.in_ok-spec.ensures.ok ∙ spelled)).1)

pub returns-then-not-is_finished-clause-err : goal.returns-then-not-is_finished-clause-err
returns-then-not-is_finished-clause-err c = λ s spelled.
    let spec : c.spec.new.rest.items ≡ package_body_then s.body [] = (one_spec c.in_ok-spec.spec s.spec c.spec.new.rest.items (package_body_then s.body []) (sym c.in_ok-spec.ensures.ok ∙ spelled)).1 in
    let body : c.package_body.new.rest.items ≡ [] = (one_package_body c.in_ok-body.body s.body c.package_body.new.rest.items [] (sym c.in_ok-body.ensures.ok ∙ spec)).1 in
    let finished : c.is_finished.result ≡ true = c.is_finished.ensures.1 body in
    cc
