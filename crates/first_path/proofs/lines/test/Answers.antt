use Rattle.std.proofs.Common.{◌≡◌, ◌∙◌, List, true, false, refl, sym, ap, subst}
use Rattle.first_path.specs.Begins.{begins}
use Rattle.first_path.specs.Spelling.{sign_then, relation_sign, sum_then}
use Rattle.first_path.specs.declared.source.Sign.TheVariants as signs
use Rattle.first_path.specs.declared.source.Symbol.{Symbol}
use Rattle.first_path.proofs.Denied.{denied, passed}
use Rattle.first_path.proofs.One.{behind_left, behind_relation, behind_test}
use Rattle.first_path.proofs.lines.test.Goals as goal

pub returns-in_err-relation-clause-err : goal.returns-in_err-relation-clause-err
returns-in_err-relation-clause-err c =
    denied _ c.from_residual-in_err-relation.ensures.1 (λ t r spelled.
    c.in_err-relation.ensures.err t.relation (sum_then t.right (sign_then signs.Then r))
    (behind_left c.in_ok-left.left t c.sum.new.rest.items (sign_then signs.Then r) c.in_ok-left.ensures.stop (sym c.in_ok-left.ensures.ok ∙ spelled)))

pub returns-in_err-right-clause-err : goal.returns-in_err-right-clause-err
returns-in_err-right-clause-err c =
    passed _ c.in_err-right.field-0.0 c.from_residual-in_err-right.ensures.1 c.in_err-right.ensures.err (λ none t r spelled.
    let read : sum_then c.in_ok-left.left (sign_then (relation_sign c.in_ok-relation.relation) c.relation.new.rest.items) ≡ c.args.rest.now.items
    = sym (c.in_ok-left.ensures.ok ∙ ap (sum_then c.in_ok-left.left) c.in_ok-relation.ensures.ok) in
    none t.right (sign_then signs.Then r) refl
    (behind_relation c.in_ok-left.left c.in_ok-relation.relation t c.relation.new.rest.items (sign_then signs.Then r) (read ∙ spelled)))

pub returns-in_err-sign-clause-err : goal.returns-in_err-sign-clause-err
returns-in_err-sign-clause-err c =
    denied _ c.from_residual-in_err-sign.ensures.1 (λ t r spelled.
    let read : sum_then c.in_ok-left.left (sign_then (relation_sign c.in_ok-relation.relation) (sum_then c.in_ok-right.right c.sum-2.new.rest.items)) ≡ c.args.rest.now.items
    = sym (c.in_ok-left.ensures.ok ∙ ap (sum_then c.in_ok-left.left) (c.in_ok-relation.ensures.ok ∙ ap (sign_then (relation_sign c.in_ok-relation.relation)) c.in_ok-right.ensures.ok)) in
    let is = behind_test c.in_ok-left.left c.in_ok-relation.relation c.in_ok-right.right t c.sum-2.new.rest.items (sign_then signs.Then r) c.in_ok-right.ensures.stop refl (read ∙ spelled) in
    let no_then : true ≡ false = subst (λ (x : List Symbol). begins signs.Then x ≡ false) is c.in_err-sign.ensures.err in
    cc)
