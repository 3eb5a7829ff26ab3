use Rattle.std.proofs.Common.{◌≡◌, ◌∙◌}
use Rattle.first_path.specs.Spelling.{sign_then, word_then, procedure_body_then}
use Rattle.first_path.specs.declared.source.Sign.TheVariants as signs
use Rattle.first_path.proofs.Denied.{denied}
use Rattle.first_path.proofs.One.{behind_procedure}
use Rattle.first_path.proofs.units.package_body.Goals as goal

pub returns-in_err-end-clause-err : goal.returns-in_err-end-clause-err
returns-in_err-end-clause-err c =
    denied _ c.from_residual-in_err-end.ensures.1 (λ p r spelled.
    let read : sign_then signs.Package (sign_then signs.Body (word_then c.in_ok-package.«package» (sign_then signs.Is (procedure_body_then c.in_ok-procedure.procedure c.procedure_body.new.rest.items)))) ≡ c.args.rest.now.items
    = cc (c.in_ok-sign.ensures.ok, c.in_ok-sign-2.ensures.ok, c.in_ok-package.ensures.ok, c.in_ok-sign-3.ensures.ok, c.in_ok-procedure.ensures.ok) in
    c.in_err-end.ensures.err p.end r (behind_procedure c.in_ok-package.«package» c.in_ok-procedure.procedure p c.procedure_body.new.rest.items r (read ∙ spelled)))
