use Rattle.std.proofs.Common.{◌≡◌, ◌∙◌}
use Rattle.first_path.specs.Spelling.{each_then, sign_then, word_then, ended_then, variable_then, procedure_spec_then}
use Rattle.first_path.specs.declared.source.Sign.TheVariants as signs
use Rattle.first_path.proofs.Denied.{denied, passed}
use Rattle.first_path.proofs.One.{behind_variables, behind_declaration}
use Rattle.first_path.proofs.units.spec.Goals as goal

pub returns-in_err-procedure-clause-err : goal.returns-in_err-procedure-clause-err
returns-in_err-procedure-clause-err c =
    passed _ c.in_err-procedure.field-0.0 c.from_residual-in_err-procedure.ensures.1 c.in_err-procedure.ensures.err (λ none s r spelled.
    let read : sign_then signs.Package (word_then c.in_ok-package.«package» (sign_then signs.Is (each_then variable_then c.in_ok-variables.variables c.variables.new.rest.items))) ≡ c.args.rest.now.items
    = cc (c.in_ok-sign.ensures.ok, c.in_ok-package.ensures.ok, c.in_ok-sign-2.ensures.ok, c.in_ok-variables.ensures.ok) in
    none s.procedure (ended_then s.end r) (behind_variables c.in_ok-package.«package» c.in_ok-variables.variables s c.variables.new.rest.items r c.in_ok-variables.ensures.stop (read ∙ spelled)))

pub returns-in_err-end-clause-err : goal.returns-in_err-end-clause-err
returns-in_err-end-clause-err c =
    denied _ c.from_residual-in_err-end.ensures.1 (λ s r spelled.
    let read : sign_then signs.Package (word_then c.in_ok-package.«package» (sign_then signs.Is (each_then variable_then c.in_ok-variables.variables (procedure_spec_then c.in_ok-procedure.procedure c.procedure_spec.new.rest.items)))) ≡ c.args.rest.now.items
    = cc (c.in_ok-sign.ensures.ok, c.in_ok-package.ensures.ok, c.in_ok-sign-2.ensures.ok, c.in_ok-variables.ensures.ok, c.in_ok-procedure.ensures.ok) in
    c.in_err-end.ensures.err s.end r (behind_declaration c.in_ok-package.«package» c.in_ok-variables.variables c.in_ok-procedure.procedure s c.procedure_spec.new.rest.items r (read ∙ spelled)))
