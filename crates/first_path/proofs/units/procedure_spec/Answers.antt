use Rattle.std.proofs.Common.{◌≡◌, ◌∙◌, true, false, List, subst}
use Rattle.first_path.specs.Begins.{begins}
use Rattle.first_path.specs.Spelling.{sign_then, word_then, global_then}
use Rattle.first_path.specs.declared.source.ProcedureSpec.{ProcedureSpec}
use Rattle.first_path.specs.declared.source.Sign.TheVariants as signs
use Rattle.first_path.specs.declared.source.Symbol.{Symbol}
use Rattle.first_path.proofs.Denied.{denied}
use Rattle.first_path.proofs.One.{behind_global}
use Rattle.first_path.proofs.units.procedure_spec.Goals as goal

pub returns-in_err-sign-4-clause-err : goal.returns-in_err-sign-4-clause-err
returns-in_err-sign-4-clause-err c =
    denied _ c.from_residual-in_err-sign-4.ensures.1 (λ p r spelled.
    let mine : ProcedureSpec = record { name = c.in_ok-name.name; aspect = c.in_ok-aspect.aspect; global = c.in_ok-global.global } in
    let read : sign_then signs.Procedure (word_then c.in_ok-name.name (sign_then signs.With (word_then c.in_ok-aspect.aspect (sign_then signs.Arrow (global_then c.in_ok-global.global c.global.new.rest.items))))) ≡ c.args.rest.now.items
    = cc (c.in_ok-sign.ensures.ok, c.in_ok-name.ensures.ok, c.in_ok-sign-2.ensures.ok, c.in_ok-aspect.ensures.ok, c.in_ok-sign-3.ensures.ok, c.in_ok-global.ensures.ok) in
    let stop : true ≡ false = subst (λ (x : List Symbol). begins signs.Semicolon x ≡ false) (behind_global mine p c.global.new.rest.items r (read ∙ spelled)) c.in_err-sign-4.ensures.err in
    cc)
