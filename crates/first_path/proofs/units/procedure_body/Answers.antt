use Rattle.std.proofs.Common.{◌≡◌, ◌∙◌}
use Rattle.first_path.specs.Spelling.{sign_then, word_then, each_then, line_then}
use Rattle.first_path.specs.declared.source.Sign.TheVariants as signs
use Rattle.first_path.proofs.Denied.{denied}
use Rattle.first_path.proofs.One.{behind_lines}
use Rattle.first_path.proofs.units.procedure_body.Goals as goal

pub returns-in_err-end-clause-err : goal.returns-in_err-end-clause-err
returns-in_err-end-clause-err c =
    denied _ c.from_residual-in_err-end.ensures.1 (λ p r spelled.
    let read : sign_then signs.Procedure (word_then c.in_ok-name.name (sign_then signs.Is (sign_then signs.Begin (each_then line_then c.in_ok-lines.lines c.lines.new.rest.items)))) ≡ c.args.rest.now.items
    = cc (c.in_ok-sign.ensures.ok, c.in_ok-name.ensures.ok, c.in_ok-sign-2.ensures.ok, c.in_ok-sign-3.ensures.ok, c.in_ok-lines.ensures.ok) in
    c.in_err-end.ensures.err p.end r (behind_lines c.in_ok-name.name c.in_ok-lines.lines p c.lines.new.rest.items r c.in_ok-lines.ensures.stop (read ∙ spelled)))
