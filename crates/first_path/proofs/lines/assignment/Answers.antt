use Rattle.std.proofs.Common.{◌≡◌, ◌∙◌}
use Rattle.first_path.specs.Spelling.{word_then, sign_then, sum_then}
use Rattle.first_path.specs.declared.source.Sign.TheVariants as signs
use Rattle.first_path.proofs.Denied.{denied}
use Rattle.first_path.proofs.One.{unended}
use Rattle.first_path.proofs.lines.assignment.Goals as goal

pub returns-in_err-sign-2-clause-err : goal.returns-in_err-sign-2-clause-err
returns-in_err-sign-2-clause-err c =
    denied _ c.from_residual-in_err-sign-2.ensures.1 (λ l r spelled.
    let read : word_then c.in_ok-target.target (sign_then signs.Becomes (sum_then c.in_ok-value.value c.sum.new.rest.items)) ≡ c.args.rest.now.items
    = cc (c.in_ok-target.ensures.ok, c.in_ok-sign.ensures.ok, c.in_ok-value.ensures.ok) in
    unended c.in_ok-target.target c.in_ok-value.value c.sum.new.rest.items r l c.in_ok-value.ensures.stop c.in_err-sign-2.ensures.err (read ∙ spelled))
