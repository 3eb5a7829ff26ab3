use Rattle.std.proofs.Common.{◌≡◌, ◌∙◌}
use Rattle.first_path.specs.Spelling.{each_then, word_then, sign_then, further_name_then}
use Rattle.first_path.specs.declared.source.Sign.TheVariants as signs
use Rattle.first_path.proofs.Denied.{denied}
use Rattle.first_path.proofs.One.{unclosed_names}
use Rattle.first_path.proofs.global.listed.Goals as goal

pub returns-in_err-sign-2-clause-err : goal.returns-in_err-sign-2-clause-err
returns-in_err-sign-2-clause-err c =
    denied _ c.from_residual-in_err-sign-2.ensures.1 (λ n r spelled.
    let read : sign_then signs.Open (word_then c.in_ok-first.first (each_then further_name_then c.in_ok-more.more c.further_names.new.rest.items)) ≡ c.args.rest.now.items
    = cc (c.in_ok-sign.ensures.ok, c.in_ok-first.ensures.ok, c.in_ok-more.ensures.ok) in
    unclosed_names c.in_ok-first.first c.in_ok-more.more c.further_names.new.rest.items r n c.in_ok-more.ensures.stop c.in_err-sign-2.ensures.err (read ∙ spelled))
