use Rattle.std.proofs.Common.{◌≡◌, ◌∙◌}
use Rattle.first_path.specs.Spelling.{each_then, sign_then, entry_then, further_entry_then}
use Rattle.first_path.specs.declared.source.Sign.TheVariants as signs
use Rattle.first_path.proofs.Denied.{denied, passed}
use Rattle.first_path.proofs.One.{unentered, unclosed_entries}
use Rattle.first_path.proofs.global.entries.Goals as goal

pub returns-in_err-more-clause-err : goal.returns-in_err-more-clause-err
returns-in_err-more-clause-err c =
    passed _ c.in_err-more.field-0.0 c.from_residual-in_err-more.ensures.1 c.in_err-more.ensures.err (λ none g r spelled.
    let read : sign_then signs.Open (entry_then c.in_ok-first.first c.entry.new.rest.items) ≡ c.args.rest.now.items
    = cc (c.in_ok-sign.ensures.ok, c.in_ok-first.ensures.ok) in
    unentered c.in_ok-first.first c.entry.new.rest.items r g none (read ∙ spelled))

pub returns-in_err-sign-2-clause-err : goal.returns-in_err-sign-2-clause-err
returns-in_err-sign-2-clause-err c =
    denied _ c.from_residual-in_err-sign-2.ensures.1 (λ g r spelled.
    let read : sign_then signs.Open (entry_then c.in_ok-first.first (each_then further_entry_then c.in_ok-more.more c.further_entries.new.rest.items)) ≡ c.args.rest.now.items
    = cc (c.in_ok-sign.ensures.ok, c.in_ok-first.ensures.ok, c.in_ok-more.ensures.ok) in
    unclosed_entries c.in_ok-first.first c.in_ok-more.more c.further_entries.new.rest.items r g c.in_ok-more.ensures.stop c.in_err-sign-2.ensures.err (read ∙ spelled))
