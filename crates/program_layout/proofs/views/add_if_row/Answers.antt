use Rattle.std.proofs.Common.{◌≡◌, ℕ, None, ap, sym, subst, ◌∙◌}
use Rattle.std.proofs.lemmas.Result.{on_ok_weaker}
use Rattle.std.specs.Option.{option_copied}
use Rattle.std.specs.Prelude.{slice_get}
use Rattle.callee_view.specs.Seen.{contract_seen}
use Rattle.program_layout.proofs.Steps.{alike}
use Rattle.program_layout.proofs.views.add_if_row.Goals as goal

pub returns-in-None-clause-names : goal.returns-in-None-clause-names
returns-in-None-clause-names c =
    let bodies = c.args.program.now.bodies in
    let none : contract_seen (slice_get bodies c.args.caller.0) c.args.node.now ≡ None = sym c.contract_seen.ensures ∙ ap option_copied
    c.in-None.is in
    on_ok_weaker c.add_body.result (λ h b k. alike (h b k)
    (λ t. ((t.0, subst (λ (i : ℕ). contract_seen (slice_get bodies i) c.args.node.now ≡ None) t.1 none), t.1))
    (λ t. (t.0.0, t.1))) c.add_body.ensures.names
