use Rattle.std.proofs.Common.{◌≡◌, ℕ, true, false, get_or, sym, ◌∙◌, subst}
use Rattle.std.proofs.lemmas.Result.{on_ok_weaker}
use Rattle.program_layout.proofs.Steps.{alike}
use Rattle.program_layout.proofs.holders.add_holder.Goals as goal

pub returns-in-Some-true-clause-names : goal.returns-in-Some-true-clause-names
returns-in-Some-true-clause-names c =
    let flag : get_or c.args.library.now c.args.leaf.0 false ≡ true = sym (c.in-Some-true.ensures.lookup.3.1 false) ∙
    c.in-Some-true.field-0-test in
    on_ok_weaker c.add_body.result (λ h v b. alike (h v b)
    (λ t. (t.0, (subst (λ (k : ℕ). get_or c.args.library.now k false ≡ true) t.1 flag, sym t.1)))
    (λ t. (t.0, sym t.1.1))) c.add_body.ensures.names
