use Rattle.std.proofs.lemmas.Result.{on_ok_weaker}
use Rattle.program_layout.proofs.Belonging.{passed_at}
use Rattle.program_layout.proofs.Steps.{alike}
use Rattle.program_layout.proofs.holders.add_passed_leaf.Goals as goal

pub returns-in-Formal-clause-names : goal.returns-in-Formal-clause-names
returns-in-Formal-clause-names c =
    let at = passed_at c.args.program.now c.args.leaf.0 c.home_at.result c.in-Formal.of c.home_at.ensures.home c.in-Formal.is in
    on_ok_weaker c.add_body.result (λ h v b. alike (h v b) (at v b).0 (at v b).1) c.add_body.ensures.names
