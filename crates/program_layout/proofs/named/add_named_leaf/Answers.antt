use Rattle.std.proofs.Common.{◌≡◌, ℕ, true, false, get_or, sym, subst}
use Rattle.flow_bits.specs.Sets.{Has}
use Rattle.program_layout.proofs.Steps.{alike}
use Rattle.program_layout.proofs.named.add_named_leaf.Goals as goal

pub returns-in_ok-add_body-clause-names : goal.returns-in_ok-add_body-clause-names
returns-in_ok-add_body-clause-names c = λ v b.
    let flag = c.if-library-leaf.true in
    let has = c.has.ensures.0 c.if-has.true in
    alike (c.in_ok-add_body.ensures.names v b)
    (λ t. (
      sym t.1,
      (
        t.0,
        (
          subst (λ (k : ℕ). get_or c.args.library.now k false ≡ true) t.1 flag,
          subst (λ (k : ℕ). Has c.args.set.now k)
              t.1 has,
        ),
      ),
    ))
    (λ t. (t.1.0, sym t.0))
