use Rattle.std.proofs.Common.{ℕ, arith, subst, sym}
use Rattle.program_layout.proofs.Steps.{alike, all_of, one_more}
use Rattle.program_layout.proofs.Coded.{named_within}
use Rattle.flow_relations.specs.Equation.{clock_among, code_of_body, names_of}
use Rattle.program_layout.proofs.named.add_named.Goals as goal

pub loop-b-preserved : goal.loop-b-preserved
loop-b-preserved c =
    let is = c.loop-b.invariant in
    let own = c.in_ok-add_named_leaves.ensures in
    let p = c.args.program.now in
    let told = c.in_ok-set.ensures.set in
    let size = own.size in
    let before = is.size in
    record {
      size = omega (arith, size, before);
      below = own.below _ (omega arith) is.below;
      names = λ v b. one_more b c.loop-b.b (is.names v b) (alike (own.names v b)
          (λ t. (t.0, (t.1.0, subst (λ (k : ℕ). names_of (clock_among p.vars) (code_of_body p k) v) (sym t.0) ((told v).0 t.1.1))))
          (λ t. (t.0, (t.1.0, (told v).1 (subst (λ (k : ℕ). names_of (clock_among p.vars) (code_of_body p k) v) t.0 t.1.1)))));
    }

pub returns-clause-names : goal.returns-clause-names
returns-clause-names c = λ v b. all_of (c.loop-b.invariant.names v b)
    (λ t. let l = named_within c.args.program.now b v t.1 in let end = c.loop-b-test.false in omega (arith, l, end))
