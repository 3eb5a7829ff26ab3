use Rattle.std.proofs.Common.{◌≡◌, inl, inr, sym, subst, ◌∙◌, arith}
use Rattle.call_flow.specs.Calls.{stands}
use Rattle.row_flows.specs.Frames.{StandsAside}
use Rattle.row_flows.proofs.Listed.{stands_own}
use Rattle.row_flows.proofs.frames.add_aside.Goals as goal

pub returns-then-name_in_call-leaf-clause-set : goal.returns-then-name_in_call-leaf-clause-set
returns-then-name_in_call-leaf-clause-set c = λ v.
    let void = c.args.void in
    let passed = c.args.passed.now in
    let leaf = c.args.leaf.0 in
    let test : c.name_in_call.result ≡ leaf = grind (arith, c.if-name_in_call-leaf.true) in
    let aside : stands (λ u. u) void passed leaf ≡ leaf = sym (stands_own void passed leaf) ∙ (sym c.name_in_call.ensures ∙ test) in (
      λ h. elim ((c.add.ensures.set v).0 h) [ inl x ↦ inl x | inr y ↦ inr (sym y, subst (λ u. StandsAside void passed u) (sym y) (c.requires.leaf, aside)) ],
      λ h. (c.add.ensures.set v).1 (elim h [ inl x ↦ inl x | inr y ↦ inr (sym y.0) ]),
    )
