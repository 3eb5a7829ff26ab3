use Rattle.std.proofs.Common.{ℕ, List, Some, IfOk, ◌∙◌, subst}
use Rattle.ada_grammar.specs.Phrases.{Children, OfAspect, node_tree, with_aspect}
use Rattle.ada_grammar.specs.Standing.{Holds}
use Rattle.ada_grammar.proofs.children.add_named_aspect.Goals as goal

pub returns-clause-builds : goal.returns-clause-builds
returns-clause-builds c =
    subst (λ (z : List ℕ). IfOk c.push_aspect.result (λ _. (os ds : Children) → Holds c.args.units.now c.args.own os → Holds c.args.units.now c.args.into.now ds
    → Holds c.push_aspect.new.units c.push_aspect.new.into (with_aspect ds (node_tree (OfAspect c.args.kind) c.args.name.span (Some z) os))))
    (c.in_ok-text.ensures.written ∙ c.text.ensures) c.push_aspect.ensures.builds
