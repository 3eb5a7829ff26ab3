use Rattle.std.proofs.Common.{ℕ, List, Some, IfOk, ◌∙◌, subst}
use Rattle.ada_grammar.specs.Phrases.{Children, OfDecl, node_tree, with_decl}
use Rattle.ada_grammar.specs.Standing.{Holds, shared_children}
use Rattle.ada_grammar.proofs.children.declare_shared.Goals as goal

pub returns-clause-builds : goal.returns-clause-builds
returns-clause-builds c =
    subst (λ (z : List ℕ). IfOk c.push_declaration.result (λ _. (os ds : Children) → Holds c.args.units.now (shared_children c.args.own) os → Holds c.args.units.now c.args.into.now ds
    → Holds c.push_declaration.new.units c.push_declaration.new.into (with_decl ds (node_tree (OfDecl c.args.kind) c.args.name.span (Some z) os))))
    (c.in_ok-text.ensures.written ∙ c.text.ensures) c.push_declaration.ensures.builds
