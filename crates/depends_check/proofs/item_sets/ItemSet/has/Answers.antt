use Rattle.std.proofs.Common.{◌∙◌, ◌↔◌, ap, nat_eq, subst}
use Rattle.std.specs.Prelude.{IsTrue}
use Rattle.std.specs.List.{Contains, list_any}
use Rattle.depends_check.proofs.Keyed.{answers}
use Rattle.depends_check.proofs.item_sets.ItemSet.has.Goals as goal

pub returns : goal.returns
returns c =
    let told : IsTrue c.contains.result ↔ Contains c.self.inside.items.items c.args.item = answers c.contains.result
    c.self.inside.keys.keys c.self.inside.items.items c.self.invariant c.args.item
    (c.contains.ensures ∙ ap (λ k. list_any (nat_eq k) c.self.inside.keys.keys) c.item_key.ensures) in
    subst (λ xs. IsTrue c.contains.result ↔ Contains xs c.args.item) c.self.view_is told
