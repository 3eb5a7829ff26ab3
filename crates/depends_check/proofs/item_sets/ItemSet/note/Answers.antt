use Rattle.std.proofs.Common.{◌≡◌, ◌∙◌, ◌++◌, ◌∷◌, [], sym, subst, ap, nat_eq, arith}
use Rattle.std.specs.Prelude.{IsSome}
use Rattle.std.specs.List.{Contains}
use Rattle.std.proofs.lemmas.Bool.{both_ways}
use Rattle.indexmap.specs.IndexSet.{insert_key}
use Rattle.depends_check.specs.ItemSets.{AreKeysOf, item_key}
use Rattle.depends_check.proofs.Keyed.{grown, popped}
use Rattle.depends_check.proofs.item_sets.ItemSet.note.Goals as goal

pub invariant_of-self : goal.invariant_of-self
invariant_of-self c = subst (λ xs. AreKeysOf c.self.inside.keys.keys xs) (sym c.in_err-push.ensures.items) c.self.invariant

pub invariant_of-self-in-Ok : goal.invariant_of-self-in-Ok
invariant_of-self-in-Ok c =
    let items = c.self.inside.items.items in
    let keys = c.self.inside.keys.keys in
    let none : Contains items c.args.item → ⊥ = λ h. both_ways c.has.result c.if-has.false (c.has.ensures.1 (subst (λ xs. Contains xs
    c.args.item) c.self.view_is h)) in
    let added : c.insert.new.self.keys ≡ insert_key nat_eq keys (item_key c.args.item) = c.in-Ok.ensures.keys ∙ ap (λ k. insert_key
    nat_eq keys k) c.item_key.ensures in
    subst (λ xs. AreKeysOf c.insert.new.self.keys xs) (sym c.in_ok-push.ensures.items)
    (subst (λ ks. AreKeysOf ks (items ++ c.args.item ∷ [])) (sym added) (grown keys items c.self.invariant c.args.item none))

pub invariant_of-self-in-Err : goal.invariant_of-self-in-Err
invariant_of-self-in-Err c =
    let items = c.self.inside.items.items in
    let l = c.in_ok-push.ensures.len in
    let there : IsSome c.pop.result = c.pop.ensures.variant.1 (omega (arith, l)) in
    let back = popped items c.pop.new.self.items c.args.item c.pop.result there (sym c.in_ok-push.ensures.items ∙ c.pop.ensures.items) in
    subst (λ xs. AreKeysOf c.insert.new.self.keys xs) back (subst (λ ks. AreKeysOf ks items) (sym c.in-Err.ensures.err) c.self.invariant)
