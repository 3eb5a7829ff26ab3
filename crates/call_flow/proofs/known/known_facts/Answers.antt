use Rattle.std.proofs.Common.{◌≡◌, ℕ, ◌⊎◌, Bool, inl, inr, subst, sym}
use Rattle.std.specs.Prelude.{IsTrue}
use Rattle.call_flow.specs.Calls.{knowing}
use Rattle.call_flow.specs.Told.{known_told, name_in}
use Rattle.call_flow.proofs.Alone.{alone_same}
use Rattle.call_flow.proofs.known.known_facts.Goals as goal

pub returns-clause-flow : goal.returns-clause-flow
returns-clause-flow c =
    let k = c.args.known.now in
    let none = c.in_ok-facts.ensures.none in
    let empty = c.in_ok-facts.ensures.flow in
    let side = c.in_ok-facts-2.ensures in
    rw (none.1, none.2)
    (alone_same _ _ _ _ (knowing c.args.big (name_in k.names.items) (known_told k))
    (λ o v w. (λ x. (x.0, (side.kept v w).1 x.1), λ y. (y.0, (side.kept v w).0 y.1)))
    (λ o v w. (λ x. (x.0, (side.dep v w).1 x.1), λ y. (y.0, (side.dep v w).0 y.1)))
    (λ o. (λ x. (x.0, subst (λ (b : Bool). IsTrue b) (sym side.reached) x.1), λ y. (y.0, subst (λ (b : Bool). IsTrue b) side.reached y.1)))
    (λ v. (λ h. elim ((c.add_known.ensures.set v).0 h) [ inl o ↦ absurd ((empty.reads v).0 o) | inr s ↦ s ], λ s. (c.add_known.ensures.set v).1 (inr s)))
    (λ v. (λ h. elim ((c.add_known-2.ensures.set v).0 h) [ inl o ↦ absurd ((empty.writes v).0 o) | inr s ↦ s ], λ s. (c.add_known-2.ensures.set v).1 (inr s)))
    (λ v. empty.decides v))
