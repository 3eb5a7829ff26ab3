use Rattle.std.proofs.Common.{◌≡◌, ℕ, ◌<◌, sym, ◌∙◌, subst}
use Rattle.std.specs.Prelude.{IfSome, IfNone}
use Rattle.graph_cycles.specs.Cycles.{IsOnCycle}
use Rattle.package_order.specs.Packages.{with_graph}
use Rattle.package_order.proofs.elaboration.elaborate.Goals as goal

pub returns-in-Some : goal.returns-in-Some
returns-in-Some c =
    let number = c.in-Some.number in
    let slice = c.as_slice.result.now in
    let g : slice ≡ with_graph c.args.packages.now = c.as_slice.ensures.value ∙ c.in_ok-graph.ensures in
    let e = c.in_ok-found.ensures in
    let cycle : IsOnCycle slice number = subst (λ o. IfSome o (IsOnCycle slice)) c.in-Some.is e.cycle in
    let first : (q : ℕ) → q < number → IsOnCycle slice q → ⊥ =
    subst (λ o. IfSome o (λ (node : ℕ). (q : ℕ) → q < node → IsOnCycle slice q → ⊥)) c.in-Some.is e.first in
    (subst (λ gr. IsOnCycle gr number) g cycle, λ q l h. first q l (subst (λ gr. IsOnCycle gr q) (sym g) h))

pub returns : goal.returns
returns c =
    let slice = c.as_slice.result.now in
    let g : slice ≡ with_graph c.args.packages.now = c.as_slice.ensures.value ∙ c.in_ok-graph.ensures in
    let none : (q : ℕ) → IsOnCycle slice q → ⊥ = subst (λ o. IfNone o ((q : ℕ) → IsOnCycle slice q → ⊥)) c.in-None.is c.in_ok-found.ensures.none in
    (λ q h. none q (subst (λ gr. IsOnCycle gr q) (sym g) h), c.in_ok-in_order-in-None.ensures)
