use Rattle.std.proofs.Common.{◌↔◌, List, sym, subst}
use Rattle.spark_base.specs.declared.numbers.BodyNo.{BodyNo}
use Rattle.call_lists.specs.Lists.{Names}
use Rattle.body_calls.specs.Callees.{IsRising}
use Rattle.body_calls.proofs.Once.{keeps, rises, stays_below}
use Rattle.body_calls.proofs.callees.once.Goals as goal

pub returns-clause-rising : goal.returns-clause-rising
returns-clause-rising c = subst (λ (bs : List BodyNo). IsRising bs) (sym c.from_vec.ensures)
    (rises c.into_vec-bodies.result.items c.sort_unstable.new.self.items c.dedup.new.self.items
    c.sort_unstable.ensures.permutation c.sort_unstable.ensures.sorted c.dedup.ensures.filtered)

pub returns-clause-names : goal.returns-clause-names
returns-clause-names c = λ k.
    subst (λ (bs : List BodyNo). Names bs k ↔ Names c.args.list k) (sym c.from_vec.ensures)
    (subst (λ (bs : List BodyNo). Names c.dedup.new.self.items k ↔ Names bs k) c.into_vec-bodies.ensures
    (keeps c.into_vec-bodies.result.items c.sort_unstable.new.self.items c.dedup.new.self.items
    c.sort_unstable.ensures.permutation c.dedup.ensures.filtered k))

pub returns-clause-below : goal.returns-clause-below
returns-clause-below c = stays_below c.args.list c.from_vec.result (returns-clause-names c)
