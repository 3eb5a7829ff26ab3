use Rattle.std.proofs.Common.{◌≡◌, ◌+◌, ◌<◌, length, [], ◌∷◌, drop, get_or, arith, add-one, ap, sym, ◌∙◌}
use Rattle.std.proofs.Math.Seq.{drop-cons}
use Rattle.std.proofs.lemmas.List.{drop_all}
use Rattle.flow_relations.proofs.names.add_actuals.Goals as goal

pub loop-actual-preserved : goal.loop-actual-preserved
loop-actual-preserved c =
    let within : c.loop-actual.actual-index < length c.args.list.now = omega arith in
    let here : get_or c.args.list.now c.loop-actual.actual-index c.actual-item.result ≡ c.actual-item.result = sym c.actual-item.is in
    let split : drop c.loop-actual.actual-index c.args.list.now ≡ c.actual-item.result ∷ drop (c.loop-actual.actual-index + 1) c.args.list.now = rw add-one (drop-cons c.args.list.now c.loop-actual.actual-index c.actual-item.result within) ∙ ap (λ x. x ∷ drop (c.loop-actual.actual-index + 1) c.args.list.now) here in
    record {
      size = omega arith;
      set = λ v. grind (arith, c.add_actual.ensures.set v, rw split at c.loop-actual.invariant.set v);
      last = λ h. c.loop-actual.invariant.last (c.add_actual.ensures.last h);
    }

pub returns-clause-set : goal.returns-clause-set
returns-clause-set c = λ v.
    let none : drop c.loop-actual.actual-index c.args.list.now ≡ [] = drop_all c.loop-actual.actual-index c.args.list.now (omega arith) in
    grind (arith, rw none at c.loop-actual.invariant.set v)
