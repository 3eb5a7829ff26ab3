use Rattle.std.proofs.Common.{◌≡◌, ◌+◌, ◌<◌, length, [], ◌∷◌, drop, get_or, arith, add-one, ap, sym, ◌∙◌}
use Rattle.std.proofs.Math.Seq.{drop-cons}
use Rattle.std.proofs.lemmas.List.{drop_all}
use Rattle.flow_relations.proofs.names.add_places.Goals as goal

pub loop-place-preserved : goal.loop-place-preserved
loop-place-preserved c =
    let within : c.loop-place.place-index < length c.args.list.now = omega arith in
    let here : get_or c.args.list.now c.loop-place.place-index c.place-item.result ≡ c.place-item.result = sym c.place-item.is in
    let split : drop c.loop-place.place-index c.args.list.now ≡ c.place-item.result ∷ drop (c.loop-place.place-index + 1) c.args.list.now = rw add-one (drop-cons c.args.list.now c.loop-place.place-index c.place-item.result within) ∙ ap (λ x. x ∷ drop (c.loop-place.place-index + 1) c.args.list.now) here in
    record {
      size = omega arith;
      set = λ v. grind (arith, c.add_place.ensures.set v, rw split at c.loop-place.invariant.set v);
      last = λ h. c.loop-place.invariant.last (c.add_place.ensures.last h);
    }

pub returns-clause-set : goal.returns-clause-set
returns-clause-set c = λ v.
    let none : drop c.loop-place.place-index c.args.list.now ≡ [] = drop_all c.loop-place.place-index c.args.list.now (omega arith) in
    grind (arith, rw none at c.loop-place.invariant.set v)
