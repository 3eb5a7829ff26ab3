use Rattle.std.proofs.Common.{◌≡◌, ◌+◌, ◌<◌, length, [], ◌∷◌, drop, get_or, arith, add-one}
use Rattle.std.proofs.Math.Seq.{drop-cons}
use Rattle.std.proofs.lemmas.List.{drop_all}
use Rattle.row_flows.proofs.frames.add_all_seen.Goals as goal

pub loop-callee-preserved : goal.loop-callee-preserved
loop-callee-preserved c =
    let i = c.loop-callee.callee-index in
    let list = c.args.callees.now in
    let x = get_or list i (record { 0 = 0 }) in
    let within : i < length list = omega arith in
    let split : drop i list ≡ x ∷ drop (i + 1) list = rw add-one (drop-cons list i (record { 0 = 0 }) within) in
    record {
      size = omega (arith, c.add_seen.ensures.size, c.loop-callee.invariant.size);
      set = λ v. grind (arith, c.in_ok-add_seen.ensures.set v, rw split at c.loop-callee.invariant.set v);
    }

pub returns-clause-set : goal.returns-clause-set
returns-clause-set c = λ v.
    let none : drop c.loop-callee.callee-index c.args.callees.now ≡ [] = drop_all c.loop-callee.callee-index c.args.callees.now (omega arith) in
    grind (arith, rw none at c.loop-callee.invariant.set v)
