use Rattle.std.proofs.Common.{◌≡◌, ◌+◌, ◌<◌, length, [], ◌∷◌, drop, get_or, arith, add-one}
use Rattle.std.proofs.Math.Seq.{drop-cons}
use Rattle.std.proofs.lemmas.List.{drop_all}
use Rattle.row_flows.proofs.Listed.{in_none, in_step}
use Rattle.row_flows.proofs.frames.add_leaves.Goals as goal

pub loop-leaf-preserved : goal.loop-leaf-preserved
loop-leaf-preserved c =
    let i = c.loop-leaf.leaf-index in
    let leaves = c.args.leaves.now in
    let x = get_or leaves i (record { 0 = 0 }) in
    let within : i < length leaves = omega arith in
    let split : drop i leaves ≡ x ∷ drop (i + 1) leaves = rw add-one (drop-cons leaves i (record { 0 = 0 }) within) in
    record {
      size = omega (arith, c.add_aside.ensures.size, c.loop-leaf.invariant.size);
      set = λ v. grind (arith, c.add_aside.ensures.set v, in_step x (drop (i + 1) leaves) v, rw split at c.loop-leaf.invariant.set v);
    }

pub returns-clause-set : goal.returns-clause-set
returns-clause-set c = λ v.
    let none : drop c.loop-leaf.leaf-index c.args.leaves.now ≡ [] = drop_all c.loop-leaf.leaf-index c.args.leaves.now (omega arith) in
    grind (arith, in_none v, rw none at c.loop-leaf.invariant.set v)
