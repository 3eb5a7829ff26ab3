use Rattle.std.proofs.Common.{◌≡◌, ◌+◌, ◌<◌, ◌∷◌, [], length, drop, get_or, arith, add-one}
use Rattle.std.proofs.Math.Seq.{drop-cons}
use Rattle.std.proofs.lemmas.List.{drop_all}
use Rattle.body_calls.proofs.Added.{none_left}
use Rattle.program_layout.proofs.Leaves.{no_leaf, one_leaf}
use Rattle.program_layout.proofs.holders.add_leaves.Goals as goal

pub loop-leaf-preserved : goal.loop-leaf-preserved
loop-leaf-preserved c =
    let is = c.loop-leaf.invariant in
    let own = c.in_ok-add_holder.ensures in
    let inside : c.loop-leaf.leaf-index < length c.args.leaves.now = omega arith in
    let split : drop c.loop-leaf.leaf-index c.args.leaves.now ≡ get_or c.args.leaves.now c.loop-leaf.leaf-index (record { 0 = 0 }) ∷ drop
    (c.loop-leaf.leaf-index + 1) c.args.leaves.now =
    rw add-one (drop-cons c.args.leaves.now c.loop-leaf.leaf-index (record { 0 = 0 }) inside) in
    let size = own.size in
    let before = is.size in
    record {
      size = omega (arith, size, before);
      below = λ n l h. own.below n l (is.below n l h);
      names = λ v b. one_leaf (get_or c.args.leaves.now c.loop-leaf.leaf-index (record { 0 = 0 }))
          (drop (c.loop-leaf.leaf-index + 1) c.args.leaves.now) v (rw split at is.names v b) (own.names v b);
    }

pub returns-clause-names : goal.returns-clause-names
returns-clause-names c = λ v b.
    let none : drop c.loop-leaf.leaf-index c.args.leaves.now ≡ [] = drop_all c.loop-leaf.leaf-index c.args.leaves.now (omega arith) in
    none_left (λ t. no_leaf v t.1.1) (rw none at c.loop-leaf.invariant.names v b)
