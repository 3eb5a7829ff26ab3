use Rattle.std.proofs.Common.{◌≡◌, ◌+◌, ◌-◌, ◌++◌, ◌∷◌, [], ap, append_assoc, ◌∙◌, arith}
use Rattle.callee_view.specs.Signatures.{leaves_from}
use Rattle.callee_view.proofs.Passed.{leaves_step}
use Rattle.callee_view.proofs.signatures.push_leaves.Goals as goal

pub loop-i-preserved : goal.loop-i-preserved
loop-i-preserved c =
    let grown : c.push.new.self ≡ c.loop-i.leaves ++ record { 0 = c.args.first.0 + c.loop-i.i } ∷ [] = search c.in_ok-push.ensures in
    ap (λ l. l ++ leaves_from (c.args.first.0 + (c.loop-i.i + 1)) (c.args.count - (c.loop-i.i + 1))) grown
    ∙ (append_assoc c.loop-i.leaves (record { 0 = c.args.first.0 + c.loop-i.i } ∷ []) (leaves_from (c.args.first.0 + (c.loop-i.i + 1)) (c.args.count - (c.loop-i.i + 1)))
    ∙ (leaves_step c.args.first.0 c.loop-i.i c.args.count (omega arith) c.loop-i.leaves ∙ c.loop-i.invariant))
