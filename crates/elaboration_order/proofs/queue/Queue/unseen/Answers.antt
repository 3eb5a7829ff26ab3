use Rattle.std.proofs.Common.{◌≡◌, replicate, get_or, ap, ◌∙◌, arith}
use Rattle.elaboration_order.proofs.Unseen.{zeros, begun_unseen}
use Rattle.elaboration_order.proofs.queue.Queue.unseen.Goals as goal

pub returns-clause-begun : goal.returns-clause-begun
returns-clause-begun c rules n i =
    let d : c.in_ok-vec-2.field-0.items ≡ replicate c.args.count 0 = grind (arith, c.in_ok-vec-2.ensures.items_if_clones_equal, c.in_ok-vec-2.ensures.items) in
    begun_unseen rules _ i (ap (λ xs. get_or xs i 0) d ∙ zeros c.args.count i) c.new-2.ensures.empty c.new-3.ensures.empty
