use Rattle.std.proofs.Common.{◌≡◌, true, false, replicate, arith}
use Rattle.claim_board.proofs.Tells.{opened}
use Rattle.claim_board.proofs.board.Board.new.Goals as goal

pub returns-clause-told : goal.returns-clause-told
returns-clause-told c =
    let w : c.in_ok-vec.field-0.items ≡ replicate c.args.words 0 = grind (arith, c.in_ok-vec.ensures.items_if_clones_equal, c.in_ok-vec.ensures.items) in
    let d : c.in_ok-vec-2.field-0.items ≡ replicate c.args.bodies true = grind (arith, c.in_ok-vec-2.ensures.items_if_clones_equal, c.in_ok-vec-2.ensures.items) in
    let h : c.in_ok-vec-3.field-0.items ≡ replicate c.args.bodies false = grind (arith, c.in_ok-vec-3.ensures.items_if_clones_equal, c.in_ok-vec-3.ensures.items) in
    opened c.args.bodies c.args.words _ _ _ c.in_ok-workers.workers.items w d h c.in_ok-workers.ensures.idle
