use Rattle.std.proofs.Common.{Bool, List, length, ap, arith}
use Rattle.call_lists.proofs.order.has_all.Goals as goal

pub returns : goal.returns
returns c = λ h b l. c.covers-holds.ensures h b
    (let e = ap (λ (xs : List Bool). length xs) c.as_mut_slice.ensures.value in let d = c.in_ok-marks.ensures.size in omega arith)
