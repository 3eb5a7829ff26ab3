use Rattle.std.proofs.Common.{◌≡◌, ◌+◌, ◌-◌, ◌<◌, length, arith}
use Rattle.std.specs.Prelude.{reverse}
use Rattle.unit_order.proofs.Steps.{one_letter}
use Rattle.unit_order.proofs.spelling.append_back.Goals as goal

pub loop-i-preserved : goal.loop-i-preserved
loop-i-preserved c =
    let word = c.args.word.now in
    let n = c.loop-i.i - 1 in
    let within : n < length word = omega arith in
    let next : n + 1 ≡ c.loop-i.i = omega arith in
    one_letter word c.loop-i.text.items c.push.new.self.items (reverse c.args.text.now.items) n c.loop-i.i within next c.in_ok-push.ensures.items c.loop-i.invariant
