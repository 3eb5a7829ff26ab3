use Rattle.std.proofs.Common.{◌≡◌, ◌++◌, drop}
use Rattle.std.specs.Prelude.{reverse}
use Rattle.unit_order.proofs.spelling.append_back.Given as goal

abbrev pub invariant-loop-i : goal.invariant-loop-i
invariant-loop-i l = reverse l.text.items ≡ drop l.i l.word ++ reverse l.initial.text.items
