use Rattle.std.proofs.Common.{◌≡◌, length}
use Rattle.first_path.specs.Spelling.{each_then, line_then}
use Rattle.first_path.proofs.lines.lines.Given as goal

-- what was read, with what is left, is what stood there
abbrev pub invariant-each : goal.invariant-each
invariant-each l = l.initial.rest.items ≡ each_then line_then l.list l.rest.items

abbrev pub decreases-each : goal.decreases-each
decreases-each l = length l.rest.items
