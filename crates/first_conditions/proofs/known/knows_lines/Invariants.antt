use Rattle.std.proofs.Common.{◌≡◌, drop}
use Rattle.std.specs.List.{flat_map}
use Rattle.first_conditions.specs.Checks.{are_known}
use Rattle.first_conditions.specs.Conditions.{line_words}
use Rattle.first_conditions.proofs.known.knows_lines.Given as goal

-- what is left decides
abbrev pub invariant-loop-line : goal.invariant-loop-line
invariant-loop-line l =
    are_known l.known (flat_map line_words (drop l.line-index l.lines))
    ≡ are_known l.known (flat_map line_words l.lines)
