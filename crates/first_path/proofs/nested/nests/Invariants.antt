use Rattle.std.proofs.Common.{◌≡◌, false, [], drop}
use Rattle.first_path.specs.Nesting.{nests}
use Rattle.first_path.proofs.nested.nests.Given as goal

-- what is left decides
abbrev pub invariant-loop-line : goal.invariant-loop-line
invariant-loop-line l =
    nests l.nesting.sides.items l.nesting.has_statement (drop l.line-index l.lines) ≡ nests [] false l.lines
