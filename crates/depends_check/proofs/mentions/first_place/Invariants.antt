use Rattle.std.proofs.Common.{drop}
use Rattle.spark_base.specs.declared.numbers.Span.{Span}
use Rattle.depends_check.specs.DependsCheck.{IsFirstPlace}
use Rattle.depends_check.proofs.mentions.first_place.Given as goal

-- the place among those that are left is that among all
abbrev pub invariant-loop-pair : goal.invariant-loop-pair
invariant-loop-pair l = (place : Span) → IsFirstPlace l.program l.aspect (drop l.pair-index l.pairs) l.output place → IsFirstPlace
    l.program l.aspect l.pairs l.output place
