use Rattle.std.proofs.Common.{◌≡◌, drop}
use Rattle.std.specs.List.{flat_map}
use Rattle.first_conditions.specs.Checks.{are_known}
use Rattle.first_conditions.specs.Conditions.{primary_words}
use Rattle.first_path.specs.declared.source.Term.{Term}
use Rattle.first_conditions.proofs.known.knows_terms.Given as goal

-- what is left decides
abbrev pub invariant-loop-term : goal.invariant-loop-term
invariant-loop-term l =
    are_known l.known (flat_map (λ (t : Term). primary_words t.operand) (drop l.term-index l.terms))
    ≡ are_known l.known (flat_map (λ (t : Term). primary_words t.operand) l.terms)
