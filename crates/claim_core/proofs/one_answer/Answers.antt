use Rattle.std.proofs.Common.{inl, inr, arith}
use Rattle.std.proofs.lemmas.Bool.{cases_lt}
use Rattle.claim_core.specs.Guards.{place}
use Rattle.claim_core.proofs.one_answer.Goals as goal

pub returns-clause-accepted : goal.returns-clause-accepted
returns-clause-accepted c r n e d g refused accepted = refused.false_of (accepted.allowed g)

pub returns-clause-guard : goal.returns-clause-guard
returns-clause-guard c r n e d g h one other = elim (cases_lt (place g) (place h)) [
  | inl lt ↦ absurd (one.false_of (other.before g lt))
  | inr ge ↦ (elim (cases_lt (place h) (place g)) [
    | inl lt ↦ absurd (other.false_of (one.before h lt))
    | inr le ↦ omega (arith, ge, le)
  ])
]
