use Rattle.std.proofs.Common.{arith}
use Rattle.summary_rows.specs.Layout.{outer_of}
use Rattle.summary_rows.proofs.Listed.{listed_stands, stands_listed, facts_listed}
use Rattle.summary_rows.proofs.Places.{stands_below}
use Rattle.summary_rows.proofs.laws.facts_are_listed.Goals as goal

pub returns-clause-row : goal.returns-clause-row
returns-clause-row c outer x = (
  λ a. (let s = listed_stands outer x a in (s.0, (stands_below outer x s.0 s.1, s.1))),
  λ s. stands_listed outer x s.0 s.1.1,
)

pub returns-clause-told : goal.returns-clause-told
returns-clause-told c rows f t =
    facts_listed 0 rows.layout.outer f.owner f.owner (omega arith) t.0 f.part
    (stands_listed (outer_of rows.layout f.owner) f.part t.1.0 t.1.1.0)
