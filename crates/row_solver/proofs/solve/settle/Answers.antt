use Rattle.std.proofs.Common.{◌≡◌, ℕ, ◌⊎◌, ◌↔◌, List, subst}
use Rattle.summary_rows.specs.Facts.{Fact}
use Rattle.summary_rows.specs.Layout.{RowTells, IsTidyRow, IsTidy, told, outer_of}
use Rattle.row_solver.proofs.solve.settle.Goals as goal

pub returns-then-grew-clause-set : goal.returns-then-grew-clause-set
returns-then-grew-clause-set c = subst (λ (words : List ℕ). (f : Fact) → told c.join-grew.new.self f
    ↔ (told c.args.rows.now f ⊎ ((f.owner ≡ c.args.body.0) × RowTells (outer_of c.args.rows.now.layout c.args.body.0) words f.part)))
    c.as_slice.ensures c.join-grew.ensures.set

pub returns-then-grew-clause-tidy : goal.returns-then-grew-clause-tidy
returns-then-grew-clause-tidy c = subst (λ (words : List ℕ).
    IsTidy c.args.rows.now → IsTidyRow (outer_of c.args.rows.now.layout c.args.body.0) words → IsTidy c.join-grew.new.self)
    c.as_slice.ensures c.join-grew.ensures.tidy

pub returns-else-grew-clause-set : goal.returns-else-grew-clause-set
returns-else-grew-clause-set c = subst (λ (words : List ℕ). (f : Fact) → told c.join-grew.new.self f
    ↔ (told c.args.rows.now f ⊎ ((f.owner ≡ c.args.body.0) × RowTells (outer_of c.args.rows.now.layout c.args.body.0) words f.part)))
    c.as_slice.ensures c.join-grew.ensures.set
