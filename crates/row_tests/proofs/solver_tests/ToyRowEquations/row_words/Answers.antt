use Rattle.std.proofs.Common.{◌≡◌, List, Some, subst, sym}
use Rattle.std.specs.Prelude.{slice_get}
use Rattle.spark_base.specs.declared.numbers.BodyNo.{BodyNo}
use Rattle.summary_rows.specs.Layout.{told}
use Rattle.row_solver.proofs.Toy.{toy_row}
use Rattle.row_tests.proofs.solver_tests.ToyRowEquations.row_words.Goals as goal

pub returns-clause-bits : goal.returns-clause-bits
returns-clause-bits c =
    let toy = c.args.self.now in
    let b = c.args.b.0 in
    toy_row toy.layout toy.own toy.callees c.requires.fit (told c.args.rows.now) b c.requires.in_range
    c.at-mine.result.now c.any_returns-others.result c.as_slice.result.now c.at-mine.ensures
    (subst (λ (list : List BodyNo). slice_get toy.callees b ≡ Some list) (sym c.as_slice.ensures) c.at-callees.ensures)
    c.any_returns-others.ensures c.either.result c.either.ensures c.in_ok-words.words c.in_ok-words.ensures.bits
