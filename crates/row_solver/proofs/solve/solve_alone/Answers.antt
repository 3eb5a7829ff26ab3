use Rattle.std.proofs.Common.{◌↔◌, Bool, List, arith, subst, sym, ◌∙◌}
use Rattle.least_solution.specs.Least.{least}
use Rattle.summary_rows.specs.declared.layout.Layout.{Layout}
use Rattle.summary_rows.specs.Layout.{facts, told}
use Rattle.row_solver.specs.Solving.{IsSolving}
use Rattle.row_solver.proofs.Solving.{started, finished}
use Rattle.row_solver.proofs.solve.solve_alone.Goals as goal

pub settle_all-requires-clause-solving : goal.settle_all-requires-clause-solving
settle_all-requires-clause-solving g c =
    let e = g.E.RowEquations in
    let it = c.args.equations.now in
    let new = c.in_ok-rows.ensures in
    let size = c.in_ok-dirty.ensures.size in
    let bodies = c.requires.lists.size in
    subst (λ (dirty : List Bool). IsSolving (e.layout it) (e.follow it) c.in_ok-rows.rows dirty) (sym c.as_mut_slice.ensures.value)
    (started (e.layout it) (e.calls it) (e.follow it) (e.lawful it c.requires.fit) c.in_ok-rows.rows c.in_ok-dirty.dirty.items
    (new.layout ∙ sym c.requires.same) new.rows new.tidy new.empty (size ∙ bodies)
    (λ b l. c.in_ok-dirty.ensures.all b (omega (arith, bodies, l))))

pub returns-clause-least : goal.returns-clause-least
returns-clause-least g c = λ f.
    let e = g.E.RowEquations in
    let it = c.args.equations.now in
    let end = c.in_ok-settle_all.ensures in
    subst (λ (l : Layout). told c.settle_all.new.rows f ↔ least (facts l) (e.follow it) f) c.requires.same
    (finished (e.layout it) (e.calls it) (e.follow it) (e.lawful it c.requires.fit) c.settle_all.new.rows c.settle_all.new.dirty end.solving end.quiet f)
