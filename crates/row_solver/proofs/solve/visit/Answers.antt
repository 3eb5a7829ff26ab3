use Rattle.std.proofs.Common.{◌∙◌}
use Rattle.row_solver.proofs.Solving.{bits_are_tidy, visited, grown_room}
use Rattle.row_solver.proofs.solve.visit.Goals as goal

pub returns-clause-solving : goal.returns-clause-solving
returns-clause-solving g c =
    let e = g.E.RowEquations in
    let it = c.args.equations.now in
    let now = c.requires.solving in
    let s = c.settle-grew.ensures in
    let bits = c.in_ok-words.ensures.bits in
    let tidy = bits_are_tidy (e.layout it) (e.follow it) c.args.rows.now c.args.body.0 c.in_ok-words.words now.layout bits in
    visited (e.layout it) (e.calls it) (e.follow it) (e.lawful it c.requires.fit) c.args.rows.now c.settle-grew.new.rows c.in_ok-words.words
    c.args.dirty.now c.settle-grew.new.dirty c.args.body.0 now (s.layout ∙ now.layout) s.rows (s.tidy now.tidy tidy) (s.marks ∙ now.flags) s.set bits
    c.args.callers.now c.requires.callers c.settle-grew.result (λ t. s.grew t tidy) s.same s.cleans s.wakes

pub returns-clause-room : goal.returns-clause-room
returns-clause-room g c t =
    let e = g.E.RowEquations in
    let it = c.args.equations.now in
    let now = c.requires.solving in
    let s = c.settle-grew.ensures in
    let bits = c.in_ok-words.ensures.bits in
    let tidy = bits_are_tidy (e.layout it) (e.follow it) c.args.rows.now c.args.body.0 c.in_ok-words.words now.layout bits in
    grown_room (e.layout it) (e.calls it) (e.follow it) (e.lawful it c.requires.fit) c.args.rows.now c.settle-grew.new.rows c.in_ok-words.words
    c.args.dirty.now c.settle-grew.new.dirty c.args.body.0 now (s.layout ∙ now.layout) s.rows (s.tidy now.tidy tidy) (s.marks ∙ now.flags) s.set bits
    (s.grew t tidy)
