use Rattle.std.proofs.Common.{◌≡◌, ℕ, ◌+◌, List, sym, ap, ◌∙◌, subst, arith}
use Rattle.atomic_table.specs.Table.{Me, Final, Seen}
use Rattle.summary_table.specs.declared.view.View.{View}
use Rattle.summary_table.specs.Kept.{AreClosed, AreClosedBy}
use Rattle.summary_table.specs.Tells.{KeptIn}
use Rattle.summary_table.proofs.Moves as moves
use Rattle.summary_table.proofs.table.SummaryTable.close.Goals as goal

pub split_seat-requires : goal.split_seat-requires
split_seat-requires g c =
    let table = c.args.self in
    let size : table.table.shared.table_id.words ≡ 1 + g.E.Equations.system.bodies + g.E.Equations.system.words = table.size ∙ (λ i. 1 + table.extent.bodies_are i + table.extent.words_are i) in
    let seat = c.args.seat in (
      c.requires.of.0,
      rw size (omega arith),
      moves.recall_moves g.E.Equations.system g.E.Equations.lawful table.table.shared.key 0 seat.token.id seat.token.me c.requires.of.1,
    )

pub free-requires : goal.free-requires
free-requires g c = λ k lt. let n = c.close_with-closed.ensures.counts.1 in let z = c.args.self.no_slots in absurd (omega arith)

pub returns-clause-closed : goal.returns-clause-closed
returns-clause-closed g c =
    let table = c.args.self in
    let seat = c.args.seat in
    let sys = g.E.Equations.system in
    let same : c.split_seat.new.seat.me.0 ≡ seat.token.me.0 = ap (λ (m : Me ℕ View). m.0) c.split_seat.ensures.2 in
    let last = subst (λ (p : ℕ × View). Final (Seen (KeptIn sys table.table.shared.key) p.0 p.1) c.close_with-closed.result.words.items c.close_with-closed.result.slots.items)
    (λ i. (c.split_seat.ensures.1 i, same i)) c.close_with-closed.ensures.values.2 in
    subst (λ (ws : List ℕ). AreClosed sys ws) (sym c.in_ok-words.ensures)
    (moves.are_closed sys g.E.Equations.lawful table.table.shared.key 0 seat.token.id seat.token.me c.requires.of.1 (c.requires.last ∙ sym table.seats_are) (seat.held ∙ c.requires.idle)
    c.close_with-closed.result.words.items c.close_with-closed.result.slots.items last)

pub returns-clause-by : goal.returns-clause-by
returns-clause-by g c =
    let table = c.args.self in
    let seat = c.args.seat in
    let sys = g.E.Equations.system in
    let same : c.split_seat.new.seat.me.0 ≡ seat.token.me.0 = ap (λ (m : Me ℕ View). m.0) c.split_seat.ensures.2 in
    let last = subst (λ (p : ℕ × View). Final (Seen (KeptIn sys table.table.shared.key) p.0 p.1) c.close_with-closed.result.words.items c.close_with-closed.result.slots.items)
    (λ i. (c.split_seat.ensures.1 i, same i)) c.close_with-closed.ensures.values.2 in
    subst (λ (ws : List ℕ). AreClosedBy sys seat.token.me.0 ws) (sym c.in_ok-words.ensures)
    (moves.are_closed_by sys g.E.Equations.lawful table.table.shared.key 0 seat.token.id seat.token.me c.requires.of.1 (c.requires.last ∙ sym table.seats_are) (seat.held ∙ c.requires.idle)
    c.close_with-closed.result.words.items c.close_with-closed.result.slots.items last)
