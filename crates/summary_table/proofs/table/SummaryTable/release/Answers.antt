use Rattle.std.proofs.Common.{◌∙◌, sym}
use Rattle.summary_table.proofs.Moves as moves
use Rattle.summary_table.proofs.table.SummaryTable.release.Goals as goal

pub fetch_and-requires : goal.fetch_and-requires
fetch_and-requires g c =
    let table = c.args.self.now in
    let seat = c.args.seat.now in
    let b = c.in-Some.b in (
      c.requires.of.0,
      rw (sym c.requires.of.0) (seat.in_range b c.in-Some.is),
      moves.release_moves g.E.Equations.system g.E.Equations.lawful table.table.shared.key _ seat.token.id seat.token.me c.requires.of.1 b (seat.held ∙ c.in-Some.is) c.requires.paid
          (c.requires.done b c.in-Some.is),
    )
