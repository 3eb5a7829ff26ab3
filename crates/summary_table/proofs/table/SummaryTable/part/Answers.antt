use Rattle.std.proofs.Common.{◌≡◌, ◌+◌, ◌∙◌, arith}
use Rattle.summary_table.proofs.Moves as moves
use Rattle.summary_table.proofs.table.SummaryTable.part.Goals as goal

pub split_seat-token-requires : goal.split_seat-token-requires
split_seat-token-requires g c =
    let table = c.args.self.now in
    let size : table.table.shared.table_id.words ≡ 1 + g.E.Equations.system.bodies + g.E.Equations.system.words = table.size ∙ (λ i. 1 + table.extent.bodies_are i + table.extent.words_are i) in
    let seat = c.args.seat.now in (
      c.requires.of.0,
      rw size (omega arith),
      moves.split_moves g.E.Equations.system g.E.Equations.lawful table.table.shared.key 0 seat.token.id seat.token.me c.requires.of.1 c.requires.heavy,
    )
