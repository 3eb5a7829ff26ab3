use Rattle.std.proofs.Common.{◌≡◌}
use Rattle.summary_rows.specs.Facts.{Reading, Writing, Keeping, Depending}
use Rattle.summary_rows.specs.Layout.{told}
use Rattle.callee_view.specs.Seen.{of_body}
use Rattle.callee_view.proofs.Placing.{pairs_told, placed_told}
use Rattle.callee_view.proofs.rows.known_of_row.Goals as goal

pub returns-clause-size : goal.returns-clause-size
returns-clause-size c = record {
  reads = c.in_ok-reads.ensures.size;
  writes = c.in_ok-writes.ensures.size;
  keeps = c.in_ok-keeps.ensures.size;
  depends = c.in_ok-depends.ensures.size;
}

pub returns-clause-shows : goal.returns-clause-shows
returns-clause-shows c =
    let rows = c.args.rows.now in
    let b = c.args.body.0 in
    let outer = c.args.outer.now in
    record {
      returns = c.returns-may_return.ensures;
      reads = placed_told outer (λ v. told rows (of_body b (Reading v))) _ (λ v. c.in_ok-reads.ensures.set v);
      writes = placed_told outer (λ v. told rows (of_body b (Writing v))) _ (λ v. c.in_ok-writes.ensures.set v);
      keeps = placed_told outer (λ v. told rows (of_body b (Keeping v))) _ (λ v. c.in_ok-keeps.ensures.set v);
      depends = pairs_told outer (λ v w. told rows (of_body b (Depending v w))) _ (λ v w. c.in_ok-depends.ensures.set v w);
    }
