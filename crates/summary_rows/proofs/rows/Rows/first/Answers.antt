use Rattle.std.proofs.Common.{arith}
use Rattle.std.proofs.lemmas.Option.{get_or_from_slice_get}
use Rattle.summary_rows.proofs.Joined.{row_within}
use Rattle.summary_rows.proofs.rows.Rows.first.Goals as goal

pub returns : goal.returns
returns c =
    let l = c.args.self.now.layout in
    let e = get_or_from_slice_get l.first c.args.b.0 c.at.result.now 0 c.at.ensures in
    let h = row_within l c.requires.rows.layout c.args.b.0 c.requires.in_range in
    let f = c.requires.rows.layout.fits in
    let s = c.requires.rows.size in
    record { first = omega (arith, e); within = omega (arith, e, h, s); fits = omega (arith, e, h, f) }
