use Rattle.std.proofs.Common.{◌+◌, ◌*◌, arith}
use Rattle.summary_rows.specs.Facts.{Depending}
use Rattle.summary_rows.proofs.Joined.{told_at}
use Rattle.summary_rows.proofs.rows.Rows.depends.Goals as goal

pub returns-in-Some : goal.returns-in-Some
returns-in-Some c =
    let p = c.in-Some.ensures.some.1 in
    let e = p.1.1.1.1 in
    let m = c.words_for.ensures in
    told_at c.args.self.now c.requires.rows c.args.b.0 c.requires.in_range c.outer-outer.result.now c.outer-outer.ensures.leaves
    (Depending c.args.from.0 c.args.to.0) (64 + 192 * c.words_for.result + c.in-Some.at)
    (p.0, (p.1.0, (p.1.1.0, (p.1.1.1.0, omega (arith, e, m))))) c.has.ensures
