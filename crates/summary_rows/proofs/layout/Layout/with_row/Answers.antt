use Rattle.std.proofs.Common.{◌+◌, ◌∙◌, ap}
use Rattle.summary_rows.specs.Layout.{row_size}
use Rattle.summary_rows.proofs.Grown.{grown}
use Rattle.summary_rows.proofs.layout.Layout.with_row.Goals as goal

pub returns-clause-layout : goal.returns-clause-layout
returns-clause-layout c =
    let size = c.row_size-words.ensures in
    let len = c.len.ensures in
    grown c.args.self c.requires.layout c.args.outer c.requires.increasing c.requires.room
    (record { outer = c.push-2.new.self; first = c.push.new.self; words = c.args.self.words + c.row_size-words.result })
    c.in_ok-push-2.ensures.ok c.in_ok-push.ensures.ok (ap (λ k. c.args.self.words + k) (size ∙ ap (λ k. row_size k) len))
