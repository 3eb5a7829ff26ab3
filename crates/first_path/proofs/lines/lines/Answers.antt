use Rattle.std.proofs.Common.{◌∙◌, sym, ap}
use Rattle.first_path.specs.Begins.{begins_line}
use Rattle.first_path.specs.Spelling.{each_then, line_then}
use Rattle.first_path.proofs.Denied.{passes}
use Rattle.first_path.proofs.Lists.{each_more, refused}
use Rattle.first_path.proofs.One.{one_line, starts_line}
use Rattle.first_path.proofs.lines.lines.Goals as goal

pub returns-in-Err-clause-err : goal.returns-in-Err-clause-err
returns-in-Err-clause-err c = passes c.in-Err.fault c.in-Err.ensures.err (λ none ls r stop spelled.
    refused line_then begins_line starts_line one_line c.each.list ls c.each.rest.items r
    (sym c.is_line_next.ensures ∙ c.each-test.true) none stop (sym c.each.invariant ∙ spelled))

pub each-preserved : goal.each-preserved
each-preserved c = c.each.invariant ∙ ap (each_then line_then c.each.list) c.in-Ok.ensures.ok
    ∙ sym (each_more line_then c.each.list c.in-Ok.next c.line.new.rest.items)
    ∙ ap (λ ls. each_then line_then ls c.line.new.rest.items) (sym c.in_ok-push-in-Ok.ensures.ok)
