use Rattle.std.proofs.Common.{◌∙◌, sym, ap}
use Rattle.first_path.specs.Begins.{begins_word}
use Rattle.first_path.specs.Spelling.{each_then, variable_then}
use Rattle.first_path.proofs.Lists.{each_more, refused}
use Rattle.first_path.proofs.One.{one_variable, starts_variable}
use Rattle.first_path.proofs.units.variables.Goals as goal

pub returns-in-Err-clause-err : goal.returns-in-Err-clause-err
returns-in-Err-clause-err c = λ vs r stop spelled.
    refused variable_then begins_word starts_variable one_variable c.each.list vs c.each.rest.items r
    (sym c.is_word_next.ensures ∙ c.each-test.true) c.in-Err.ensures.err stop (sym c.each.invariant ∙ spelled)

pub each-preserved : goal.each-preserved
each-preserved c = c.each.invariant ∙ ap (each_then variable_then c.each.list) c.in-Ok.ensures.ok
    ∙ sym (each_more variable_then c.each.list c.in-Ok.next c.variable.new.rest.items)
    ∙ ap (λ vs. each_then variable_then vs c.variable.new.rest.items) (sym c.in_ok-push-in-Ok.ensures.ok)
