use Rattle.std.proofs.Common.{◌∙◌, sym, ap, arith}
use Rattle.first_path.specs.Begins.{begins_term}
use Rattle.first_path.specs.Spelling.{each_then, term_then}
use Rattle.first_path.proofs.Lists.{each_more, refused}
use Rattle.first_path.proofs.One.{one_term, starts_term}
use Rattle.first_path.proofs.reading.terms.Goals as goal

pub returns-in-Err-clause-err : goal.returns-in-Err-clause-err
returns-in-Err-clause-err c = λ ts r stop spelled.
    refused term_then begins_term starts_term one_term c.each.list ts c.each.rest.items r (sym c.is_term_next.ensures ∙ c.each-test.true)
    c.in-Err.ensures.err stop (sym c.each.invariant.read ∙ spelled)

pub each-preserved : goal.each-preserved
each-preserved c = record {
  read = c.each.invariant.read ∙ ap (each_then term_then c.each.list) c.in-Ok.ensures.ok
      ∙ sym (each_more term_then c.each.list c.in-Ok.next c.term.new.rest.items)
      ∙ ap (λ ts. each_then term_then ts c.term.new.rest.items) (sym c.in_ok-push-in-Ok.ensures.ok);
  shorter = omega (arith, c.in-Ok.ensures.shorter);
}
