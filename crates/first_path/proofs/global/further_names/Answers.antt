use Rattle.std.proofs.Common.{◌∙◌, sym, ap, arith}
use Rattle.first_path.specs.Begins.{begins}
use Rattle.first_path.specs.Spelling.{each_then, further_name_then}
use Rattle.first_path.specs.declared.source.Sign.TheVariants as signs
use Rattle.first_path.proofs.Lists.{each_more, refused}
use Rattle.first_path.proofs.One.{one_further_name, starts_further_name}
use Rattle.first_path.proofs.global.further_names.Goals as goal

pub returns-in-Err-clause-err : goal.returns-in-Err-clause-err
returns-in-Err-clause-err c = λ ws r stop spelled.
    refused further_name_then (begins signs.Comma) starts_further_name one_further_name c.each.list ws c.each.rest.items r
    (sym c.is_next.ensures ∙ c.each-test.true) c.in-Err.ensures.err stop (sym c.each.invariant.read ∙ spelled)

pub each-preserved : goal.each-preserved
each-preserved c = record {
  read = c.each.invariant.read ∙ ap (each_then further_name_then c.each.list) c.in-Ok.ensures.ok
      ∙ sym (each_more further_name_then c.each.list c.in-Ok.next c.further_name.new.rest.items)
      ∙ ap (λ ws. each_then further_name_then ws c.further_name.new.rest.items) (sym c.in_ok-push-in-Ok.ensures.ok);
  shorter = omega (arith, c.in-Ok.ensures.shorter);
}
