use Rattle.std.proofs.Common.{◌∙◌, sym, ap}
use Rattle.first_path.specs.Begins.{begins}
use Rattle.first_path.specs.Spelling.{each_then, further_entry_then}
use Rattle.first_path.specs.declared.source.Sign.TheVariants as signs
use Rattle.first_path.proofs.Denied.{passes}
use Rattle.first_path.proofs.Lists.{each_more, refused}
use Rattle.first_path.proofs.One.{one_further_entry, starts_further_entry}
use Rattle.first_path.proofs.global.further_entries.Goals as goal

pub returns-in-Err-clause-err : goal.returns-in-Err-clause-err
returns-in-Err-clause-err c = passes c.in-Err.fault c.in-Err.ensures.err (λ none es r stop spelled.
    refused further_entry_then (begins signs.Comma) starts_further_entry one_further_entry c.each.list es c.each.rest.items r
    (sym c.is_next.ensures ∙ c.each-test.true) none stop (sym c.each.invariant ∙ spelled))

pub each-preserved : goal.each-preserved
each-preserved c = c.each.invariant ∙ ap (each_then further_entry_then c.each.list) c.in-Ok.ensures.ok
    ∙ sym (each_more further_entry_then c.each.list c.in-Ok.next c.further_entry.new.rest.items)
    ∙ ap (λ es. each_then further_entry_then es c.further_entry.new.rest.items) (sym c.in_ok-push-in-Ok.ensures.ok)
