use Rattle.std.proofs.Common.{◌++◌, ◌∙◌, ap, sym}
use Rattle.choice_covers.specs.Covers.{coverage_found, outside_found}
use Rattle.choice_covers.specs.declared.choices.Bounds.{Bounds}
use Rattle.expr_rules.specs.Aggregates.{choices_found}
use Rattle.name_findings.proofs.Joined.{add_append}
use Rattle.name_findings.specs.Findings.{add_all}
use Rattle.spark_messages.specs.declared.messages.Code.TheVariants.{Y09}
use Rattle.expr_rules.proofs.aggregates.refuse_choices.Goals as goal

pub returns-in_ok-refuse_coverage : goal.returns-in_ok-refuse_coverage
returns-in_ok-refuse_coverage c =
    let found = c.args.found.now in
    let choices = c.args.choices.now in
    let bounds = c.to_cover-bounds.result in
    c.refuse_outside.ensures ∙ ap (λ t. add_all t (outside_found bounds choices)) c.in_ok-refuse_coverage.ensures
    ∙ sym (add_append found (coverage_found Y09 c.args.at bounds choices) (outside_found bounds choices))
    ∙ ap (λ (b : Bounds). add_all found (coverage_found Y09 c.args.at b choices ++ outside_found b choices)) c.to_cover-bounds.ensures
    ∙ sym (ap (λ r. add_all found (choices_found c.args.at choices r)) c.in-Some.is)
