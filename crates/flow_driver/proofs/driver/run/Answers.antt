use Rattle.std.proofs.Common.{◌∙◌, ap, inr}
use Rattle.spark_messages.specs.Text.{text}
use Rattle.flow_driver.proofs.Analysing.{printed_whole, printed_in_part}
use Rattle.flow_driver.proofs.SayingSteps.{says}
use Rattle.flow_driver.proofs.driver.run.Goals as goal

pub returns-in-Ok-print_into-clause-out : goal.returns-in-Ok-print_into-clause-out
returns-in-Ok-print_into-clause-out g c =
    printed_whole g.F.Files.told g.F.Files.gaps _ _ _ _ c.in-Ok.ensures.told c.in-Ok-report_of_all.ensures _
    (c.as_slice-2.ensures ∙ c.in-Ok-text_of.ensures ∙ ap (text _) c.as_slice.ensures) _ _ _ c.in-Ok-print_into.ensures.bytes c.verdict.ensures.value

pub returns-in-Err-Failed-print_into-clause-out : goal.returns-in-Err-Failed-print_into-clause-out
returns-in-Err-Failed-print_into-clause-out g c =
    let put = c.print_into.ensures in
    printed_in_part g.F.Files.told g.F.Files.gaps _ _ _ _ c.in-Ok.ensures.told c.in-Ok-report_of_all.ensures _
    (c.as_slice-2.ensures ∙ c.in-Ok-text_of.ensures ∙ ap (text _) c.as_slice.ensures) _ _
    (says g.K.Sink.held g.K.Sink.faults g.K.Sink.wants _ _ _ _ put.bytes put.cause put.want).part

pub returns-clause-out : goal.returns-clause-out
returns-clause-out g c =
    let put = c.print_into.ensures in
    inr (printed_in_part g.F.Files.told g.F.Files.gaps _ _ _ _ c.in-Ok.ensures.told c.in-Ok-report_of_all.ensures _
    (c.as_slice-2.ensures ∙ c.in-Ok-text_of.ensures ∙ ap (text _) c.as_slice.ensures) _ _
    (says g.K.Sink.held g.K.Sink.faults g.K.Sink.wants _ _ _ _ put.bytes put.cause put.want).part)
