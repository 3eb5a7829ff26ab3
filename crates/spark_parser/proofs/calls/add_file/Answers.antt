use Rattle.std.proofs.Common.{Err, subst}
use Rattle.spark_messages.specs.declared.messages.PhaseFault.{PhaseFault}
use Rattle.spark_parser.specs.Files.{TellsFile, refused}
use Rattle.spark_parser.proofs.calls.add_file.Goals as goal

pub returns-in_ok-push-in-Err-Refused : goal.returns-in_ok-push-in-Err-Refused
returns-in_ok-push-in-Err-Refused c =
    refused (subst (λ (z : PhaseFault). TellsFile c.args.tokens.now c.args.units.now c.parse_file.new.units (Err z)) c.in-Err-Refused.field-0-is c.in-Err-Refused.ensures) c.new.ensures.ordered c.in_ok-push-in-Err-Refused.ensures.ok
