use Rattle.std.proofs.Common.{◌∙◌, sym, ap}
use Rattle.std.specs.Option.{option_copied}
use Rattle.std.proofs.lemmas.Result.{on_ok_weaker}
use Rattle.core_form.specs.declared.contract.Contract.{Contract}
use Rattle.spark_messages.specs.declared.messages.Message.{Message}
use Rattle.global_check.proofs.Gathered.{of_none, of_some}
use Rattle.depends_check.specs.DependsCheck.{IsWrongDepends, checked_depends}
use Rattle.depends_check.proofs.messages.append_depends_messages.Goals as goal

pub returns-in-Some : goal.returns-in-Some
returns-in-Some c = on_ok_weaker c.append_wrong_depends.result
    (λ a. of_some (λ (k : Contract) (m : Message). IsWrongDepends c.args.program.now c.args.rows.now c.args.number.0 c.args.body.now k m)
    (checked_depends c.args.body.now) c.in-Some.contract.now
    (sym c.checked_depends.ensures ∙ ap option_copied c.in-Some.is) c.args.list.now c.append_wrong_depends.new.list a)
    c.append_wrong_depends.ensures

pub returns-in-None : goal.returns-in-None
returns-in-None c = of_none (λ (k : Contract) (m : Message). IsWrongDepends c.args.program.now c.args.rows.now c.args.number.0
    c.args.body.now k m) (checked_depends c.args.body.now)
    (sym c.checked_depends.ensures ∙ ap option_copied c.in-None.is) c.args.list.now
