use Rattle.std.proofs.Common.{subst}
use Rattle.std.specs.Prelude.{slice_get}
use Rattle.std.proofs.lemmas.Result.{on_ok_weaker}
use Rattle.core_form.specs.declared.program.Body.{Body}
use Rattle.flow_bits.specs.Sets.{Has}
use Rattle.spark_messages.specs.declared.messages.Message.{Message}
use Rattle.used_modes.specs.Added.{Adds}
use Rattle.initializes_check.specs.InitializesCheck.{IsOfStart, reads_outside}
use Rattle.initializes_check.proofs.Joined.{of_some}
use Rattle.initializes_check.proofs.messages.append_task.Goals as goal

pub returns : goal.returns
returns c =
    let p = c.args.program.now in
    let outside = reads_outside p c.args.rows.now in
    let b = c.args.task.now.body in
    on_ok_weaker c.append_start.result
    (λ a. of_some (λ (body : Body) (m : Message). IsOfStart p outside (Has c.args.unset.now) b body c.args.task.now.name m) (slice_get p.bodies b.0) c.at-body.result.now
    c.at-body.ensures c.args.list.now c.append_start.new.list
    (subst (λ (n : _). Adds c.args.list.now c.append_start.new.list (IsOfStart p outside (Has c.args.unset.now) b c.at-body.result.now n)) c.as_slice-name.ensures a))
    c.append_start.ensures
