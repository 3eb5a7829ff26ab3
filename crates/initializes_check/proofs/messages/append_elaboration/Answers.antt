use Rattle.std.proofs.Common.{ℕ, ◌⊎◌, subst}
use Rattle.std.specs.Prelude.{slice_get}
use Rattle.std.proofs.lemmas.Result.{on_ok_weaker}
use Rattle.core_form.specs.declared.program.Body.{Body}
use Rattle.flow_bits.specs.Sets.{Has}
use Rattle.spark_messages.specs.declared.messages.Message.{Message}
use Rattle.used_modes.specs.Added.{Adds}
use Rattle.used_modes.specs.UsedModes.{row_of}
use Rattle.used_modes.proofs.Adding.{adds_both}
use Rattle.initializes_check.specs.InitializesCheck.{IsForeignWrite, IsOfStart, reads_outside}
use Rattle.initializes_check.proofs.Joined.{of_some}
use Rattle.initializes_check.proofs.messages.append_elaboration.Goals as goal

pub returns : goal.returns
returns c =
    let p = c.args.program.now in
    let outside = reads_outside p c.args.rows.now in
    let b = c.args.number in
    on_ok_weaker c.append_start.result
    (λ a. of_some (λ (body : Body) (m : Message). ((leaf : ℕ) × IsForeignWrite p (row_of c.args.rows.now b.0) body leaf m) ⊎ IsOfStart p outside (Has c.args.unset.now) b body
    body.name m) (slice_get p.bodies b.0) c.at-body.result.now c.at-body.ensures c.args.list.now c.append_start.new.list
    (adds_both c.args.list.now c.append_foreign_writes.new.list c.append_start.new.list (λ m. (leaf : ℕ) × IsForeignWrite p (row_of
    c.args.rows.now b.0) c.at-body.result.now leaf m) (IsOfStart p outside (Has c.args.unset.now) b c.at-body.result.now c.at-body.result.now.name)
    c.in_ok-append_foreign_writes.ensures
    (subst (λ (n : _). Adds c.append_foreign_writes.new.list c.append_start.new.list (IsOfStart p outside (Has c.args.unset.now) b c.at-body.result.now n)) c.as_slice-name.ensures a)))
    c.append_start.ensures
