use Rattle.std.proofs.Common.{subst}
use Rattle.std.proofs.lemmas.Result.{on_ok_weaker}
use Rattle.used_modes.specs.Added.{Adds, SomeOf}
use Rattle.used_modes.specs.UsedModes.{row_of}
use Rattle.used_modes.proofs.Adding.{adds_both}
use Rattle.global_check.specs.GlobalCheck.{IsListedWrong, IsUnlisted}
use Rattle.global_check.proofs.messages.append_wrong_global.Goals as goal

pub returns : goal.returns
returns c = on_ok_weaker c.append_listed.result
    (λ a. adds_both c.args.list.now c.append_unlisted.new.list c.append_listed.new.list (IsUnlisted c.args.program.now (row_of
    c.args.rows.now c.args.number.0) c.args.body.now c.args.contract.now)
    (λ m. SomeOf (λ g. IsListedWrong c.args.program.now (row_of c.args.rows.now c.args.number.0) c.args.body.now g m)
    c.args.contract.now.globals)
    c.in_ok-append_unlisted.ensures
    (subst (λ gs. Adds c.append_unlisted.new.list c.append_listed.new.list (λ m. SomeOf (λ g. IsListedWrong c.args.program.now (row_of
    c.args.rows.now c.args.number.0) c.args.body.now g m) gs)) c.as_slice.ensures a))
    c.append_listed.ensures
