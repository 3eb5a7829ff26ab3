use Rattle.std.proofs.Common.{rules}
use Rattle.std.proofs.lemmas.Result.{on_ok_weaker}
use Rattle.used_modes.specs.UsedModes.{row_of}
use Rattle.global_check.specs.GlobalCheck.{IsMissing, IsUsedAs}
use Rattle.global_check.proofs.Gathered.{noted_missing}
use Rattle.global_check.proofs.unlisted.note_used.Goals as goal

pub returns-in-Some : goal.returns-in-Some
returns-in-Some c =
    let m : IsMissing c.args.program.now c.args.globals.now c.in-Some.item = c.is_missing.ensures.0 (search (
      rules,
      c.if-is_missing.true,
    )) in
    on_ok_weaker c.note_new.result
    (λ a. noted_missing (IsUsedAs c.args.program.now (row_of c.args.rows.now c.args.number.0) c.args.body.now c.args.leaf.0)
    c.used_as.result c.used_as.ensures (IsMissing c.args.program.now c.args.globals.now) c.args.items.now c.note_new.new.list
    c.in-Some.item c.in-Some.is m a) c.note_new.ensures
