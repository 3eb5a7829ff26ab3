use Rattle.std.proofs.lemmas.Result.{on_ok_weaker}
use Rattle.used_modes.specs.UsedModes.{row_of}
use Rattle.global_check.specs.GlobalCheck.{IsWrittenAs}
use Rattle.global_check.proofs.Gathered.{not_there, noted}
use Rattle.global_check.proofs.functions.note_written.Goals as goal

pub returns-in-Some : goal.returns-in-Some
returns-in-Some c = on_ok_weaker c.note_new.result
    (λ a. noted (IsWrittenAs c.args.program.now (row_of c.args.rows.now c.args.number.0) c.args.number.0 c.args.body.now c.args.leaf.0)
    c.written_as.result c.written_as.ensures c.args.items.now c.note_new.new.list c.in-Some.item c.in-Some.is a) c.note_new.ensures

pub returns-in-None : goal.returns-in-None
returns-in-None c =
    not_there (IsWrittenAs c.args.program.now (row_of c.args.rows.now c.args.number.0) c.args.number.0 c.args.body.now c.args.leaf.0)
    c.written_as.result c.written_as.ensures c.args.items.now c.in-None.is
