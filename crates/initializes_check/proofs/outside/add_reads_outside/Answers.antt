use Rattle.std.proofs.Common.{◌∙◌, length}
use Rattle.callee_view.specs.Seen.{ContractReads}
use Rattle.used_modes.specs.UsedModes.{row_of}
use Rattle.initializes_check.specs.InitializesCheck.{reads_outside}
use Rattle.initializes_check.proofs.Viewed.{added_row, added_seen, by_contract, by_row}
use Rattle.initializes_check.proofs.outside.add_reads_outside.Goals as goal

pub returns-in-Some-clause-set : goal.returns-in-Some-clause-set
returns-in-Some-clause-set c = added_seen c.args.into.now c.add_reads_of_contract.new.into (length c.args.program.now.leaves)
    (ContractReads c.args.program.now c.args.number.0 c.args.body.now c.in-Some.contract)
    (reads_outside c.args.program.now c.args.rows.now c.args.number.0)
    (c.add_reads_of_contract.ensures.size ∙ c.requires.size)
    (by_contract c.args.program.now c.args.rows.now c.args.number.0 c.args.body.now c.requires.body c.in-Some.contract c.in-Some.is)
    c.add_reads_of_contract.ensures.set

pub returns-in-None-clause-set : goal.returns-in-None-clause-set
returns-in-None-clause-set c = added_row c.args.into.now c.add_reads_of_row.new.into (length c.args.program.now.leaves)
    (row_of c.args.rows.now c.args.number.0).reads (reads_outside c.args.program.now c.args.rows.now c.args.number.0) c.requires.size
    (by_row c.args.program.now c.args.rows.now c.args.number.0 c.args.body.now c.requires.body c.in-None.is)
    c.add_reads_of_row.ensures.set
