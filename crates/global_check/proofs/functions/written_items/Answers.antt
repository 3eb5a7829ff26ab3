use Rattle.std.proofs.Common.{[], subst}
use Rattle.used_modes.specs.Added.{Adds}
use Rattle.used_modes.specs.UsedModes.{row_of}
use Rattle.used_modes.proofs.Adding.{adds_both}
use Rattle.std.proofs.Common.{ℕ}
use Rattle.global_check.specs.GlobalCheck.{IsDeclaredOutput, IsWritten, IsWrittenAs}
use Rattle.global_check.proofs.Gathered.{only}
use Rattle.global_check.proofs.Whole.{written_fine}
use Rattle.global_check.proofs.functions.written_items.Goals as goal

pub returns-clause-set : goal.returns-clause-set
returns-clause-set c = only c.note_declared.new.items (IsWritten c.args.program.now (row_of c.args.rows.now c.args.number.0)
    c.args.number.0 c.args.body.now)
    (adds_both [] c.note_all_written.new.items c.note_declared.new.items (λ i. (leaf : ℕ) × IsWrittenAs c.args.program.now (row_of
    c.args.rows.now c.args.number.0) c.args.number.0 c.args.body.now leaf i) (IsDeclaredOutput c.args.program.now c.args.body.now)
    (subst (λ xs. Adds xs c.note_all_written.new.items (λ i. (leaf : ℕ) × IsWrittenAs c.args.program.now (row_of c.args.rows.now
    c.args.number.0) c.args.number.0 c.args.body.now leaf i)) c.new-items.ensures c.in_ok-note_all_written.ensures)
    c.in_ok-note_declared.ensures)

pub returns-clause-fine : goal.returns-clause-fine
returns-clause-fine c = written_fine c.args.program.now (row_of c.args.rows.now c.args.number.0) c.args.body.now c.requires.fine
    c.args.number.0 c.note_declared.new.items
    (adds_both [] c.note_all_written.new.items c.note_declared.new.items (λ i. (leaf : ℕ) × IsWrittenAs c.args.program.now (row_of
    c.args.rows.now c.args.number.0) c.args.number.0 c.args.body.now leaf i) (IsDeclaredOutput c.args.program.now c.args.body.now)
    (subst (λ xs. Adds xs c.note_all_written.new.items (λ i. (leaf : ℕ) × IsWrittenAs c.args.program.now (row_of c.args.rows.now
    c.args.number.0) c.args.number.0 c.args.body.now leaf i)) c.new-items.ensures c.in_ok-note_all_written.ensures)
    c.in_ok-note_declared.ensures)
