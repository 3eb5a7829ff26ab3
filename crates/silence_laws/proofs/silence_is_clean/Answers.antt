use Rattle.run_laws.proofs.Calls.{clean_runs}
use Rattle.used_modes.specs.UsedModes.{row_of}
use Rattle.initializes_check.specs.InitializesCheck.{reads_outside}
use Rattle.elaboration_laws.proofs.Covered.{all_elaborated}
use Rattle.silence_laws.proofs.Globals.{globals_within}
use Rattle.silence_laws.proofs.Outside.{root_seen}
use Rattle.silence_laws.proofs.Starts.{starts_assigned}
use Rattle.silence_laws.proofs.silence_is_clean.Goals as goal

pub returns : goal.returns
returns c p rows items fine proper plain simple told endings silent =
    let globals = globals_within p proper simple (row_of rows) told silent.globals in
    let seen = root_seen p proper simple rows told globals in
    let starts = starts_assigned p (row_of rows) (reads_outside p rows) items simple.roots seen silent.initial in
    clean_runs p fine proper plain (record { globals = globals; own = silent.own; elaborations = all_elaborated p items proper simple.roots endings starts })
