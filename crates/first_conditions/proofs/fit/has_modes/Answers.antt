use Rattle.std.proofs.Common.{IsSome, rules, ap}
use Rattle.first_conditions.specs.Conditions.{entries_of, key, mode_named}
use Rattle.first_path.specs.declared.source.Entry.{Entry}
use Rattle.first_conditions.proofs.Alls.{all_of}
use Rattle.first_conditions.proofs.fit.has_modes.Goals as goal

pub returns-then-is_some : goal.returns-then-is_some
returns-then-is_some c = all_of (λ (e : Entry). IsSome (mode_named (key e.mode))) c.in-Entries.first c.in-Entries.more _ _ _
    (ap entries_of c.in-Entries.is) c.as_slice.ensures (search rules) c.have_modes.ensures
