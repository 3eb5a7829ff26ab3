use Rattle.std.proofs.Common.{◌≡◌, ◌++◌, drop}
use Rattle.std.specs.List.{flat_map}
use Rattle.first_lower.specs.Known.{Each, KnownEntry}
use Rattle.first_lower.specs.Lowered.{low_entry}
use Rattle.first_lower.proofs.contract.append_entries.Given as goal

-- the items so far, and those of what is left, are all
abbrev pub invariant-loop-entry : goal.invariant-loop-entry
invariant-loop-entry l = record {
  known : Each (KnownEntry l.table) (drop l.entry-index l.entries);
  items : l.list ++ flat_map (low_entry l.table) (drop l.entry-index l.entries) ≡ l.initial.list ++ flat_map (low_entry l.table) l.entries;
}
