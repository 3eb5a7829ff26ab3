use Rattle.std.proofs.Common.{◌≡◌, drop}
use Rattle.std.specs.List.{flat_map}
use Rattle.first_conditions.specs.Checks.{are_items}
use Rattle.first_conditions.specs.Conditions.{words_of}
use Rattle.first_path.specs.declared.source.Entry.{Entry}
use Rattle.first_conditions.proofs.known.add_entries.Given as goal

-- what is left decides
abbrev pub invariant-loop-entry : goal.invariant-loop-entry
invariant-loop-entry l =
    are_items l.known l.seen (flat_map (λ (e : Entry). words_of e.names) (drop l.entry-index l.entries))
    ≡ are_items l.known l.initial.seen (flat_map (λ (e : Entry). words_of e.names) l.entries)
