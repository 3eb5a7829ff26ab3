use Rattle.std.proofs.Common.{◌≡◌, ◌≤◌, length}
use Rattle.first_path.specs.Spelling.{each_then, further_name_then}
use Rattle.first_path.proofs.global.further_names.Given as goal

-- what was read, with what is left, is what stood there
abbrev pub invariant-each : goal.invariant-each
invariant-each l = record {
  read : l.initial.rest.items ≡ each_then further_name_then l.list l.rest.items;
  shorter : length l.rest.items ≤ length l.initial.rest.items;
}

abbrev pub decreases-each : goal.decreases-each
decreases-each l = length l.rest.items
