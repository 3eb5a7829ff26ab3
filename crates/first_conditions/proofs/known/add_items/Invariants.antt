use Rattle.std.proofs.Common.{◌≡◌, ◌++◌, map, drop}
use Rattle.first_conditions.specs.Checks.{are_items}
use Rattle.first_conditions.specs.Conditions.{key}
use Rattle.first_conditions.proofs.known.add_items.Given as goal

-- what is left decides, and comes behind what was seen
abbrev pub invariant-loop-word : goal.invariant-loop-word
invariant-loop-word l = record {
  items : are_items l.known l.seen (drop l.word-index l.words) ≡ are_items l.known l.initial.seen l.words;
  seen : l.seen ++ map key (drop l.word-index l.words) ≡ l.initial.seen ++ map key l.words;
}
