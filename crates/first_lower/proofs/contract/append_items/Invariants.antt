use Rattle.std.proofs.Common.{◌≡◌, ◌++◌, drop, map}
use Rattle.first_lower.specs.Known.{Each, KnownWord}
use Rattle.first_lower.specs.Lowered.{low_global_item}
use Rattle.first_lower.proofs.contract.append_items.Given as goal

-- the items so far, and those of what is left, are all
abbrev pub invariant-loop-word : goal.invariant-loop-word
invariant-loop-word l = record {
  known : Each (KnownWord l.table) (drop l.word-index l.words);
  items : l.list ++ map (low_global_item l.table l.mode) (drop l.word-index l.words) ≡ l.initial.list ++ map (low_global_item l.table l.mode) l.words;
}
