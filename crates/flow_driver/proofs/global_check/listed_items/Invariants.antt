use Rattle.std.proofs.Common.{◌≡◌, ℕ, ◌⊎◌, ◌↔◌, true, length, drop}
use Rattle.flow_bits.specs.Sets.{Has}
use Rattle.flow_driver.specs.GlobalCheck.{is_listed}
use Rattle.flow_driver.proofs.global_check.listed_items.Given as goal

-- what is in, and what the items that are left list, is what all list
abbrev pub invariant-loop-global : goal.invariant-loop-global
invariant-loop-global l = record {
  size : length l.row ≡ l.count;
  set : (i : ℕ) → (Has l.row i ⊎ (is_listed (drop l.global-index l.globals) i ≡ true)) ↔ (is_listed l.globals i ≡ true);
}
