-- How what is covered is kept: a map from the least value of each run to its greatest, where no two runs have a value in common.
use Rattle.std.specs.Prelude.{◌≡◌, ℤ, ◌≤ℤ◌, ◌<ℤ◌, List, Some}
use Rattle.std.specs.BTreeMap.{BTreeMap, get}
use Rattle.std.specs.Ordering.{int_cmp}
use Rattle.choice_covers.specs.Parts.{is_covered}

-- from the first to the second
abbrev pub IsRun : BTreeMap ℤ ℤ → ℤ → ℤ → Type 0
IsRun runs low high = get int_cmp runs low ≡ Some high

pub record AreApart (runs : BTreeMap ℤ ℤ) : Type 0 where
  pub filled : (low high : ℤ) → IsRun runs low high → low ≤ℤ high
  pub apart : (a b c d : ℤ) → IsRun runs a b → IsRun runs c d → a <ℤ c → b <ℤ c

-- the values of the runs are those of the parts
abbrev pub Hold : BTreeMap ℤ ℤ → List (ℤ × ℤ) → Type 0
Hold runs parts = (n : ℤ) → is_covered runs.entries n ≡ is_covered parts n
