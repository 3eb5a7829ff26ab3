-- The leaves of a set, in a list.
use Rattle.std.specs.Prelude.{ℕ, ◌<◌, ◌↔◌, Bool, List}
use Rattle.spark_base.specs.declared.numbers.LeafNo.{LeafNo}
use Rattle.flow_bits.specs.Sets.{Has}
use Rattle.summary_rows.specs.Layout.{IsAt, IsIncreasing}

-- those of a set that are below a number, in increasing order
pub record AreListed (set : List Bool) (below : ℕ) (leaves : List LeafNo) : Type 0 where
  pub increasing : IsIncreasing leaves
  pub all : (v : ℕ) → ((i : ℕ) × IsAt leaves v i) ↔ ((v < below) × Has set v)
