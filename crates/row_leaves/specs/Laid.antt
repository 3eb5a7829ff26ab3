-- The layout of bodies, or the first for which there is no room.
use Rattle.std.specs.Prelude.{ℕ, ◌<◌, List, length}
use Rattle.spark_base.specs.declared.numbers.LeafNo.{LeafNo}
use Rattle.summary_rows.specs.Layout.{IsLayout}
use Rattle.row_leaves.specs.declared.leaves.Bodies.{Bodies}
use Rattle.row_leaves.specs.declared.layout.Laid.{Laid}
use Rattle.row_leaves.specs.declared.layout.Laid.TheVariants as laid
use Rattle.row_leaves.specs.Leaves.{AreRowLeaves, IsTooLarge, IsFirstTooLarge}

abbrev pub IsLaid : Bodies → Laid → Type 0
IsLaid d (laid.Out l) = IsLayout l × (AreRowLeaves d l.outer × ((b : ℕ) → b < length l.outer → IsTooLarge d l.outer b → ⊥))
IsLaid d (laid.TooLarge b) = (outer : List (List LeafNo)) × (AreRowLeaves d outer × IsFirstTooLarge d outer b.0)
