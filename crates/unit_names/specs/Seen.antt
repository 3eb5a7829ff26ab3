-- What sets of names tell of units. No public answer speaks of it.
use Rattle.std.specs.Prelude.{◌≡◌, ℕ, Bool, List}
use Rattle.std.specs.Ordering.{nat_cmp}
use Rattle.std.specs.BTreeSet.{BTreeSet, contains}
use Rattle.unit_names.specs.declared.heads.Head.{Head}
use Rattle.unit_names.specs.declared.heads.Part.{Part}
use Rattle.unit_names.specs.declared.heads.Part.TheVariants as parts
use Rattle.unit_names.specs.declared.seen.Seen.{Seen}
use Rattle.unit_names.specs.Names.{has_part}

abbrev pub has : BTreeSet ℕ → ℕ → Bool
has s i = contains nat_cmp s i

-- the sets have the names of these units
pub record IsSeen (s : Seen) (units : List Head) : Type 0 where
  pub specs : (i : ℕ) → has s.specs i ≡ has_part units parts.Spec i
  pub bodies : (i : ℕ) → has s.bodies i ≡ has_part units parts.Body i
  pub mains : (i : ℕ) → has s.mains i ≡ has_part units parts.Main i
