-- What may be unassigned before each item of the elaboration order, and behind all.
use Rattle.std.specs.Prelude.{◌⊎◌, ℕ, zero, suc, List, Option, Some, None, IsSomeAnd, slice_get}
use Rattle.core_form.specs.declared.program.Home.{Home}
use Rattle.core_form.specs.declared.program.Program.{Program}
use Rattle.core_form.specs.Fine.{home_of}
use Rattle.flow_bits.specs.Sets.{Has}
use Rattle.unset_moments.specs.declared.endings.Ending.{Ending}

-- a package's own; the clock is none of them
abbrev pub IsPackageHome : Home → Type 0
IsPackageHome (Home.Package k) = Unit {0}
IsPackageHome (Home.Local b) = ⊥
IsPackageHome (Home.Formal b) = ⊥
IsPackageHome (Home.Outcome b) = ⊥
IsPackageHome (Home.Spare b) = ⊥
IsPackageHome Home.Clock = ⊥

-- at first: all leaves of packages
abbrev pub loose_first : Program → ℕ → Type 0
loose_first p leaf = IsSomeAnd (home_of p leaf) IsPackageHome

-- after an item: what it declares and may leave unassigned, and what it does not declare, may have been unassigned and may be kept
abbrev pub loose_after : Ending → (ℕ → Type 0) → ℕ → Type 0
loose_after item loose leaf = (Has item.declared leaf × Has item.unset leaf) ⊎ ((Has item.declared leaf → ⊥) × (loose leaf × Has item.kept leaf))

abbrev pub loose_behind : Option Ending → (ℕ → Type 0) → ℕ → Type 0
loose_behind None loose = loose
loose_behind (Some item) loose = loose_after item loose

-- before the n-th item, counted from 0, or behind all
abbrev pub loose_before : Program → List Ending → ℕ → ℕ → Type 0
loose_before p items zero = loose_first p
loose_before p items (suc n) = loose_behind (slice_get items n) (loose_before p items n)
