-- Parts of the whole numbers, each from its first to its last; none where the last is less.
use Rattle.std.specs.Prelude.{Bool, not, ◌&&◌, ◌||◌, List, ℤ, pos, ◌+ℤ◌, ◌≤ℤ◌, int_le}
use Rattle.std.specs.List.{AllByRecursion, list_any}

abbrev pub meets : ℤ → ℤ → ℤ × ℤ → Bool
meets low high part = int_le part.0 high && int_le low part.1

-- one of the parts has a value from the first to the second
abbrev pub do_meet : List (ℤ × ℤ) → ℤ → ℤ → Bool
do_meet parts low high = list_any (meets low high) parts

abbrev pub is_covered : List (ℤ × ℤ) → ℤ → Bool
is_covered parts n = do_meet parts n n

-- values that a part ends before: if one is left, then the first that is left is the low bound or one of these
abbrev pub behind_part : ℤ × ℤ → ℤ
behind_part part = part.1 +ℤ pos 1

abbrev pub is_left : List (ℤ × ℤ) → ℤ → ℤ → ℤ → Bool
is_left parts low high n = int_le low n && int_le n high && not (is_covered parts n)

abbrev pub is_left_behind : List (ℤ × ℤ) → ℤ → ℤ → ℤ × ℤ → Bool
is_left_behind parts low high part = is_left parts low high (behind_part part)

-- a value from the first to the second is in no part
abbrev pub has_gap : List (ℤ × ℤ) → ℤ → ℤ → Bool
has_gap parts low high = is_left parts low high low || list_any (is_left_behind parts low high) parts

-- none is empty
abbrev pub AreFilled : List (ℤ × ℤ) → Type 0
AreFilled parts = AllByRecursion (λ (part : ℤ × ℤ). part.0 ≤ℤ part.1) parts
