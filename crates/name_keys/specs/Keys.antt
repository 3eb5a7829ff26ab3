-- Keys of names.
use Rattle.std.specs.Prelude.{ℕ, Bool, List}
use Rattle.std.specs.List.{list_any}
use Rattle.std.specs.Str.{bytes_eq}

-- whether a key is among these
abbrev pub is_known : List (List ℕ) → List ℕ → Bool
is_known keys k = list_any (bytes_eq k) keys
