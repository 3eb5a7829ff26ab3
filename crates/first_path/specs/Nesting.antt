-- The test of nesting, line by line: it holds exactly where the lines are those of a list of statements.
use Rattle.std.specs.Prelude.{nat_lt, Bool, true, false, ◌&&◌, List, [], ◌∷◌, length, drop}
use Rattle.first_path.specs.declared.nested.Side.{Side}
use Rattle.first_path.specs.declared.nested.Side.TheVariants as side
use Rattle.first_path.specs.declared.source.Line.{Line}
use Rattle.first_path.specs.declared.source.Line.TheVariants as line

-- an if is open
abbrev pub is_open : List Side → Bool
is_open [] = false
is_open (s ∷ ss) = true

-- an if is open, and its else may come
abbrev pub is_then : List Side → Bool
is_then [] = false
is_then (side.Then ∷ ss) = true
is_then (side.Else ∷ ss) = false

abbrev pub is_closed : List Side → Bool
is_closed [] = true
is_closed (s ∷ ss) = false

-- by the sides of the ifs that are open, from the innermost, and whether the list that is being read has a statement
abbrev pub nests : List Side → Bool → List Line → Bool
nests sides has [] = is_closed sides && has
nests sides has (line.Null ∷ ls) = nests sides true ls
nests sides has (line.Assign target value ∷ ls) = nests sides true ls
nests sides has (line.If test ∷ ls) = nat_lt (length sides) 128 && nests (side.Then ∷ sides) false ls
nests sides has (line.Else ∷ ls) = (is_then sides && has) && nests (side.Else ∷ drop 1 sides) false ls
nests sides has (line.EndIf ∷ ls) = (is_open sides && has) && nests (drop 1 sides) true ls
