-- The marks, by their bytes.
use Rattle.std.specs.Prelude.{ℕ, if◌then◌else◌, nat_eq, ◌&&◌, Option, Some, None}
use Rattle.ada_tree.specs.declared.token.Mark.{Mark}
use Rattle.ada_tree.specs.declared.token.Mark.TheVariants as marks

-- the mark of one byte
unfoldable pub single : ℕ → Option Mark
single b =
    if nat_eq b 38 then Some marks.Ampersand else (if nat_eq b 39 then Some marks.Tick else (if nat_eq b 40 then Some marks.Open
    else (if nat_eq b 41 then Some marks.Close else (if nat_eq b 42 then Some marks.Star else (if nat_eq b 43 then Some marks.Plus
    else (if nat_eq b 44 then Some marks.Comma else (if nat_eq b 45 then Some marks.Minus else (if nat_eq b 46 then Some marks.Dot
    else (if nat_eq b 47 then Some marks.Slash else (if nat_eq b 58 then Some marks.Colon else (if nat_eq b 59 then Some marks.Semicolon
    else (if nat_eq b 60 then Some marks.Less else (if nat_eq b 61 then Some marks.Equal else (if nat_eq b 62 then Some marks.Greater
    else (if nat_eq b 124 then Some marks.Bar else None)))))))))))))))

-- the mark of two bytes
unfoldable pub double : ℕ → ℕ → Option Mark
double a b =
    if nat_eq a 61 && nat_eq b 62 then Some marks.Arrow else (if nat_eq a 46 && nat_eq b 46 then Some marks.Dots
    else (if nat_eq a 42 && nat_eq b 42 then Some marks.Power else (if nat_eq a 58 && nat_eq b 61 then Some marks.Becomes
    else (if nat_eq a 47 && nat_eq b 61 then Some marks.NotEqual else (if nat_eq a 62 && nat_eq b 61 then Some marks.AtLeast
    else (if nat_eq a 60 && nat_eq b 61 then Some marks.AtMost else (if nat_eq a 60 && nat_eq b 60 then Some marks.OpenLabel
    else (if nat_eq a 62 && nat_eq b 62 then Some marks.CloseLabel else (if nat_eq a 60 && nat_eq b 62 then Some marks.Box else None)))))))))
