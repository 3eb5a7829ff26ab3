-- With what a list of symbols begins.
use Rattle.std.specs.Prelude.{ℕ, nat_eq, Bool, true, false, ◌&&◌, ◌||◌, if◌then◌else◌, List, [], ◌∷◌}
use Rattle.first_path.specs.declared.reading.ReadFault.{ReadFault}
use Rattle.first_path.specs.declared.reading.ReadFault.TheVariants as fault
use Rattle.first_path.specs.declared.source.Sign.{Sign}
use Rattle.first_path.specs.declared.source.Sign.TheVariants as signs
use Rattle.first_path.specs.declared.source.Symbol.{Symbol}
use Rattle.first_path.specs.declared.source.Symbol.TheVariants as symbol

-- the place of a sign among all
abbrev pub place_of : Sign → ℕ
place_of signs.Package = 0
place_of signs.Is = 1
place_of signs.Procedure = 2
place_of signs.With = 3
place_of signs.Null = 4
place_of signs.End = 5
place_of signs.Body = 6
place_of signs.Begin = 7
place_of signs.Open = 8
place_of signs.Close = 9
place_of signs.Comma = 10
place_of signs.Colon = 11
place_of signs.Semicolon = 12
place_of signs.Becomes = 13
place_of signs.Arrow = 14
place_of signs.Plus = 15
place_of signs.Minus = 16
place_of signs.If = 17
place_of signs.Then = 18
place_of signs.Else = 19
place_of signs.Equal = 20
place_of signs.NotEqual = 21
place_of signs.Less = 22
place_of signs.AtMost = 23
place_of signs.Greater = 24
place_of signs.AtLeast = 25

abbrev pub same : Sign → Sign → Bool
same a b = nat_eq (place_of a) (place_of b)

abbrev pub begins : Sign → List Symbol → Bool
begins wanted [] = false
begins wanted (symbol.Sign s ∷ rest) = same s wanted
begins wanted (symbol.Word w ∷ rest) = false
begins wanted (symbol.Number n ∷ rest) = false
begins wanted (symbol.Other ∷ rest) = false

abbrev pub begins_word : List Symbol → Bool
begins_word [] = false
begins_word (symbol.Sign s ∷ rest) = false
begins_word (symbol.Word w ∷ rest) = true
begins_word (symbol.Number n ∷ rest) = false
begins_word (symbol.Other ∷ rest) = false

abbrev pub begins_number : List Symbol → Bool
begins_number [] = false
begins_number (symbol.Sign s ∷ rest) = false
begins_number (symbol.Word w ∷ rest) = false
begins_number (symbol.Number n ∷ rest) = true
begins_number (symbol.Other ∷ rest) = false

-- a further term of a sum stands here
abbrev pub begins_term : List Symbol → Bool
begins_term rest = if begins signs.Plus rest then true else begins signs.Minus rest

-- the end of an if stands here, and no other end
abbrev pub begins_end_if : List Symbol → Bool
begins_end_if [] = false
begins_end_if (symbol.Sign s ∷ rest) = same s signs.End && begins signs.If rest
begins_end_if (symbol.Word w ∷ rest) = false
begins_end_if (symbol.Number n ∷ rest) = false
begins_end_if (symbol.Other ∷ rest) = false

-- a line of a list of statements stands here
abbrev pub begins_line : List Symbol → Bool
begins_line rest =
    begins_word rest || (begins signs.Null rest || (begins signs.If rest || (begins signs.Else rest || begins_end_if rest)))

-- where the answer is that this is not spelled here, it is so
abbrev pub Denies : ReadFault → Type 0 → Type 0
Denies fault.NotSpelled unspelled = unspelled
Denies fault.NoMemory unspelled = Unit {0}
