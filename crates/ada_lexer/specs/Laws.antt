-- What the laws say of fronts, numbers and the order of tokens.
use Rattle.ada_tree.specs.declared.token.Token.{Token}
use Rattle.spark_base.specs.declared.numbers.FileNo.{FileNo}
use Rattle.std.specs.Prelude.{[], ◌≡◌, ℕ, ◌<◌, ◌≤◌, List, ◌++◌, ◌∷◌, Bool, true, false, length, take}
use Rattle.ada_lexer.specs.Classes.{base_of}
use Rattle.ada_lexer.specs.Pieces.{parted, scale}
use Rattle.ada_lexer.specs.Cut.{value_from, span}

-- the front of n bytes passes, and no longer one does
pub record IsLongest (test : List ℕ → Bool) (bytes : List ℕ) (n : ℕ) : Type 0 where
  pub within : n ≤ length bytes
  pub passes : test (take n bytes) ≡ true
  pub longer : (m : ℕ) → n < m → m ≤ length bytes → test (take m bytes) ≡ false

-- no front passes
pub record NonePasses (test : List ℕ → Bool) (bytes : List ℕ) : Type 0 where
  pub fails : (m : ℕ) → m ≤ length bytes → test (take m bytes) ≡ false

-- digits, and nothing or an exponent; `due`: a digit must come first
pub record IsDecimal (due : Bool) (bytes : List ℕ) : Type 0 where
  pub digits : List ℕ
  pub tail : List ℕ
  pub split : bytes ≡ digits ++ tail
  pub are_digits : parted 10 due digits ≡ true
  pub is_scale : scale tail ≡ true

-- digits of a base, a #, and nothing or an exponent
pub record IsRest (base : ℕ) (due : Bool) (bytes : List ℕ) : Type 0 where
  pub digits : List ℕ
  pub tail : List ℕ
  pub split : bytes ≡ digits ++ 35 ∷ tail
  pub are_digits : parted base due digits ≡ true
  pub is_scale : scale tail ≡ true

-- a base, a #, and its digits; n: the value of what stood before
pub record IsBased (n : ℕ) (due : Bool) (bytes : List ℕ) : Type 0 where
  pub base : List ℕ
  pub rest : List ℕ
  pub split : bytes ≡ base ++ 35 ∷ rest
  pub are_digits : parted 10 due base ≡ true
  pub is_rest : IsRest (base_of (value_from 10 n base)) true rest

-- a token has a byte, begins at `low` or later and ends within the source, and its span is that of its bytes
pub record IsPlaced (file : FileNo) (source : List ℕ) (low : ℕ) (t : Token) : Type 0 where
  pub after : low ≤ t.from
  pub some : t.from < t.to
  pub within : t.to ≤ length source
  pub spanned : t.span ≡ span file source t.from t.to

-- tokens one behind the other
abbrev pub InOrder : FileNo → List ℕ → ℕ → List Token → Type 0
InOrder file source low [] = Unit {0}
InOrder file source low (t ∷ ts) = IsPlaced file source low t × InOrder file source t.to ts
