-- Words of 64 bits, read as rows of flags that stand one behind another.
use Rattle.std.specs.Prelude.{◌≡◌, ◌≢◌, ℕ, ◌+◌, ◌*◌, ◌/◌, ◌%◌, ◌<◌, ◌≤◌, ◌⊎◌, Bool, nat_eq, List, length, map, slice_index_or, bit_and, bit_or}
use Rattle.std.specs.List.{range_with_len}
use Rattle.std.specs.Int.{bit_at, bit_not, w64}

-- the word at a place; 0 behind the last
abbrev pub word : List ℕ → ℕ → ℕ
word words w = slice_index_or words w 0

-- a bit of a word is set
abbrev pub IsSet : ℕ → ℕ → Type 0
IsSet x i = bit_at x i ≡ 1

-- words for so many flags
abbrev pub words_for : ℕ → ℕ
words_for size = (size + 63) / 64

-- the word of row a that has flag n
abbrev pub place_of : ℕ → ℕ → ℕ → ℕ
place_of size a n = a * words_for size + n / 64

abbrev pub flag : ℕ → List ℕ → ℕ → ℕ → Bool
flag size words a n = nat_eq (bit_at (word words (place_of size a n)) (n % 64)) 1

-- row a
unfoldable pub flags : ℕ → List ℕ → ℕ → List Bool
flags size words a = map (flag size words a) (range_with_len 0 size)

-- all rows of a square
unfoldable pub pairs : ℕ → List ℕ → List (List Bool)
pairs size words = map (flags size words) (range_with_len 0 size)

-- no bit is set behind the last flag of a row
pub record IsClean (size : ℕ) (words : List ℕ) : Type 0 where
  pub clean : (w i : ℕ) → IsSet (word words w) i → 64 * (w % words_for size) + i < size

-- the words of a square
pub record IsTidy (size : ℕ) (words : List ℕ) : Type 0 where
  pub count : length words ≡ size * words_for size
  pub clean : IsClean size words

-- from one place on so many words were changed, each by the word that stands as far behind another place
pub record IsEach (f : ℕ → ℕ → ℕ) (at start count : ℕ) (old from new : List ℕ) : Type 0 where
  pub within : (k : ℕ) → k < count → word new (at + k) ≡ f (word old (at + k)) (word from (start + k))
  pub others : (w : ℕ) → (w < at) ⊎ (at + count ≤ w) → word new w ≡ word old w

-- the bits of so many words came in; `more` has a bit where one did
pub record IsJoined (at start count : ℕ) (old from new : List ℕ) (more : ℕ) : Type 0 where
  pub each : IsEach bit_or at start count old from new
  pub grew : more ≢ 0 → (k : ℕ) × (k < count) × (bit_and (word from (start + k)) (bit_not w64 (word old (at + k))) ≢ 0)
  pub same : more ≡ 0 → new ≡ old
