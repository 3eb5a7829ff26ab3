-- A square's pairs by the flags of its rows.
use Rattle.std.proofs.Common.{◌≡◌, ℕ, ◌+◌, ◌*◌, ◌%◌, ◌<◌, ◌≤◌, ◌↔◌, inl, inr, sym, subst, ap, ◌∙◌, arith, Bool, true, false, List, [], length}
use Rattle.std.specs.Prelude.{slice_index_or, replicate}
use Rattle.std.proofs.Math.Nat.{mul-le-mul_right}
use Rattle.std.proofs.lemmas.Bool.{cases_lt}
use Rattle.std.proofs.lemmas.Simd.{length-replicate}
use Rattle.std.proofs.lemmas.List.{get_or_past}
use Rattle.std.proofs.lemmas.List.FromFn.{length-map-range_with_len, get_or-map-range_with_len}
use Rattle.flow_bits.specs.Sets.{Has, Relates}
use Rattle.flow_bits.specs.Words.{word, words_for, place_of, flags, pairs}
use Rattle.flow_bits.proofs.Bits.{no_bit}
use Rattle.flow_bits.proofs.Changed.{has_is}
use Rattle.flow_bits.proofs.Empty.{empty_none}

pub pairs_long : (size : ℕ) (words : List ℕ) → length (pairs size words) ≡ size
unfolding pairs
pairs_long size words = length-map-range_with_len (flags size words) 0 size

row_is : (size : ℕ) (words : List ℕ) (x : ℕ) → x < size → slice_index_or (pairs size words) x [] ≡ flags size words x
unfolding pairs
row_is size words x l = get_or-map-range_with_len (flags size words) 0 size x x [] l (omega arith)

row_past : (size : ℕ) (words : List ℕ) (x : ℕ) → size ≤ x → slice_index_or (pairs size words) x [] ≡ []
row_past size words x g = let n = pairs_long size words in get_or_past (pairs size words) x [] (omega (arith, n, g))

none_in_none : (y : ℕ) → Has [] y → ⊥
none_in_none y h = let e : slice_index_or [] y false ≡ false = get_or_past [] y false (omega arith) in let f : false ≡ true = sym e ∙ h in cc

none_behind : (size : ℕ) (words : List ℕ) (x y : ℕ) → length words ≡ size * words_for size → size ≤ x → Has (flags size words x) y → ⊥
none_behind size words x y e g h =
    let m = mul-le-mul_right (words_for size) g in
    let l : length words ≤ place_of size x y = omega (arith, e, m) in
    no_bit (word words (place_of size x y)) (y % 64) (get_or_past words (place_of size x y) 0 l) ((has_is size words x y).0 h).1

pub relates_is : (size : ℕ) (words : List ℕ) → length words ≡ size * words_for size → (x y : ℕ) → Relates (pairs size words) x y ↔ Has (flags size words x) y
relates_is size words e x y = elim (cases_lt x size) [
  | inl l ↦ (let q = row_is size words x l in (λ r. subst (λ (row : List Bool). Has row y) q r, λ h. subst (λ (row : List Bool). Has row y) (sym q) h))
  | inr g ↦ (
    λ r. absurd (none_in_none y (subst (λ (row : List Bool). Has row y) (row_past size words x g) r)),
    λ h. absurd (none_behind size words x y e g h),
  )
]

-- the numbers of a pair are below the size
pub pairs_within : (size : ℕ) (words : List ℕ) (x y : ℕ) → Relates (pairs size words) x y → (x < size) × (y < size)
pairs_within size words x y r = elim (cases_lt x size) [
  | inl l ↦ (l, ((has_is size words x y).0 (subst (λ (row : List Bool). Has row y) (row_is size words x l) r)).0)
  | inr g ↦ absurd (none_in_none y (subst (λ (row : List Bool). Has row y) (row_past size words x g) r))
]

-- the rows of a square are among its words
pub row_fits : (size a : ℕ) (words : List ℕ) → length words ≡ size * words_for size → a < size → (a + 1) * words_for size ≤ length words
row_fits size a words e l = let p : a + 1 ≤ size = omega arith in let m = mul-le-mul_right (words_for size) p in omega (arith, e, m)

-- squares of one length have one size
pub same_size : (s t : ℕ) (own words taken : List ℕ) (mine square : List (List Bool)) → pairs s own ≡ mine → pairs t words ≡ square → taken ≡ words
    → length square ≡ length mine → pairs s taken ≡ square
same_size s t own words taken mine square p q e l =
    let a = pairs_long s own in
    let b = pairs_long t words in
    let d : s ≡ t = omega (arith, a, b, ap (λ (r : List (List Bool)). length r) p, ap (λ (r : List (List Bool)). length r) q, l) in
    ap (λ (u : ℕ). pairs u taken) d ∙ (ap (λ (u : List ℕ). pairs t u) e ∙ q)

pub no_pairs : (words : List ℕ) → pairs 0 words ≡ []
unfolding pairs
no_pairs words = λ i. []

pub empty_pairs : (size n x y : ℕ) → n ≡ size * words_for size → Relates (pairs size (replicate n 0)) x y → ⊥
empty_pairs size n x y e r =
    let l = length-replicate {A = ℕ} n 0 in
    empty_none size n x y ((relates_is size (replicate n 0) (l ∙ e) x y).0 r)
