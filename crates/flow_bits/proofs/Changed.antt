-- The flags of rows whose words were changed.
use Rattle.std.proofs.Common.{◌≡◌, ◌≢◌, ℕ, ◌+◌, ◌*◌, ◌/◌, ◌%◌, ◌^◌, ◌<◌, ◌≤◌, ◌⊎◌, ◌↔◌, inl, inr, sym, subst, ap, ◌∙◌, arith, Bool, true, false, List, length, eq-eqb, bit_and, bit_or, w64}
use Rattle.std.specs.Prelude.{slice_index_or}
use Rattle.std.specs.Int.{bit_at, bit_not}
use Rattle.std.proofs.lemmas.Bool.{cases_eq, cases_lt, cases_order, eqb-true}
use Rattle.std.proofs.lemmas.List.{get_or_past}
use Rattle.std.proofs.lemmas.List.FromFn.{length-map-range_with_len, get_or-map-range_with_len}
use Rattle.std.proofs.Math.Nat.{mul-le-mul_right}
use Rattle.flow_bits.specs.Sets.{Has}
use Rattle.flow_bits.specs.Words.{word, words_for, place_of, flag, flags, IsSet, IsEach}
use Rattle.flow_bits.proofs.Bits.{or_bits, and_bits, minus_bits, no_bit}

-- the bit of a flag
abbrev pub IsOn : ℕ → List ℕ → ℕ → ℕ → Type 0
IsOn size words a y = (y < size) × IsSet (word words (place_of size a y)) (y % 64)

has_within : (size : ℕ) (words : List ℕ) (a y : ℕ) → y < size → slice_index_or (flags size words a) y false ≡ flag size words a y
unfolding flags
has_within size words a y l = get_or-map-range_with_len (flag size words a) 0 size y y false l (omega arith)

has_behind : (size : ℕ) (words : List ℕ) (a y : ℕ) → size ≤ y → slice_index_or (flags size words a) y false ≡ false
unfolding flags
has_behind size words a y g =
    let n = length-map-range_with_len (flag size words a) 0 size in
    get_or_past (flags size words a) y false (omega (arith, n, g))

pub flags_long : (size : ℕ) (words : List ℕ) (a : ℕ) → length (flags size words a) ≡ size
unfolding flags
flags_long size words a = length-map-range_with_len (flag size words a) 0 size

pub has_is : (size : ℕ) (words : List ℕ) (a y : ℕ) → Has (flags size words a) y ↔ IsOn size words a y
has_is size words a y = elim (cases_lt y size) [
  | inl l ↦ (
      let e = has_within size words a y l in (
        λ h. (l, eqb-true (bit_at (word words (place_of size a y)) (y % 64)) 1 (sym e ∙ h)),
        λ s. e ∙ eq-eqb (bit_at (word words (place_of size a y)) (y % 64)) 1 s.1,
      ))
  | inr g ↦ (
      let e = has_behind size words a y g in
      (λ h. let f : false ≡ true = sym e ∙ h in cc, λ s. absurd (omega (arith, s.0))))
]

word_below : (size y : ℕ) → y < size → y / 64 < words_for size
word_below size y l = omega arith

-- the words of another row are others
apart : (size a x k : ℕ) → k < words_for size → x ≢ a → (x * words_for size + k < a * words_for size) ⊎ (a * words_for size + words_for size ≤ x * words_for size + k)
apart size a x k l n = elim (cases_order x a) [
  | inl e ↦ absurd (n e)
  | inr s ↦ elim s [
    | inl m ↦ (let p : x + 1 ≤ a = omega arith in let q = mul-le-mul_right (words_for size) p in inl (omega (arith, l, q)))
    | inr m ↦ (let p : a + 1 ≤ x = omega arith in let q = mul-le-mul_right (words_for size) p in inr (omega (arith, l, q)))
  ]
]

pub rows_apart : (n a b : ℕ) → a ≢ b → (a * n + n ≤ b * n) ⊎ (b * n + n ≤ a * n)
rows_apart n a b d = elim (cases_order a b) [
  | inl e ↦ absurd (d e)
  | inr s ↦ elim s [
    | inl m ↦ (let p : a + 1 ≤ b = omega arith in let q = mul-le-mul_right n p in inl (omega (arith, q)))
    | inr m ↦ (let p : b + 1 ≤ a = omega arith in let q = mul-le-mul_right n p in inr (omega (arith, q)))
  ]
]

module _ (size a b : ℕ) (old from new : List ℕ) where
  module _ (f : ℕ → ℕ → ℕ) (h : IsEach f (a * words_for size) (b * words_for size) (words_for size) old from new) where
    here : (y : ℕ) → y < size → word new (place_of size a y) ≡ f (word old (place_of size a y)) (word from (place_of size b y))
    here y l = h.within (y / 64) (word_below size y l)

    there : (x y : ℕ) → y < size → x ≢ a → word new (place_of size x y) ≡ word old (place_of size x y)
    there x y l n = h.others (place_of size x y) (apart size a x (y / 64) (word_below size y l) n)

    set_here : (y : ℕ) → IsOn size new a y ↔ ((y < size) × IsSet (f (word old (place_of size a y)) (word from (place_of size b y))) (y % 64))
    set_here y = (
      λ o. (o.0, subst (λ (u : ℕ). IsSet u (y % 64)) (here y o.0) o.1),
      λ o. (o.0, subst (λ (u : ℕ). IsSet u (y % 64)) (sym (here y o.0)) o.1),
    )

    has_here : (y : ℕ) → Has (flags size new a) y ↔ ((y < size) × IsSet (f (word old (place_of size a y)) (word from (place_of size b y))) (y % 64))
    has_here y = (λ h. (set_here y).0 ((has_is size new a y).0 h), λ o. (has_is size new a y).1 ((set_here y).1 o))

    has_there : (x y : ℕ) → x ≢ a → Has (flags size new x) y ↔ Has (flags size old x) y
    has_there x y n = (
      λ h. let o = (has_is size new x y).0 h in (has_is size old x y).1 (o.0, subst (λ (u : ℕ). IsSet u (y % 64)) (there x y o.0 n) o.1),
      λ h. let o = (has_is size old x y).0 h in (has_is size new x y).1 (o.0, subst (λ (u : ℕ). IsSet u (y % 64)) (sym (there x y o.0 n)) o.1),
    )

    -- a relation that is told at the row and at the others
    by_row : (R : ℕ → ℕ → Type 0) → ((y : ℕ) → Has (flags size new a) y ↔ R a y) → ((x y : ℕ) → x ≢ a → Has (flags size old x) y ↔ R x y)
        → (x y : ℕ) → Has (flags size new x) y ↔ R x y
    by_row R p q x y = elim (cases_eq x a) [
      | inl e ↦ subst (λ (u : ℕ). Has (flags size new u) y ↔ R u y) (sym e) (p y)
      | inr n ↦ (λ h. (q x y n).0 ((has_there x y n).0 h), λ r. (has_there x y n).1 ((q x y n).1 r))
    ]

  pub joined : IsEach bit_or (a * words_for size) (b * words_for size) (words_for size) old from new → (x y : ℕ)
      → Has (flags size new x) y ↔ (Has (flags size old x) y ⊎ ((x ≡ a) × Has (flags size from b) y))
  joined h = by_row bit_or h (λ x y. Has (flags size old x) y ⊎ ((x ≡ a) × Has (flags size from b) y)) at_row at_others
    where
      at_row : (y : ℕ) → Has (flags size new a) y ↔ (Has (flags size old a) y ⊎ ((a ≡ a) × Has (flags size from b) y))
      at_row y =
          let bits = or_bits (word old (place_of size a y)) (word from (place_of size b y)) (y % 64) in (
            λ g. let o = (has_here bit_or h y).0 g in elim (bits.0 o.1) [
              | inl s ↦ inl ((has_is size old a y).1 (o.0, s))
              | inr s ↦ inr ((λ i. a), (has_is size from b y).1 (o.0, s))
            ],
            λ s. elim s [
              | inl g ↦ (let o = (has_is size old a y).0 g in (has_here bit_or h y).1 (o.0, bits.1 (inl o.1)))
              | inr t ↦ (let o = (has_is size from b y).0 t.1 in (has_here bit_or h y).1 (o.0, bits.1 (inr o.1)))
            ],
          )

      at_others : (x y : ℕ) → x ≢ a → Has (flags size old x) y ↔ (Has (flags size old x) y ⊎ ((x ≡ a) × Has (flags size from b) y))
      at_others x y n = (λ g. inl g, λ s. elim s [ inl g ↦ g | inr t ↦ absurd (n t.0) ])

  pub met : IsEach bit_and (a * words_for size) (b * words_for size) (words_for size) old from new → (x y : ℕ)
      → Has (flags size new x) y ↔ (Has (flags size old x) y × (x ≡ a → Has (flags size from b) y))
  met h = by_row bit_and h (λ x y. Has (flags size old x) y × (x ≡ a → Has (flags size from b) y)) at_row at_others
    where
      at_row : (y : ℕ) → Has (flags size new a) y ↔ (Has (flags size old a) y × (a ≡ a → Has (flags size from b) y))
      at_row y =
          let bits = and_bits (word old (place_of size a y)) (word from (place_of size b y)) (y % 64) in (
            λ g. let o = (has_here bit_and h y).0 g in let s = bits.0 o.1 in ((has_is size old a y).1 (o.0, s.0), λ e. (has_is size from b y).1 (o.0, s.1)),
            λ s. let o = (has_is size old a y).0 s.0 in let t = (has_is size from b y).0 (s.1 (λ i. a)) in (has_here bit_and h y).1 (o.0, bits.1 (o.1, t.1)),
          )

      at_others : (x y : ℕ) → x ≢ a → Has (flags size old x) y ↔ (Has (flags size old x) y × (x ≡ a → Has (flags size from b) y))
      at_others x y n = (λ g. (g, λ e. absurd (n e)), λ s. s.0)

  pub cleared : IsEach (λ x y. 0) (a * words_for size) (b * words_for size) (words_for size) old from new → (x y : ℕ)
      → Has (flags size new x) y ↔ ((x ≢ a) × Has (flags size old x) y)
  cleared h = by_row (λ x y. 0) h (λ x y. (x ≢ a) × Has (flags size old x) y) at_row (λ x y n. (λ g. (n, g), λ s. s.1))
    where
      at_row : (y : ℕ) → Has (flags size new a) y ↔ ((a ≢ a) × Has (flags size old a) y)
      at_row y = (
        λ g. absurd (no_bit 0 (y % 64) (λ i. 0) ((has_here (λ x y. 0) h y).0 g).1),
        λ s. absurd (s.0 (λ i. a)),
      )

  module _ (fits_old : (w : ℕ) → word old w < 2 ^ 64) (fits_from : (w : ℕ) → word from w < 2 ^ 64) where
    pub lessened : IsEach (λ x y. bit_and x (bit_not w64 y)) (a * words_for size) (b * words_for size) (words_for size) old from new → (x y : ℕ)
        → Has (flags size new x) y ↔ (Has (flags size old x) y × (x ≡ a → Has (flags size from b) y → ⊥))
    lessened h = by_row (λ x y. bit_and x (bit_not w64 y)) h (λ x y. Has (flags size old x) y × (x ≡ a → Has (flags size from b) y → ⊥)) at_row at_others
      where
        at_row : (y : ℕ) → Has (flags size new a) y ↔ (Has (flags size old a) y × (a ≡ a → Has (flags size from b) y → ⊥))
        at_row y =
            let bits = minus_bits (word old (place_of size a y)) (word from (place_of size b y)) (y % 64) (fits_old (place_of size a y)) (fits_from (place_of size b y)) in (
              λ g. let o = (has_here (λ x y. bit_and x (bit_not w64 y)) h y).0 g in let s = bits.0 o.1 in
                  ((has_is size old a y).1 (o.0, s.0), λ e t. s.1 ((has_is size from b y).0 t).1),
              λ s. let o = (has_is size old a y).0 s.0 in
                  (has_here (λ x y. bit_and x (bit_not w64 y)) h y).1 (o.0, bits.1 (o.1, λ t. s.1 (λ i. a) ((has_is size from b y).1 (o.0, t)))),
            )

        at_others : (x y : ℕ) → x ≢ a → Has (flags size old x) y ↔ (Has (flags size old x) y × (x ≡ a → Has (flags size from b) y → ⊥))
        at_others x y n = (λ g. (g, λ e. absurd (n e)), λ s. s.0)

-- rows of one length have one size
pub seen : (s t : ℕ) (own words taken : List ℕ) (mine row : List Bool) → flags s own 0 ≡ mine → flags t words 0 ≡ row → taken ≡ words → length row ≡ length mine
    → flags s taken 0 ≡ row
seen s t own words taken mine row p q e l =
    let a = flags_long s own 0 in
    let b = flags_long t words 0 in
    let d : s ≡ t = omega (arith, a, b, ap (λ (r : List Bool). length r) p, ap (λ (r : List Bool). length r) q, l) in
    ap (λ (u : ℕ). flags u taken 0) d ∙ (ap (λ (u : List ℕ). flags t u 0) e ∙ q)
