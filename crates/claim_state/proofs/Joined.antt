-- Bits that were joined, against those that follow.
use Rattle.std.proofs.Common.{◌≡◌, inl, inr, ℕ, ◌↔◌, ◌+◌, ◌-◌, ◌^◌, ◌<◌, List, length, sym, ◌∙◌, subst, arith}
use Rattle.std.specs.Prelude.{IsTrue, slice_index}
use Rattle.std.specs.Int.{bit_at}
use Rattle.std.proofs.lemmas.Bool.{cases_eq, cases_lt}
use Rattle.std.proofs.lemmas.Nat.Bits.{bit_at_above, bit_at-lt}
use Rattle.core_form.specs.declared.program.Program.{Program}
use Rattle.summary_rows.specs.declared.layout.Layout.{Layout}
use Rattle.summary_rows.specs.Layout.{row_size, outer_of, first_of, IsLayout}
use Rattle.flow_bits.specs.Words.{word}
use Rattle.claim_core.specs.Bits.{Within, HasBit, Below, Bit, IsSetIn}
use Rattle.claim_core.specs.System.{in_row}
use Rattle.claim_core.proofs.Words.{from_bits, within_has}
use Rattle.claim_state.specs.Solving.{solving}
use Rattle.claim_state.proofs.Found.{in_bounds, by_bounds, row_is}

low_bit : (a k : ℕ) → a < 2 ^ 64 → HasBit a k → k < 64
low_bit a k fits h = elim (cases_lt k 64) [
  | inl lt ↦ lt
  | inr ge ↦ (let z = bit_at_above a 64 k fits ge in absurd (omega (arith, z, h)))
]

from_has : (a b : ℕ) → ((k : ℕ) → HasBit a k → HasBit b k) → Within a b
from_has a b h = from_bits a b (λ k. elim (cases_eq (bit_at a k) 1) [
  | inl e ↦ (let f = h k e in omega (arith, e, f))
  | inr ne ↦ (let l = bit_at-lt a k in omega (arith, l, ne))
])

-- the bits of a word are within another, where that has exactly those of a set
pub covers : (bits own : ℕ) → bits < 2 ^ 64 → (E : ℕ → Type 0) → ((k : ℕ) → k < 64 → HasBit own k ↔ E k) → Within bits own ↔ Below bits E
covers bits own fits E are = (
  (λ h k b. (are k (low_bit bits k fits b)).0 (within_has bits own k h b)),
  (λ h. from_has bits own (λ k b. (are k (low_bit bits k fits b)).1 (h k b))),
)

module _ (p : Program) (l : Layout) (is : IsLayout l) (b : ℕ) (within : b < length l.outer) (E : Bit → Type 0) (low : (x : Bit) → E x → x.place < 64)
    (words : List ℕ) (size : length words ≡ row_size (length (outer_of l b))) (fits : (w : ℕ) → word words w < 2 ^ 64) (joined : ℕ → ℕ)
    (are : (w k : ℕ) → w < length words → k < 64 → HasBit (word words w) k ↔ E (record { word = first_of l b + w; place = k })) where
  pub all_joined : ((k : ℕ) → k < length words → Within (slice_index words k) (joined (first_of l b + k)))
      → (x : Bit) → IsTrue (in_row (solving p l) b x.word) → E x → IsSetIn joined x
  all_joined h x row e =
      let r = in_bounds l b x.word (sym (row_is p l is b x.word within) ∙ row) in
      let j : ℕ = x.word - first_of l b in
      let s : x.word ≡ first_of l b + j = (let y = r.0 in omega (arith, y)) in
      let lt : j < length words = (let y = r.0 in let z = r.1 in omega (arith, y, z, size)) in
      let f : E (record { word = first_of l b + j; place = x.place }) = subst E (λ i. record { word = s i; place = x.place }) e in
      let g : HasBit (joined (first_of l b + j)) x.place = within_has (word words j) (joined (first_of l b + j)) x.place (h j lt) ((are j x.place lt (low x e)).1 f) in
      subst (λ (w : ℕ). HasBit (joined w) x.place) (sym s) g

  pub joined_all : ((x : Bit) → IsTrue (in_row (solving p l) b x.word) → E x → IsSetIn joined x)
      → (k : ℕ) → k < length words → Within (slice_index words k) (joined (first_of l b + k))
  joined_all h k lt = from_has (word words k) (joined (first_of l b + k)) (λ j bit.
      (let row : IsTrue (in_row (solving p l) b (first_of l b + k)) = row_is p l is b (first_of l b + k) within ∙ by_bounds l b (first_of l b + k) (omega arith, omega (arith, lt, size)) in
      h (record { word = first_of l b + k; place = j }) row ((are k j lt (low_bit (word words k) j (fits k) bit)).0 bit)))
