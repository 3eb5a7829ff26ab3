-- Bits behind the last flag, and flags that come in or are in common.
use Rattle.std.proofs.Common.{◌≡◌, ◌≢◌, ℕ, ◌+◌, ◌-◌, ◌*◌, ◌/◌, ◌%◌, ◌^◌, ◌<◌, ◌⊎◌, ◌↔◌, inl, inr, sym, subst, ap, ◌∙◌, arith, List, bit_and, bit_or, w64}
use Rattle.std.specs.Int.{bit_not}
use Rattle.std.proofs.lemmas.Bool.{cases_lt}
use Rattle.std.proofs.lemmas.Nat.{and_le_l, mod-mul-add}
use Rattle.flow_bits.specs.Sets.{Has, Gains}
use Rattle.flow_bits.specs.Words.{word, words_for, place_of, flags, IsSet, IsClean, IsEach}
use Rattle.flow_bits.proofs.Bits.{and_bits, minus_bits, some_bit, no_bit}
use Rattle.flow_bits.proofs.Changed.{has_is, joined}

clean_at : (size : ℕ) (words : List ℕ) (a k i : ℕ) → IsClean size words → k < words_for size → IsSet (word words (a * words_for size + k)) i → 64 * k + i < size
clean_at size words a k i h l s =
    let e = mod-mul-add a (words_for size) k l in
    let m = h.clean (a * words_for size + k) i s in
    subst (λ (u : ℕ). 64 * u + i < size) e m

pub clean_each : (f : ℕ → ℕ → ℕ) (size a b : ℕ) (old from new : List ℕ) → ((x y i : ℕ) → IsSet (f x y) i → IsSet x i ⊎ IsSet y i)
    → IsClean size old → IsClean size from → IsEach f (a * words_for size) (b * words_for size) (words_for size) old from new → IsClean size new
clean_each f size a b old from new bits p q h = record { clean = clean }
  where
    clean : (w i : ℕ) → IsSet (word new w) i → 64 * (w % words_for size) + i < size
    clean w i s = elim (cases_lt w (a * words_for size)) [
      | inl l ↦ p.clean w i (subst (λ (u : ℕ). IsSet u i) (h.others w (inl l)) s)
      | inr g ↦ (elim (cases_lt w (a * words_for size + words_for size)) [
        | inr m ↦ p.clean w i (subst (λ (u : ℕ). IsSet u i) (h.others w (inr m)) s)
        | inl m ↦ (
            let k = w - a * words_for size in
            let l : w - a * words_for size < words_for size = omega arith in
            let e : a * words_for size + (w - a * words_for size) ≡ w = omega arith in
            let t = subst (λ (u : ℕ). IsSet u i) (ap (λ (u : ℕ). word new u) (sym e) ∙ h.within k l) s in
            elim (bits (word old (a * words_for size + k)) (word from (b * words_for size + k)) i t) [
              | inl o ↦ p.clean w i (subst (λ (u : ℕ). IsSet (word old u) i) e o)
              | inr o ↦ (
                  let n = clean_at size from b k i q l o in
                  let d = mod-mul-add a (words_for size) k l in
                  subst (λ (u : ℕ). 64 * (u % words_for size) + i < size) e (subst (λ (u : ℕ). 64 * u + i < size) (sym d) n))
            ])
      ])
    ]

-- a flag by its word and its bit
has_at : (size : ℕ) (words : List ℕ) (a k i : ℕ) → i < 64 → 64 * k + i < size → Has (flags size words a) (64 * k + i) ↔ IsSet (word words (a * words_for size + k)) i
has_at size words a k i l m =
    let d : (64 * k + i) / 64 ≡ k = omega arith in
    let r : (64 * k + i) % 64 ≡ i = omega arith in
    let e : IsSet (word words (place_of size a (64 * k + i))) ((64 * k + i) % 64) ≡ IsSet (word words (a * words_for size + k)) i
    = ap (λ (u : ℕ). IsSet (word words (a * words_for size + u)) ((64 * k + i) % 64)) d ∙ ap (λ (u : ℕ). IsSet (word words (a * words_for size + k)) u) r in (
      λ h. subst (λ (T : Type 0). T) e ((has_is size words a (64 * k + i)).0 h).1,
      λ s. (has_is size words a (64 * k + i)).1 (m, subst (λ (T : Type 0). T) (sym e) s),
    )

pub grown : (size a b k : ℕ) (old from : List ℕ) → word old (a * words_for size + k) < 2 ^ 64 → word from (b * words_for size + k) < 2 ^ 64 → IsClean size from
    → k < words_for size → bit_and (word from (b * words_for size + k)) (bit_not w64 (word old (a * words_for size + k))) ≢ 0
    → (y : ℕ) × ((Has (flags size old a) y → ⊥) × Has (flags size from b) y)
grown size a b k old from fo ff q l n =
    let m = bit_and (word from (b * words_for size + k)) (bit_not w64 (word old (a * words_for size + k))) in
    let le = and_le_l (word from (b * words_for size + k)) (bit_not w64 (word old (a * words_for size + k))) in
    let fits : m < 2 ^ 64 = omega (arith, le, ff) in
    let s = some_bit m fits n in
    let i = s.0 in
    let bits = (minus_bits (word from (b * words_for size + k)) (word old (a * words_for size + k)) i ff fo).0 s.1.1 in
    let below = clean_at size from b k i q l bits.0 in
    (64 * k + i, (λ h. bits.1 ((has_at size old a k i s.1.0 below).0 h), (has_at size from b k i s.1.0 below).1 bits.0))

pub meet_told : (size a b : ℕ) (one other : List ℕ) → ((w : ℕ) → word one w < 2 ^ 64) → IsClean size one
    → ((k : ℕ) × (k < words_for size) × (bit_and (word one (a * words_for size + k)) (word other (b * words_for size + k)) ≢ 0))
    ↔ ((v : ℕ) × Has (flags size one a) v × Has (flags size other b) v)
meet_told size a b one other fits q = (there, back)
  where
    there : ((k : ℕ) × (k < words_for size) × (bit_and (word one (a * words_for size + k)) (word other (b * words_for size + k)) ≢ 0))
        → (v : ℕ) × Has (flags size one a) v × Has (flags size other b) v
    there (k, l, n) =
        let le = and_le_l (word one (a * words_for size + k)) (word other (b * words_for size + k)) in
        let fit = fits (a * words_for size + k) in
        let m : bit_and (word one (a * words_for size + k)) (word other (b * words_for size + k)) < 2 ^ 64 = omega (arith, le, fit) in
        let s = some_bit (bit_and (word one (a * words_for size + k)) (word other (b * words_for size + k))) m n in
        let bits = (and_bits (word one (a * words_for size + k)) (word other (b * words_for size + k)) s.0).0 s.1.1 in
        let below = clean_at size one a k s.0 q l bits.0 in
        (64 * k + s.0, (has_at size one a k s.0 s.1.0 below).1 bits.0, (has_at size other b k s.0 s.1.0 below).1 bits.1)

    back : (v : ℕ) × Has (flags size one a) v × Has (flags size other b) v
        → (k : ℕ) × (k < words_for size) × (bit_and (word one (a * words_for size + k)) (word other (b * words_for size + k)) ≢ 0)
    back (v, h, g) =
        let o = (has_is size one a v).0 h in
        let t = (has_is size other b v).0 g in
        let l : v / 64 < words_for size = omega (arith, o.0) in
        let bit = (and_bits (word one (place_of size a v)) (word other (place_of size b v)) (v % 64)).1 (o.1, t.1) in
        (v / 64, l, λ z. no_bit (bit_and (word one (place_of size a v)) (word other (place_of size b v))) (v % 64) z bit)

-- the number of words by which the code went
pub each_for : (f : ℕ → ℕ → ℕ) (size n a b : ℕ) (old from new : List ℕ) → n ≡ words_for size → IsEach f (a * n) (b * n) n old from new
    → IsEach f (a * words_for size) (b * words_for size) (words_for size) old from new
each_for f size n a b old from new e h = subst (λ (m : ℕ). IsEach f (a * m) (b * m) m old from new) e h

pub came_in : (size n a b : ℕ) (old from new : List ℕ) → n ≡ words_for size → ((w : ℕ) → word old w < 2 ^ 64) → ((w : ℕ) → word from w < 2 ^ 64)
    → IsClean size from → IsEach bit_or (a * n) (b * n) n old from new
    → ((k : ℕ) × (k < n) × (bit_and (word from (b * n + k)) (bit_not w64 (word old (a * n + k))) ≢ 0)) → Gains (flags size old a) (flags size new a)
came_in size n a b old from new e fo ff q h s =
    let each = each_for bit_or size n a b old from new e h in
    let t = subst (λ (m : ℕ). (k : ℕ) × (k < m) × (bit_and (word from (b * m + k)) (bit_not w64 (word old (a * m + k))) ≢ 0)) e s in
    let g = grown size a b t.0 old from (fo (a * words_for size + t.0)) (ff (b * words_for size + t.0)) q t.1 t.2 in
    (g.0, g.1.0, (joined size a b old from new each a g.0).1 (inr ((λ i. a), g.1.1)))
