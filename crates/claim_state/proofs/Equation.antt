-- What the words of an equation over read words say of the bits that follow.
use Rattle.std.proofs.Common.{◌≡◌, ℕ, ◌↔◌, ◌+◌, ◌*◌, ◌/◌, ◌%◌, ◌<◌, List, length, refl, sym, ap, subst, arith}
use Rattle.core_form.specs.declared.program.Program.{Program}
use Rattle.summary_rows.specs.declared.layout.Layout.{Layout}
use Rattle.summary_rows.specs.declared.rows.Rows.{Rows}
use Rattle.summary_rows.specs.Bits as bits
use Rattle.summary_rows.specs.Facts.{Part, Fact}
use Rattle.summary_rows.specs.Layout.{Stands, row_size, outer_of, first_of, IsLayout, told}
use Rattle.summary_rows.proofs.Bits.{bit_behind}
use Rattle.summary_rows.proofs.Joined.{one_row}
use Rattle.summary_rows.proofs.Places.{stands_below}
use Rattle.flow_bits.specs.Words.{IsSet, word}
use Rattle.claim_core.specs.Bits.{HasBit, Bit, IsSetIn}
use Rattle.claim_rows.specs.Placed.{StandsAt}
use Rattle.row_equations.specs.Follow.{follows}
use Rattle.row_equations.proofs.Following as laws
use Rattle.claim_state.specs.Solving.{solving}

module _ (p : Program) (l : Layout) (is : IsLayout l) (rows : Rows) (same : rows.layout ≡ l) (seen : ℕ → ℕ) (are : (w : ℕ) → word rows.words w ≡ seen w) where
  -- the fact has a bit that is seen
  abbrev Known : Fact → Type 0
  Known g = (y : Bit) × (StandsAt l g y × IsSetIn seen y)

  known : (g : Fact) → told rows g ↔ Known g
  known g = subst (λ (m : Layout). ((g.owner < length m.outer)
      × ((n : ℕ) × (Stands (outer_of m g.owner) g.part n × bits.Bit rows.words (64 * first_of m g.owner + n)))) ↔ Known g) (sym same) (
        (λ t. (
          record { word = first_of l g.owner + t.1.0 / 64; place = t.1.0 % 64 },
          ((t.0, (t.1.0, (t.1.1.0, (refl, refl)))), subst (λ (v : ℕ). HasBit v (t.1.0 % 64)) (are _) ((bit_behind rows.words (first_of l g.owner) t.1.0).0 t.1.1.1)),
        )),
        (λ k. (let s = k.1.0 in let n = s.1.0 in (
          s.0,
          (
            n,
            (
              s.1.1.0,
              (bit_behind rows.words (first_of l g.owner) n).1
                  (subst (λ (v : ℕ). HasBit v (n % 64)) (sym (are (first_of l g.owner + n / 64)))
                  (subst (λ (w : ℕ). HasBit (seen w) (n % 64)) s.1.1.1.0 (subst (λ (j : ℕ). HasBit (seen k.0.word) j) s.1.1.1.1 k.1.1))),
            ),
          ),
        ))),
      )

  module _ (b : ℕ) (within : b < length l.outer) (own : List ℕ)
      (own_bits : (n : ℕ) → bits.Bit own n ↔ ((x : Part) × (Stands (outer_of l b) x n × follows p l (told rows) (record { owner = b; part = x })))) where
    abbrev at : ℕ → ℕ → Bit
    at w k = record { word = first_of l b + w; place = k }

    pub there : (w k : ℕ) → w < row_size (length (outer_of l b)) → k < 64 → HasBit (word own w) k → (solving p l).equation (IsSetIn seen) (at w k)
    there w k lw lk h =
        let d : (64 * w + k) / 64 ≡ w = omega (arith, lk) in
        let m : (64 * w + k) % 64 ≡ k = omega (arith, lk) in
        let t = (own_bits (64 * w + k)).0 (subst (λ (j : ℕ). IsSet (word own j) ((64 * w + k) % 64)) (sym d) (subst (λ (j : ℕ). IsSet (word own w) j) (sym m) h)) in
        let f : Fact = record { owner = b; part = t.0 } in
        (f, ((within, (64 * w + k, (t.1.0, (omega (arith, d), omega (arith, m))))), laws.grows p l (told rows) Known f (λ g. (known g).0) t.1.1))

    pub back : (w k : ℕ) → w < row_size (length (outer_of l b)) → (solving p l).equation (IsSetIn seen) (at w k) → (k < 64) × HasBit (word own w) k
    back w k lw e =
        let s = e.1.0 in
        let n = s.1.0 in
        let below = stands_below (outer_of l e.0.owner) e.0.part n s.1.1.0 in
        let x = s.1.1.1.0 in
        let y = s.1.1.1.1 in
        let o : e.0.owner ≡ b = one_row l is e.0.owner b (first_of l b + w) s.0 within (omega (arith, x)) (omega (arith, x, below)) (omega arith) (omega (arith, lw)) in
        let fo : first_of l e.0.owner ≡ first_of l b = ap (λ (a : ℕ). first_of l a) o in
        let q : n / 64 ≡ w = omega (arith, x, fo) in
        let f : Fact = record { owner = b; part = e.0.part } in
        let fe : e.0 ≡ f = λ i. record { owner = o i; part = e.0.part } in
        let h = (own_bits n).1 (
          e.0.part,
          (
            subst (λ (a : ℕ). Stands (outer_of l a) e.0.part n) o s.1.1.0,
            laws.grows p l Known (told rows) f (λ g. (known g).1) (subst (λ (a : Fact). follows p l Known a) fe e.1.1),
          ),
        ) in
        (omega (arith, y), subst (λ (j : ℕ). HasBit (word own w) j) (sym y) (subst (λ (j : ℕ). IsSet (word own j) (n % 64)) q h))
