-- The equation for tests.
use Rattle.std.proofs.Common.{◌≡◌, ℕ, ◌<◌, ◌↔◌, Bool, true, false, ◌||◌, IsTrue, List, [], Some, None, length, refl, inl, inr, arith, sym, subst, ◌∙◌}
use Rattle.std.proofs.Common.{◌∷◌, ◌/◌, ◌%◌}
use Rattle.std.specs.Prelude.{slice_get, slice_index_or}
use Rattle.std.proofs.lemmas.List.{get_or_past}
use Rattle.std.proofs.lemmas.Nat.Bits.{bit_at-zero, bit_at-pow_other}
use Rattle.flow_bits.specs.Words.{IsSet, word}
use Rattle.std.proofs.lemmas.Bool.{cases_eq, or_cases, or_left, or_right}
use Rattle.std.proofs.lemmas.Option.{get_or_from_slice_get, none-some, slice_get_past}
use Rattle.spark_base.specs.declared.numbers.BodyNo.{BodyNo}
use Rattle.spark_base.specs.declared.numbers.LeafNo.{LeafNo}
use Rattle.summary_rows.specs.declared.layout.Layout.{Layout}
use Rattle.summary_rows.specs.Bits.{Bit}
use Rattle.summary_rows.specs.Facts.{Part, Returning, Reading, Writing, Keeping, Depending, Fact}
use Rattle.summary_rows.specs.Layout.{IsAt, Stands, outer_of}
use Rattle.call_lists.specs.Lists.{Names}
use Rattle.row_solver.specs.Toy.{may_return, IsToy}

no_leaf : (v i : ℕ) → IsAt [] v i → ⊥
no_leaf v i e = let n : slice_get {X = LeafNo} [] i ≡ None = slice_get_past [] i (omega arith) in none-some (record { 0 = v }) (sym n ∙ e)

-- without leaves one fact stands, at the first bit
first_bit : (x : Part) (n : ℕ) → Stands [] x n → (x ≡ Returning) × (n ≡ 0)
first_bit Returning n s = (refl, s)
first_bit (Reading v) n s = absurd (no_leaf v s.0 s.1.0)
first_bit (Writing v) n s = absurd (no_leaf v s.0 s.1.0)
first_bit (Keeping v) n s = absurd (no_leaf v s.0 s.1.0)
first_bit (Depending v w) n s = absurd (no_leaf v s.0 s.1.1.0)

pub toy_row : (l : Layout) (own : List Bool) (callees : List (List BodyNo)) → IsToy l own callees → (R : Fact → Type 0) (b : ℕ) → b < length l.outer
    → (mine others : Bool) (list : List BodyNo) → slice_get own b ≡ Some mine → slice_get callees b ≡ Some list
    → (IsTrue others ↔ ((c : ℕ) × (Names list c × R (record { owner = c; part = Returning }))))
    → (either : Bool) → either ≡ (mine || others) → (words : List ℕ) → ((n : ℕ) → Bit words n ↔ ((n ≡ 0) × IsTrue either))
    → (n : ℕ) → Bit words n ↔ ((x : Part) × (Stands (outer_of l b) x n × may_return own callees R (record { owner = b; part = x })))
toy_row l own callees is R b h mine others list at_own at_list tell either e words bits n =
    let o : slice_index_or own b false ≡ mine = get_or_from_slice_get own b mine false at_own in
    let c : slice_index_or callees b [] ≡ list = get_or_from_slice_get callees b list [] at_list in
    let here : b < length own = (let e = is.bodies in omega (arith, e, h)) in (
      λ s. (let r = (bits n).0 s in (
        Returning,
        (
          r.0,
          (
            here,
            (
              refl,
              elim (or_cases mine others (sym e ∙ r.1)) [
                | inl m ↦ inl (o ∙ m)
                | inr t ↦ (let k = tell.0 t in inr (k.0, (subst (λ (bs : List BodyNo). Names bs k.0) (sym c) k.1.0, k.1.1)))
              ],
            ),
          ),
        ),
      )),
      λ t. (let f = first_bit t.0 n (subst (λ (outer : List LeafNo). Stands outer t.0 n) (is.bare b) t.1.0) in
          (bits n).1 (
            f.1,
            elim t.1.1.1.1 [
              | inl m ↦ e ∙ or_left mine others (sym o ∙ m)
              | inr k ↦ e ∙ or_right mine others (tell.1 (k.0, (subst (λ (bs : List BodyNo). Names bs k.0) c k.1.0, k.1.1)))
            ],
          )),
    )

-- a word of one bit
pub bit_of_one : (n : ℕ) → Bit (1 ∷ []) n ↔ ((n ≡ 0) × IsTrue true)
bit_of_one n = (
  λ s. elim (cases_eq (n / 64) 0) [
    | inl e ↦ (
        let first : IsSet 1 (n % 64) = subst (λ (w : ℕ). IsSet (word (1 ∷ []) w) (n % 64)) e s in
        elim (cases_eq (n % 64) 0) [
          | inl r ↦ (omega (arith, e, r), refl)
          | inr k ↦ absurd (let z = bit_at-pow_other 0 (n % 64) k in let f = first in omega (arith, z, f))
        ])
    | inr k ↦ absurd (
        let past : word (1 ∷ []) (n / 64) ≡ 0 = get_or_past (1 ∷ []) (n / 64) 0 (omega (arith, k)) in
        let none : IsSet 0 (n % 64) = subst (λ (w : ℕ). IsSet w (n % 64)) past s in
        let z = bit_at-zero (n % 64) in
        omega (arith, z, none))
  ],
  λ t. subst (λ (k : ℕ). Bit (1 ∷ []) k) (sym t.0) refl,
)
