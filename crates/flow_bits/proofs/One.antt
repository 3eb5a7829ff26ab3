-- One flag that is set or taken away.
use Rattle.std.proofs.Common.{◌≡◌, ◌≢◌, ℕ, ◌+◌, ◌*◌, ◌/◌, ◌%◌, ◌<◌, ◌⊎◌, ◌↔◌, inl, inr, sym, subst, ap, ◌∙◌, arith, List, length}
use Rattle.std.specs.Prelude.{slice_set}
use Rattle.std.proofs.lemmas.Bool.{cases_eq}
use Rattle.std.proofs.lemmas.List.{get_or-set_same, get_or-set_other}
use Rattle.std.proofs.lemmas.Nat.{same_from_place, mod-mul-add}
use Rattle.flow_bits.specs.Sets.{Has}
use Rattle.flow_bits.specs.Words.{word, words_for, place_of, flags, IsSet, IsClean}
use Rattle.flow_bits.proofs.Changed.{has_is}

module _ (size a n at v : ℕ) (old : List ℕ) (e : at ≡ place_of size a n) (l : n < size) (m : at < length old) where
  -- a flag of the changed word, or one of another
  record Here (x y : ℕ) : Type 0 where
    row : x ≡ a
    column : y / 64 ≡ n / 64
    old_is : word old (place_of size x y) ≡ word old at
    new_is : word (slice_set old at v) (place_of size x y) ≡ v

  record There (x y : ℕ) : Type 0 where
    another : x ≡ a → y ≢ n
    same : word (slice_set old at v) (place_of size x y) ≡ word old (place_of size x y)

  here_or_there : (x y : ℕ) → y < size → Here x y ⊎ There x y
  here_or_there x y k = elim (cases_eq (place_of size x y) at) [
    | inl q ↦ (
        let p : x * words_for size + y / 64 ≡ a * words_for size + n / 64 = q ∙ e in
        let b : y / 64 < words_for size = omega (arith, k) in
        let d : n / 64 < words_for size = omega (arith, l) in
        let s = same_from_place x (y / 64) a (n / 64) (words_for size) b d p in
        inl (record { row = s.0; column = s.1; old_is = ap (word old) q; new_is = ap (word (slice_set old at v)) q ∙ get_or-set_same old at v 0 m }))
    | inr z ↦ inr (record {
      another = λ r c. z (ap (λ (u : ℕ). u * words_for size + y / 64) r ∙ (ap (λ (u : ℕ). a * words_for size + u / 64) c ∙ sym e));
      same = get_or-set_other old at (place_of size x y) v 0 z;
    })
  ]

  pub added : ((i : ℕ) → IsSet v i ↔ (IsSet (word old at) i ⊎ (i ≡ n % 64))) → (x y : ℕ)
      → Has (flags size (slice_set old at v) x) y ↔ (Has (flags size old x) y ⊎ ((x ≡ a) × (y ≡ n)))
  added bits x y = (there, back)
    where
      there : Has (flags size (slice_set old at v) x) y → Has (flags size old x) y ⊎ ((x ≡ a) × (y ≡ n))
      there h =
          let o = (has_is size (slice_set old at v) x y).0 h in
          elim (here_or_there x y o.0) [
            | inl s ↦ (elim ((bits (y % 64)).0 (subst (λ (u : ℕ). IsSet u (y % 64)) s.new_is o.1)) [
              | inl t ↦ inl ((has_is size old x y).1 (o.0, subst (λ (u : ℕ). IsSet u (y % 64)) (sym s.old_is) t))
              | inr t ↦ (let c = s.column in let q : y ≡ n = omega (arith, c, t) in inr (s.row, q))
            ])
            | inr s ↦ inl ((has_is size old x y).1 (o.0, subst (λ (u : ℕ). IsSet u (y % 64)) s.same o.1))
          ]

      back : Has (flags size old x) y ⊎ ((x ≡ a) × (y ≡ n)) → Has (flags size (slice_set old at v) x) y
      back (inl h) =
          let o = (has_is size old x y).0 h in
          elim (here_or_there x y o.0) [
            | inl s ↦ (has_is size (slice_set old at v) x y).1 (
              o.0,
              subst (λ (u : ℕ). IsSet u (y % 64)) (sym s.new_is) ((bits (y % 64)).1 (inl (subst (λ (u : ℕ). IsSet u (y % 64)) s.old_is o.1))),
            )
            | inr s ↦ (has_is size (slice_set old at v) x y).1 (o.0, subst (λ (u : ℕ). IsSet u (y % 64)) (sym s.same) o.1)
          ]
      back (inr t) =
          let k : y < size = omega (arith, l, t.1) in
          elim (here_or_there x y k) [
            | inl s ↦ (has_is size (slice_set old at v) x y).1 (
              k,
              subst (λ (u : ℕ). IsSet u (y % 64)) (sym s.new_is) ((bits (y % 64)).1 (inr (ap (λ (u : ℕ). u % 64) t.1))),
            )
            | inr s ↦ absurd (s.another t.0 t.1)
          ]

  pub removed : ((i : ℕ) → IsSet v i ↔ (IsSet (word old at) i × (i ≢ n % 64))) → (x y : ℕ)
      → Has (flags size (slice_set old at v) x) y ↔ (Has (flags size old x) y × (x ≡ a → y ≢ n))
  removed bits x y = (there, back)
    where
      there : Has (flags size (slice_set old at v) x) y → Has (flags size old x) y × (x ≡ a → y ≢ n)
      there h =
          let o = (has_is size (slice_set old at v) x y).0 h in
          elim (here_or_there x y o.0) [
            | inl s ↦ (
                let t = (bits (y % 64)).0 (subst (λ (u : ℕ). IsSet u (y % 64)) s.new_is o.1) in (
                  (has_is size old x y).1 (o.0, subst (λ (u : ℕ). IsSet u (y % 64)) (sym s.old_is) t.0),
                  λ r c. t.1 (ap (λ (u : ℕ). u % 64) c),
                ))
            | inr s ↦ ((has_is size old x y).1 (o.0, subst (λ (u : ℕ). IsSet u (y % 64)) s.same o.1), s.another)
          ]

      back : Has (flags size old x) y × (x ≡ a → y ≢ n) → Has (flags size (slice_set old at v) x) y
      back (h, q) =
          let o = (has_is size old x y).0 h in
          elim (here_or_there x y o.0) [
            | inl s ↦ (
                let c = s.column in
                let d : y % 64 ≢ n % 64 = λ (z : y % 64 ≡ n % 64). q s.row (omega (arith, c, z)) in
                (has_is size (slice_set old at v) x y).1 (
                  o.0,
                  subst (λ (u : ℕ). IsSet u (y % 64)) (sym s.new_is) ((bits (y % 64)).1 (subst (λ (u : ℕ). IsSet u (y % 64)) s.old_is o.1, d)),
                ))
            | inr s ↦ (has_is size (slice_set old at v) x y).1 (o.0, subst (λ (u : ℕ). IsSet u (y % 64)) (sym s.same) o.1)
          ]

  pub clean_one : ((i : ℕ) → IsSet v i → IsSet (word old at) i ⊎ (i ≡ n % 64)) → IsClean size old → IsClean size (slice_set old at v)
  clean_one bits h = record { clean = clean }
    where
      clean : (w i : ℕ) → IsSet (word (slice_set old at v) w) i → 64 * (w % words_for size) + i < size
      clean w i s = elim (cases_eq w at) [
        | inl q ↦ (
            let t = subst (λ (u : ℕ). IsSet u i) (ap (word (slice_set old at v)) q ∙ get_or-set_same old at v 0 m) s in
            elim (bits i t) [
              | inl o ↦ h.clean w i (subst (λ (u : ℕ). IsSet u i) (ap (word old) (sym q)) o)
              | inr o ↦ (
                  let d : n / 64 < words_for size = omega (arith, l) in
                  let r = mod-mul-add a (words_for size) (n / 64) d in
                  let f : 64 * (n / 64) + i < size = omega (arith, l, o) in
                  let g = ap (λ (u : ℕ). u % words_for size) (q ∙ e) ∙ r in
                  subst (λ (u : ℕ). 64 * u + i < size) (sym g) f)
            ])
        | inr z ↦ h.clean w i (subst (λ (u : ℕ). IsSet u i) (get_or-set_other old at w v 0 z) s)
      ]

pub told_at : (size a n at : ℕ) (words : List ℕ) → at ≡ place_of size a n → n < size → Has (flags size words a) n ↔ IsSet (word words at) (n % 64)
told_at size a n at words e l = (
  λ h. subst (λ (u : ℕ). IsSet (word words u) (n % 64)) (sym e) ((has_is size words a n).0 h).1,
  λ s. (has_is size words a n).1 (l, subst (λ (u : ℕ). IsSet (word words u) (n % 64)) e s),
)
