-- The longest front that passes, for each kind of piece.
use Rattle.std.proofs.Common.{◌≡◌, ℕ, suc, List, [], ◌∷◌, Bool, true, false, ◌&&◌, if◌then◌else◌, None, Some, refl, ap, ◌∙◌, nat_eq}
use Rattle.ada_lexer.specs.Classes.{is_digit}
use Rattle.ada_lexer.specs.Pieces.{every, parted, longest, one_more}
use Rattle.ada_lexer.specs.Runs.{run, starts_digit, parted_len, due_len}

pub longest-cong : (p q : List ℕ → Bool) (bytes : List ℕ) → ((s : List ℕ) → p s ≡ q s) → longest p bytes ≡ longest q bytes
longest-cong p q [] h = ap (λ b. if b then Some 0 else None) (h [])
longest-cong p q (b ∷ bs) h =
    ap (λ e. one_more e (longest (λ s. p (b ∷ s)) bs)) (h [])
    ∙ ap (one_more (q [])) (longest-cong (λ s. p (b ∷ s)) (λ s. q (b ∷ s)) bs (λ s. h (b ∷ s)))

pub longest-none : (bytes : List ℕ) → longest (λ s. false) bytes ≡ None
longest-none [] = refl
longest-none (b ∷ bs) = ap (one_more false) (longest-none bs)

pub longest-every : (test : ℕ → Bool) (bytes : List ℕ) → longest (every test) bytes ≡ Some (run test bytes)
longest-every test [] = refl
longest-every test (b ∷ bs) = elim (test b) as (λ c. one_more true (longest (λ s. c && every test s) bs) ≡ Some (if c then suc (run test bs) else 0)) [
  | true ↦ ap (one_more true) (longest-every test bs)
  | false ↦ ap (one_more true) (longest-none bs)
]

pub longest-parted : (base : ℕ) (bytes : List ℕ) → (longest (parted base false) bytes ≡ Some (parted_len base bytes)) × (longest (parted base true) bytes ≡ due_len base bytes)
longest-parted base [] = (refl, refl)
longest-parted base (b ∷ bs) =
    let h = longest-parted base bs in
    elim (is_digit base b) as (λ c.
    (one_more true (longest (λ s. if c then parted base false s else (nat_eq b 95 && parted base true s)) bs)
    ≡ Some (if (if c then true else (nat_eq b 95 && starts_digit base bs)) then suc (parted_len base bs) else 0))
    × (one_more false (longest (λ s. if c then parted base false s else false) bs)
    ≡ (if c then Some (if (if c then true else (nat_eq b 95 && starts_digit base bs)) then suc (parted_len base bs) else 0) else None))) [
      | true ↦ (ap (one_more true) h.0, ap (one_more false) h.0)
      | false ↦ (
        elim (nat_eq b 95) as (λ c. one_more true (longest (λ s. c && parted base true s) bs)
            ≡ Some (if c && starts_digit base bs then suc (parted_len base bs) else 0)) [
              | true ↦ ap (one_more true) h.1 ∙ (elim (starts_digit base bs) as (λ c. one_more true (if c then Some (parted_len base bs) else None) ≡ Some (if c then suc (parted_len base bs) else 0)) [ true ↦ refl | false ↦ refl ])
              | false ↦ ap (one_more true) (longest-none bs)
            ],
        ap (one_more false) (longest-none bs),
      )
    ]
