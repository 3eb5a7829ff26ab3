-- Products within a modulus, added up: one round of doubling.
use Rattle.std.proofs.Common.{◌≡◌, ℕ, ◌+◌, ◌*◌, ◌/◌, ◌%◌, sym, ap, ◌∙◌, arith}
use Rattle.std.proofs.Math.Nat.{add-mod-mod, mod-add-mod}
use Rattle.std.proofs.lemmas.Nat.{mul-mod_first}

doubled : (s h : ℕ) → (s + s) * h ≡ s * (h + h)
doubled s h = omega arith

reduced_later : (r s h m : ℕ) → (r + (s + s) % m * h) % m ≡ (r + s * (h + h)) % m
reduced_later r s h m =
    sym (add-mod-mod r ((s + s) % m * h) m)
    ∙ ap (λ x. (r + x) % m) (mul-mod_first (s + s) h m)
    ∙ add-mod-mod r ((s + s) * h) m
    ∙ ap (λ x. (r + x) % m) (doubled s h)

pub even_round : (r s e m : ℕ) → e % 2 ≡ 0 → (r + (s + s) % m * (e / 2)) % m ≡ (r + s * e) % m
even_round r s e m even =
    let whole : e / 2 + e / 2 ≡ e = omega arith in
    reduced_later r s (e / 2) m ∙ ap (λ x. (r + s * x) % m) whole

once_more : (r s h : ℕ) → r + s + s * h ≡ r + s * (h + 1)
once_more r s h = omega arith

pub odd_round : (r s e m : ℕ) → e % 2 ≡ 1 → ((r + s) % m + (s + s) % m * (e / 2)) % m ≡ (r + s * e) % m
odd_round r s e m odd =
    let whole : e / 2 + e / 2 + 1 ≡ e = omega arith in
    mod-add-mod (r + s) m ((s + s) % m * (e / 2))
    ∙ reduced_later (r + s) s (e / 2) m
    ∙ ap (λ x. x % m) (once_more r s (e / 2 + e / 2))
    ∙ ap (λ x. (r + s * x) % m) whole
