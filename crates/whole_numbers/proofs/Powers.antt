-- Powers with a large exponent, and powers within a modulus.
use Rattle.std.proofs.Common.{◌≡◌, ℕ, zero, suc, ◌+◌, ◌*◌, ◌/◌, ◌%◌, ◌^◌, ◌<◌, ◌≤◌, Bool, true, false, nat_lt, refl, sym, ap, ◌∙◌, arith, ℤ, pos, negsuc, neg_ℤ, mul-le-mul, Some, None}
use Rattle.std.proofs.Math.Nat.{pow-le-pow_right}
use Rattle.std.proofs.lemmas.Nat.{mul-mod, mul-mod_first, pow-mod, mul-pow, pow-add}
use native.Mathlib.Nat.{pow-zero, pow-suc}
use Rattle.std.proofs.lemmas.Int.{ints}
use Rattle.std.proofs.lemmas.Bool.Decides.{nat_tests}
use Rattle.std.specs.Int.{int_pow}
use Rattle.std.specs.Prelude.{cond, if◌then◌else◌, ◌==◌}
use Rattle.whole_numbers.specs.Numbers.{fits, fitting, short_exponent}

pub one_to : (e : ℕ) → 1 ^ e ≡ 1
one_to zero = refl
one_to (suc e) = let h = one_to e in omega (arith, h)

pub two_to_le : (a e : ℕ) → 2 ≤ a → 2 ^ e ≤ a ^ e
two_to_le a zero h = omega (arith, pow-zero a)
two_to_le a (suc e) h = let x = mul-le-mul (two_to_le a e h) h in omega (arith, x, pow-suc 2 e, pow-suc a e)

pub far : (a e : ℕ) → 2 ≤ a → 128 ≤ e → 2 ^ 128 ≤ a ^ e
far a e h l = let small : 2 ^ 128 ≤ 2 ^ e = pow-le-pow_right {n = 2} (omega arith) l in let more = two_to_le a e h in omega arith

pub outside : (n : ℕ) → 2 ^ 128 ≤ n → fits (pos n) ≡ false
outside n h = grind (arith, ints)

pub outside_below : (n : ℕ) → 2 ^ 128 ≤ n → fits (neg_ℤ (pos n)) ≡ false
outside_below n h = grind (arith, ints)

pub outside_either : (b : Bool) (n : ℕ) → 2 ^ 128 ≤ n → fits (cond b (pos n) (neg_ℤ (pos n))) ≡ false
outside_either true n h = outside n h
outside_either false n h = outside_below n h

pub not_fitting : (z : ℤ) → fits z ≡ false → fitting z ≡ None
not_fitting z h = ap (λ b. cond b (Some z) None) h

pub zero_to : (e : ℕ) → 0 < e → 0 ^ e ≡ 0
zero_to zero h = absurd (omega arith)
zero_to (suc e) h = omega arith

pub parity : (n : ℕ) → (256 + n % 2) % 2 ≡ n % 2
parity n = omega arith

pub minus_one : (e f : ℕ) → e % 2 ≡ f % 2 → int_pow (negsuc 0) e ≡ int_pow (negsuc 0) f
minus_one e f h =
    let x : 1 ^ e ≡ 1 = one_to e in
    let y : 1 ^ f ≡ 1 = one_to f in
    ap (λ r. cond (r == 0) (pos (1 ^ e)) (neg_ℤ (pos (1 ^ e)))) h ∙ ap (λ p. cond (f % 2 == 0) (pos p) (neg_ℤ (pos p))) (x ∙ sym y)

pub large : (a : ℤ) (n m : ℕ) → 256 ≤ n → 256 ≤ m → m % 2 ≡ n % 2 → fitting (int_pow a m) ≡ fitting (int_pow a n)
large (pos zero) n m h k p = let x : 0 ^ m ≡ 0 = zero_to m (omega arith) in let y : 0 ^ n ≡ 0 = zero_to n (omega arith) in ap (λ z. fitting (pos z)) (x ∙ sym y)
large (pos (suc zero)) n m h k p = let x : 1 ^ m ≡ 1 = one_to m in let y : 1 ^ n ≡ 1 = one_to n in ap (λ z. fitting (pos z)) (x ∙ sym y)
large (pos (suc (suc a))) n m h k p =
    not_fitting (pos (suc (suc a) ^ m)) (outside (suc (suc a) ^ m) (far (suc (suc a)) m (omega arith) (omega arith)))
    ∙ sym (not_fitting (pos (suc (suc a) ^ n)) (outside (suc (suc a) ^ n) (far (suc (suc a)) n (omega arith) (omega arith))))
large (negsuc zero) n m h k p = ap fitting (minus_one m n p)
large (negsuc (suc a)) n m h k p =
    not_fitting (int_pow (negsuc (suc a)) m) (outside_either (m % 2 == 0) (suc (suc a) ^ m) (far (suc (suc a)) m (omega arith) (omega arith)))
    ∙ sym (not_fitting (int_pow (negsuc (suc a)) n) (outside_either (n % 2 == 0) (suc (suc a) ^ n) (far (suc (suc a)) n (omega arith) (omega arith))))

short_cases : (a : ℤ) (n : ℕ) (b : Bool) → nat_lt n 256 ≡ b → fitting (int_pow a (if b then n else 256 + n % 2)) ≡ fitting (int_pow a n)
short_cases a n true is = refl
short_cases a n false is = large a n (256 + n % 2) (grind (arith, nat_tests)) (omega arith) (parity n)

-- the short exponent will do
pub power_short : (a : ℤ) (n : ℕ) → fitting (int_pow a (short_exponent n)) ≡ fitting (int_pow a n)
power_short a n = short_cases a n (nat_lt n 256) refl

-- one round of squaring

cong_second : (a b c m : ℕ) → b % m ≡ c % m → (a * b) % m ≡ (a * c) % m
cong_second a b c m h = mul-mod a b m ∙ ap (λ x. (a % m * x) % m) h ∙ sym (mul-mod a c m)

square_pow : (s h : ℕ) → (s * s) ^ h ≡ s ^ (h + h)
square_pow s h = mul-pow s s h ∙ sym (pow-add s h h)

squared : (s h m : ℕ) → (s * s % m) ^ h % m ≡ s ^ (h + h) % m
squared s h m = pow-mod (s * s) h m ∙ ap (λ x. x % m) (square_pow s h)

pub even_round : (r s e m : ℕ) → e % 2 ≡ 0 → (r * (s * s % m) ^ (e / 2)) % m ≡ (r * s ^ e) % m
even_round r s e m even =
    let whole : e / 2 + e / 2 ≡ e = omega arith in
    cong_second r ((s * s % m) ^ (e / 2)) (s ^ (e / 2 + e / 2)) m (squared s (e / 2) m) ∙ ap (λ x. (r * s ^ x) % m) whole

one_times : (s : ℕ) → 1 * s ≡ s
one_times s = omega arith

pow_one : (s : ℕ) → s ^ 1 ≡ s
pow_one s = pow-suc s 0 ∙ ap (λ x. x * s) (pow-zero s) ∙ one_times s

shifted : (r s x : ℕ) → r * s * x ≡ r * (x * s)
shifted r s x = omega arith

pub odd_round : (r s e m : ℕ) → e % 2 ≡ 1 → ((r * s % m) * (s * s % m) ^ (e / 2)) % m ≡ (r * s ^ e) % m
odd_round r s e m odd =
    let whole : e / 2 + e / 2 + 1 ≡ e = omega arith in
    let last : s ^ (e / 2 + e / 2) * s ≡ s ^ (e / 2 + e / 2 + 1) = sym (pow-add s (e / 2 + e / 2) 1 ∙ ap (λ x. s ^ (e / 2 + e / 2) * x) (pow_one s)) in
    mul-mod_first (r * s) ((s * s % m) ^ (e / 2)) m
    ∙ cong_second (r * s) ((s * s % m) ^ (e / 2)) (s ^ (e / 2 + e / 2)) m (squared s (e / 2) m)
    ∙ ap (λ x. x % m) (shifted r s (s ^ (e / 2 + e / 2)))
    ∙ ap (λ x. (r * x) % m) (last ∙ ap (λ x. s ^ x) whole)
