-- Numbers that 128 bits hold, and steps of the number loops.
use Rattle.std.proofs.Common.{◌≡◌, ℕ, zero, suc, ◌+◌, ◌-◌, ◌*◌, ◌^◌, ◌<◌, ◌≤◌, List, [], ◌∷◌, Bool, true, false, if◌then◌else◌, length, drop, get_or, None, Some, refl, ap, sym, ◌∙◌, arith, nat_le, add-one}
use Rattle.std.proofs.lemmas.Bool.Decides.{nat_tests}
use Rattle.std.proofs.Math.Nat.{pow-suc, one-le-pow, mul_assoc, mul_comm, zero-mul, mul-le-mul_left, mul-le-mul_right}
use Rattle.std.proofs.Math.Seq.{drop-cons}
use Rattle.std.specs.declared.option.Option.{Option}
use Rattle.std.specs.Option.{SomeIff}
use Rattle.ada_lexer.specs.Classes.{digit_of, is_digit}
use Rattle.ada_lexer.specs.Cut.{value_from}
use Rattle.ada_lexer.specs.Runs.{fits, moved_by, raised, based_len}

le_test : (n x : ℕ) → n ≤ x → nat_le n x ≡ true
le_test n x h = grind (arith, nat_tests)

lt_test : (n x : ℕ) → x < n → nat_le n x ≡ false
lt_test n x h = grind (arith, nat_tests)

pub fits_over : (x : ℕ) → 2 ^ 128 ≤ x → None ≡ fits x
fits_over x h = ap (λ c. if c then None else Some x) (sym (le_test (2 ^ 128) x h))

pub fits_under : (x : ℕ) → x < 2 ^ 128 → Some x ≡ fits x
fits_under x h = ap (λ c. if c then None else Some x) (sym (lt_test (2 ^ 128) x h))

over_if : (n x : ℕ) (c : Bool) → nat_le n x ≡ c → None ≡ (if c then None else Some x) → n ≤ x
over_if n x true e h = grind (arith, nat_tests)
over_if n x false e h = cc

pub none_over : (x : ℕ) → None ≡ fits x → 2 ^ 128 ≤ x
none_over x h = over_if (2 ^ 128) x (nat_le (2 ^ 128) x) refl h

some_if : (x v : ℕ) (c : Bool) → Some v ≡ (if c then None else Some x) → v ≡ x
some_if x v true h = cc
some_if x v false h = cc

pub some_is : (x v : ℕ) → Some v ≡ fits x → v ≡ x
some_is x v h = some_if x v (nat_le (2 ^ 128) x) h

pub not_under : (n x : ℕ) → (x < n → ⊥) → n ≤ x
not_under n x h = omega arith

pub sum_fits : (r : Option ℕ) (x y : ℕ) → x ≡ y → SomeIff r (x < 2 ^ 128) x → r ≡ fits y
sum_fits (Some z) x y e h = ap Some h.1 ∙ fits_under x h.0 ∙ ap fits e
sum_fits None x y e h = fits_over x (not_under (2 ^ 128) x h) ∙ ap fits e

-- a value only grows
pub digit_base : (base b : ℕ) → is_digit base b ≡ true → 1 ≤ base
unfolding is_digit
digit_base base b h = grind (arith, nat_tests)

once : (base n b : ℕ) (c : Bool) → is_digit base b ≡ c → n ≤ (if c then base * n + digit_of b else n)
once base n b true h = let k : 1 ≤ base = digit_base base b h in omega (arith, mul-le-mul_right n k)
once base n b false h = omega arith

pub grows : (base n : ℕ) (bytes : List ℕ) → n ≤ value_from base n bytes
grows base n [] = omega arith
grows base n (b ∷ bs) = let m : ℕ = if is_digit base b then base * n + digit_of b else n in
    let h : n ≤ m = once base n b (is_digit base b) refl in omega (arith, h, grows base m bs)

none-digit : (b : ℕ) → is_digit 0 b ≡ false
unfolding is_digit
none-digit b = grind (arith, nat_tests)

pub no_digits : (bytes : List ℕ) → value_from 0 0 bytes ≡ 0
no_digits [] = refl
no_digits (b ∷ bs) = ap (λ c. value_from 0 (if c then 0 * 0 + digit_of b else 0) bs) (none-digit b) ∙ no_digits bs

pub power_more : (all base left : ℕ) → 0 < left → all * base * base ^ (left - 1) ≡ all * base ^ left
power_more all base zero h = absurd (omega arith)
power_more all base (suc k) h = let e : suc k - 1 ≡ k = omega arith in
    ap (λ k. all * base * base ^ k) e ∙ mul_assoc all base (base ^ k) ∙ ap (λ x. all * x) (mul_comm base (base ^ k) ∙ sym (pow-suc base k))

pub power_over : (n all base left : ℕ) → n ≤ all → 1 ≤ base → n ≤ all * base ^ left
power_over n all base left h k =
    let p : 1 ≤ base ^ left = one-le-pow left base k in
    omega (arith, mul-le-mul_left all p)

pub above : (base n : ℕ) → 2 ≤ base → n < base ^ n
above base zero h = omega (arith, one-le-pow 0 base (omega arith))
above base (suc n) h =
    let p : n < base ^ n = above base n h in
    let q : base ^ n * 2 ≤ base ^ n * base = mul-le-mul_left (base ^ n) h in
    rw (pow-suc base n) (omega arith)

pub times_over : (n value base times : ℕ) → 0 < value → 2 ≤ base → n ≤ times → n ≤ value * base ^ times
times_over n value base times v b h =
    let p : times < base ^ times = above base times b in
    let q : 1 * base ^ times ≤ value * base ^ times = mul-le-mul_right (base ^ times) v in
    omega arith

raised-by : (i : ℕ) (r : Option ℕ) → moved_by i (raised r) ≡ moved_by (i + 1) r
raised-by i None = refl
raised-by i (Some n) = let e : i + suc n ≡ i + 1 + n = omega arith in ap Some e

pub based_more : (base i : ℕ) (bytes : List ℕ) (due due' : Bool) (all : Option ℕ) → i < length bytes → all ≡ moved_by i (based_len base due (drop i bytes)) →
    based_len base due (get_or bytes i 0 ∷ drop (i + 1) bytes) ≡ raised (based_len base due' (drop (i + 1) bytes)) → all ≡ moved_by (i + 1) (based_len base due' (drop (i + 1) bytes))
based_more base i bytes due due' all h before step =
    before ∙ ap (λ xs. moved_by i (based_len base due xs)) (drop-cons bytes i 0 h ∙ ap (λ k. get_or bytes i 0 ∷ drop k bytes) (sym (add-one i))) ∙ ap (moved_by i) step ∙ raised-by i _

bound_if : (n x v : ℕ) (c : Bool) → nat_le n x ≡ c → Some v ≡ (if c then None else Some x) → v < n
bound_if n x v true e h = cc
bound_if n x v false e h = let k : v ≡ x = cc in grind (arith, nat_tests)

pub some_fits : (x v : ℕ) → Some v ≡ fits x → v < 2 ^ 128
some_fits x v h = bound_if (2 ^ 128) x v (nat_le (2 ^ 128) x) refl h

pub value_next : (base : ℕ) (bytes : List ℕ) (i value all : ℕ) → i < length bytes → all ≡ value_from base value (drop i bytes) →
    all ≡ value_from base (if is_digit base (get_or bytes i 0) then base * value + digit_of (get_or bytes i 0) else value) (drop (i + 1) bytes)
value_next base bytes i value all h before = before ∙ ap (value_from base value) (drop-cons bytes i 0 h ∙ ap (λ k. get_or bytes i 0 ∷ drop k bytes) (sym (add-one i)))

pub value_over : (base : ℕ) (bytes : List ℕ) (i value all : ℕ) → i < length bytes → all ≡ value_from base value (drop i bytes) →
    None ≡ fits (if is_digit base (get_or bytes i 0) then base * value + digit_of (get_or bytes i 0) else value) → None ≡ fits all
value_over base bytes i value all h before over =
    let m : ℕ = if is_digit base (get_or bytes i 0) then base * value + digit_of (get_or bytes i 0) else value in
    let k : 2 ^ 128 ≤ m = none_over m over in
    let g : m ≤ value_from base m (drop (i + 1) bytes) = grows base m (drop (i + 1) bytes) in
    let e : all ≡ value_from base m (drop (i + 1) bytes) = value_next base bytes i value all h before in
    fits_over all (reach (2 ^ 128) m all _ k g e)
  where
    reach : (n m a b : ℕ) → n ≤ m → m ≤ b → a ≡ b → n ≤ a
    reach n m a b h k e = omega arith

pub next_pos : (all base next : ℕ) → next ≡ all * base → 0 < all → 2 ≤ base → 0 < next
next_pos all base next e h k = omega (arith, mul-le-mul_left all k)

pub no_base : (base : ℕ) (digits : List ℕ) (e : ℕ) → base ≡ 0 → Some 0 ≡ fits (value_from base 0 digits * base ^ e)
no_base base digits e h =
    let k : value_from base 0 digits ≡ 0 = ap (λ b. value_from b 0 digits) h ∙ no_digits digits in
    ap fits (sym (ap (λ x. x * base ^ e) k ∙ zero-mul (base ^ e)))
