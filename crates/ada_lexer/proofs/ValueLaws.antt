-- The value of a number is that of its parts.
use Rattle.std.proofs.Common.{◌≡◌, ℕ, suc, ◌+◌, ◌*◌, ◌^◌, ◌<◌, List, [], ◌∷◌, ◌++◌, Bool, true, false, ◌&&◌, if◌then◌else◌, length, take, drop, refl, ap, sym, ◌∙◌, arith, nat_eq, nat_lt, length-append}
use Rattle.spark_messages.proofs.Bools.{both}
use Rattle.std.proofs.lemmas.Bool.Decides.{nat_tests}
use Rattle.ada_lexer.specs.Classes.{digit_of, is_digit, is_e, base_of}
use Rattle.ada_lexer.specs.Pieces.{parted, exponent, scale}
use Rattle.ada_lexer.specs.Cut.{value_from, before, is_hash, scaled, based_value, number_value}
use Rattle.ada_lexer.specs.Laws.{IsDecimal, IsBased}

abbrev Clean : (ℕ → Bool) → List ℕ → Type 0
Clean test d = (x : List ℕ) → before test (d ++ x) ≡ length d + before test x

clean_more : (test : ℕ → Bool) (b : ℕ) (d : List ℕ) → test b ≡ false → Clean test d → Clean test (b ∷ d)
clean_more test b d h k x = rw h (let e : before test (d ++ x) ≡ length d + before test x = k x in omega arith)

clean_cases : (test : ℕ → Bool) (base b : ℕ) (ds : List ℕ) (due d u : Bool) → is_digit base b ≡ d → nat_eq b 95 ≡ u → ((b : ℕ) → is_digit base b ≡ true → test b ≡ false) → ((b : ℕ) → nat_eq b 95 ≡ true → test b ≡ false) →
    (parted base false ds ≡ true → Clean test ds) → (parted base true ds ≡ true → Clean test ds) → (if d then parted base false ds else (if due then false else (u && parted base true ds))) ≡ true → Clean test (b ∷ ds)
clean_cases test base b ds due true u e f g k i j h = clean_more test b ds (g b e) (i h)
clean_cases test base b ds true false u e f g k i j h = cc
clean_cases test base b ds false false true e f g k i j h = clean_more test b ds (k b f) (j h)
clean_cases test base b ds false false false e f g k i j h = cc

clean : (test : ℕ → Bool) (base : ℕ) (due : Bool) (ds : List ℕ) → ((b : ℕ) → is_digit base b ≡ true → test b ≡ false) → ((b : ℕ) → nat_eq b 95 ≡ true → test b ≡ false) → parted base due ds ≡ true → Clean test ds
clean test base due [] g k h = λ x. let n : ℕ = before test x in let e : n ≡ 0 + n = omega arith in e
clean test base due (b ∷ ds) g k h = clean_cases test base b ds due (is_digit base b) (nat_eq b 95) refl refl g k (clean test base false ds g k) (clean test base true ds g k) h

decimal_no_hash : (b : ℕ) → is_digit 10 b ≡ true → is_hash b ≡ false
unfolding is_digit digit_of
decimal_no_hash b h = grind (arith, nat_tests)

decimal_no_e : (b : ℕ) → is_digit 10 b ≡ true → is_e b ≡ false
unfolding is_digit digit_of is_e
decimal_no_e b h = grind (arith, nat_tests)

line_no_hash : (b : ℕ) → nat_eq b 95 ≡ true → is_hash b ≡ false
line_no_hash b h = grind (arith, nat_tests)

line_no_e : (b : ℕ) → nat_eq b 95 ≡ true → is_e b ≡ false
unfolding is_e
line_no_e b h = grind (arith, nat_tests)

based_no_hash : (n b : ℕ) → is_digit (base_of n) b ≡ true → is_hash b ≡ false
unfolding is_digit digit_of base_of
based_no_hash n b h = grind (arith, nat_tests)

e_no_hash : (b : ℕ) → is_e b ≡ true → is_hash b ≡ false
unfolding is_e
e_no_hash b h = grind (arith, nat_tests)

plus_no_hash : (b : ℕ) → nat_eq b 43 ≡ true → is_hash b ≡ false
plus_no_hash b h = grind (arith, nat_tests)

exponent_cases : (b : ℕ) (bs : List ℕ) (c : Bool) → nat_eq b 43 ≡ c → (if c then parted 10 true bs else parted 10 true (b ∷ bs)) ≡ true → Clean is_hash (b ∷ bs)
exponent_cases b bs true e h = clean_more is_hash b bs (plus_no_hash b e) (clean is_hash 10 true bs decimal_no_hash line_no_hash h)
exponent_cases b bs false e h = clean is_hash 10 true (b ∷ bs) decimal_no_hash line_no_hash h

exponent_clean : (bs : List ℕ) → exponent bs ≡ true → Clean is_hash bs
exponent_clean [] h = cc
exponent_clean (b ∷ bs) h = exponent_cases b bs (nat_eq b 43) refl h

scale_clean : (x : List ℕ) → scale x ≡ true → Clean is_hash x
scale_clean [] h = λ y. let n : ℕ = before is_hash y in let e : n ≡ 0 + n = omega arith in e
scale_clean (t ∷ ts) h = let k : (is_e t ≡ true) × (exponent ts ≡ true) = both (is_e t) (exponent ts) h in clean_more is_hash t ts (e_no_hash t k.0) (exponent_clean ts k.1)

scale_starts : (x : List ℕ) → scale x ≡ true → before is_e x ≡ 0
scale_starts [] h = refl
scale_starts (t ∷ ts) h = rw (both (is_e t) (exponent ts) h).0 refl

take-front : (d x : List ℕ) → take (length d) (d ++ x) ≡ d
take-front [] x = refl
take-front (b ∷ d) x = ap (λ s. b ∷ s) (take-front d x)

drop-front : (d x : List ℕ) → drop (length d) (d ++ x) ≡ x
drop-front [] x = refl
drop-front (b ∷ d) x = drop-front d x

drop-past : (d x : List ℕ) (c : ℕ) → drop (length d + 1) (d ++ c ∷ x) ≡ x
drop-past [] x c = refl
drop-past (b ∷ d) x c = let e : suc (length d) + 1 ≡ suc (length d + 1) = omega arith in ap (λ n. drop n (b ∷ (d ++ c ∷ x))) e ∙ drop-past d x c

zero_on : (n m : ℕ) → m ≡ 0 → n + m ≡ n
zero_on n m h = omega arith

not_under : (n m : ℕ) → n ≡ m → nat_lt n m ≡ false
not_under n m h = grind (arith, nat_tests)

under : (n m : ℕ) → n < m → nat_lt n m ≡ true
under n m h = grind (arith, nat_tests)

no_hash : (d x : List ℕ) → Clean is_hash d → Clean is_hash x → before is_hash (d ++ x) ≡ length (d ++ x)
no_hash d x h k = h x ∙ ap (λ n. length d + n) (ap (before is_hash) (sym (nil_right x)) ∙ k [] ∙ zero_on (length x) 0 refl) ∙ sym (length-append d x)
  where
    nil_right : (xs : List ℕ) → xs ++ [] ≡ xs
    nil_right [] = refl
    nil_right (x ∷ xs) = ap (λ s. x ∷ s) (nil_right xs)

decimal_parts : (d x : List ℕ) → parted 10 true d ≡ true → scale x ≡ true → number_value (d ++ x) ≡ value_from 10 0 d * 10 ^ value_from 10 0 x
unfolding number_value
decimal_parts d x h k =
    let n : before is_e (d ++ x) ≡ length d = clean is_e 10 true d decimal_no_e line_no_e h x ∙ zero_on (length d) (before is_e x) (scale_starts x k) in
    let c : nat_lt (before is_hash (d ++ x)) (length (d ++ x)) ≡ false = not_under _ _ (no_hash d x (clean is_hash 10 true d decimal_no_hash line_no_hash h) (scale_clean x k)) in
    ap (λ c. if c then based_value (take (before is_hash (d ++ x)) (d ++ x)) (drop (before is_hash (d ++ x) + 1) (d ++ x)) else scaled 10 (take (before is_e (d ++ x)) (d ++ x)) (drop (before is_e (d ++ x)) (d ++ x))) c
    ∙ ap (λ n. scaled 10 (take n (d ++ x)) (drop n (d ++ x))) n ∙ ap (λ s. scaled 10 s (drop (length d) (d ++ x))) (take-front d x) ∙ ap (scaled 10 d) (drop-front d x)

hash_value : (x : List ℕ) → value_from 10 0 (35 ∷ x) ≡ value_from 10 0 x
unfolding is_digit digit_of
hash_value x = refl

rest_parts : (b d x : List ℕ) → parted (base_of (value_from 10 0 b)) true d ≡ true → based_value b (d ++ 35 ∷ x) ≡ value_from (base_of (value_from 10 0 b)) 0 d * base_of (value_from 10 0 b) ^ value_from 10 0 x
rest_parts b d x h =
    let base : ℕ = base_of (value_from 10 0 b) in
    let rest : List ℕ = d ++ 35 ∷ x in
    let n : before is_hash rest ≡ length d = clean is_hash base true d (based_no_hash (value_from 10 0 b)) line_no_hash h (35 ∷ x) ∙ zero_on (length d) 0 refl in
    ap (λ n. scaled base (take n rest) (drop n rest)) n ∙ ap (λ s. scaled base s (drop (length d) rest)) (take-front d (35 ∷ x)) ∙ ap (scaled base d) (drop-front d (35 ∷ x))
    ∙ ap (λ e. value_from base 0 d * base ^ e) (hash_value x)

based_parts : (b d x : List ℕ) → parted 10 true b ≡ true → parted (base_of (value_from 10 0 b)) true d ≡ true →
    number_value (b ++ 35 ∷ (d ++ 35 ∷ x)) ≡ value_from (base_of (value_from 10 0 b)) 0 d * base_of (value_from 10 0 b) ^ value_from 10 0 x
unfolding number_value
based_parts b d x h k =
    let rest : List ℕ = d ++ 35 ∷ x in
    let all : List ℕ = b ++ 35 ∷ rest in
    let n : before is_hash all ≡ length b = clean is_hash 10 true b decimal_no_hash line_no_hash h (35 ∷ rest) ∙ zero_on (length b) 0 refl in
    let c : nat_lt (before is_hash all) (length all) ≡ true = under _ _ (omega (arith, n, length-append b (35 ∷ rest))) in
    ap (λ c. if c then based_value (take (before is_hash all) all) (drop (before is_hash all + 1) all) else scaled 10 (take (before is_e all) all) (drop (before is_e all) all)) c
    ∙ ap (λ n. based_value (take n all) (drop (n + 1) all)) n ∙ ap (λ s. based_value s (drop (length b + 1) all)) (take-front b (35 ∷ rest)) ∙ ap (based_value b) (drop-past b rest 35)
    ∙ rest_parts b d x k

pub value_of_decimal : (bytes : List ℕ) (r : IsDecimal true bytes) → number_value bytes ≡ value_from 10 0 r.digits * 10 ^ value_from 10 0 r.tail
value_of_decimal bytes r = ap number_value r.split ∙ decimal_parts r.digits r.tail r.are_digits r.is_scale

pub value_of_based : (bytes : List ℕ) (r : IsBased 0 true bytes) → number_value bytes ≡ value_from (base_of (value_from 10 0 r.base)) 0 r.is_rest.digits * base_of (value_from 10 0 r.base) ^ value_from 10 0 r.is_rest.tail
value_of_based bytes r = ap number_value (r.split ∙ ap (λ s. r.base ++ 35 ∷ s) r.is_rest.split) ∙ based_parts r.base r.is_rest.digits r.is_rest.tail r.are_digits r.is_rest.are_digits
