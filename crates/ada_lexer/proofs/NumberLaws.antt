-- What the test of a number passes is a number by its parts.
use Rattle.std.proofs.Common.{◌≡◌, ℕ, ◌+◌, ◌*◌, ◌⊎◌, inl, inr, List, [], ◌∷◌, ◌++◌, Bool, true, false, ◌&&◌, if◌then◌else◌, refl, ap, sym, subst, ◌∙◌, arith, nat_eq}
use Rattle.spark_messages.proofs.Bools.{both}
use Rattle.std.proofs.lemmas.Bool.Decides.{nat_tests}
use Rattle.ada_lexer.specs.Classes.{digit_of, is_digit, is_e, base_of}
use Rattle.ada_lexer.specs.Pieces.{parted, exponent, scale, based, number_from, number}
use Rattle.ada_lexer.specs.Cut.{value_from}
use Rattle.ada_lexer.specs.Laws.{IsDecimal, IsRest, IsBased}

is_35 : (b : ℕ) → nat_eq b 35 ≡ true → b ≡ 35
is_35 b h = grind (arith, nat_tests)

digit_first : (base b : ℕ) (due : Bool) (ds : List ℕ) → is_digit base b ≡ true → parted base false ds ≡ true → parted base due (b ∷ ds) ≡ true
digit_first base b due ds h k = rw h k

line_first : (base b : ℕ) (ds : List ℕ) → is_digit base b ≡ false → nat_eq b 95 ≡ true → parted base true ds ≡ true → parted base false (b ∷ ds) ≡ true
line_first base b ds h u k = rw (h, u) k

value_digit : (n b : ℕ) (xs : List ℕ) → is_digit 10 b ≡ true → value_from 10 (10 * n + digit_of b) xs ≡ value_from 10 n (b ∷ xs)
value_digit n b xs h = sym (ap (λ c. value_from 10 (if c then 10 * n + digit_of b else n) xs) h)

value_line : (n b : ℕ) (xs : List ℕ) → is_digit 10 b ≡ false → value_from 10 n xs ≡ value_from 10 n (b ∷ xs)
value_line n b xs h = sym (ap (λ c. value_from 10 (if c then 10 * n + digit_of b else n) xs) h)

rest_more : (base b : ℕ) (due due' : Bool) (bs : List ℕ) → ((ds : List ℕ) → parted base due' ds ≡ true → parted base due (b ∷ ds) ≡ true) → IsRest base due' bs → IsRest base due (b ∷ bs)
rest_more base b due due' bs f r = record { digits = b ∷ r.digits; tail = r.tail; split = ap (λ s. b ∷ s) r.split; are_digits = f r.digits r.are_digits; is_scale = r.is_scale }

rest_step : (base b : ℕ) (bs : List ℕ) (due d u k : Bool) → is_digit base b ≡ d → nat_eq b 95 ≡ u → nat_eq b 35 ≡ k →
    (based base false bs ≡ true → IsRest base false bs) → (based base true bs ≡ true → IsRest base true bs) →
    (if d then based base false bs else (if due then false else (if u then based base true bs else (k && scale bs)))) ≡ true → IsRest base due (b ∷ bs)
rest_step base b bs due true u k e f g i j h = rest_more base b due false bs (λ ds p. digit_first base b due ds e p) (i h)
rest_step base b bs true false u k e f g i j h = cc
rest_step base b bs false false true k e f g i j h = rest_more base b false true bs (λ ds p. line_first base b ds e f p) (j h)
rest_step base b bs false false false true e f g i j h = record { digits = []; tail = bs; split = ap (λ x. x ∷ bs) (is_35 b g); are_digits = refl; is_scale = h }
rest_step base b bs false false false false e f g i j h = cc

rest_of : (base : ℕ) (due : Bool) (bytes : List ℕ) → based base due bytes ≡ true → IsRest base due bytes
rest_of base due [] h = cc
rest_of base due (b ∷ bs) h = rest_step base b bs due (is_digit base b) (nat_eq b 95) (nat_eq b 35) refl refl refl (rest_of base false bs) (rest_of base true bs) h

abbrev Parts : ℕ → Bool → List ℕ → Type 0
Parts n due bytes = IsDecimal due bytes ⊎ IsBased n due bytes

more : (n m b : ℕ) (due due' : Bool) (bs : List ℕ) → ((ds : List ℕ) → parted 10 due' ds ≡ true → parted 10 due (b ∷ ds) ≡ true) → ((ds : List ℕ) → value_from 10 m ds ≡ value_from 10 n (b ∷ ds)) → Parts m due' bs → Parts n due (b ∷ bs)
more n m b due due' bs f v (inl r) = inl (record { digits = b ∷ r.digits; tail = r.tail; split = ap (λ s. b ∷ s) r.split; are_digits = f r.digits r.are_digits; is_scale = r.is_scale })
more n m b due due' bs f v (inr r) = inr (record { base = b ∷ r.base; rest = r.rest; split = ap (λ s. b ∷ s) r.split; are_digits = f r.base r.are_digits; is_rest = let P : ℕ → Type 0 = λ x. IsRest (base_of x) true r.rest in subst P (v r.base) r.is_rest })

number_step : (n b : ℕ) (bs : List ℕ) (due d u k : Bool) → is_digit 10 b ≡ d → nat_eq b 95 ≡ u → nat_eq b 35 ≡ k →
    (number_from (10 * n + digit_of b) false bs ≡ true → Parts (10 * n + digit_of b) false bs) → (number_from n true bs ≡ true → Parts n true bs) →
    (if d then number_from (10 * n + digit_of b) false bs else (if due then false else (if u then number_from n true bs else (if k then based (base_of n) true bs else scale (b ∷ bs))))) ≡ true → Parts n due (b ∷ bs)
number_step n b bs due true u k e f g i j h = more n (10 * n + digit_of b) b due false bs (λ ds p. digit_first 10 b due ds e p) (λ ds. value_digit n b ds e) (i h)
number_step n b bs true false u k e f g i j h = cc
number_step n b bs false false true k e f g i j h = more n n b false true bs (λ ds p. line_first 10 b ds e f p) (λ ds. value_line n b ds e) (j h)
number_step n b bs false false false true e f g i j h = inr (record { base = []; rest = bs; split = ap (λ x. x ∷ bs) (is_35 b g); are_digits = refl; is_rest = rest_of (base_of n) true bs h })
number_step n b bs false false false false e f g i j h = inl (record { digits = []; tail = b ∷ bs; split = refl; are_digits = refl; is_scale = h })

parts_of : (n : ℕ) (due : Bool) (bytes : List ℕ) → number_from n due bytes ≡ true → Parts n due bytes
parts_of n true [] h = cc
parts_of n false [] h = inl (record { digits = []; tail = []; split = refl; are_digits = refl; is_scale = refl })
parts_of n due (b ∷ bs) h = number_step n b bs due (is_digit 10 b) (nat_eq b 95) (nat_eq b 35) refl refl refl (parts_of (10 * n + digit_of b) false bs) (parts_of n true bs) h

-- and the other way
e_apart : (t : ℕ) → is_e t ≡ true → (is_digit 10 t ≡ false) × (nat_eq t 95 ≡ false) × (nat_eq t 35 ≡ false)
unfolding is_e is_digit digit_of
e_apart t h = (grind (arith, nat_tests), grind (arith, nat_tests), grind (arith, nat_tests))

from_scale : (n : ℕ) (tail : List ℕ) → scale tail ≡ true → number_from n false tail ≡ true
from_scale n [] h = refl
from_scale n (t ∷ ts) h = let a = e_apart t (both (is_e t) (exponent ts) h).0 in rw (a.0, a.1, a.2) h

hash_apart : is_digit 10 35 ≡ false
unfolding is_digit digit_of
hash_apart = refl

abbrev After : ℕ → Bool → List ℕ → List ℕ → Type 0
After n due ds tail = parted 10 due ds ≡ true → ((m : ℕ) → m ≡ value_from 10 n ds → number_from m false tail ≡ true) → number_from n due (ds ++ tail) ≡ true

digits_step : (n b : ℕ) (ds tail : List ℕ) (due d u : Bool) → is_digit 10 b ≡ d → nat_eq b 95 ≡ u → After (10 * n + digit_of b) false ds tail → After n true ds tail →
    (if d then parted 10 false ds else (if due then false else (u && parted 10 true ds))) ≡ true → ((m : ℕ) → m ≡ value_from 10 n (b ∷ ds) → number_from m false tail ≡ true) → number_from n due (b ∷ (ds ++ tail)) ≡ true
digits_step n b ds tail due true u e f i j h k = rw e (i h (λ m q. k m (q ∙ value_digit n b ds e)))
digits_step n b ds tail true false u e f i j h k = cc
digits_step n b ds tail false false true e f i j h k = rw (e, f) (j h (λ m q. k m (q ∙ value_line n b ds e)))
digits_step n b ds tail false false false e f i j h k = cc

-- digits, and what may follow them
from_digits : (n : ℕ) (due : Bool) (ds tail : List ℕ) → After n due ds tail
from_digits n true [] tail h k = cc
from_digits n false [] tail h k = k n refl
from_digits n due (b ∷ ds) tail h k = digits_step n b ds tail due (is_digit 10 b) (nat_eq b 95) refl refl (from_digits (10 * n + digit_of b) false ds tail) (from_digits n true ds tail) h k

rest_back : (base b : ℕ) (ds tail : List ℕ) (due d u : Bool) → is_digit base b ≡ d → nat_eq b 95 ≡ u →
    (parted base false ds ≡ true → based base false (ds ++ 35 ∷ tail) ≡ true) → (parted base true ds ≡ true → based base true (ds ++ 35 ∷ tail) ≡ true) →
    (if d then parted base false ds else (if due then false else (u && parted base true ds))) ≡ true → based base due (b ∷ (ds ++ 35 ∷ tail)) ≡ true
rest_back base b ds tail due true u e f i j h = rw e (i h)
rest_back base b ds tail true false u e f i j h = cc
rest_back base b ds tail false false true e f i j h = rw (e, f) (j h)
rest_back base b ds tail false false false e f i j h = cc

from_rest : (base : ℕ) (due : Bool) (ds tail : List ℕ) → is_digit base 35 ≡ false → scale tail ≡ true → parted base due ds ≡ true → based base due (ds ++ 35 ∷ tail) ≡ true
from_rest base true [] tail z t h = cc
from_rest base false [] tail z t h = rw z t
from_rest base due (b ∷ ds) tail z t h = rest_back base b ds tail due (is_digit base b) (nat_eq b 95) refl refl (from_rest base false ds tail z t) (from_rest base true ds tail z t) h

small_base : (n : ℕ) → is_digit (base_of n) 35 ≡ false
unfolding is_digit digit_of base_of
small_base n = grind (arith, nat_tests)

from_decimal : (n : ℕ) (due : Bool) (bytes : List ℕ) → IsDecimal due bytes → number_from n due bytes ≡ true
from_decimal n due bytes r = rw r.split (from_digits n due r.digits r.tail r.are_digits (λ m q. from_scale m r.tail r.is_scale))

from_based : (n : ℕ) (due : Bool) (bytes : List ℕ) → IsBased n due bytes → number_from n due bytes ≡ true
from_based n due bytes r = rw r.split (from_digits n due r.base (35 ∷ r.rest) r.are_digits (λ m q.
    let k : based (base_of m) true r.rest ≡ true = rw (q, r.is_rest.split) (from_rest (base_of (value_from 10 n r.base)) true r.is_rest.digits r.is_rest.tail (small_base _) r.is_rest.is_scale r.is_rest.are_digits) in
    rw hash_apart k))

-- the test passes exactly the numbers by their parts
pub number_is : (bytes : List ℕ) → number bytes ≡ true → IsDecimal true bytes ⊎ IsBased 0 true bytes
number_is bytes h = parts_of 0 true bytes h

pub is_number : (bytes : List ℕ) → IsDecimal true bytes ⊎ IsBased 0 true bytes → number bytes ≡ true
is_number bytes (inl r) = from_decimal 0 true bytes r
is_number bytes (inr r) = from_based 0 true bytes r
