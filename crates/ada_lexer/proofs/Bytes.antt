-- What follows from what the first byte is.
use Rattle.std.proofs.Common.{◌≡◌, ℕ, ◌<◌, true, false, None, arith, nat_eq}
use Rattle.std.proofs.lemmas.Bool.Decides.{nat_tests}
use Rattle.ada_lexer.specs.Classes.{digit_of, is_digit, is_letter, is_white}
use Rattle.ada_tree.specs.Marks.{single, double}

pub letter-range : (b : ℕ) → is_letter b ≡ true → (64 < b) × (b < 123)
unfolding is_letter digit_of
letter-range b h = grind (arith, nat_tests)

pub digit-range : (b : ℕ) → is_digit 10 b ≡ true → (47 < b) × (b < 58)
unfolding is_digit digit_of
digit-range b h = grind (arith, nat_tests)

pub white-range : (b : ℕ) → is_white b ≡ true → b < 33
unfolding is_white
white-range b h = grind (arith, nat_tests)

pub not-white : (b : ℕ) → 32 < b → is_white b ≡ false
unfolding is_white
not-white b h = grind (arith, nat_tests)

pub not-letter : (b : ℕ) → b < 65 → is_letter b ≡ false
unfolding is_letter digit_of
not-letter b h = grind (arith, nat_tests)

pub not-digit : (b : ℕ) → b < 48 → is_digit 10 b ≡ false
unfolding is_digit digit_of
not-digit b h = grind (arith, nat_tests)

pub letter-not_digit : (b : ℕ) → is_letter b ≡ true → is_digit 10 b ≡ false
unfolding is_digit is_letter
letter-not_digit b h = grind (arith, nat_tests)

pub digit-not_letter : (b : ℕ) → is_digit 10 b ≡ true → is_letter b ≡ false
unfolding is_digit is_letter
digit-not_letter b h = grind (arith, nat_tests)

pub differs : (a b : ℕ) → (a ≡ b → ⊥) → nat_eq a b ≡ false
differs a b h = grind (arith, nat_tests)

pub letter-single : (b : ℕ) → 64 < b → b < 123 → single b ≡ None
unfolding single
letter-single b h k = grind (arith, nat_tests)

pub letter-double : (a b : ℕ) → 62 < a → double a b ≡ None
unfolding double
letter-double a b h = grind (arith, nat_tests)

pub digit-single : (b : ℕ) → 47 < b → b < 58 → single b ≡ None
unfolding single
digit-single b h k = grind (arith, nat_tests)

pub digit-double : (a b : ℕ) → 47 < a → a < 58 → double a b ≡ None
unfolding double
digit-double a b h k = grind (arith, nat_tests)

pub low-single : (b : ℕ) → b < 38 → single b ≡ None
unfolding single
low-single b h = grind (arith, nat_tests)

pub low-double : (a b : ℕ) → a < 42 → double a b ≡ None
unfolding double
low-double a b h = grind (arith, nat_tests)
