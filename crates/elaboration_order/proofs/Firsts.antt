-- The first number that passes, as sets find it.
use Rattle.std.proofs.Common.{◌≡◌, ℕ, zero, suc, ◌<◌, ◌≤◌, Bool, true, false, Option, Some, None, refl, sym, ◌∙◌, arith}
use Rattle.std.specs.Option.{IfSome, IfNone}
use Rattle.elaboration_order.specs.Order.{first_below}
use Rattle.elaboration_order.specs.Queue.{either_first}
use Rattle.elaboration_order.proofs.Steps.{first_stays}

pub none_below : (p : ℕ → Bool) (n : ℕ) → ((i : ℕ) → i < n → p i ≡ false) → first_below p n ≡ None
none_below p zero h = refl
none_below p (suc n) h =
    let r : first_below p n ≡ None = none_below p n (λ i l. h i (omega (arith, l))) in
    let e : p n ≡ false = h n (omega arith) in
    rw (r, e) refl

is_false : (b : Bool) → (b ≡ true → ⊥) → b ≡ false
is_false true h = absurd (h refl)
is_false false h = refl

-- the least of those that pass
pub least_below : (p : ℕ → Bool) (k n : ℕ) → k < n → p k ≡ true → ((i : ℕ) → p i ≡ true → k ≤ i) → first_below p n ≡ Some k
least_below p k n l e least =
    first_stays p k n (none_below p k (λ i b. is_false (p i) (λ t. let m : k ≤ i = least i t in absurd (omega (arith, m, b))))) e l

pub either_of_first : (p q : ℕ → Bool) (k n : ℕ) → k < n → p k ≡ true → ((i : ℕ) → p i ≡ true → k ≤ i) → Some k ≡ either_first p q n
either_of_first p q k n l e least = let f : first_below p n ≡ Some k = least_below p k n l e least in rw (either_first, f) refl

pub either_of_second : (p q : ℕ → Bool) (n : ℕ) → ((i : ℕ) → p i ≡ false) → either_first p q n ≡ first_below q n
either_of_second p q n none = let f : first_below p n ≡ None = none_below p n (λ i l. none i) in rw (either_first, f) refl

-- what was taken out of a set, which has exactly those that pass
pub taken_is : (h q : ℕ → Bool) (n : ℕ) (r : Option ℕ) → ((i : ℕ) → h i ≡ q i) → ((i : ℕ) → q i ≡ true → i < n)
    → IfSome r (λ k. h k ≡ true) → IfSome r (λ k. (i : ℕ) → h i ≡ true → k ≤ i) → IfNone r ((i : ℕ) → h i ≡ false) → r ≡ first_below q n
taken_is h q n None is below member least none = sym (none_below q n (λ i l. sym (is i) ∙ none i))
taken_is h q n (Some k) is below member least none =
    let e : q k ≡ true = sym (is k) ∙ member in sym (least_below q k n (below k e) e (λ i t. least i (is i ∙ t)))
