-- The longest front that passes is that.
use Rattle.std.proofs.Common.{◌≡◌, ℕ, zero, suc, ◌<◌, ◌≤◌, List, [], ◌∷◌, Bool, true, false, if◌then◌else◌, length, take, None, Some, refl, subst, arith}
use Rattle.std.specs.declared.option.Option.{Option}
use Rattle.ada_lexer.specs.Pieces.{longest, one_more}
use Rattle.ada_lexer.specs.Laws.{IsLongest, NonePasses}

abbrev Is : (List ℕ → Bool) → List ℕ → Option ℕ → Type 0
Is test bytes None = NonePasses test bytes
Is test bytes (Some n) = IsLongest test bytes n

nil_front : (test : List ℕ → Bool) (m : ℕ) → m ≤ 0 → test [] ≡ false → test (take m []) ≡ false
nil_front test zero h e = e
nil_front test (suc m) h e = absurd (omega arith)

of_nil : (test : List ℕ → Bool) (c : Bool) → test [] ≡ c → Is test [] (if c then Some 0 else None)
of_nil test true e = record { within = omega arith; passes = e; longer = λ m h k. absurd (omega arith) }
of_nil test false e = record { fails = λ m h. nil_front test m h e }

fails_on : (test : List ℕ → Bool) (b : ℕ) (bs : List ℕ) → NonePasses (λ s. test (b ∷ s)) bs → (m : ℕ) → 0 < m → m ≤ length (b ∷ bs) → test (take m (b ∷ bs)) ≡ false
fails_on test b bs r zero h k = absurd (omega arith)
fails_on test b bs r (suc m) h k = r.fails m (omega arith)

longer_on : (test : List ℕ → Bool) (b : ℕ) (bs : List ℕ) (n : ℕ) → IsLongest (λ s. test (b ∷ s)) bs n → (m : ℕ) → suc n < m → m ≤ length (b ∷ bs) → test (take m (b ∷ bs)) ≡ false
longer_on test b bs n r zero h k = absurd (omega arith)
longer_on test b bs n r (suc m) h k = r.longer m (omega arith) (omega arith)

zero_or : (test : List ℕ → Bool) (b : ℕ) (bs : List ℕ) → test [] ≡ false → NonePasses (λ s. test (b ∷ s)) bs → (m : ℕ) → m ≤ length (b ∷ bs) → test (take m (b ∷ bs)) ≡ false
zero_or test b bs e r zero h = e
zero_or test b bs e r (suc m) h = r.fails m (omega arith)

of_cons : (test : List ℕ → Bool) (b : ℕ) (bs : List ℕ) (c : Bool) (r : Option ℕ) → test [] ≡ c → Is (λ s. test (b ∷ s)) bs r → Is test (b ∷ bs) (one_more c r)
of_cons test b bs c (Some n) e h = let w : n ≤ length bs = h.within in record { within = omega arith; passes = h.passes; longer = longer_on test b bs n h }
of_cons test b bs true None e h = record { within = omega arith; passes = e; longer = λ m k l. fails_on test b bs h m k l }
of_cons test b bs false None e h = record { fails = zero_or test b bs e h }

is : (test : List ℕ → Bool) (bytes : List ℕ) → Is test bytes (longest test bytes)
is test [] = of_nil test (test []) refl
is test (b ∷ bs) = of_cons test b bs (test []) (longest (λ s. test (b ∷ s)) bs) refl (is (λ s. test (b ∷ s)) bs)

pub longest_is : (test : List ℕ → Bool) (bytes : List ℕ) (n : ℕ) → longest test bytes ≡ Some n → IsLongest test bytes n
longest_is test bytes n h = subst (Is test bytes) h (is test bytes)

pub longest_none : (test : List ℕ → Bool) (bytes : List ℕ) → longest test bytes ≡ None → NonePasses test bytes
longest_none test bytes h = subst (Is test bytes) h (is test bytes)
