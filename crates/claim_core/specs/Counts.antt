-- Counts over a run of the claim protocol: what is claimed, what is still to be claimed, and what pays for it.
use Rattle.std.specs.Prelude.{ℕ, zero, suc, ◌+◌, ◌*◌, ◌≤◌, Bool, cond, List, [], ◌∷◌}
use Rattle.std.specs.Int.{bit_at}
use Rattle.claim_core.specs.System.{System, in_row}
use Rattle.claim_core.specs.Machine.{Claims, Event, Claim, Read, Join, Wake, Release, Drop}

-- the values at the numbers below n, added up
abbrev pub total : ℕ → (ℕ → ℕ) → ℕ
total zero f = 0
total (suc n) f = f n + total n f

-- 1 where the test passes
abbrev pub one : Bool → ℕ
one b = cond b 1 0

-- how many of a word's bits are set
unfoldable pub set_bits : ℕ → ℕ
set_bits n = total 64 (λ k. bit_at n k)

-- the set bits of the body's row
abbrev pub row_bits : System → (ℕ → ℕ) → ℕ → ℕ
row_bits sys rows b = total sys.words (λ w. cond (in_row sys b w) (set_bits (rows w)) 0)

-- how many bodies call it
abbrev pub caller_count : System → ℕ → ℕ
caller_count sys b = total sys.bodies (λ a. one (sys.calls a b))

-- the set bits of each body's row times its callers, added up
abbrev pub growth : System → (ℕ → ℕ) → ℕ
growth sys rows = total sys.bodies (λ b. row_bits sys rows b * caller_count sys b)

-- how many bodies are dirty
abbrev pub dirty_count : System → Claims → ℕ
dirty_count sys c = total sys.bodies (λ b. one (c.dirty b))

-- the debts of the first n workers
abbrev pub debt_count : System → ℕ → Claims → ℕ
debt_count sys n c = total n (λ i. total sys.bodies (λ a. one ((c.workers i).owes a)))

-- how many events of a list are claims, and how many drops
abbrev pub claims_in : List Event → ℕ
claims_in [] = 0
claims_in (Claim i b ∷ es) = 1 + claims_in es
claims_in (Read i w ∷ es) = claims_in es
claims_in (Join i w bits ∷ es) = claims_in es
claims_in (Wake i a ∷ es) = claims_in es
claims_in (Release i ∷ es) = claims_in es
claims_in (Drop i ∷ es) = claims_in es

abbrev pub drops_in : List Event → ℕ
drops_in [] = 0
drops_in (Claim i b ∷ es) = drops_in es
drops_in (Read i w ∷ es) = drops_in es
drops_in (Join i w bits ∷ es) = drops_in es
drops_in (Wake i a ∷ es) = drops_in es
drops_in (Release i ∷ es) = drops_in es
drops_in (Drop i ∷ es) = 1 + drops_in es

-- claims, dirty bodies and debts together are at most bodies, drops and growth together
abbrev pub AreBounded : System → ℕ → List Event → Claims → Type 0
AreBounded sys n events c =
    claims_in events + dirty_count sys c + debt_count sys n c ≤ sys.bodies + drops_in events + growth sys c.words
