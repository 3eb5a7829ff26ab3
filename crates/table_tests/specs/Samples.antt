-- Small systems for tests: each body has one word, and of each word the first bit follows from nothing.
use Rattle.std.specs.Prelude.{ℕ, zero, suc, ◌+◌, ◌==◌, nat_lt, Bool, ◌&&◌, cond, List, [], ◌∷◌, Option, None, Some}
use Rattle.least_solution.specs.Rules.{Rule}
use Rattle.claim_core.specs.Bits.{Bit}
use Rattle.claim_core.specs.System.{Ruled}

abbrev pub fact : ℕ → Rule Bit
fact w = record { makes = record { word = w; place = 0 }; needs = [] }

abbrev pub rules_of : ℕ → List (Rule Bit)
rules_of zero = []
rules_of (suc n) = fact n ∷ rules_of n

-- each body has the word of its number
abbrev pub own : ℕ → ℕ → Option ℕ
own n w = cond (nat_lt w n) (Some w) None

-- so many bodies, which call as the test says
abbrev pub sample : ℕ → (ℕ → ℕ → Bool) → Ruled
sample n calls = record { bodies = n; words = n; owner = own n; calls = λ a b. nat_lt a n && calls a b; rules = rules_of n }

-- the second of two bodies calls the first
abbrev pub counter : Ruled
counter = sample 2 (λ a b. (a == 1) && (b == 0))

-- each of three bodies calls the next, and the last the first
abbrev pub circle : Ruled
circle = sample 3 (λ a b. b == cond (a == 2) 0 (a + 1))
