-- Cycles of a directed graph: for each node, from 0, the nodes to which its edges lead.
use Rattle.std.specs.Prelude.{◌≡◌, ℕ, zero, suc, List, [], get_or}
use Rattle.std.specs.List.{Contains}

abbrev pub HasEdge : List (List ℕ) → ℕ → ℕ → Type 0
HasEdge graph a b = Contains (get_or graph a []) b

-- a walk of n edges leads from a to b
abbrev pub Walk : List (List ℕ) → ℕ → ℕ → ℕ → Type 0
Walk graph a b zero = a ≡ b
Walk graph a b (suc n) = (c : ℕ) × Walk graph a c n × HasEdge graph c b

-- a walk of one edge or more leads back to the node
abbrev pub IsOnCycle : List (List ℕ) → ℕ → Type 0
IsOnCycle graph a = (n : ℕ) × Walk graph a a (suc n)
