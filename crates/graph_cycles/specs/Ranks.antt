-- Ranks of nodes along the edges of a graph. No public answer speaks of them.
use Rattle.std.specs.Prelude.{ℕ, ◌≤◌, ◌<◌, List, get_or}
use Rattle.graph_cycles.specs.Cycles.{HasEdge}

-- this node has no edge to a higher rank
abbrev pub StaysLow : List (List ℕ) → List ℕ → ℕ → Type 0
StaysLow graph ranks node = (next : ℕ) → HasEdge graph node next → get_or ranks next 0 ≤ get_or ranks node 0

-- all edges of this node lead to lower ranks
abbrev pub Falls : List (List ℕ) → List ℕ → ℕ → Type 0
Falls graph ranks node = (next : ℕ) → HasEdge graph node next → get_or ranks next 0 < get_or ranks node 0
