-- What is kept while nodes are found. No public answer speaks of it.
use Rattle.std.specs.Prelude.{◌≡◌, ℕ, ◌<◌, Bool, true, false, List, length, get_or, count_by}
use Rattle.std.specs.List.{Contains}
use Rattle.graph_cycles.specs.declared.found.Found.{Found}

abbrev pub IsFound : Found → ℕ → Type 0
IsFound f k = get_or f.seen.items k false ≡ true

-- the order has the nodes that were found, each once
pub record IsKept (f : Found) : Type 0 where
  pub listed : (k : ℕ) → Contains f.order k → IsFound f k
  pub placed : (k : ℕ) → IsFound f k → Contains f.order k
  pub counted : count_by (λ (b : Bool). b) f.seen.items ≡ length f.order

-- at this place the new list has what the old one has
pub record Stays (old new : List ℕ) (i : ℕ) : Type 0 where
  pub within : i < length new
  pub same : get_or new i 0 ≡ get_or old i 0
