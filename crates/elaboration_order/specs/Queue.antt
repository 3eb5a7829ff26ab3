-- What is kept while items come, so that the next is found at once. No public answer speaks of it.
use Rattle.std.specs.Prelude.{◌≡◌, ℕ, ◌<◌, ◌≤◌, nat_eq, Bool, true, false, if◌then◌else◌, List, [], ◌++◌, length, get_or, slice_get, set, take, Option, Some, None}
use Rattle.std.specs.List.{Contains}
use Rattle.std.specs.Ordering.{nat_cmp}
use Rattle.std.specs.BTreeSet.{BTreeSet, contains}
use Rattle.elaboration_order.specs.declared.rules.Rule.{Rule}
use Rattle.elaboration_order.specs.declared.queue.Queue.{Queue}
use Rattle.elaboration_order.specs.Order.{are_done, first_below}

abbrev pub has : BTreeSet ℕ → ℕ → Bool
has s i = contains nat_cmp s i

-- the items that a rule names
abbrev pub needs : Rule → List ℕ
needs r = r.follows ++ r.prefers

abbrev pub needs_by : Option Rule → List ℕ
needs_by None = []
needs_by (Some r) = needs r

abbrev pub musts_by : Option Rule → ℕ
musts_by None = 0
musts_by (Some r) = length r.follows

module _ (rules : List Rule) (q : Queue) (i : ℕ) where
  -- the items that it names, how many of them must come, how many were passed, and the next
  abbrev pub needs_of : List ℕ
  needs_of = needs_by (slice_get rules i)

  abbrev pub musts_of : ℕ
  musts_of = musts_by (slice_get rules i)

  abbrev pub passed_of : ℕ
  passed_of = get_or q.passed.items i 0

  abbrev pub next_need : ℕ
  next_need = get_or needs_of passed_of 0

  -- what was passed has come, and a set has the item only if that is so
  pub record Begun : Type 0 where
    pub within : passed_of ≤ length needs_of
    pub passed : are_done q.done.items (take passed_of needs_of) ≡ true
    pub possible : has q.possible i ≡ true → (i < length rules) × (get_or q.done.items i false ≡ false) × (musts_of ≤ passed_of)
    pub preferred : has q.preferred i ≡ true → (i < length rules) × (get_or q.done.items i false ≡ false) × (length needs_of ≤ passed_of)

  -- the sets have the item if that is so; and the item is listed under its next need, which has not come
  pub record Seen : Type 0 where
    pub possible : musts_of ≤ passed_of → has q.possible i ≡ true
    pub preferred : length needs_of ≤ passed_of → has q.preferred i ≡ true
    pub blocked : passed_of < length needs_of → get_or q.done.items next_need false ≡ false
    pub listed : passed_of < length needs_of → next_need < length rules → Contains (get_or q.waiting.items next_need []) i

  pub record Settled : Type 0 where
    pub begun : Begun
    pub seen : i < length rules → get_or q.done.items i false ≡ false → Seen

-- there is a flag, a count and a list for each item
pub record HasRoom (rules : List Rule) (q : Queue) : Type 0 where
  pub done : length q.done.items ≡ length rules
  pub passed : length q.passed.items ≡ length rules
  pub waiting : length q.waiting.items ≡ length rules

-- all is seen to
pub record IsKept (rules : List Rule) (q : Queue) : Type 0 where
  pub room : HasRoom rules q
  pub settled : (i : ℕ) → Settled rules q i

-- what a set has when this number is taken out
abbrev pub without : Option ℕ → Bool → ℕ → Bool
without None b i = b
without (Some k) b i = if nat_eq k i then false else b

-- the first number below this one that passes the one test, and where there is none the first that passes the other
abbrev pub either_first : (ℕ → Bool) → (ℕ → Bool) → ℕ → Option ℕ
either_first p q n = elim (first_below p n) [ None ↦ first_below q n | Some i ↦ Some i ]

-- the flags, when this item has come
abbrev pub flagged : List Bool → Option ℕ → List Bool
flagged done None = done
flagged done (Some i) = set done i true
