use Rattle.std.proofs.Common.{ℕ, ◌≡◌, ◌++◌, List, get_or, option_to_list}
use Rattle.use_table.specs.Uses.{times, only}
use Rattle.use_table.proofs.Shown.{left}
use Rattle.use_table.proofs.members.only_shown.Given as goal

-- what is left decides, behind the one that was found
abbrev pub invariant-loop-place : goal.invariant-loop-place
invariant-loop-place g l = (uses : List ℕ) → ((p : ℕ) → get_or l.counts p 0 ≡ times p uses)
    → only (option_to_list l.found ++ left uses l.place l.members) ≡ only (left uses 0 l.members)
