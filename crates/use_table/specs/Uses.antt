-- What use clauses make visible.
use Rattle.std.specs.Prelude.{ℕ, ◌+◌, nat_eq, nat_lt, Bool, ◌&&◌, if◌then◌else◌, List, [], ◌∷◌, ◌++◌, map, filter, get_or, Option, Some, None}
use Rattle.std.specs.Map.{lookup}
use Rattle.use_table.specs.declared.members.Member.{Member}

-- by the number of a name, the packages that declare it and what each declares; and the packages that open use clauses name
pub record Known (T : Type 0) : Type 0 where
  pub named : List (List (ℕ × Member T))
  pub uses : List ℕ

-- how many use clauses name a package
abbrev pub times : ℕ → List ℕ → ℕ
times p [] = 0
times p (u ∷ us) = (if nat_eq u p then 1 else 0) + times p us

abbrev pub is_used : List ℕ → ℕ → Bool
is_used uses p = nat_lt 0 (times p uses)

module _ {T : Type 0} where
  -- it stands in the visible part of a package that is used
  abbrev pub shows : List ℕ → ℕ × Member T → Bool
  shows uses m = m.1.is_visible && is_used uses m.0

  -- what a member shows, if it is visible so
  abbrev pub shown_if : List ℕ → Option (ℕ × Member T) → Option T
  shown_if uses None = None
  shown_if uses (Some m) = if shows uses m then Some m.1.shown else None

  -- two of the same name hide each other
  abbrev pub only : List T → Option T
  only [] = None
  only (d ∷ []) = Some d
  only (d ∷ (e ∷ ds)) = None

  abbrev pub shown_of : ℕ × Member T → T
  shown_of m = m.1.shown

  abbrev pub visible_by_use : Known T → ℕ → Option T
  visible_by_use k key = only (map shown_of (filter (shows k.uses) (get_or k.named key [])))

  -- what a package declares by a name
  abbrev pub member_of : Known T → ℕ → ℕ → Option (Member T)
  member_of k home key = lookup (nat_eq home) (get_or k.named key [])

  -- the declarations of a name, where a package declares one of this key that has none of it yet
  abbrev pub with_member : ℕ → ℕ → Member T → ℕ → List (ℕ × Member T) → List (ℕ × Member T)
  with_member home key m k ms = if nat_eq key k then ms ++ (home, m) ∷ [] else ms
