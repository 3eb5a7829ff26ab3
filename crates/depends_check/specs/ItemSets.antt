-- Items by numbers of their own, under which a set finds them.
use Rattle.std.specs.Prelude.{ℕ, ◌+◌, ◌*◌, ◌↔◌, List}
use Rattle.std.specs.List.{Contains}
use Rattle.core_form.specs.declared.program.Item.{Item}

abbrev pub item_key : Item → ℕ
item_key (Item.Whole v) = 3 * v.0
item_key (Item.State s) = 3 * s + 1
item_key (Item.Guard o) = 3 * o.0 + 2

-- exactly the keys of the items
abbrev pub AreKeysOf : List ℕ → List Item → Type 0
AreKeysOf keys items = (i : Item) → Contains keys (item_key i) ↔ Contains items i
