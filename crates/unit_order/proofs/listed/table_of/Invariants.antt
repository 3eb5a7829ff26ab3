use Rattle.std.proofs.Common.{◌≡◌, ℕ, drop}
use Rattle.unit_order.specs.Packages.{has_name, part_by, place_from}
use Rattle.unit_order.specs.Places.{got}
use Rattle.unit_order.proofs.listed.table_of.Given as goal

abbrev pub invariant-loop-place : goal.invariant-loop-place
invariant-loop-place l = (name : ℕ) → got l.table name ≡ place_from (has_name (part_by l.is_body) name) l.place (drop l.place l.heads)
