use Rattle.std.proofs.Common.{◌≡◌, ℕ, ◌↔◌, ◌⊎◌, length, drop}
use Rattle.core_form.specs.Code.{expr_of, spots_at}
use Rattle.flow_relations.specs.Equation.{names_of_spots}
use Rattle.flow_relations.specs.Framing.{place_at}
use Rattle.flow_relations.specs.Renamed.{renamed_spots}
use Rattle.flow_bits.specs.Sets.{Has}
use Rattle.flow_relations.proofs.names.add_places.Given as goal

abbrev pub invariant-loop-place : goal.invariant-loop-place
invariant-loop-place l = record {
  size : length l.into ≡ length l.initial.into;
  set : (v : ℕ) → (Has l.into v ⊎ names_of_spots (renamed_spots (place_at l.places) (spots_at (expr_of l.program.exprs) (drop l.place-index l.list))) v)
      ↔ (Has l.initial.into v ⊎ names_of_spots (renamed_spots (place_at l.places) (spots_at (expr_of l.program.exprs) l.list)) v);
  last : Has l.into l.places.void → Has l.initial.into l.places.void;
}
