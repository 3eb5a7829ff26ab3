use Rattle.std.proofs.Common.{◌≡◌, ℕ, ◌↔◌, ◌⊎◌, length, drop}
use Rattle.core_form.specs.Code.{actuals_at, expr_of}
use Rattle.flow_relations.specs.Equation.{names_of_actuals}
use Rattle.flow_relations.specs.Framing.{place_at}
use Rattle.flow_relations.specs.Renamed.{renamed_actuals}
use Rattle.flow_bits.specs.Sets.{Has}
use Rattle.flow_relations.proofs.names.add_actuals.Given as goal

abbrev pub invariant-loop-actual : goal.invariant-loop-actual
invariant-loop-actual l = record {
  size : length l.into ≡ length l.initial.into;
  set : (v : ℕ) → (Has l.into v ⊎ names_of_actuals (renamed_actuals (place_at l.places) (actuals_at (expr_of l.program.exprs) (drop l.actual-index l.list))) v)
      ↔ (Has l.initial.into v ⊎ names_of_actuals (renamed_actuals (place_at l.places) (actuals_at (expr_of l.program.exprs) l.list)) v);
  last : Has l.into l.places.void → Has l.initial.into l.places.void;
}
