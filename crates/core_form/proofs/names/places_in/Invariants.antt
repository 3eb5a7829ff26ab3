use Rattle.std.proofs.Common.{◌↔◌, drop}
use Rattle.core_form.specs.Code.{expr_of, spots_at}
use Rattle.core_form.specs.Fine.{IsSeenIn, SpotsIn}
use Rattle.core_form.proofs.names.places_in.Given as goal

abbrev pub invariant-loop-place : goal.invariant-loop-place
invariant-loop-place l =
    SpotsIn (IsSeenIn l.program l.body) (spots_at (expr_of l.program.exprs) (drop l.place-index l.list))
    ↔ SpotsIn (IsSeenIn l.program l.body) (spots_at (expr_of l.program.exprs) l.list)
