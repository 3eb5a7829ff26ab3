use Rattle.std.proofs.Common.{◌≤◌}
use Rattle.std.specs.Prelude.{All}
use Rattle.expr_scenes.specs.Overs.{reversed, Leads}
use Rattle.expr_scenes.specs.declared.spines.Step.{Step}
use Rattle.expr_scenes.proofs.spines.descend.Given as goal

abbrev pub invariant-loop-inner : goal.invariant-loop-inner
invariant-loop-inner l = record {
  leads : Leads l.scene.units.now.exprs (record { e = l.fn.e; reading = l.fn.reading }) (reversed l.above.items) l.at;
  above : All (λ (x : Step). x.e.0 ≤ l.fn.e.0) l.above.items;
  low : l.at.e.0 ≤ l.fn.e.0;
}

abbrev pub decreases-loop-inner : goal.decreases-loop-inner
decreases-loop-inner l = l.at.e.0
