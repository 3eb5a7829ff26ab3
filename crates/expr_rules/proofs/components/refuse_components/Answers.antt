use Rattle.std.proofs.Common.{◌∙◌, arith}
use Rattle.ada_forms.specs.Forms.{expr_of}
use Rattle.expr_rules.proofs.Steps.{associations_more}
use Rattle.expr_rules.specs.Kept.{taken_of}
use Rattle.expr_rules.proofs.components.refuse_components.Goals as goal

pub loop-pair-preserved : goal.loop-pair-preserved
loop-pair-preserved c =
    associations_more c.args.tables.now c.args.fields.now c.args.at (expr_of c.args.units.now.exprs) c.args.pairs.now c.loop-pair.pair-index _
    (taken_of c.loop-pair.taken) (taken_of c.refuse_pair.new.self) c.loop-pair.found c.refuse_pair.new.found (grind (arith, c.loop-pair-test.true))
    c.in_ok-refuse_pair.ensures.taken c.in_ok-refuse_pair.ensures.found
    ∙ c.loop-pair.invariant
