use Rattle.std.proofs.Common.{◌≡◌, Some, subst}
use Rattle.used_modes.specs.Added.{Adds, SomeOf}
use Rattle.depends_check.specs.DependsCheck.{IsOn, item_at, pairs_of}
use Rattle.depends_check.specs.declared.sides.Side.{Side}
use Rattle.depends_check.proofs.Lefts.{all_lefts_fine, both_lefts}
use Rattle.depends_check.proofs.dependencies.lefts.Goals as goal

pub returns-clause-set : goal.returns-clause-set
returns-clause-set c = both_lefts c.in_ok-items.items c.note_outputs.new.items (IsOn c.args.program.now c.args.number.0 c.args.body.now
    c.args.contract.now Side.Output)
    (λ o. SomeOf (λ pair. item_at c.args.program.now pair.output ≡ Some o) (pairs_of c.args.contract.now)) c.in_ok-items.ensures
    (subst (λ ps. Adds c.in_ok-items.items c.note_outputs.new.items (λ o. SomeOf (λ pair. item_at c.args.program.now pair.output ≡ Some
    o) ps)) c.pairs_of.ensures c.in_ok-note_outputs.ensures)

pub returns-clause-fine : goal.returns-clause-fine
returns-clause-fine c = all_lefts_fine c.args.program.now c.requires.fine c.args.number.0 c.args.body.now c.args.contract.now
    c.requires.body (pairs_of c.args.contract.now) c.note_outputs.new.items
    (both_lefts c.in_ok-items.items c.note_outputs.new.items (IsOn c.args.program.now c.args.number.0 c.args.body.now c.args.contract.now
    Side.Output)
    (λ o. SomeOf (λ pair. item_at c.args.program.now pair.output ≡ Some o) (pairs_of c.args.contract.now)) c.in_ok-items.ensures
    (subst (λ ps. Adds c.in_ok-items.items c.note_outputs.new.items (λ o. SomeOf (λ pair. item_at c.args.program.now pair.output ≡ Some
    o) ps)) c.pairs_of.ensures c.in_ok-note_outputs.ensures))
